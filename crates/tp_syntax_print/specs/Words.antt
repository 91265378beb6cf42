-- The words under which comparisons and writes are printed.
use Rattle.std.specs.Prelude.{ℕ, List, codes}
use Rattle.tp_syntax_ast.specs.declared.words.Comparison.{Comparison}
use Rattle.tp_syntax_ast.specs.declared.words.Comparison.TheVariants.{Less, AtMost, Equal, AtLeast, Greater}
use Rattle.tp_syntax_ast.specs.declared.words.Writing.{Writing}
use Rattle.tp_syntax_ast.specs.declared.words.Writing.TheVariants.{Assign, Increase, Decrease, ScaleUp}

abbrev pub comparison_word : Comparison → List ℕ
comparison_word Less = codes "<"
comparison_word AtMost = codes "<="
comparison_word Equal = codes "="
comparison_word AtLeast = codes ">="
comparison_word Greater = codes ">"

abbrev pub writing_word : Writing → List ℕ
writing_word Assign = codes "assign"
writing_word Increase = codes "increase"
writing_word Decrease = codes "decrease"
writing_word ScaleUp = codes "scale-up"
