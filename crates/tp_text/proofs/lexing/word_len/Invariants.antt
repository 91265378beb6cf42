use Rattle.std.proofs.Common.{◌≡◌, take, All}
use Rattle.tp_text.specs.Lexemes.{class}
use Rattle.tp_text.specs.declared.lexing.Class.TheVariants.{Letter}
use Rattle.tp_text.proofs.lexing.word_len.Given as goal

abbrev pub invariant-loop-n : goal.invariant-loop-n
invariant-loop-n l = All (λ b. class b ≡ Letter) (take l.n l.bytes)
