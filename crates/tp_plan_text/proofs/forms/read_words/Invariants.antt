use Rattle.std.proofs.Common.{◌≡◌, length, map}
use Rattle.tp_plan_text.specs.PlanLexemes.{lexemes}
use Rattle.tp_plan_text.specs.PlanForms.{words_of}
use Rattle.tp_plan_text.proofs.OnForms.{with_words}
use Rattle.tp_plan_text.proofs.forms.read_words.Given as goal

abbrev pub invariant-words : goal.invariant-words
invariant-words l = with_words (map (λ w. w.now) l.words.items) (words_of (lexemes l.rest)) ≡ words_of (lexemes l.fn.line)

abbrev pub decreases-words : goal.decreases-words
decreases-words l = length l.rest
