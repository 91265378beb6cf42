use Rattle.std.proofs.Common.{◌≡◌, take, All}
use Rattle.tp_plan_text.specs.PlanLexemes.{kind}
use Rattle.tp_plan_text.specs.declared.tokens.ByteKind.TheVariants.{Letter}
use Rattle.tp_plan_text.proofs.tokens.letter_len.Given as goal

abbrev pub invariant-loop-n : goal.invariant-loop-n
invariant-loop-n l = All (λ b. kind b ≡ Letter) (take l.n l.line)
