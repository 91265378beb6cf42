use Rattle.std.proofs.Common.{◌≡◌, drop}
use Rattle.tp_plan_text.specs.PlanLexemes.{lexemes}
use Rattle.tp_plan_text.proofs.tokens.after_blanks.Given as goal

abbrev pub invariant-loop-n : goal.invariant-loop-n
invariant-loop-n l = lexemes (drop l.n l.line) ≡ lexemes l.line
