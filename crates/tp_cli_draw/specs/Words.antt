-- The plan that the words of a call name.
use Rattle.std.specs.Prelude.{ℕ}
use Rattle.tp_cli_inputs.specs.declared.plan_words.PlanWords.{PlanWords}
use Rattle.tp_cli_inputs.specs.declared.draw_words.DrawWords.{DrawWords}

-- it is read with some horizon
abbrev pub plan_of : DrawWords → ℕ → PlanWords
plan_of w h =
    record { domain = w.domain; problem = w.problem; plan = w.plan; scale = w.scale; horizon = h }
