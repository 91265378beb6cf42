-- The line of a plan that is not valid.
use Rattle.std.specs.Prelude.{ℕ, List, ◌++◌, codes, decimal}
use Rattle.tp_validate.specs.declared.ticks.Fault.{Fault}
use Rattle.tp_validate.specs.declared.ticks.Fault.TheVariants.{Condition, Undefined, Clash, Interferes, OverAll, Duration, Goal}

abbrev pub why_text : Fault → List ℕ
why_text (Condition event) = codes "condition " ++ decimal event
why_text (Undefined event) = codes "undefined " ++ decimal event
why_text (Clash event) = codes "clash " ++ decimal event
why_text (Interferes event other) = codes "interferes " ++ decimal event ++ codes " "
    ++ decimal other
why_text (OverAll step) = codes "over-all " ++ decimal step
why_text (Duration step) = codes "duration " ++ decimal step
why_text Goal = codes "goal"

abbrev pub invalid_line : ℕ → Fault → List ℕ
invalid_line tick why = codes "invalid " ++ decimal tick ++ codes " " ++ why_text why ++ codes "\n"
