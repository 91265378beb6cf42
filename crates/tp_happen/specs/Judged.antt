-- A condition's truth where all its fluents have values, else nothing.
use Rattle.std.specs.Prelude.{Bool, true, false, if◌then◌else◌, List, [], ◌∷◌, Option, Some, None}
use Rattle.std.specs.List.{list_all}
use Rattle.tp_task.specs.declared.events.Cond.{Cond}
use Rattle.tp_task.specs.State.{State, truth, has_values}
use Rattle.tp_task.specs.Truth.{and_both, or_both}
use Rattle.tp_happen.specs.Small.{all_small}
use Rattle.tp_happen.specs.declared.conditions.Finding.{Finding}
use Rattle.tp_happen.specs.declared.conditions.Finding.TheVariants.{Holds, Fails, Undefined, Range}

abbrev pub judgement : State → Cond → Option Bool
judgement s c = if has_values s c then Some (truth s c) else None

abbrev pub judged_all : State → List Cond → Option Bool
judged_all s [] = Some true
judged_all s (c ∷ cs) = and_both (judgement s c) (judged_all s cs)

abbrev pub judged_any : State → List Cond → Option Bool
judged_any s [] = Some false
judged_any s (c ∷ cs) = or_both (judgement s c) (judged_any s cs)

abbrev pub each_small : State → List Cond → Bool
each_small s cs = list_all (λ c. all_small s c) cs

-- The same in one word, and whether a part of an expression is too large.
abbrev pub finding : Bool → Option Bool → Finding
finding false t = Range
finding true None = Undefined
finding true (Some true) = Holds
finding true (Some false) = Fails

abbrev pub of_condition : State → Cond → Finding
of_condition s c = finding (all_small s c) (judgement s c)

abbrev pub of_all : State → List Cond → Finding
of_all s cs = finding (each_small s cs) (judged_all s cs)

abbrev pub of_any : State → List Cond → Finding
of_any s cs = finding (each_small s cs) (judged_any s cs)

abbrev pub opposite : Finding → Finding
opposite Holds = Fails
opposite Fails = Holds
opposite Undefined = Undefined
opposite Range = Range

abbrev pub of_both : Finding → Finding → Finding
of_both Range y = Range
of_both Undefined Range = Range
of_both Undefined Undefined = Undefined
of_both Undefined Holds = Undefined
of_both Undefined Fails = Undefined
of_both Holds y = y
of_both Fails Range = Range
of_both Fails Undefined = Undefined
of_both Fails Holds = Fails
of_both Fails Fails = Fails

abbrev pub of_either : Finding → Finding → Finding
of_either Range y = Range
of_either Undefined Range = Range
of_either Undefined Undefined = Undefined
of_either Undefined Holds = Undefined
of_either Undefined Fails = Undefined
of_either Fails y = y
of_either Holds Range = Range
of_either Holds Undefined = Undefined
of_either Holds Holds = Holds
of_either Holds Fails = Holds
