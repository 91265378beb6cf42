-- The intervals into which the network of a plan is split among the agents that a text tells, and the part of one of them.
use Rattle.std.specs.Prelude.{◌≡◌, ◌<◌, ◌≤◌, ℕ, List, length, Option, Some, None, ◌⊎◌}
use Rattle.tp_bounds.specs.OwnBounds.{setting_of}
use Rattle.tp_bounds.specs.RunLimits.{greatest_limits}
use Rattle.tp_bounds.specs.Setting.{Setting, event_count}
use Rattle.tp_bounds.specs.Schedule.{HasSchedule}
use Rattle.tp_bounds.specs.declared.plan_nets.PlanNet.{PlanNet}
use Rattle.tp_task.specs.declared.task.Task.{Task}
use Rattle.tp_happen.specs.tp_plan_text.declared.plans.Step.{Step}
use Rattle.tp_deorder.specs.Answers.{IsPlanNetOf, OnTooMany, PassesLimits}
use Rattle.tp_agents.specs.Owners.{IsFirstMisowned, agent_count}
use Rattle.tp_agents.specs.Parts.{IsPart, part_bounds}
use Rattle.tp_agents.specs.Splits.{IsSplit}
use Rattle.tp_agents.specs.Texts.{AreNumbers, IsFirstOther, words_of}
use Rattle.tp_agents.specs.declared.fault.SplitFault.{SplitFault}
use Rattle.tp_agents.specs.declared.fault.SplitFault.TheVariants as faults
use Rattle.tp_cli_files.specs.Texts.{HasFault}
use Rattle.tp_cli_inputs.specs.Named.{IsIn}
use Rattle.tp_cli_split.specs.IntervalLines.{interval_lines}
use Rattle.tp_cli_split.specs.PartLines.{bare_lines}
use Rattle.tp_cli_split.specs.declared.stops.SplitStop.{SplitStop}
use Rattle.tp_cli_split.specs.declared.stops.SplitStop.TheVariants.{Judging, Network, Setting as NoSetting, OwnersFile, Owner, Agent, TooMany, Memory, Conflict, Write}

-- the setting in which nothing has happened and the bounds of a plan's network are in force
abbrev pub net_setting : PlanNet → Setting
net_setting net = setting_of (length net.events.items) net.horizon net.bounds.items

-- the lines of the intervals of a setting that is split among agents; or, where one of them is named, the lines by which the network
-- of its part is made from nothing
abbrev pub IsSplitText : Option ℕ → Setting → List ℕ → List (Option (ℕ × ℕ)) → List ℕ → Type 0
IsSplitText None s owners intervals text = text ≡ interval_lines intervals
IsSplitText (Some agent) s owners intervals text =
    (net : PlanNet) × IsPart s owners intervals agent net × (length net.bounds.items ≤ 65_535)
    × (text ≡ bare_lines net)

-- the text is that of a setting that is split among agents
pub record SplitsInto (part : Option ℕ) (s : Setting) (owners : List ℕ) (text : List ℕ) : Type 0 where
  pub least : List ℕ
  pub intervals : List (Option (ℕ × ℕ))
  pub split : IsSplit s owners least intervals
  pub lines : IsSplitText part s owners intervals text

-- the same among the agents that a file tells
abbrev pub Divides : Option ℕ → Setting → Option (List ℕ) → List ℕ → Type 0
Divides part s owners_held text =
    (owners : List ℕ) × IsIn owners_held (λ t. AreNumbers (words_of t) owners)
    × SplitsInto part s owners text

-- what stops a split is told without its reason
abbrev pub StopsAs : SplitFault → SplitStop → Type 0
StopsAs faults.Memory stop = stop ≡ Memory
StopsAs (faults.Owner e) stop = stop ≡ Owner e
StopsAs (faults.Conflict reason) stop = stop ≡ Conflict

-- why the agents were not read
abbrev pub IsMisread : Option (List ℕ) → SplitStop → Type 0
IsMisread owners_held (Judging fault) = ⊥
IsMisread owners_held (Network fault) = ⊥
IsMisread owners_held NoSetting = ⊥
IsMisread owners_held (OwnersFile fault) = HasFault owners_held fault
IsMisread owners_held (Owner e) = IsIn owners_held (λ t. IsFirstOther (words_of t) e)
IsMisread owners_held (Agent a) = ⊥
IsMisread owners_held TooMany = ⊥
IsMisread owners_held Memory = Unit {0}
IsMisread owners_held Conflict = ⊥
IsMisread owners_held Write = ⊥

-- the agent that is named is none of them
abbrev pub IsNoAgent : Option ℕ → List ℕ → ℕ → Type 0
IsNoAgent part owners a = (part ≡ Some a) × (agent_count owners ≤ a)

-- the part of the agent that is named has more bounds than can be in force
abbrev pub IsTooLarge : Option ℕ → Setting → List ℕ → Type 0
IsTooLarge part s owners =
    (agent : ℕ) × (part ≡ Some agent)
    × ((least : List ℕ) × (intervals : List (Option (ℕ × ℕ))) × IsSplit s owners least intervals
    × (65_535 < length (part_bounds s owners intervals agent)))

-- why a setting was not split among agents
abbrev pub StopsAmong : Option ℕ → Setting → List ℕ → SplitStop → Type 0
StopsAmong part s owners (Judging fault) = ⊥
StopsAmong part s owners (Network fault) = ⊥
StopsAmong part s owners NoSetting = ⊥
StopsAmong part s owners (OwnersFile fault) = ⊥
StopsAmong part s owners (Owner e) = IsFirstMisowned (event_count s) owners e
StopsAmong part s owners (Agent a) = IsNoAgent part owners a
StopsAmong part s owners TooMany = IsTooLarge part s owners
StopsAmong part s owners Memory = Unit {0}
StopsAmong part s owners Conflict = HasSchedule s → ⊥
StopsAmong part s owners Write = ⊥

-- the word of the file is no number; or all are, and the event is the first that has no agent, or one whose number is too large, or that there
-- is not
abbrev pub IsMistold : ℕ → Option (List ℕ) → ℕ → Type 0
IsMistold events owners_held e =
    IsIn owners_held (λ t. IsFirstOther (words_of t) e)
    ⊎ ((owners : List ℕ) × IsIn owners_held (λ t. AreNumbers (words_of t) owners)
    × IsFirstMisowned events owners e)

-- the same of the agents that a file tells
abbrev pub IsNoAgentOf : Option ℕ → Option (List ℕ) → ℕ → Type 0
IsNoAgentOf part owners_held a =
    (owners : List ℕ) × IsIn owners_held (λ t. AreNumbers (words_of t) owners)
    × IsNoAgent part owners a

abbrev pub IsTooLargeOf : Option ℕ → Setting → Option (List ℕ) → Type 0
IsTooLargeOf part s owners_held =
    (owners : List ℕ) × IsIn owners_held (λ t. AreNumbers (words_of t) owners)
    × IsTooLarge part s owners

-- why a setting was not split among the agents that a file tells
abbrev pub StopsDividing : Option ℕ → Setting → Option (List ℕ) → SplitStop → Type 0
StopsDividing part s owners_held (Judging fault) = ⊥
StopsDividing part s owners_held (Network fault) = ⊥
StopsDividing part s owners_held NoSetting = Unit {0}
StopsDividing part s owners_held (OwnersFile fault) = HasFault owners_held fault
StopsDividing part s owners_held (Owner e) = IsMistold (event_count s) owners_held e
StopsDividing part s owners_held (Agent a) = IsNoAgentOf part owners_held a
StopsDividing part s owners_held TooMany = IsTooLargeOf part s owners_held
StopsDividing part s owners_held Memory = Unit {0}
StopsDividing part s owners_held Conflict = HasSchedule s → ⊥
StopsDividing part s owners_held Write = ⊥

-- the text is that of a plan's network
pub record DividesPlan (part : Option ℕ) (task : Task) (steps : List Step) (horizon : ℕ)
    (owners_held : Option (List ℕ)) (text : List ℕ) : Type 0 where
  pub net : PlanNet
  pub is_net : IsPlanNetOf task steps (greatest_limits horizon) net
  pub divides : Divides part (net_setting net) owners_held text

-- why a valid plan's network was not split
abbrev pub StopsPlan : Option ℕ → Task → List Step → ℕ → Option (List ℕ) → SplitStop → Type 0
StopsPlan part task steps horizon owners_held (Judging fault) = ⊥
StopsPlan part task steps horizon owners_held (Network fault) =
    OnTooMany fault (PassesLimits (greatest_limits horizon) task steps)
StopsPlan part task steps horizon owners_held NoSetting = Unit {0}
StopsPlan part task steps horizon owners_held (OwnersFile fault) = HasFault owners_held fault
StopsPlan part task steps horizon owners_held (Owner e) =
    (net : PlanNet) × IsPlanNetOf task steps (greatest_limits horizon) net
    × IsMistold (length net.events.items) owners_held e
StopsPlan part task steps horizon owners_held (Agent a) = IsNoAgentOf part owners_held a
StopsPlan part task steps horizon owners_held TooMany =
    (net : PlanNet) × IsPlanNetOf task steps (greatest_limits horizon) net
    × IsTooLargeOf part (net_setting net) owners_held
StopsPlan part task steps horizon owners_held Memory = Unit {0}
StopsPlan part task steps horizon owners_held Conflict = ⊥
StopsPlan part task steps horizon owners_held Write = ⊥
