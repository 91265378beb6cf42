-- Runs of executives over the parts of a split.
use Rattle.std.specs.Prelude.{◌≡◌, ℕ, List, length, slice_get, Option, Some}
use Rattle.tp_bounds.specs.RunLimits.{RunLimits}
use Rattle.tp_bounds.specs.Setting.{Setting, event_count}
use Rattle.tp_bounds.specs.declared.plan_nets.PlanNet.{PlanNet}
use Rattle.tp_exec_machine.specs.declared.command.Command.{Command}
use Rattle.tp_exec_machine.specs.declared.command.Answer.{Answer}
use Rattle.tp_exec_machine.specs.declared.command.Report.{Report}
use Rattle.tp_exec_machine.specs.declared.command.Kind.TheVariants.{Kept}
use Rattle.tp_exec_machine.specs.Machine.{Machine, IsFresh, plan_machine}
use Rattle.tp_exec_machine.specs.Step.{IsReport}
use Rattle.tp_exec_machine.specs.Run.{Run}
use Rattle.tp_agents.specs.Parts.{IsPart, IsPartSchedule}
use Rattle.tp_agents.specs.Joined.{AreComplete, FitParts, KeepParts, moments_told}
use Rattle.tp_agents.specs.Interleaved.{JointRun}

-- An executive over the network of an agent's part begins so: the bounds of the part came into force as its own in a network that was
-- new but for lags.
pub record BeginsPart (s : Setting) (owners : List ℕ) (intervals : List (Option (ℕ × ℕ))) (agent : ℕ) (m : Machine) : Type 0 where
  pub part : PlanNet
  pub is_part : IsPart s owners intervals agent part
  pub net : Setting
  pub fresh : IsFresh net
  pub events : event_count net ≡ length part.events.items
  pub horizon : net.horizon ≡ part.horizon
  pub limits : RunLimits
  pub is : m ≡ plan_machine net part.bounds.items limits

-- the report of such an executive after some list of commands
pub record IsPartReport (s : Setting) (owners : List ℕ) (intervals : List (Option (ℕ × ℕ))) (agent : ℕ) (r : Report) : Type 0 where
  pub start : Machine
  pub begins : BeginsPart s owners intervals agent start
  pub commands : List Command
  pub answers : List Answer
  pub last : Machine
  pub run : Run start commands answers last
  pub report : IsReport last r

-- each agent's report, at its number, is such
abbrev pub ArePartReports : Setting → List ℕ → List (Option (ℕ × ℕ)) → List Report → Type 0
ArePartReports s owners intervals reports =
    (agent : ℕ) (r : Report) → slice_get reports agent ≡ Some r
    → IsPartReport s owners intervals agent r

-- each agent's report, at its number, is that of its executive after commands of all agents, in any order
pub record AreJointReports (s : Setting) (owners : List ℕ) (intervals : List (Option (ℕ × ℕ))) (reports : List Report) : Type 0 where
  pub start : ℕ → Machine
  pub begins :
      (agent : ℕ) (r : Report) → slice_get reports agent ≡ Some r
      → BeginsPart s owners intervals agent (start agent)
  pub commands : List (ℕ × Command)
  pub answers : List Answer
  pub last : ℕ → Machine
  pub run : JointRun start commands answers last
  pub report : (agent : ℕ) (r : Report) → slice_get reports agent ≡ Some r → IsReport (last agent) r

-- ---- what they tell

-- a moment for each event of the part
abbrev pub PartReportsFit : Setting → List ℕ → List (Option (ℕ × ℕ)) → Type 0
PartReportsFit s owners intervals =
    (reports : List Report) → ArePartReports s owners intervals reports → FitParts owners reports

-- a schedule of the part, where none of its bounds was withdrawn, whether every event is dispatched or not
abbrev pub KeptReportsTellSchedules : Setting → List ℕ → List (Option (ℕ × ℕ)) → Type 0
KeptReportsTellSchedules s owners intervals =
    (agent : ℕ) (r : Report) → IsPartReport s owners intervals agent r → r.kind ≡ Kept
    → IsPartSchedule s owners intervals agent (moments_told r)

-- so the parts are kept by runs that are complete
abbrev pub CompleteRunsKeepParts : Setting → List ℕ → List (Option (ℕ × ℕ)) → Type 0
CompleteRunsKeepParts s owners intervals =
    (reports : List Report) → ArePartReports s owners intervals reports
    → AreComplete owners reports → KeepParts s owners intervals reports
