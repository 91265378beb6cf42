-- What `split` answers.
use Rattle.std.specs.Prelude.{◌≡◌, ℕ, List, Result, Ok, Err}
use Rattle.tp_bounds.specs.declared.BoundId.{BoundId}
use Rattle.tp_bounds.specs.declared.Edge.{Edge}
use Rattle.tp_bounds.specs.declared.Edge.TheVariants.{Own, New, PastHigh, PastLow, Now, End}
use Rattle.tp_bounds.specs.Setting.{Setting, event_count}
use Rattle.tp_bounds.specs.Schedule.{HasSchedule}
use Rattle.tp_bounds.specs.Reasons.{IsReason}
use Rattle.tp_agents.specs.declared.fault.SplitFault.{SplitFault}
use Rattle.tp_agents.specs.declared.fault.SplitFault.TheVariants.{Memory, Owner, Conflict}
use Rattle.tp_agents.specs.declared.divided.Split.{Split}
use Rattle.tp_agents.specs.Owners.{AreOwners, IsFirstMisowned}

-- an edge of a setting that is asked for a bound, as it is named where the bound is in force under an identifier
abbrev pub as_own : BoundId → Edge → Edge
as_own id New = Own id
as_own id (Own other) = Own other
as_own id (PastHigh e) = PastHigh e
as_own id (PastLow e) = PastLow e
as_own id (Now e) = Now e
as_own id (End e) = End e

-- no schedule remains, and the edges, each named as the setting names it, say why
pub record Contradicts (s : Setting) (edges : List Edge) : Type 0 where
  pub reason : IsReason s edges
  pub none : HasSchedule s → ⊥

-- what keeps a setting from having a least schedule
abbrev pub IsContradicted : Setting → SplitFault → Type 0
IsContradicted s Memory = Unit {0}
IsContradicted s (Owner e) = ⊥
IsContradicted s (Conflict reason) = Contradicts s reason.edges.items

-- the setting is split among the owners
pub record IsSplitOf (s : Setting) (agents : List ℕ) (split : Split) : Type 0 where
  pub setting : split.setting ≡ s
  pub owners : split.owners.items ≡ agents

-- Owners that don't fit the events are told by the first of these; then it is told why no schedule remains, if none does; else the
-- setting is split among them. The intervals are those of the definition, as the split itself keeps.
abbrev pub AnswersSplit : Setting → List ℕ → Result Split SplitFault → Type 0
AnswersSplit s owners (Ok split) = AreOwners (event_count s) owners × IsSplitOf s owners split
AnswersSplit s owners (Err Memory) = AreOwners (event_count s) owners
AnswersSplit s owners (Err (Owner e)) = IsFirstMisowned (event_count s) owners e
AnswersSplit s owners (Err (Conflict reason)) =
    AreOwners (event_count s) owners × Contradicts s reason.edges.items
