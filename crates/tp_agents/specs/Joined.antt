-- The runs of all agents, joined.
use Rattle.std.specs.Prelude.{◌≡◌, ℕ, ◌<◌, List, length, map, slice_get, Option, Some, None, IsTrue}
use Rattle.std.specs.List.{All}
use Rattle.tp_exec_machine.specs.declared.command.Kind.TheVariants.{Kept}
use Rattle.tp_exec_machine.specs.declared.command.Report.{Report}
use Rattle.tp_bounds.specs.Setting.{Setting}
use Rattle.tp_agents.specs.Owners.{owner_of, place_of, agent_count, events_of}
use Rattle.tp_agents.specs.Parts.{IsPartSchedule}

-- every event of the part is dispatched, and all its own bounds are in force
abbrev pub IsComplete : Report → Type 0
IsComplete r = IsTrue r.done × (r.kind ≡ Kept)

-- there is one report for each agent, and each run is complete
abbrev pub AreComplete : List ℕ → List Report → Type 0
AreComplete owners reports = (length reports ≡ agent_count owners) × All IsComplete reports

-- the report of each agent that there is has a moment for each of its events
abbrev pub FitParts : List ℕ → List Report → Type 0
FitParts owners reports =
    (agent : ℕ) (r : Report) → agent < agent_count owners → slice_get reports agent ≡ Some r
    → length r.moments.items ≡ length (events_of owners agent)

-- the moments of a report
abbrev pub moments_told : Report → List ℕ
moments_told r = map (λ m. m.0) r.moments.items

-- the moment that its agent's report tells of an event of the whole
abbrev pub told_at : List ℕ → Option Report → ℕ → Option ℕ
told_at owners None e = None
told_at owners (Some r) e = slice_get (moments_told r) (place_of owners e)

-- each event of the whole is at the moment that its agent's report tells
pub record AreJoined (owners : List ℕ) (reports : List Report) (moments : List ℕ) : Type 0 where
  pub count : length moments ≡ length owners
  pub each :
      (e : ℕ) → e < length owners → slice_get moments e
      ≡ told_at owners (slice_get reports (owner_of owners e)) e

-- what the runs make together: the moments of all events where each run is complete, and nothing else
abbrev pub Joins : List ℕ → List Report → Option (List ℕ) → Type 0
Joins owners reports None = ¬ AreComplete owners reports
Joins owners reports (Some moments) =
    AreComplete owners reports × AreJoined owners reports moments

-- the moments of each report are a schedule of its agent's part
abbrev pub KeepParts : Setting → List ℕ → List (Option (ℕ × ℕ)) → List Report → Type 0
KeepParts s owners intervals reports =
    (agent : ℕ) (r : Report) → slice_get reports agent ≡ Some r
    → IsPartSchedule s owners intervals agent (moments_told r)
