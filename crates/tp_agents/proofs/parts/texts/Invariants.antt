use Rattle.std.proofs.Common.{◌≡◌, ◌++◌, map, drop, string_bytes}
use Rattle.tp_agents.specs.Owners.{events_from, events_of}
use Rattle.tp_agents.specs.Parts.{event_line}
use Rattle.tp_agents.proofs.parts.texts.Given as goal

abbrev pub invariant-loop-e : goal.invariant-loop-e
invariant-loop-e l =
    map string_bytes l.texts.items ++ map event_line (events_from l.e-counter (drop l.e-counter l.owners) l.agent)
    ≡ map event_line (events_of l.owners l.agent)
