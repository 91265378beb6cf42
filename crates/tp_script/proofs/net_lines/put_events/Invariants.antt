-- What is written so far, and the lines of the events that are left, are all.
use Rattle.std.proofs.Common.{◌≡◌, ◌++◌, map, drop, string_bytes}
use Rattle.tp_script.specs.NetLines.{lines_from, event_line}
use Rattle.tp_script.proofs.net_lines.put_events.Given as goal

abbrev pub invariant-loop-e : goal.invariant-loop-e
invariant-loop-e l = string_bytes l.text ++ lines_from event_line l.e (map string_bytes (drop l.e l.events)) ≡ string_bytes l.initial.text ++ lines_from event_line 0 (map string_bytes l.events)
