-- What is written so far, and the lines of the bounds that are left, are all.
use Rattle.std.proofs.Common.{◌≡◌, ◌++◌, drop, string_bytes}
use Rattle.tp_script.specs.NetLines.{lines_from, bound_line}
use Rattle.tp_script.proofs.net_lines.put_bounds.Given as goal

abbrev pub invariant-loop-id : goal.invariant-loop-id
invariant-loop-id l = string_bytes l.text ++ lines_from bound_line l.id (drop l.id l.bounds) ≡ string_bytes l.initial.text ++ lines_from bound_line 0 l.bounds
