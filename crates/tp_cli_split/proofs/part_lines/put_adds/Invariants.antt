-- What is written so far, and the commands of the bounds that are left, are all.
use Rattle.std.proofs.Common.{◌≡◌, ◌++◌, drop, string_bytes}
use Rattle.std.specs.List.{flat_map}
use Rattle.tp_cli_split.specs.PartLines.{add_line}
use Rattle.tp_cli_split.proofs.part_lines.put_adds.Given as goal

abbrev pub invariant-loop-bound : goal.invariant-loop-bound
invariant-loop-bound l = string_bytes l.text ++ flat_map add_line (drop l.bound-index l.bounds) ≡ string_bytes l.initial.text ++ flat_map add_line l.bounds
