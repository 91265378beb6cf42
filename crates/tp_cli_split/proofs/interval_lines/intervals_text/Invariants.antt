-- What is written so far, and the lines of the intervals that are left, are all.
use Rattle.std.proofs.Common.{◌≡◌, ◌++◌, drop, string_bytes}
use Rattle.tp_script.specs.NetLines.{lines_from}
use Rattle.tp_cli_split.specs.IntervalLines.{interval_line}
use Rattle.tp_cli_split.proofs.interval_lines.intervals_text.Given as goal

abbrev pub invariant-loop-e : goal.invariant-loop-e
invariant-loop-e l = string_bytes l.text ++ lines_from interval_line l.e (drop l.e l.intervals) ≡ lines_from interval_line 0 l.intervals
