-- The texts so far, and those of the steps that are left, are all.
use Rattle.std.proofs.Common.{◌≡◌, ◌++◌, map, drop, string_bytes}
use Rattle.tp_deorder.specs.EventTexts.{lines_from, event_lines}
use Rattle.tp_deorder.proofs.event_texts.event_texts.Given as goal

abbrev pub invariant-loop-k : goal.invariant-loop-k
invariant-loop-k l = map string_bytes l.texts.items ++ lines_from l.task l.k (drop l.k l.steps) ≡ event_lines l.task l.steps
