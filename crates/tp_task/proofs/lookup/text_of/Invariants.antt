use Rattle.std.proofs.Common.{◌≡◌, ◌++◌, map, drop, codes, string_bytes}
use Rattle.std.specs.List.{flat_map}
use Rattle.tp_task.specs.Words.{text_of_words}
use Rattle.tp_task.specs.Labels.{named}
use Rattle.tp_task.proofs.lookup.text_of.Given as goal

abbrev pub invariant-loop-number : goal.invariant-loop-number
invariant-loop-number l = string_bytes l.text ++ (flat_map (λ w. codes " " ++ w) (named (map string_bytes l.names.keys) (drop l.number-index l.rest)) ++ codes ")") ≡ text_of_words (named (map string_bytes l.names.keys) l.label)
