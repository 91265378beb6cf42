use Rattle.std.proofs.Common.{◌≡◌, length, map, take, string_bytes}
use Rattle.std.specs.List.{IsDistinct}
use Rattle.std.specs.Str.{bytes_eq}
use Rattle.tp_task.specs.Labels.{named, Grows, AreNamed}
use Rattle.tp_task.proofs.numbering.label_of.Given as goal

abbrev pub invariant-loop-word : goal.invariant-loop-word
invariant-loop-word l = record {
  named_so_far : named (map string_bytes l.names.keys) l.label.items ≡ map (λ w. w.now) (take l.word-index l.words);
  in_range : AreNamed (length (map string_bytes l.names.keys)) l.label.items;
  grows : Grows (map string_bytes l.initial.names.keys) (map string_bytes l.names.keys);
  distinct : IsDistinct bytes_eq (map string_bytes l.names.keys);
}
