use Rattle.std.proofs.Common.{◌≡◌, ◌∷◌, ◌+◌, length, map, take, drop, string_bytes}
use Rattle.tp_task.specs.Labels.{named, are_known, AreNamed}
use Rattle.tp_task.proofs.lookup.short_label.Given as goal

abbrev pub invariant-loop-arg : goal.invariant-loop-arg
invariant-loop-arg l = record {
  named_so_far : named (map string_bytes l.names.keys) l.label.items ≡ l.name ∷ map (λ w. w.now) (take l.arg-index l.args);
  in_range : AreNamed (length (map string_bytes l.names.keys)) l.label.items;
  known_so_far : are_known (map string_bytes l.names.keys) (map (λ w. w.now) (drop l.arg-index l.args)) ≡ are_known (map string_bytes l.names.keys) (l.name ∷ map (λ w. w.now) l.args);
  count : length l.label.items ≡ l.arg-index + 1;
  room : l.label.capacity ≡ 8;
}
