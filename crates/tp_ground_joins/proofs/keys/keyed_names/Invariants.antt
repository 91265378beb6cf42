use Rattle.std.proofs.Common.{◌≡◌, map, take}
use Rattle.tp_ground_joins.specs.Views.{keyed_view}
use Rattle.tp_ground_joins.proofs.keys.keyed_names.Given as goal

abbrev pub invariant-loop-name : goal.invariant-loop-name
invariant-loop-name l = map keyed_view l.all.items ≡ map (λ n. n.now) (take l.name-index l.names)
