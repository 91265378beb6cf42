use Rattle.std.proofs.Common.{◌≡◌, map, drop}
use Rattle.tp_syntax.specs.KeyedParts.{with_kind, first}
use Rattle.tp_syntax.proofs.keyed.find.Given as goal

abbrev pub invariant-loop-item : goal.invariant-loop-item
invariant-loop-item g l = first g.K.ItemKind.number l.kind (map with_kind (drop l.item-index l.items)) ≡ first g.K.ItemKind.number l.kind (map with_kind l.items)
