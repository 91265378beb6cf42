use Rattle.std.proofs.Common.{◌≡◌, map, length}
use Rattle.tp_syntax.specs.KeyedParts.{with_kind, each_once}
use Rattle.tp_syntax.proofs.keyed.repeated.Given as goal

abbrev pub invariant-items : goal.invariant-items
invariant-items g l = each_once g.K.ItemKind.number g.K.ItemKind.may_repeat (map with_kind l.rest) ≡ each_once g.K.ItemKind.number g.K.ItemKind.may_repeat (map with_kind l.items)

abbrev pub decreases-items : goal.decreases-items
decreases-items g l = length l.rest
