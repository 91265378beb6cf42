use Rattle.std.proofs.Common.{◌≡◌, map, take}
use Rattle.tp_syntax_types.proofs.table.names.Given as goal

abbrev pub invariant-loop-item : goal.invariant-loop-item
invariant-loop-item g l = map (λ n. n.now) l.names.items ≡ map g.T.Named.named (take l.item-index l.items)
