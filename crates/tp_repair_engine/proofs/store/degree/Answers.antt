use Rattle.std.proofs.Common.{◌≡◌, List, length, ap, arith}
use Rattle.tp_repair_engine.specs.declared.store.Half.{Half}
use Rattle.tp_repair_engine.specs.Store.{halves_at}
use Rattle.tp_repair_engine.proofs.Stores.{halves_at_is}
use Rattle.tp_repair_engine.proofs.store.degree.Goals as goal

pub returns : goal.returns
returns c =
    let v = c.index-lists-point.result in
    let len : length v.items ≡ length (halves_at c.args.lists.now c.args.point) = ap (λ (hs : List Half). length hs) (halves_at_is c.args.lists.now c.args.point v c.requires c.index-lists-point.is) in
    let full : v.len ≡ length v.items = v.ok.0 in
    omega (arith, len, full, c.len.ensures)
