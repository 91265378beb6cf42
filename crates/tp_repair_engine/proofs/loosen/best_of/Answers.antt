use Rattle.std.proofs.Common.{◌≡◌, List, length, ap, arith}
use Rattle.tp_repair_engine.specs.declared.store.Half.{Half}
use Rattle.tp_repair_engine.specs.Store.{lists_of, halves_at}
use Rattle.tp_repair_engine.proofs.Stores.{keys_len}
use Rattle.tp_repair_engine.proofs.loosen.best_of.Goals as goal

pub returns-clause-looks : goal.returns-clause-looks
returns-clause-looks c =
    let hs = halves_at (lists_of c.args.direction c.args.marked.now.potential.store.now) c.args.point in
    let same : length c.list-list.result.now ≡ length hs = ap (λ (xs : List Half). length xs) c.list-list.ensures.list in
    let all : c.loop-half.half-index ≡ length c.list-list.result.now = omega arith in
    omega (arith, same, all, keys_len hs, c.loop-half.invariant.looks)
