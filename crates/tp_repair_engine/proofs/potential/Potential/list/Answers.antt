use Rattle.std.proofs.Common.{◌≡◌, ◌<◌, List, length, sym, ap, subst, ◌∙◌, arith}
use Rattle.std.specs.Prelude.{All}
use Rattle.std.specs.declared.alloc.Global.{Global}
use Rattle.std.specs.declared.vec.Vec.{Vec}
use Rattle.tp_repair_engine.specs.declared.store.Half.{Half}
use Rattle.tp_repair_engine.specs.Store.{lists_of, halves_at}
use Rattle.tp_repair_engine.specs.Potential.{IsAlong}
use Rattle.tp_repair_engine.proofs.Stores.{halves_at_is, list_along}
use Rattle.tp_repair_engine.proofs.Frees.{list_few}
use Rattle.tp_repair_engine.proofs.potential.Potential.list.Goals as goal

pub returns-clause-list : goal.returns-clause-list
returns-clause-list c =
    let p = c.args.self.now in
    let d = c.args.direction in
    let len : length c.lists-lists.result.now ≡ length (lists_of d p.store.now) = ap (λ (ls : List (Vec Half Global)). length ls) c.lists-lists.ensures in
    let within : c.args.point < length c.lists-lists.result.now = omega (arith, len, p.met.lists d, c.requires) in
    c.deref.ensures.value ∙ halves_at_is c.lists-lists.result.now c.args.point c.index-lists-point.result within c.index-lists-point.is ∙ ap (λ ls. halves_at ls c.args.point) c.lists-lists.ensures

pub returns-clause-along : goal.returns-clause-along
returns-clause-along c =
    let p = c.args.self.now in
    let d = c.args.direction in
    let list = returns-clause-list c in
    subst (λ (hs : List Half). All (IsAlong p.moments.now d c.args.point) hs) (sym list) (list_along p.store.now p.moments.now p.met d c.args.point)

pub returns-clause-few : goal.returns-clause-few
returns-clause-few c =
    let p = c.args.self.now in
    let d = c.args.direction in
    let list = returns-clause-list c in
    let same : length c.deref.result.now ≡ length (halves_at (lists_of d p.store.now) c.args.point) = ap (λ (hs : List Half). length hs) list in
    let few = list_few d p.store.now (length p.moments.now) c.args.point c.requires in
    omega (arith, same, few, p.met.few d)
