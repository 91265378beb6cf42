use Rattle.std.proofs.Common.{◌≡◌, List, ◌<◌, ◌≤◌, length, subst}
use Rattle.std.specs.declared.alloc.Global.{Global}
use Rattle.std.specs.declared.vec.Vec.{Vec}
use Rattle.tp_repair_engine.specs.declared.store.Half.{Half}
use Rattle.tp_repair_engine.specs.Store.{halves_at, half_at}
use Rattle.tp_repair_engine.proofs.Halves.{came_node, moved_one, halves_taken_last, halves_taken_moved}
use Rattle.tp_repair_engine.proofs.store.take_out.Goals as goal

pub returns-in-Some-clause-halves : goal.returns-in-Some-clause-halves
returns-in-Some-clause-halves c =
    let d = c.args.direction in
    let slots = c.args.nodes.now.slots in
    let lists = c.args.lists.now.items in
    let lists' = c.drop_half.new.lists.items in
    let p = c.args.point in
    let q = c.args.place in
    let key = c.in-Some.key in
    let e = c.drop_half.ensures in
    let there : (q < length (halves_at lists' p)) × (key ≡ (half_at (halves_at lists' p) q).key) =
    subst (λ (ls : List (Vec Half Global)). (q < length (halves_at ls p)) × (key ≡ (half_at (halves_at ls p) q).key)) c.deref.ensures.value c.in-Some.ensures in
    let n = came_node d slots lists lists' p q key c.requires.halves e.shorter e.moved there.0 there.1 in
    halves_taken_moved d slots lists lists' p q c.requires.halves e.shorter e.moved e.stay e.others c.set_place.new.nodes.slots key n.0 there.0 there.1 n.1
    (c.set_place.ensures.here n.0 n.1) c.set_place.ensures.others

pub returns-in-Some-clause-moved : goal.returns-in-Some-clause-moved
returns-in-Some-clause-moved c =
    let d = c.args.direction in
    let slots = c.args.nodes.now.slots in
    let lists = c.args.lists.now.items in
    let lists' = c.drop_half.new.lists.items in
    let p = c.args.point in
    let q = c.args.place in
    let key = c.in-Some.key in
    let e = c.drop_half.ensures in
    let there : (q < length (halves_at lists' p)) × (key ≡ (half_at (halves_at lists' p) q).key) =
    subst (λ (ls : List (Vec Half Global)). (q < length (halves_at ls p)) × (key ≡ (half_at (halves_at ls p) q).key)) c.deref.ensures.value c.in-Some.ensures in
    let n = came_node d slots lists lists' p q key c.requires.halves e.shorter e.moved there.0 there.1 in
    moved_one d slots c.set_place.new.nodes.slots key q n.0 n.1 (c.set_place.ensures.here n.0 n.1) c.set_place.ensures.others

pub returns-in_default-clause-halves : goal.returns-in_default-clause-halves
returns-in_default-clause-halves c =
    let p = c.args.point in
    let q = c.args.place in
    let lists' = c.drop_half.new.lists.items in
    let e = c.drop_half.ensures in
    let last : length (halves_at lists' p) ≤ q = subst (λ (ls : List (Vec Half Global)). length (halves_at ls p) ≤ q) c.deref.ensures.value c.in_default.ensures in
    halves_taken_last c.args.direction c.args.nodes.now.slots c.args.lists.now.items lists' p q c.requires.halves e.shorter e.moved e.stay e.others last
