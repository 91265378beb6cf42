use Rattle.std.proofs.Common.{rules, arith, ◌≡◌, ℕ, ◌+◌, ◌-◌, ◌<◌, List, length, get_or, refl, sym, ap, subst, ◌∙◌}
use Rattle.std.specs.declared.alloc.Global.{Global}
use Rattle.std.specs.declared.vec.Vec.{Vec}
use Rattle.tp_bounds.specs.declared.Edge.TheVariants.{Own}
use Rattle.tp_net.specs.Arcs.{arc_of}
use Rattle.tp_repair_engine.specs.declared.store.Store.{Store}
use Rattle.tp_repair_engine.specs.declared.engine.Engine.{Engine}
use Rattle.tp_repair_engine.specs.Store.{arcs_of, keys_of, SamePoints}
use Rattle.tp_repair_engine.specs.Work.{Rises, Falls, IsTightened, AreThere}
use Rattle.tp_repair_engine.specs.Engine.{AreSame, IsEntered}
use Rattle.tp_repair_engine.specs.Bringing.{IsMore, IsUnbrought}
use Rattle.tp_repair_engine.specs.declared.store.Direction.TheVariants.{Up, Down}
use Rattle.tp_repair_engine.proofs.Degrees.{both_degrees}
use Rattle.tp_repair_engine.proofs.Wires.{with_store, sum_same, sum_more, entered_exact, wired_room, same_itself}
use Rattle.tp_repair_engine.proofs.engine.bring.Goals as goal

pub returns-in-Some-clause-ok : goal.returns-in-Some-clause-ok
returns-in-Some-clause-ok c =
    let g : Engine = c.args.engine.now in
    let t : Engine = c.tighten.new.engine in
    let f = c.tighten.ensures in
    let arcs = arcs_of g.store.nodes.slots in
    let new = arc_of c.args.bound in
    let refused = subst (λ o. IsTightened arcs new g.low.items g.high.items t.up.amounts.items t.down.amounts.items o) c.in-Some.is (simp c.arc.ensures at c.in_ok-path.ensures.tightened) in
    let there = subst (λ o. AreThere g.store.nodes.slots o) c.in-Some.is c.in_ok-path.ensures.there in (
      record {
        wired = λ edges w. wired_room (length g.low.items) edges g t w f.store f.low f.high f.idle_up f.idle_down;
        edges = subst (λ (s : Store). AreSame g.store.nodes.slots s.nodes.slots) (sym f.store) (same_itself g.store.nodes.slots);
        degrees = λ d y. ap (λ (s : Store). length (keys_of d s y)) f.store;
        low = ap (λ (v : Vec ℕ Global). v.items) f.low;
        high = ap (λ (v : Vec ℕ Global). v.items) f.high;
        holds = refl;
        finds = λ q. refl;
      },
      f.store,
      refused,
      there,
    )

pub returns-in_err-enter-clause-err : goal.returns-in_err-enter-clause-err
returns-in_err-enter-clause-err c =
    let g : Engine = c.args.engine.now in
    let t : Engine = c.tighten.new.engine in
    let new : Store = c.enter.new.store in
    let g' : Engine = with_store t new in
    let e = c.in_err-enter.ensures in
    let f = c.tighten.ensures in
    let points : SamePoints g.store new = subst (λ s. SamePoints s new) f.store e.points in
    let up : (y : ℕ) → length (keys_of Up new y) ≡ length (keys_of Up g.store y) = subst (λ s. (y : ℕ) → length (keys_of Up new y) ≡ length (keys_of Up s y)) f.store e.err_up in
    let down : (y : ℕ) → length (keys_of Down new y) ≡ length (keys_of Down g.store y) = subst (λ s. (y : ℕ) → length (keys_of Down new y) ≡ length (keys_of Down s y)) f.store e.err_down in
    let h : IsUnbrought g g' c.args.bounds.now c.enter.new.bounds c.args.keys.now c.enter.new.keys = record {
      wired = λ edges w. record {
        some = w.some;
        low_len = ap (λ (v : Vec ℕ Global). length v.items) f.low;
        high_len = ap (λ (v : Vec ℕ Global). length v.items) f.high ∙ w.high_len;
        into_len = points.0 ∙ w.into_len;
        out_len = points.1 ∙ w.out_len;
        halves_in = e.halves_in;
        halves_out = e.halves_out;
        up = f.idle_up;
        down = f.idle_down;
        many_up = sum_same (λ y. length (keys_of Up g.store y)) (λ y. length (keys_of Up new y)) (length g.low.items) up ∙ w.many_up;
        many_down = sum_same (λ y. length (keys_of Down g.store y)) (λ y. length (keys_of Down new y)) (length g.low.items) down ∙ w.many_down;
        few = w.few;
      };
      edges = subst (λ (s : Store). AreSame s.nodes.slots new.nodes.slots) f.store e.err_edges;
      degrees = both_degrees g.store new up down;
      low = ap (λ (v : Vec ℕ Global). v.items) f.low;
      high = ap (λ (v : Vec ℕ Global). v.items) f.high;
      holds = e.err;
      finds = e.err_keys;
    } in
    search rules

pub returns-clause-ok : goal.returns-clause-ok
returns-clause-ok c =
    let g : Engine = c.args.engine.now in
    let t : Engine = c.tighten.new.engine in
    let store : Store = c.enter.new.store in
    let new = arc_of c.args.bound in
    let e = c.in_ok-enter.ensures in
    let f = c.tighten.ensures in
    let arcs = arcs_of g.store.nodes.slots in
    let both : Rises arcs new g.low.items t.up.amounts.items × Falls arcs new g.high.items t.down.amounts.items =
    subst (λ o. IsTightened arcs new g.low.items g.high.items t.up.amounts.items t.down.amounts.items o) c.in_default.is (simp c.arc.ensures at c.in_ok-path.ensures.tightened) in
    let points : SamePoints g.store store = subst (λ s. SamePoints s store) f.store e.points in
    let more : IsMore new g.store store = subst (λ s. IsMore new s store) f.store e.degrees in
    let entered : IsEntered (Own c.args.id) new e.ok.0 g.store.nodes.slots store.nodes.slots = subst (λ (s : Store). IsEntered (Own c.args.id) new e.ok.0 s.nodes.slots store.nodes.slots) f.store e.ok.1 in
    let low_is : t.low.items ≡ g.low.items = ap (λ (v : Vec ℕ Global). v.items) f.low in
    let high_is : t.high.items ≡ g.high.items = ap (λ (v : Vec ℕ Global). v.items) f.high in
    let low = c.move_up.new.low.items in
    let high = c.move_down.new.high.items in
    let low_len : length low ≡ length g.low.items = c.move_up.ensures.len ∙ ap (λ (xs : List ℕ). length xs) low_is in
    let high_len : length high ≡ length g.high.items = c.move_down.ensures.len ∙ ap (λ (xs : List ℕ). length xs) high_is in
    let rise : (x : ℕ) → x < length g.low.items → get_or low x 0 ≡ get_or g.low.items x 0 + get_or t.up.amounts.items x 0 =
    subst (λ (xs : List ℕ). (x : ℕ) → x < length xs → get_or low x 0 ≡ get_or xs x 0 + get_or t.up.amounts.items x 0) low_is c.move_up.ensures.each in
    let fall : (x : ℕ) → x < length g.high.items → get_or high x 0 ≡ get_or g.high.items x 0 - get_or t.down.amounts.items x 0 =
    subst (λ (xs : List ℕ). (x : ℕ) → x < length xs → get_or high x 0 ≡ get_or xs x 0 - get_or t.down.amounts.items x 0) high_is c.move_down.ensures.each in
    let len = c.requires.solved.exact.len in
    record {
      key = e.ok.0;
      wired = λ edges w few. record {
        some = w.some;
        low_len = low_len ∙ w.low_len;
        high_len = high_len ∙ w.high_len;
        into_len = points.0 ∙ w.into_len;
        out_len = points.1 ∙ w.out_len;
        halves_in = e.halves_in;
        halves_out = e.halves_out;
        up = f.idle_up;
        down = f.idle_down;
        many_up = sum_more (λ y. length (keys_of Up g.store y)) (λ y. length (keys_of Up store y)) new.to (length g.low.items) (more Up) c.requires.among.1 ∙ ap (λ n. n + 1) w.many_up;
        many_down = sum_more (λ y. length (keys_of Down g.store y)) (λ y. length (keys_of Down store y)) new.from (length g.low.items) (more Down) c.requires.among.0 ∙ ap (λ n. n + 1) w.many_down;
        few = few;
      };
      entered = entered;
      recorded = e.ok.2;
      more = more;
      moves = record {
        up = rise;
        down = λ x within. (let h = fall x (omega (arith, within, len)) in let w = both.1.within x (omega (arith, within, len)) in omega (arith, h, w));
      };
      exact = entered_exact (Own c.args.id) new e.ok.0 g.store.nodes.slots store.nodes.slots entered g.low.items g.high.items t.up.amounts.items t.down.amounts.items low high
          both.0 both.1 len low_len high_len rise fall;
    }
