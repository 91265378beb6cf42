use Rattle.std.proofs.Common.{◌≡◌, ℕ, List, length, get_or, ap, ◌∙◌, arith}
use Rattle.tp_repair_engine.specs.declared.engine.Engine.{Engine}
use Rattle.tp_repair_engine.specs.declared.store.Direction.TheVariants.{Up, Down}
use Rattle.tp_repair_engine.specs.Store.{arcs_of, keys_of}
use Rattle.tp_repair_engine.specs.Asked.{AsksFloor, IsRaisedTo}
use Rattle.tp_repair_engine.proofs.Wires.{sum_same, low_potential, high_small}
use Rattle.tp_repair_engine.specs.Flow.{looks_at}
use Rattle.tp_repair_engine.proofs.Cheap.{read_most}
use Rattle.tp_repair_engine.proofs.Rises.{floors_below_high, floors_exact}
use Rattle.tp_repair_engine.proofs.change.raise.Goals as goal

pub move_up-requires-clause-fits : goal.move_up-requires-clause-fits
move_up-requires-clause-fits c = λ x within.
    let g : Engine = c.args.engine.now in
    let low = g.low.items in
    let amounts = c.rise_floors.new.work.amounts.items in
    let r : IsRaisedTo (arcs_of g.store.nodes.slots) (AsksFloor c.args.fixed.now c.args.lags.now c.args.now) low amounts = simp c.deref.ensures.value at c.in_ok-engine.ensures.raised in
    let h = floors_below_high c.args.now c.args.lags.now c.args.floors.now c.args.fixed.now g.store.nodes.slots low g.high.items amounts c.requires.solved.exact c.requires.solved.holds.origin c.requires.wait r x within in
    let s = high_small g c.requires.solved x 0 (let l = c.requires.solved.exact.len in omega (arith, within, l)) in
    omega (arith, h, s)

pub returns-clause-ok : goal.returns-clause-ok
returns-clause-ok c =
    let g : Engine = c.args.engine.now in
    let low = g.low.items in
    let old = g.store.nodes.slots in
    let new = c.set_floors.new.store.nodes.slots in
    let e = c.set_floors.ensures in
    let amounts = c.rise_floors.new.work.amounts.items in
    let at : c.deref.result.now ≡ low = c.deref.ensures.value in
    let same : length c.deref.result.now ≡ length low = ap (λ (xs : List ℕ). length xs) at in
    let r : IsRaisedTo (arcs_of old) (AsksFloor c.args.fixed.now c.args.lags.now c.args.now) low amounts = simp c.deref.ensures.value at c.in_ok-engine.ensures.raised in
    let b = c.requires.before in
    let floors = c.requires.floors in
    record {
      wired = λ edges w. record {
        some = w.some;
        low_len = c.move_up.ensures.len ∙ w.low_len;
        high_len = w.high_len;
        into_len = e.points.0 ∙ w.into_len;
        out_len = e.points.1 ∙ w.out_len;
        halves_in = e.halves_in;
        halves_out = e.halves_out;
        up = simp same at c.rise_floors.ensures.idle;
        down = w.down;
        many_up = sum_same (λ y. length (keys_of Up g.store y)) (λ y. length (keys_of Up c.set_floors.new.store y)) (length low) (e.degrees Up) ∙ w.many_up;
        many_down = sum_same (λ y. length (keys_of Down g.store y)) (λ y. length (keys_of Down c.set_floors.new.store y)) (length low) (e.degrees Down) ∙ w.many_down;
        few = w.few;
      };
      edges = e.mapped;
      degrees = e.degrees;
      exact = floors_exact c.args.now c.args.lags.now c.args.floors.now c.args.fixed.now old low g.high.items amounts c.requires.solved.exact c.requires.solved.holds.origin c.requires.wait r
          b.clock new c.move_up.new.low.items b.earlier floors.only floors.there b.arcs b.from e.mapped c.move_up.ensures.len c.move_up.ensures.each;
    }

pub returns-clause-most : goal.returns-clause-most
returns-clause-most c = λ edges w.
    let g : Engine = c.args.engine.now in
    let same : length c.deref.result.now ≡ length g.low.items = ap (λ (xs : List ℕ). length xs) c.deref.ensures.value in
    let read : c.in_ok-engine.field-0 ≡ looks_at (keys_of Up g.store) (λ x. get_or c.rise_floors.new.work.amounts.items x 0) (length g.low.items) = simp same at c.in_ok-engine.ensures.looks in
    let most = read_most (keys_of Up g.store) (λ x. get_or c.rise_floors.new.work.amounts.items x 0) (length g.low.items) in
    let many = w.many_up in
    omega (arith, read, most, many)

pub invariant_of-low : goal.invariant_of-low
invariant_of-low c = rw c.deref.ensures.value (record { met = low_potential c.args.engine.now c.requires.solved })
