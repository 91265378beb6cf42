use Rattle.std.proofs.Common.{rules, ◌≡◌, ℕ, length, arith, ap}
use Rattle.std.specs.Prelude.{None, slice_index_or}
use Rattle.tp_bounds.specs.declared.Edge.TheVariants.{Own}
use Rattle.tp_repair_engine.specs.Store.{keys_of, near, one_at}
use Rattle.tp_repair_engine.proofs.Wires.{node_of}
use Rattle.tp_repair_engine.specs.declared.store.Direction.TheVariants.{Up, Down}
use Rattle.tp_repair_engine.proofs.engine.enter.Goals as goal

pub returns-in_err-key-clause-err_up : goal.returns-in_err-key-clause-err_up
returns-in_err-key-clause-err_up c = (let h : (y : ℕ) → length (keys_of Up c.insert.new.store y) ≡ length (keys_of Up c.args.store.now y) = c.in_err-key.ensures.err_degrees Up in search rules)

pub returns-in_err-key-clause-err_down : goal.returns-in_err-key-clause-err_down
returns-in_err-key-clause-err_down c = (let h : (y : ℕ) → length (keys_of Down c.insert.new.store y) ≡ length (keys_of Down c.args.store.now y) = c.in_err-key.ensures.err_degrees Down in search rules)

pub returns-in-Err-clause-err_up : goal.returns-in-Err-clause-err_up
returns-in-Err-clause-err_up c = λ y.
    let m = node_of (Own c.args.id) c.arc.result (slice_index_or c.insert.new.store.nodes.slots c.in_ok-key.key None) c.in_ok-key.ensures.node in
    let more = c.in_ok-key.ensures.degrees Up y in
    let less = c.remove.ensures.degrees m.0 m.1 Up y in
    let at : one_at (near Up m.0.arc) y ≡ one_at (near Up c.arc.result) y = ap (λ a. one_at (near Up a) y) m.3 in
    omega (arith, more, less, at)

pub returns-in-Err-clause-err_down : goal.returns-in-Err-clause-err_down
returns-in-Err-clause-err_down c = λ y.
    let m = node_of (Own c.args.id) c.arc.result (slice_index_or c.insert.new.store.nodes.slots c.in_ok-key.key None) c.in_ok-key.ensures.node in
    let more = c.in_ok-key.ensures.degrees Down y in
    let less = c.remove.ensures.degrees m.0 m.1 Down y in
    let at : one_at (near Down m.0.arc) y ≡ one_at (near Down c.arc.result) y = ap (λ a. one_at (near Down a) y) m.3 in
    omega (arith, more, less, at)
