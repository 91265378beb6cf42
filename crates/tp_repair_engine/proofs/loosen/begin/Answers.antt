use Rattle.std.proofs.Common.{ℕ, ◌+◌, ◌<◌, ◌^◌, length, arith, rules}
use Rattle.tp_repair_engine.specs.Store.{keys_of}
use Rattle.tp_repair_engine.proofs.Frees.{sum_step, sum_part}
use Rattle.tp_repair_engine.proofs.loosen.begin.Goals as goal

pub overflow_add-looks : goal.overflow_add-looks
overflow_add-looks c =
    let f : ℕ → ℕ = λ y. length (keys_of c.args.direction c.args.marked.now.potential.store.now y) in
    let n = length c.args.marked.now.potential.moments.now in
    let i = c.loop-point.point in
    let a = sum_step f i in
    let b = sum_part f (i + 1) n (omega (arith, c.loop-point-test.true)) in
    let h : c.loop-point.looks + c.in_ok-looks.field-0 < 2 ^ 64 = omega (arith, a, b, c.loop-point.invariant.looks, c.in_ok-looks.ensures.looks, c.args.marked.now.potential.met.few c.args.direction) in
    search rules

pub loop-point-preserved : goal.loop-point-preserved
loop-point-preserved c =
    let f : ℕ → ℕ = λ y. length (keys_of c.args.direction c.args.marked.now.potential.store.now y) in
    let a = sum_step f c.loop-point.point in
    record {
      beginning = c.in_ok-looks.ensures.beginning;
      looks = omega (arith, a, c.loop-point.invariant.looks, c.in_ok-looks.ensures.looks);
    }
