use Rattle.std.proofs.Common.{◌≡◌, length, Some, sym, ap, ◌∙◌, arith}
use Rattle.std.proofs.lemmas.List.{length_push}
use Rattle.tp_bounds.specs.Setting.{fixed_at}
use Rattle.tp_exec_machine.proofs.Keeping.{dispatched_more}
use Rattle.tp_exec.proofs.run_plans.dispatched.Goals as goal

pub loop-e-preserved : goal.loop-e-preserved
loop-e-preserved g c =
    let s = g.N.Net.seen c.args.net.now in
    let xs = c.loop-e.moments.items in
    let is : fixed_at s (length xs) ≡ Some c.in-Some.moment = ap (fixed_at s) c.loop-e.invariant.count ∙ (sym c.fixed.ensures ∙ c.in-Some.is) in
    rw c.in_ok-push.ensures.items
    (record {
      count = omega (arith, length_push xs c.in-Some.moment, c.loop-e.invariant.count);
      each = dispatched_more s xs c.in-Some.moment c.loop-e.invariant.each is;
    })
