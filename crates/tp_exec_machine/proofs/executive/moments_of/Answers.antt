use Rattle.std.proofs.Common.{◌≡◌, ◌+◌, length, is_some, slice_get, ap, ◌∙◌}
use Rattle.std.proofs.lemmas.List.{length_push}
use Rattle.tp_bounds.specs.Setting.{fixed_at}
use Rattle.tp_exec_machine.proofs.Least.{least_more, pushed_moment}
use Rattle.tp_exec_machine.proofs.executive.moments_of.Goals as goal

pub loop-e-preserved : goal.loop-e-preserved
loop-e-preserved g c =
    let s = g.N.Net.seen c.args.net.now in
    let xs = c.loop-e.moments.items in
    let t = c.loop-e.invariant.0 in
    let more = least_more s c.loop-e.e c.low.result t c.loop-e.invariant.1 c.low.ensures in
    let b = is_some c.fixed.result in
    let count : length c.loop-e.moments.items ≡ c.loop-e.e = c.loop-e.invariant.2 in (
      more.0,
      more.1,
      ap length c.in_ok-push.ensures.items ∙ (length_push xs (c.low.result, c.is_some.result) ∙ ap (λ n. n + 1) count),
      λ k lt. ap (λ ys. slice_get ys k) c.in_ok-push.ensures.items ∙ pushed_moment xs (λ j. is_some (fixed_at s j)) t more.0 c.loop-e.e c.low.result c.is_some.result count c.loop-e.invariant.3 more.2 more.3 (c.is_some.ensures ∙ ap is_some c.fixed.ensures) k lt,
    )
