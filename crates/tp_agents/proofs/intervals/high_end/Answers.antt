use Rattle.std.proofs.Common.{◌≡◌, get_or, pos, ◌+ℤ◌, to_z, of_z, w64, ap, ◌∙◌, arith}
use Rattle.std.proofs.lemmas.Int.{ints}
use Rattle.tp_bounds.specs.Setting.{IsInRange}
use Rattle.tp_agents.specs.declared.crosses.CrossBound.{CrossBound}
use Rattle.tp_agents.specs.Intervals.{begins, moment_from}
use Rattle.tp_agents.proofs.Ends.{high_in_time}
use Rattle.tp_agents.proofs.Rows.{high_more, high_same}
use Rattle.tp_agents.proofs.intervals.high_end.Goals as goal
use Rattle.tp_agents.proofs.intervals.high_end.Goals.{then-bound-e, else-bound-e}

abbrev none : CrossBound
none = record { from = 0; to = 0; w = pos 0 }

pub loop-bound-init : goal.loop-bound-init
loop-bound-init c =
    let h = high_in_time c.args.horizon (begins c.args.before.now c.args.least.now) c.args.e c.args.crosses.now in
    record { within = omega (arith, c.from-high.ensures); whole = omega (arith, c.from-high.ensures) }

pub loop-bound-preserved : goal.loop-bound-preserved
loop-bound-preserved c =
    elim c.if-bound-e.branch [
      | then-bound-e w ↦
          let b : CrossBound = get_or c.args.crosses.now c.loop-bound.bound-index none in
          let r : IsInRange b.w = c.requires c.loop-bound.bound-index none c.loop-bound-test.true in
          let first : w.from.result ≡ pos (begins c.args.before.now c.args.least.now b.from) = w.from.ensures ∙ ap pos w.begin.ensures in
          let joint : to_z w64 (of_z w64 (to_z w64 (of_z w64 w.from.result) +ℤ to_z w64 (of_z w64 b.w))) ≡ (pos (begins c.args.before.now c.args.least.now b.from) +ℤ b.w) = omega (arith, ints, first, w.from.ensures, w.begin.type_inv, r.not_low, r.not_high) in
          let is : w.moment_from.result ≡ moment_from (pos (begins c.args.before.now c.args.least.now b.from) +ℤ b.w) = w.moment_from.ensures ∙ ap moment_from joint in
          record {
            within = omega (arith, c.loop-bound.invariant.within, w.high-is, w.min-high.ensures);
            whole = high_more c.args.horizon (begins c.args.before.now c.args.least.now) c.args.e c.args.crosses.now c.loop-bound.bound-index c.loop-bound.high none w.moment_from.result c.if-bound-e.high c.loop-bound-test.true w.if-bound-e.true is (w.high-is ∙ w.min-high.ensures) c.loop-bound.invariant.whole;
          }
      | else-bound-e w ↦ record {
        within = omega (arith, c.loop-bound.invariant.within, w.high-is);
        whole = high_same c.args.horizon (begins c.args.before.now c.args.least.now) c.args.e c.args.crosses.now c.loop-bound.bound-index c.loop-bound.high none c.if-bound-e.high c.loop-bound-test.true w.if-bound-e.false w.high-is c.loop-bound.invariant.whole;
      }
    ]
