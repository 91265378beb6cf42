use Rattle.std.proofs.Common.{◌≡◌, get_or, pos, ◌-ℤ◌, to_z, of_z, w64, ap, ◌∙◌, arith}
use Rattle.std.proofs.lemmas.Int.{ints}
use Rattle.tp_bounds.specs.Setting.{IsInRange}
use Rattle.tp_agents.specs.declared.crosses.CrossBound.{CrossBound}
use Rattle.tp_agents.specs.Intervals.{ends, moment_from}
use Rattle.tp_agents.proofs.Rows.{low_more, low_same}
use Rattle.tp_agents.proofs.intervals.low_end.Goals as goal
use Rattle.tp_agents.proofs.intervals.low_end.Goals.{then-bound-e, else-bound-e}

abbrev none : CrossBound
none = record { from = 0; to = 0; w = pos 0 }

pub loop-bound-preserved : goal.loop-bound-preserved
loop-bound-preserved c =
    elim c.if-bound-e.branch [
      | then-bound-e w ↦
          let b : CrossBound = get_or c.args.crosses.now c.loop-bound.bound-index none in
          let r : IsInRange b.w = c.requires c.loop-bound.bound-index none c.loop-bound-test.true in
          let last : w.from.result ≡ pos (ends c.args.before.now c.args.least.now b.to) = w.from.ensures ∙ ap pos w.end.ensures in
          let joint : to_z w64 (of_z w64 (to_z w64 (of_z w64 w.from.result) -ℤ to_z w64 (of_z w64 b.w))) ≡ (pos (ends c.args.before.now c.args.least.now b.to) -ℤ b.w) = omega (arith, ints, last, w.from.ensures, w.end.type_inv, r.not_low, r.not_high) in
          let is : w.moment_from.result ≡ moment_from (pos (ends c.args.before.now c.args.least.now b.to) -ℤ b.w) = w.moment_from.ensures ∙ ap moment_from joint in
          low_more (ends c.args.before.now c.args.least.now) c.args.e c.args.crosses.now c.loop-bound.bound-index c.loop-bound.low none w.moment_from.result c.if-bound-e.low c.loop-bound-test.true w.if-bound-e.true is (w.low-is ∙ w.max-low.ensures) c.loop-bound.invariant
      | else-bound-e w ↦ low_same (ends c.args.before.now c.args.least.now) c.args.e c.args.crosses.now c.loop-bound.bound-index c.loop-bound.low none c.if-bound-e.low c.loop-bound-test.true w.if-bound-e.false w.low-is c.loop-bound.invariant
    ]
