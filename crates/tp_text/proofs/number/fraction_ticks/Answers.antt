use Rattle.std.proofs.Common.{◌≡◌, get_or, sym, arith, subst}
use Rattle.tp_text.specs.Scales.{scale_ticks}
use Rattle.tp_text.proofs.OnTimes.{IsPlace, scale_place, next_place, scale_le, starts, stopped, gone_on, digit_small, room_on, all_digits_read}
use Rattle.tp_text.proofs.number.fraction_ticks.Goals as goal
use Rattle.tp_text.proofs.number.fraction_ticks.Goals.{else-unit-eq0-via-then-unit-eq0+else-digit-ne48, else-unit-eq0-via-else-unit-eq0}

pub loop-digit-init : goal.loop-digit-init
loop-digit-init c = record {
  place = subst IsPlace (sym c.ticks-unit.ensures) (scale_place c.args.scale);
  room = omega (arith, scale_le c.args.scale);
  so_far = starts c.ticks-unit.result (scale_ticks c.args.scale) c.args.digits.now c.ticks-unit.ensures;
}

pub returns-then-digit-ne48 : goal.returns-then-digit-ne48
returns-then-digit-ne48 c = stopped c.args.digits.now c.loop-digit.unit c.loop-digit.ticks c.loop-digit.digit-index c.loop-digit.invariant.place c.requires c.loop-digit-test.true c.args.scale c.if-unit-eq0.true c.if-digit-ne48.true c.loop-digit.invariant.so_far

pub overflow_add-ticks : goal.overflow_add-ticks
overflow_add-ticks c =
    let small = digit_small c.args.digits.now c.loop-digit.unit c.loop-digit.ticks c.loop-digit.digit-index c.loop-digit.invariant.place c.requires c.loop-digit-test.true in
    omega (arith, room_on c.loop-digit.unit c.loop-digit.ticks c.from.result c.loop-digit.invariant.place (omega (arith, small, c.from.ensures)) c.loop-digit.invariant.room)

pub loop-digit-preserved : goal.loop-digit-preserved
loop-digit-preserved c =
    let ds = c.args.digits.now in
    let i = c.loop-digit.digit-index in
    let small = digit_small ds c.loop-digit.unit c.loop-digit.ticks i c.loop-digit.invariant.place c.requires c.loop-digit-test.true in
    record {
      place = next_place c.loop-digit.unit c.loop-digit.invariant.place;
      room = room_on c.loop-digit.unit c.loop-digit.ticks c.from.result c.loop-digit.invariant.place (omega (arith, small, c.from.ensures)) c.loop-digit.invariant.room;
      so_far = rw c.from.ensures (gone_on ds c.loop-digit.unit c.loop-digit.ticks i c.loop-digit.invariant.place c.requires c.loop-digit-test.true _ (λ z. elim c.else-unit-eq0.branch as (λ v. get_or ds i 0 ≡ 48) [ else-unit-eq0-via-then-unit-eq0+else-digit-ne48 w ↦ w.if-digit-ne48.false | else-unit-eq0-via-else-unit-eq0 w ↦ absurd (w.if-unit-eq0.false z) ]) c.loop-digit.invariant.so_far);
    }

pub returns : goal.returns
returns c = all_digits_read c.args.digits.now c.loop-digit.unit c.loop-digit.ticks c.loop-digit.digit-index c.args.scale c.loop-digit-test.false c.loop-digit.invariant.so_far
