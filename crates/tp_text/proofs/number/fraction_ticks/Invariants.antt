use Rattle.std.proofs.Common.{◌≡◌, ◌+◌, ◌≤◌, drop, option_map}
use Rattle.tp_text.specs.Scales.{scale_ticks}
use Rattle.tp_text.proofs.OnTimes.{IsPlace, fine}
use Rattle.tp_text.proofs.number.fraction_ticks.Given as goal

abbrev pub invariant-loop-digit : goal.invariant-loop-digit
invariant-loop-digit l = record {
  place : IsPlace l.unit;
  room : l.ticks + l.unit ≤ 1000;
  so_far : option_map (λ p. l.ticks + p) (fine l.unit (drop l.digit-index l.digits)) ≡ fine (scale_ticks l.fn.scale) l.digits;
}
