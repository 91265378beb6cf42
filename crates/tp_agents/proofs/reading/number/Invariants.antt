use Rattle.std.proofs.Common.{◌≡◌, ◌<◌, ◌^◌, drop}
use Rattle.std.specs.Str.Parse.{digits_value, digits_value_after}
use Rattle.tp_agents.proofs.reading.number.Given as goal

abbrev pub invariant-loop-digit : goal.invariant-loop-digit
invariant-loop-digit l = record {
  small : l.number < 10 ^ l.digit-index;
  value : digits_value_after 10 l.number (drop l.digit-index l.word) ≡ digits_value 10 l.word;
}
