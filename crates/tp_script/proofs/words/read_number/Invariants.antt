use Rattle.std.proofs.Common.{◌≡◌, ◌<◌, ◌^◌, true, take}
use Rattle.std.specs.List.{list_all}
use Rattle.tp_script.specs.Words.{is_digit, value_from}
use Rattle.tp_script.proofs.words.read_number.Given as goal

abbrev pub invariant-loop-b : goal.invariant-loop-b
invariant-loop-b l =
    record {
      value : l.value ≡ value_from 0 (take l.b-index l.word);
      digits : list_all is_digit (take l.b-index l.word) ≡ true;
      small : l.value < 10 ^ l.b-index;
    }
