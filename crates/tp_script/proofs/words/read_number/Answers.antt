use Rattle.std.proofs.Common.{◌+◌, ◌*◌, ◌-◌, get_or, take, sym, ap, ◌∙◌, arith}
use Rattle.std.specs.List.{list_all}
use Rattle.std.proofs.lemmas.List.{take_more}
use Rattle.tp_script.specs.Words.{is_digit, value_from}
use Rattle.tp_script.proofs.WordLemmas.{value_push, digits_push, digit_is, power_more}
use Rattle.tp_script.proofs.words.read_number.Goals as goal

pub loop-b-preserved : goal.loop-b-preserved
loop-b-preserved c =
    let w = c.args.word.now in
    let i = c.loop-b.b-index in
    let b = get_or c.args.word.now c.loop-b.b-index 0 in
    let front = take c.loop-b.b-index c.args.word.now in
    let more = take_more w i 0 c.loop-b-test.true in
    record {
      value = ap (λ d. 10 * c.loop-b.value + d) c.from.ensures ∙ sym (ap (value_from 0) more ∙ (value_push 0 front b ∙ ap (λ n. 10 * n + (b - 48)) (sym c.loop-b.invariant.value)));
      digits = ap (list_all is_digit) more ∙ digits_push front b c.loop-b.invariant.digits (digit_is b (omega arith) (omega arith));
      small = omega (arith, power_more i, c.loop-b.invariant.small, c.from.ensures);
    }
