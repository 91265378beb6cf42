use Rattle.std.proofs.Common.{◌≡◌, ℕ, List, Some, ◌*◌, ◌^◌, length, take, ap, ◌∙◌, sym}
use Rattle.std.specs.Str.Parse.{digits_value}
use Rattle.tp_text.specs.Numbers.{before_point, after_point, natural_below, exact}
use Rattle.tp_text.specs.Scales.{scale_ticks}
use Rattle.tp_text.proofs.OnTimes.{no_ticks, form_parts, scale_some, whole_fails, part_fails, product_fails, sum_gives}
use Rattle.tp_text.proofs.number.read_ticks.Goals as goal

pub returns-then-not-has_time_form : goal.returns-then-not-has_time_form
returns-then-not-has_time_form c = sym (no_ticks (scale_ticks c.args.scale) c.args.word.now (sym c.if-not-has_time_form.ensures))

pub returns-in_err-whole : goal.returns-in_err-whole
returns-in_err-whole c =
    let w = c.args.word.now in
    let front : take c.point_at-point.result c.as_bytes-bytes.result.now ≡ before_point w = c.point_at-point.ensures.front ∙ ap before_point c.as_bytes-bytes.ensures.value in
    c.from_residual.ensures
    ∙ whole_fails (scale_ticks c.args.scale) w (sym c.if-not-has_time_form.ensures) (scale_some c.args.scale) (ap (natural_below (2 ^ 32)) (sym front) ∙ sym c.natural.ensures ∙ c.in_err-whole.was)

pub fraction_ticks-requires : goal.fraction_ticks-requires
fraction_ticks-requires c =
    let w = c.args.word.now in
    let after : c.fraction.result.now ≡ after_point w = c.fraction.ensures ∙ c.point_at-point.ensures.rest ∙ ap after_point c.as_bytes-bytes.ensures.value in
    rw after (form_parts w (sym c.if-not-has_time_form.ensures)).1

pub returns-in_err-part : goal.returns-in_err-part
returns-in_err-part c =
    let w = c.args.word.now in
    let after : c.fraction.result.now ≡ after_point w = c.fraction.ensures ∙ c.point_at-point.ensures.rest ∙ ap after_point c.as_bytes-bytes.ensures.value in
    c.from_residual-in_err-part.ensures
    ∙ part_fails (scale_ticks c.args.scale) w (sym c.if-not-has_time_form.ensures) (ap (λ (ds : List ℕ). exact (digits_value 10 ds * scale_ticks c.args.scale) (10 ^ length ds)) (sym after) ∙ sym c.fraction_ticks.ensures ∙ c.in_err-part.was)

pub returns-in_err-checked_mul : goal.returns-in_err-checked_mul
returns-in_err-checked_mul c =
    let w = c.args.word.now in
    let front : take c.point_at-point.result c.as_bytes-bytes.result.now ≡ before_point w = c.point_at-point.ensures.front ∙ ap before_point c.as_bytes-bytes.ensures.value in
    let natural : natural_below (2 ^ 32) (before_point w) ≡ Some c.in_ok-whole.whole = ap (natural_below (2 ^ 32)) (sym front) ∙ sym c.natural.ensures ∙ c.in_ok-whole.was in
    c.from_residual-in_err-checked_mul.ensures
    ∙ product_fails (scale_ticks c.args.scale) w (sym c.if-not-has_time_form.ensures) c.in_ok-whole.whole c.ticks.result c.checked_mul.result natural c.ticks.ensures c.checked_mul.ensures c.in_err-checked_mul.was

pub returns : goal.returns
returns c =
    let w = c.args.word.now in
    let front : take c.point_at-point.result c.as_bytes-bytes.result.now ≡ before_point w = c.point_at-point.ensures.front ∙ ap before_point c.as_bytes-bytes.ensures.value in
    let after : c.fraction.result.now ≡ after_point w = c.fraction.ensures ∙ c.point_at-point.ensures.rest ∙ ap after_point c.as_bytes-bytes.ensures.value in
    let natural : natural_below (2 ^ 32) (before_point w) ≡ Some c.in_ok-whole.whole = ap (natural_below (2 ^ 32)) (sym front) ∙ sym c.natural.ensures ∙ c.in_ok-whole.was in
    let part : exact (digits_value 10 (after_point w) * scale_ticks c.args.scale) (10 ^ length (after_point w)) ≡ Some c.in_ok-part.part = ap (λ (ds : List ℕ). exact (digits_value 10 ds * scale_ticks c.args.scale) (10 ^ length ds)) (sym after) ∙ sym c.fraction_ticks.ensures ∙ c.in_ok-part.was in
    sum_gives (scale_ticks c.args.scale) w (sym c.if-not-has_time_form.ensures) c.in_ok-whole.whole c.ticks.result c.checked_mul.result natural c.ticks.ensures c.checked_mul.ensures c.in_ok-checked_mul.field-0 c.in_ok-part.part c.checked_add.result part c.in_ok-checked_mul.was c.checked_add.ensures
