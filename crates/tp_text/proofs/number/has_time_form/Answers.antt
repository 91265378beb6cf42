use Rattle.std.proofs.Common.{ap, ◌∙◌, sym, eq-eqb}
use Rattle.tp_text.specs.Numbers.{is_natural, has_time_form}
use Rattle.tp_text.proofs.OnTimes.{whole_form, pointed_form}
use Rattle.tp_text.proofs.number.has_time_form.Goals as goal

pub returns-then-point-bytes : goal.returns-then-point-bytes
returns-then-point-bytes c =
    let bytes = c.as_bytes-bytes.result.now in
    eq-eqb _ _ c.if-point-bytes.true
    ∙ sym (ap has_time_form (sym c.as_bytes-bytes.ensures.value) ∙ whole_form bytes c.point_at-point.result c.point_at-point.ensures.in_range c.point_at-point.ensures.front (sym c.if-is_natural.ensures) c.if-point-bytes.true)

pub returns-else-point-bytes : goal.returns-else-point-bytes
returns-else-point-bytes c =
    let bytes = c.as_bytes-bytes.result.now in
    c.is_natural-else-point-bytes.ensures
    ∙ ap is_natural (c.fraction.ensures ∙ c.point_at-point.ensures.rest)
    ∙ sym (pointed_form bytes c.point_at-point.result c.point_at-point.ensures.in_range c.point_at-point.ensures.front (sym c.if-is_natural.ensures) c.if-point-bytes.false)
    ∙ ap has_time_form c.as_bytes-bytes.ensures.value
