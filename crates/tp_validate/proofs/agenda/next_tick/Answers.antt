use Rattle.tp_validate.proofs.Ordered.{next_is}
use Rattle.tp_validate.proofs.agenda.next_tick.Goals as goal

pub returns : goal.returns
returns c =
    next_is c.args.agenda.now c.in_ok-first.field-0.now c.moment-moment.result c.count_until.result c.requires c.in_ok-first.ensures.value c.moment-moment.ensures c.count_until.ensures.until c.count_until.ensures.after
    c.split_at.result.0.now c.split_at.ensures.front c.split_at.ensures.front_len
