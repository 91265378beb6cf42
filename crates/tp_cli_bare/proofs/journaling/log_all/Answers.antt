use Rattle.std.proofs.Common.{refl, ◌∙◌}
use Rattle.tp_cli_bare.proofs.BareLemmas.{head_stops}
use Rattle.tp_cli_bare.proofs.LoggedLemmas.{head_reads, logs_all, logs_stop, stops_by}
use Rattle.tp_cli_bare.proofs.journaling.log_all.Goals as goal

pub returns-clause-all : goal.returns-clause-all
returns-clause-all g c =
    logs_all c.answer.result _ _ _ _ _ c.args.lines.now c.read_head.new.lines c.answer.new.lines (c.in_ok-events.events, c.in_ok-events.horizon) refl c.requires.none c.requires.most c.in_ok-events.ensures.head c.in_ok-events.ensures.limits.most c.answer.ensures.logs

pub returns-clause-cause : goal.returns-clause-cause
returns-clause-cause g c =
    logs_stop c.answer.result _ _ _ _ _ c.args.lines.now c.read_head.new.lines c.answer.new.lines (c.in_ok-events.events, c.in_ok-events.horizon) refl c.requires.none c.requires.most c.in_ok-events.ensures.head c.in_ok-events.ensures.limits.most c.answer.ensures.most c.answer.ensures.logs

pub returns-in_err-events-clause-cause : goal.returns-in_err-events-clause-cause
returns-in_err-events-clause-cause g c =
    stops_by c.from_residual.result c.in_err-events.field-0.0 _ _ _ c.from_residual.ensures.1
    (head_stops c.in_err-events.field-0.0 _ _ c.args.lines.now c.read_head.new.lines refl c.requires.none c.requires.most c.in_err-events.ensures.head c.in_err-events.ensures.limits)

pub returns-in_err-events-clause-read : goal.returns-in_err-events-clause-read
returns-in_err-events-clause-read g c =
    c.in_err-events.ensures.read ∙ head_reads c.from_residual.result c.in_err-events.field-0.0 _ c.from_residual.ensures.1
