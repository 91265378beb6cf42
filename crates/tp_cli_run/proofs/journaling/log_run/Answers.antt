use Rattle.std.proofs.Common.{ap}
use Rattle.tp_script.specs.Pending.{Reading}
use Rattle.tp_cli_run.proofs.LoggedLemmas.{logs_stop, logs_whole}
use Rattle.tp_cli_run.proofs.journaling.log_run.Goals as goal

pub returns-clause-whole : goal.returns-clause-whole
returns-clause-whole g c =
    logs_whole c.log_lines-logged.result c.args.network.now _ _ _ _ _ c.new-lines.result c.log_lines-logged.new.lines (ap (λ (l : Reading). l.rest) c.new-lines.ensures) (ap (λ (l : Reading). l.taken) c.new-lines.ensures) (ap (λ (l : Reading). l.most) c.new-lines.ensures) c.log_lines-logged.ensures.logs

pub returns-clause-cause : goal.returns-clause-cause
returns-clause-cause g c =
    logs_stop c.args.network.now _ _ _ _ _ c.new-lines.result c.log_lines-logged.new.lines (ap (λ (l : Reading). l.rest) c.new-lines.ensures) (ap (λ (l : Reading). l.taken) c.new-lines.ensures) (ap (λ (l : Reading). l.most) c.new-lines.ensures) c.log_lines-logged.ensures.most c.log_lines-logged.result c.log_lines-logged.ensures.logs
