use Rattle.std.proofs.Common.{subst}
use Rattle.std.specs.Prelude.{IfErr, OnOk}
use Rattle.tp_script.specs.Pending.{Reading}
use Rattle.tp_cli_bare.specs.Logged.{LogsAll, StopsLogged}
use Rattle.tp_cli_bare.proofs.journaling.log_bare.Goals as goal

pub returns-clause-all : goal.returns-clause-all
returns-clause-all g c =
    subst (λ (l : Reading). OnOk c.log_all-served.result (LogsAll l.rest (g.O.Sink.held c.args.output.now) (g.O.Sink.held c.log_all-served.new.output) (g.L.Sink.held c.args.log.now) (g.L.Sink.held c.log_all-served.new.log))) c.new-lines.ensures c.log_all-served.ensures.all

pub returns-clause-cause : goal.returns-clause-cause
returns-clause-cause g c =
    subst (λ (l : Reading). IfErr c.log_all-served.result (StopsLogged l.rest (g.O.Sink.held c.args.output.now) (g.O.Sink.held c.log_all-served.new.output) (g.L.Sink.held c.args.log.now) (g.L.Sink.held c.log_all-served.new.log))) c.new-lines.ensures c.log_all-served.ensures.cause
