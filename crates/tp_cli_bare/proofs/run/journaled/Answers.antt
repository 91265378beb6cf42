use Rattle.std.specs.Prelude.{OnOk, IfErr}
use Rattle.tp_cli_bare.specs.Logged.{LogsAll, StopsLogged}
use Rattle.tp_cli_bare.proofs.LoggedLemmas.{moved}
use Rattle.tp_cli_bare.proofs.run.journaled.Goals as goal

pub returns-in-Ok-clause-all : goal.returns-in-Ok-clause-all
returns-in-Ok-clause-all g c =
    moved (λ log logged. OnOk c.log_bare-served.result (LogsAll (g.I.Source.left c.args.input.now) (g.O.Sink.held c.args.output.now) (g.O.Sink.held c.log_bare-served.new.output) log logged)) _ _ _ _ c.in-Ok.ensures.blank c.keep.ensures.kept c.log_bare-served.ensures.all

pub returns-in-Ok-clause-cause : goal.returns-in-Ok-clause-cause
returns-in-Ok-clause-cause g c =
    moved (λ log logged. IfErr c.log_bare-served.result (StopsLogged (g.I.Source.left c.args.input.now) (g.O.Sink.held c.args.output.now) (g.O.Sink.held c.log_bare-served.new.output) log logged)) _ _ _ _ c.in-Ok.ensures.blank c.keep.ensures.kept c.log_bare-served.ensures.cause
