use Rattle.std.proofs.Common.{◌≡◌, ◌∙◌, subst, sym}
use Rattle.std.specs.Prelude.{IfErr, IfOk, IfSome}
use Rattle.tp_cli_bare.proofs.LoggedLemmas.{moved}
use Rattle.tp_cli_run.specs.LogFile.{log_file}
use Rattle.tp_cli_run.specs.Logged.{LogsWhole, StopsLogged}
use Rattle.tp_cli_run.proofs.LoggedLemmas.{if_ok, stops_in_file}
use Rattle.tp_cli_run.proofs.journaled_run.journaled.Goals as goal

pub returns-in-Ok-clause-whole : goal.returns-in-Ok-clause-whole
returns-in-Ok-clause-whole g c =
    moved (λ log logged. IfOk c.log_run-ran.result (LogsWhole c.args.network.now (g.I.Source.left c.args.input.now) (g.O.Sink.held c.args.output.now) (g.O.Sink.held c.log_run-ran.new.output) log logged)) _ _ _ _ c.in-Ok.ensures.blank c.keep.ensures.kept c.log_run-ran.ensures.whole

pub returns-in-Ok-clause-named : goal.returns-in-Ok-clause-named
returns-in-Ok-clause-named g c =
    if_ok c.log_run-ran.result (IfSome (g.L.Logs.named c.keep.new.self) (λ n. n ≡ c.args.name.now))
    (subst (λ o. IfSome o (λ n. n ≡ c.args.name.now)) (sym c.keep.ensures.named) c.in-Ok.ensures.named)

pub returns-in-Ok-clause-cause : goal.returns-in-Ok-clause-cause
returns-in-Ok-clause-cause g c =
    stops_in_file c.log_run-ran.result c.args.network.now (g.I.Source.left c.args.input.now) (g.O.Sink.held c.args.output.now) (g.O.Sink.held c.log_run-ran.new.output)
    (log_file c.args.name.now (g.L.Logs.asked c.args.logs.now) (g.L.Logs.asked c.keep.new.self) (g.L.Logs.named c.keep.new.self) g.L.Logs.blank (g.L.Logs.kept c.keep.new.self))
    (c.keep.ensures.asked ∙ c.make.ensures.asked, subst (λ o. IfSome o (λ n. n ≡ c.args.name.now)) (sym c.keep.ensures.named) c.in-Ok.ensures.named)
    (moved (λ log logged. IfErr c.log_run-ran.result (StopsLogged c.args.network.now (g.I.Source.left c.args.input.now) (g.O.Sink.held c.args.output.now) (g.O.Sink.held c.log_run-ran.new.output) log logged)) _ _ _ _ c.in-Ok.ensures.blank c.keep.ensures.kept c.log_run-ran.ensures.cause)
