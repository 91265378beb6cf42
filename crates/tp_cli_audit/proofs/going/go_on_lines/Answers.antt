use Rattle.std.proofs.Common.{◌≡◌, ◌∙◌, subst, sym}
use Rattle.std.specs.Prelude.{IfErr, IfOk, IfSome}
use Rattle.tp_cli_bare.proofs.LoggedLemmas.{moved}
use Rattle.tp_cli_run.specs.LogFile.{log_file}
use Rattle.tp_cli_audit.specs.Going.{GoesTo, StopsIn}
use Rattle.tp_cli_audit.proofs.ResumeLemmas.{counted_of, goes_of, heard_of, kept_log, named_of, stops_of, went_unread}
use Rattle.tp_cli_audit.proofs.going.go_on_lines.Goals as goal

pub returns-in-Ok-clause-goes : goal.returns-in-Ok-clause-goes
returns-in-Ok-clause-goes g c =
    goes_of c.go_on_in-went.result c.of_journal.result _ c.of_journal.ensures
    (moved (λ log logged. IfOk c.go_on_in-went.result (GoesTo c.args.run.executive c.args.run.kept.items c.args.lines.now.rest (g.O.Sink.held c.args.output.now) (g.O.Sink.held c.go_on_in-went.new.output) log logged)) _ _ _ _ c.in-Ok.ensures.blank c.keep.ensures.kept c.go_on_in-went.ensures.goes)

pub returns-in-Ok-clause-named : goal.returns-in-Ok-clause-named
returns-in-Ok-clause-named g c =
    named_of c.of_journal.result
    (log_file c.args.name.now (g.L.Logs.asked c.args.logs.now) (g.L.Logs.asked c.keep.new.self) (g.L.Logs.named c.keep.new.self) g.L.Logs.blank (g.L.Logs.kept c.keep.new.self))
    (c.keep.ensures.asked ∙ c.make.ensures.asked, subst (λ o. IfSome o (λ n. n ≡ c.args.name.now)) (sym c.keep.ensures.named) c.in-Ok.ensures.named)

pub returns-in-Ok-clause-cause : goal.returns-in-Ok-clause-cause
returns-in-Ok-clause-cause g c =
    stops_of c.go_on_in-went.result c.of_journal.result c.args.run.executive c.args.run.kept.items c.args.lines.now.rest (g.O.Sink.held c.args.output.now) (g.O.Sink.held c.go_on_in-went.new.output)
    (log_file c.args.name.now (g.L.Logs.asked c.args.logs.now) (g.L.Logs.asked c.keep.new.self) (g.L.Logs.named c.keep.new.self) g.L.Logs.blank (g.L.Logs.kept c.keep.new.self))
    c.of_journal.ensures
    (c.keep.ensures.asked ∙ c.make.ensures.asked, subst (λ o. IfSome o (λ n. n ≡ c.args.name.now)) (sym c.keep.ensures.named) c.in-Ok.ensures.named)
    (moved (λ log logged. IfErr c.go_on_in-went.result (StopsIn c.args.run.executive c.args.run.kept.items c.args.lines.now.rest (g.O.Sink.held c.args.output.now) (g.O.Sink.held c.go_on_in-went.new.output) log logged)) _ _ _ _ c.in-Ok.ensures.blank c.keep.ensures.kept c.go_on_in-went.ensures.cause)

pub returns-in-Ok-clause-told : goal.returns-in-Ok-clause-told
returns-in-Ok-clause-told g c = counted_of c.go_on_in-went.result c.of_journal.result _ _ c.of_journal.ensures c.go_on_in-went.ensures.told

pub returns-in-Ok-clause-read : goal.returns-in-Ok-clause-read
returns-in-Ok-clause-read g c = heard_of c.go_on_in-went.result c.of_journal.result _ _ c.of_journal.ensures c.go_on_in-went.ensures.read

pub returns-in-Ok-clause-opened : goal.returns-in-Ok-clause-opened
returns-in-Ok-clause-opened g c = λ n. went_unread c.go_on_in-went.result c.of_journal.result n c.of_journal.ensures

pub returns-in-Ok-clause-log : goal.returns-in-Ok-clause-log
returns-in-Ok-clause-log g c =
    kept_log c.go_on_in-went.result c.of_journal.result _ _ _ _ _ c.of_journal.ensures c.keep.ensures.cause c.in-Ok.ensures.cause c.in-Ok.ensures.new c.go_on_in-went.ensures.log
