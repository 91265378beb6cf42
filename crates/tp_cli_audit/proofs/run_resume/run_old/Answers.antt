use Rattle.std.proofs.Common.{inl, refl}
use Rattle.std.proofs.lemmas.Result.{IfOk-weaker}
use Rattle.tp_cli_audit.proofs.RunResumeLemmas.{goes_same, none_early, quiet_count, quiet_unread}
use Rattle.tp_cli_audit.proofs.run_resume.run_old.Goals as goal

pub returns-in-Ok-clause-said : goal.returns-in-Ok-clause-said
returns-in-Ok-clause-said g c =
    IfOk-weaker c.run_kept.result _ _ (λ done h. (c.in-Ok.kept.items, c.in-Ok.ensures.kept, goes_same (g.N.Files.held c.kept_in.new.files) (g.N.Files.held c.args.files.now) c.args.words c.in-Ok.kept.items _ _ _ _ done c.kept_in.ensures.same h)) c.run_kept.ensures.said

pub returns-in-Err-clause-cause : goal.returns-in-Err-clause-cause
returns-in-Err-clause-cause g c = (none_early (g.O.Sink.held c.args.output.now), (refl, inl refl))

pub returns-in-Err-clause-failures : goal.returns-in-Err-clause-failures
returns-in-Err-clause-failures g c = quiet_count c.in-Err.stop _ (quiet_unread c.in-Err.stop c.in-Err.ensures.cause)
