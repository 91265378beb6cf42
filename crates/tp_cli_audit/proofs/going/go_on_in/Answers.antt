use Rattle.std.proofs.Common.{inl, inr, refl, subst}
use Rattle.std.specs.Io.KnownBytes.{Appends}
use Rattle.std.proofs.lemmas.Result.{IfErr-weaker, IfOk-weaker}
use Rattle.tp_device.specs.Bytes.{AppendsPart}
use Rattle.tp_cli_audit.specs.Going.{begin_text}
use Rattle.tp_cli_audit.proofs.ResumeLemmas.{goes_to}
use Rattle.tp_cli_audit.proofs.going.go_on_in.Goals as goal

pub returns-in-Ok-clause-goes : goal.returns-in-Ok-clause-goes
returns-in-Ok-clause-goes g c =
    let began = subst (λ k. Appends (g.V.Sink.held c.args.log.now) (g.V.Sink.held c.write_beginning.new.log) (begin_text k)) c.as_slice.ensures.value c.in-Ok.ensures.bytes in
    IfOk-weaker c.go_on_behind.result _ _ (λ last h. goes_to c.args.run.executive last c.args.run.kept.items c.args.lines.now _ _ _ _ _ _ h.0 began h.1) c.go_on_behind.ensures.goes

pub returns-in-Ok-clause-cause : goal.returns-in-Ok-clause-cause
returns-in-Ok-clause-cause g c =
    let began = subst (λ k. Appends (g.V.Sink.held c.args.log.now) (g.V.Sink.held c.write_beginning.new.log) (begin_text k)) c.as_slice.ensures.value c.in-Ok.ensures.bytes in
    IfErr-weaker c.go_on_behind.result _ _ (λ fault h. inr (c.args.lines.now, _, h.0, _, refl, began, h.1)) c.go_on_behind.ensures.cause

pub returns-in-Err-clause-cause : goal.returns-in-Err-clause-cause
returns-in-Err-clause-cause g c =
    inl (refl, refl, subst (λ k. AppendsPart (g.V.Sink.held c.args.log.now) (g.V.Sink.held c.write_beginning.new.log) (begin_text k)) c.as_slice.ensures.value c.in-Err.ensures.bytes)
