use Rattle.std.proofs.Common.{inl, inr}
use Rattle.std.proofs.lemmas.Result.{IfErr-weaker, IfOk-weaker}
use Rattle.tp_cli_audit.proofs.bare_resume.take_old.Goals as goal

pub returns-in-Ok-clause-taken : goal.returns-in-Ok-clause-taken
returns-in-Ok-clause-taken g c =
    IfOk-weaker c.take_kept.result _ _ (λ t h. (c.in-Ok.kept.items, c.in-Ok.ensures.kept, h)) c.take_kept.ensures.taken

pub returns-in-Ok-clause-cause : goal.returns-in-Ok-clause-cause
returns-in-Ok-clause-cause g c =
    IfErr-weaker c.take_kept.result _ _ (λ stop h. inr (c.in-Ok.kept.items, c.in-Ok.ensures.kept, h)) c.take_kept.ensures.cause

pub returns-in-Err-clause-cause : goal.returns-in-Err-clause-cause
returns-in-Err-clause-cause g c = inl c.in-Err.ensures.cause
