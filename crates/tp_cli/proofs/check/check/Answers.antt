use Rattle.std.proofs.Common.{refl}
use Rattle.std.proofs.lemmas.Result.{IfErr-weaker, IfOk-weaker}
use Rattle.tp_cli.proofs.PlanLemmas.{says, stops_line}
use Rattle.tp_cli.proofs.check.check.Goals as goal

pub returns-in-Ok-clause-said : goal.returns-in-Ok-clause-said
returns-in-Ok-clause-said g c =
    IfOk-weaker c.tell.result _ _ (λ valid told. says (g.N.Files.held c.args.files.now) c.args.words c.in-Ok.judgement _ _ valid c.in-Ok.ensures.judged told) c.tell.ensures.said

pub returns-in-Ok-clause-cause : goal.returns-in-Ok-clause-cause
returns-in-Ok-clause-cause g c =
    IfErr-weaker c.tell.result _ _ (λ stop told. stops_line (g.N.Files.held c.args.files.now) c.args.words c.in-Ok.judgement _ _ stop c.in-Ok.ensures.judged told) c.tell.ensures.cause

pub returns-in-Err-clause-cause : goal.returns-in-Err-clause-cause
returns-in-Err-clause-cause g c = (c.in-Err.ensures.cause, refl)
