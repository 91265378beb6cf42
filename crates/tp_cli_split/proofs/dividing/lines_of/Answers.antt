use Rattle.std.proofs.lemmas.Result.{IfErr-weaker, IfOk-weaker}
use Rattle.tp_cli_split.proofs.SplitLemmas.{among_stops, misread_stops}
use Rattle.tp_cli_split.proofs.dividing.lines_of.Goals as goal

pub returns-in-Ok-clause-lines : goal.returns-in-Ok-clause-lines
returns-in-Ok-clause-lines g c =
    IfOk-weaker c.lines_among.result _ _ (λ text h. (c.in-Ok.numbers, c.in-Ok.ensures.spelled, h)) c.lines_among.ensures.lines

pub returns-in-Ok-clause-cause : goal.returns-in-Ok-clause-cause
returns-in-Ok-clause-cause g c =
    IfErr-weaker c.lines_among.result _ _ (λ stop h. among_stops c.args.agent c.args.setting.now (g.N.Files.held c.args.files.now c.args.owners.now) c.in-Ok.numbers stop c.in-Ok.ensures.spelled h) c.lines_among.ensures.cause

pub returns-in-Err-clause-cause : goal.returns-in-Err-clause-cause
returns-in-Err-clause-cause g c =
    misread_stops c.args.agent c.args.setting.now (g.N.Files.held c.args.files.now c.args.owners.now) c.in-Err.stop c.in-Err.ensures.cause
