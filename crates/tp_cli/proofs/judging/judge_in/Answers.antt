use Rattle.std.proofs.lemmas.Result.{IfErr-weaker, IfOk-weaker}
use Rattle.tp_cli_inputs.proofs.NamedLemmas.{unjudged}
use Rattle.tp_cli.proofs.judging.judge_in.Goals as goal

pub returns-in-Ok-clause-judged : goal.returns-in-Ok-clause-judged
returns-in-Ok-clause-judged g c =
    IfOk-weaker c.judge-judged.result _ _ (λ judgement h. record { task = c.in-Ok.named.task; steps = c.in-Ok.named.plan; named = c.in-Ok.ensures.named; judged = h }) c.judge-judged.ensures.judged

pub returns-in-Ok-clause-cause : goal.returns-in-Ok-clause-cause
returns-in-Ok-clause-cause g c =
    IfErr-weaker c.judge-judged.result _ _ (λ fault h. unjudged (g.N.Files.held c.args.files.now) c.args.words c.in-Ok.named.task c.in-Ok.named.plan fault c.in-Ok.ensures.named h) c.judge-judged.ensures.fault
