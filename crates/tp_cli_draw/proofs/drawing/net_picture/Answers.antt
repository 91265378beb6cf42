use Rattle.std.proofs.lemmas.Result.{IfErr-weaker}
use Rattle.tp_cli_draw.proofs.DrawLemmas.{memory_counts, memory_stops}
use Rattle.tp_cli_draw.proofs.drawing.net_picture.Goals as goal

pub returns-in-Ok-clause-cause : goal.returns-in-Ok-clause-cause
returns-in-Ok-clause-cause c = IfErr-weaker c.picture.result _ _ (λ stop h. memory_stops c.args.plan.now.task c.args.plan.now.steps stop h) c.picture.ensures

pub returns-in-Ok-clause-opened : goal.returns-in-Ok-clause-opened
returns-in-Ok-clause-opened c = λ n. memory_counts c.picture.result n c.picture.ensures
