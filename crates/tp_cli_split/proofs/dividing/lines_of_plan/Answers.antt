use Rattle.std.proofs.Common.{subst}
use Rattle.std.proofs.lemmas.Result.{IfErr-weaker, IfOk-weaker}
use Rattle.tp_bounds.specs.RunLimits.{RunLimits}
use Rattle.tp_deorder.specs.Answers.{IsPlanNetOf}
use Rattle.tp_cli_split.proofs.SplitLemmas.{dividing_stops}
use Rattle.tp_cli_split.proofs.dividing.lines_of_plan.Goals as goal

pub returns-in-Ok-clause-lines : goal.returns-in-Ok-clause-lines
returns-in-Ok-clause-lines g c =
    IfOk-weaker c.lines_of_net.result _ _ (λ text h. record { net = c.in-Ok.network; is_net = subst (λ (l : RunLimits). IsPlanNetOf c.args.plan.now.task c.args.plan.now.steps l c.in-Ok.network) c.greatest.ensures c.in-Ok.ensures.net; divides = h }) c.lines_of_net.ensures.lines

pub returns-in-Ok-clause-cause : goal.returns-in-Ok-clause-cause
returns-in-Ok-clause-cause g c =
    IfErr-weaker c.lines_of_net.result _ _ (λ stop h. dividing_stops c.args.plan.now.task c.args.plan.now.steps c.args.horizon c.in-Ok.network (subst (λ (l : RunLimits). IsPlanNetOf c.args.plan.now.task c.args.plan.now.steps l c.in-Ok.network) c.greatest.ensures c.in-Ok.ensures.net) (g.N.Files.held c.args.files.now c.args.owners.now) c.args.agent stop h) c.lines_of_net.ensures.cause
