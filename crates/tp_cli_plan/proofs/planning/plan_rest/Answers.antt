use Rattle.std.proofs.Common.{ℕ, List, Option, subst}
use Rattle.std.specs.Prelude.{IfErr, IfOk}
use Rattle.tp_cli_plan.specs.Parts.{IsPart}
use Rattle.tp_cli_plan.specs.SearchStops.{StopsSearch}
use Rattle.tp_cli_plan.specs.Searches.{Searches}
use Rattle.tp_cli_plan.specs.declared.planning.Part.{Part}
use Rattle.tp_cli_plan.proofs.planning.plan_rest.Goals as goal

pub returns-in-Answered-clause-said : goal.returns-in-Answered-clause-said
returns-in-Answered-clause-said g c =
    λ held before are is. subst (λ (x : Part). IsPart held c.args.words before (g.O.Sink.held c.args.output.now) x) c.in-Answered.is is

pub returns-in-Spent-clause-said : goal.returns-in-Spent-clause-said
returns-in-Spent-clause-said g c =
    λ held before are is.
    subst (λ (x : Option (List ℕ)). IfOk c.plan_reached.result (Searches held c.args.words x (g.O.Sink.held c.plan_reached.new.output)))
    (subst (λ (x : Part). IsPart held c.args.words before (g.O.Sink.held c.args.output.now) x) c.in-Spent.is is)
    (c.plan_reached.ensures.said held are)

pub returns-in-Spent-clause-cause : goal.returns-in-Spent-clause-cause
returns-in-Spent-clause-cause g c =
    λ held before are is.
    subst (λ (x : Option (List ℕ)). IfErr c.plan_reached.result (StopsSearch held c.args.words x (g.O.Sink.held c.plan_reached.new.output)))
    (subst (λ (x : Part). IsPart held c.args.words before (g.O.Sink.held c.args.output.now) x) c.in-Spent.is is)
    (c.plan_reached.ensures.cause held are)

pub returns-in-NoTask-clause-said : goal.returns-in-NoTask-clause-said
returns-in-NoTask-clause-said g c =
    λ held before are is.
    subst (λ (x : Option (List ℕ)). IfOk c.plan_reached-in-NoTask.result (Searches held c.args.words x (g.O.Sink.held c.plan_reached-in-NoTask.new.output)))
    (subst (λ (x : Part). IsPart held c.args.words before (g.O.Sink.held c.args.output.now) x) c.in-NoTask.is is)
    (c.plan_reached-in-NoTask.ensures.said held are)

pub returns-in-NoTask-clause-cause : goal.returns-in-NoTask-clause-cause
returns-in-NoTask-clause-cause g c =
    λ held before are is.
    subst (λ (x : Option (List ℕ)). IfErr c.plan_reached-in-NoTask.result (StopsSearch held c.args.words x (g.O.Sink.held c.plan_reached-in-NoTask.new.output)))
    (subst (λ (x : Part). IsPart held c.args.words before (g.O.Sink.held c.args.output.now) x) c.in-NoTask.is is)
    (c.plan_reached-in-NoTask.ensures.cause held are)
