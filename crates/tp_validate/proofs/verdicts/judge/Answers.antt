use Rattle.std.proofs.Common.{sym, ◌∙◌, subst}
use Rattle.std.proofs.lemmas.Result.{MatchResult-from_err, err_from_is_err_and}
use Rattle.tp_happen.specs.Fault.{OnRange}
use Rattle.tp_happen.proofs.Answered.{on_range, on_range_weaker}
use Rattle.tp_validate.specs.OfTask.{plan_of}
use Rattle.tp_validate.specs.Verdict.{PassesIn}
use Rattle.tp_validate.specs.Reached.{IsRan}
use Rattle.tp_validate.proofs.Judging.{first_fault, run_range, sound, goal_fault, goal_range}
use Rattle.tp_validate.proofs.verdicts.judge.Goals as goal

pub returns-in_err-tick-clause-range : goal.returns-in_err-tick-clause-range
returns-in_err-tick-clause-range c =
    let p = err_from_is_err_and c.from_residual.result c.from_residual.ensures.1 in
    rw (p.1, p.2) (on_range_weaker c.in_err-tick.field-0.0 _ _ (λ h. run_range c.args.task.now c.args.steps.now h) c.in_err-tick.ensures.range)

pub returns-in-Faulty-clause-ok : goal.returns-in-Faulty-clause-ok
returns-in-Faulty-clause-ok c =
    first_fault c.args.task.now c.args.steps.now c.in-Faulty.tick c.in-Faulty.why
    (subst (λ r. IsRan c.args.task.now (plan_of c.args.task.now c.args.steps.now) r) c.in-Faulty.is c.in_ok-tick.ensures.ran)

pub returns-in_err-holds-in-Done-clause-range : goal.returns-in_err-holds-in-Done-clause-range
returns-in_err-holds-in-Done-clause-range c =
    let d = subst (λ r. IsRan c.args.task.now (plan_of c.args.task.now c.args.steps.now) r) c.in-Done.is c.in_ok-tick.ensures.ran in
    MatchResult-from_err c.from_residual-in_err-holds-in-Done.result (λ _. Unit {0}) (λ e. OnRange e (PassesIn c.args.task.now c.args.steps.now)) c.from_residual-in_err-holds-in-Done.ensures.0
    (λ e. on_range e _ (goal_range c.args.task.now c.args.steps.now c.in-Done.from c.in-Done.state d.0 d.1 c.in_err-holds-in-Done.ensures.err))

pub returns-then-branch-clause-ok : goal.returns-then-branch-clause-ok
returns-then-branch-clause-ok c =
    let d = subst (λ r. IsRan c.args.task.now (plan_of c.args.task.now c.args.steps.now) r) c.in-Done.is c.in_ok-tick.ensures.ran in
    sound c.args.task.now c.args.steps.now c.in-Done.from c.in-Done.state d.0 d.1 (sym c.in_ok-holds-in-Done.ensures.ok ∙ c.if-branch.true)

pub returns-clause-ok : goal.returns-clause-ok
returns-clause-ok c =
    let d = subst (λ r. IsRan c.args.task.now (plan_of c.args.task.now c.args.steps.now) r) c.in-Done.is c.in_ok-tick.ensures.ran in
    goal_fault c.args.task.now c.args.steps.now c.in-Done.from c.in-Done.state d.0 d.1 c.saturating_sub.result c.saturating_sub.ensures (sym c.in_ok-holds-in-Done.ensures.ok ∙ c.if-branch.false)
