use Rattle.std.proofs.Common.{subst, arith, rules}
use Rattle.std.proofs.lemmas.Result.{err_from_is_err_and}
use Rattle.tp_task.specs.Valid.{events}
use Rattle.tp_happen.proofs.Answered.{on_range_weaker}
use Rattle.tp_validate.specs.Found.{IsFound, told}
use Rattle.tp_validate.proofs.Planning.{last_ends}
use Rattle.tp_validate.proofs.Ordered.{turn_after, rest_after, within_after, all_done_after}
use Rattle.tp_validate.proofs.Runs.{before, fault_here, passes_here, fits_here, next}
use Rattle.tp_validate.proofs.verdicts.run.Goals as goal

pub judge_tick-requires-clause-there : goal.judge_tick-requires-clause-there
judge_tick-requires-clause-there c = (turn_after (events c.args.steps.now) c.loop-tick.from c.args.agenda.now c.loop-tick.done c.loop-tick.invariant.left c.in-Some.tick.moment c.in-Some.tick.there.now c.in-Some.ensures).found

pub judge_tick-requires-clause-fits : goal.judge_tick-requires-clause-fits
judge_tick-requires-clause-fits c =
    let t = turn_after (events c.args.steps.now) c.loop-tick.from c.args.agenda.now c.loop-tick.done c.loop-tick.invariant.left c.in-Some.tick.moment c.in-Some.tick.there.now c.in-Some.ensures in
    fits_here c.args.task.now c.args.steps.now c.loop-tick.from c.in-Some.tick.moment c.loop-tick.state c.loop-tick.invariant.reached t.onward t.covered c.requires.steps.fits

pub returns-in_err-why-clause-range : goal.returns-in_err-why-clause-range
returns-in_err-why-clause-range c =
    let t = turn_after (events c.args.steps.now) c.loop-tick.from c.args.agenda.now c.loop-tick.done c.loop-tick.invariant.left c.in-Some.tick.moment c.in-Some.tick.there.now c.in-Some.ensures in
    let p = err_from_is_err_and c.from_residual-in_err-why.result c.from_residual-in_err-why.ensures.1 in
    rw (p.1, p.2) (on_range_weaker c.in_err-why.field-0.0 _ _
    (λ h. passes_here c.args.task.now c.args.steps.now c.loop-tick.from c.in-Some.tick.moment c.loop-tick.state c.loop-tick.invariant.reached t.onward t.covered h)
    c.in_err-why.ensures.range)

pub returns-in-Faulty-clause-ran : goal.returns-in-Faulty-clause-ran
returns-in-Faulty-clause-ran c =
    let t = turn_after (events c.args.steps.now) c.loop-tick.from c.args.agenda.now c.loop-tick.done c.loop-tick.invariant.left c.in-Some.tick.moment c.in-Some.tick.there.now c.in-Some.ensures in (
      before c.args.task.now c.args.steps.now c.loop-tick.from c.in-Some.tick.moment c.loop-tick.state c.loop-tick.invariant.reached t.onward t.covered,
      fault_here c.args.task.now c.args.steps.now c.loop-tick.from c.in-Some.tick.moment c.loop-tick.state c.loop-tick.invariant.reached t.onward t.covered (told c.in-Faulty.why)
          (subst (λ j. IsFound c.loop-tick.state c.in-Some.tick.moment c.args.steps.now (events c.args.steps.now) j) c.in-Faulty.is c.in_ok-why.ensures.found),
    )

pub loop-tick-preserved : goal.loop-tick-preserved
loop-tick-preserved c =
    let t = turn_after (events c.args.steps.now) c.loop-tick.from c.args.agenda.now c.loop-tick.done c.loop-tick.invariant.left c.in-Some.tick.moment c.in-Some.tick.there.now c.in-Some.ensures in
    record {
      reached = next c.args.task.now c.args.steps.now c.loop-tick.from c.in-Some.tick.moment c.loop-tick.state c.loop-tick.invariant.reached t.onward t.covered c.in-Next.next t.last
          (subst (λ j. IsFound c.loop-tick.state c.in-Some.tick.moment c.args.steps.now (events c.args.steps.now) j) c.in-Next.is c.in_ok-why.ensures.found);
      left = rest_after (events c.args.steps.now) c.loop-tick.from c.args.agenda.now c.loop-tick.done c.loop-tick.invariant.left c.in-Some.tick.moment c.in-Some.tick.there.now t;
      within = within_after (events c.args.steps.now) c.loop-tick.from c.args.agenda.now c.loop-tick.done c.loop-tick.invariant.left c.in-Some.tick.moment c.in-Some.tick.there.now c.loop-tick.invariant.within t;
    }

pub overflow_add-from : goal.overflow_add-from
overflow_add-from c = let t = turn_after (events c.args.steps.now) c.loop-tick.from c.args.agenda.now c.loop-tick.done c.loop-tick.invariant.left c.in-Some.tick.moment c.in-Some.tick.there.now c.in-Some.ensures in let l = t.last in omega (arith, l, last_ends 0 c.args.steps.now c.requires.steps.ends)

pub loop-tick-smaller : goal.loop-tick-smaller
loop-tick-smaller c = let t = turn_after (events c.args.steps.now) c.loop-tick.from c.args.agenda.now c.loop-tick.done c.loop-tick.invariant.left c.in-Some.tick.moment c.in-Some.tick.there.now c.in-Some.ensures in let l = t.last in let o = t.onward in omega (arith, l, o, last_ends 0 c.args.steps.now c.requires.steps.ends)

pub returns-clause-ran : goal.returns-clause-ran
returns-clause-ran c = (c.loop-tick.invariant.reached, all_done_after (events c.args.steps.now) c.loop-tick.from c.args.agenda.now c.loop-tick.done c.loop-tick.invariant.left c.in_default.ensures)

pub loop-tick-init : goal.loop-tick-init
loop-tick-init c =
    record {
      reached = search rules;
      left = c.requires.agenda;
      within = omega arith;
    }
