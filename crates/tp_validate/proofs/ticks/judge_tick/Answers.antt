use Rattle.std.proofs.Common.{◌≡◌, Some, None, List, refl, sym, ap, ◌∙◌, subst}
use Rattle.std.proofs.lemmas.Result.{MatchResult-from_err}
use Rattle.tp_task.specs.Happens.{EventOfStep, Happens}
use Rattle.tp_task.specs.Valid.{Placed, events}
use Rattle.tp_happen.specs.Stored.{state_of, OfOneTask}
use Rattle.tp_happen.specs.Bounded.{StaysSmall}
use Rattle.tp_happen.specs.Fault.{Applies, OnNext, OnRange, fault_of}
use Rattle.tp_happen.proofs.Answered.{on_range}
use Rattle.tp_validate.specs.Places.{numbers}
use Rattle.tp_validate.specs.Tick.{renumbered, PassesAt}
use Rattle.tp_validate.proofs.Numbers.{numbered, times}
use Rattle.tp_validate.proofs.OneMoment.{failing, is_after, going_on, constraint_range, invariant_range}
use Rattle.tp_validate.proofs.ticks.judge_tick.Goals as goal

pub returns-in_err-step-clause-range : goal.returns-in_err-step-clause-range
returns-in_err-step-clause-range c =
    let s = c.args.state.now in
    MatchResult-from_err c.from_residual.result (λ _. Unit {0}) (λ e. OnRange e (PassesAt s.scale (state_of s) c.args.moment c.args.steps.now (events c.args.steps.now))) c.from_residual.ensures.0
    (λ e. on_range e _ (constraint_range s.scale (state_of s) c.args.moment c.args.steps.now (events c.args.steps.now) refl c.in_err-step.ensures.err))

pub returns-in-Fails-clause-found : goal.returns-in-Fails-clause-found
returns-in-Fails-clause-found c =
    let s = c.args.state.now in
    failing s.scale (state_of s) c.args.moment c.args.steps.now (events c.args.steps.now)
    (numbered 0 c.args.steps.now)
    (sym c.in_default.is ∙ c.in_ok-step.ensures.ok) c.in-Fails.place c.in-Fails.why
    (subst (λ (ts : List EventOfStep). fault_of s.scale (state_of s) ts ≡ Some (c.in-Fails.place, c.in-Fails.why)) (c.deref.ensures.value ∙ (c.in_ok-happening.ensures ∙ ap times c.requires.there))
    (subst (λ o. Applies s c.deref.result.now o) c.in-Fails.is c.in_ok-place.ensures.ok))
    ∙ (ap (λ (fs : List Placed). Some (renumbered (numbers fs) c.in-Fails.place c.in-Fails.why)) (sym c.requires.there) ∙ ap (λ z. Some z) (sym c.named.ensures))

pub returns-in_err-step-in-Next-clause-range : goal.returns-in_err-step-in-Next-clause-range
returns-in_err-step-in-Next-clause-range c =
    let s = c.args.state.now in
    let happened : Happens s.scale (state_of s) c.deref.result.now (state_of c.in-Next.next) = subst (λ o. Applies s c.deref.result.now o) c.in-Next.is c.in_ok-place.ensures.ok in
    let h = subst (λ (ts : List EventOfStep). Happens s.scale (state_of s) ts (state_of c.in-Next.next)) (c.deref.ensures.value ∙ (c.in_ok-happening.ensures ∙ ap times c.requires.there)) happened in
    MatchResult-from_err c.from_residual-in_err-step-in-Next.result (λ _. Unit {0}) (λ e. OnRange e (PassesAt s.scale (state_of s) c.args.moment c.args.steps.now (events c.args.steps.now))) c.from_residual-in_err-step-in-Next.ensures.0
    (λ e. on_range e _ (invariant_range s.scale (state_of s) c.args.moment c.args.steps.now (events c.args.steps.now) (state_of c.in-Next.next) h c.in_err-step-in-Next.ensures.err))

pub returns-in-Some-2-clause-found : goal.returns-in-Some-2-clause-found
returns-in-Some-2-clause-found c =
    let s = c.args.state.now in
    going_on s.scale (state_of s) c.args.moment c.args.steps.now (events c.args.steps.now)
    (numbered 0 c.args.steps.now)
    (sym c.in_default.is ∙ c.in_ok-step.ensures.ok) (state_of c.in-Next.next)
    (subst (λ (ts : List EventOfStep). Happens s.scale (state_of s) ts (state_of c.in-Next.next)) (c.deref.ensures.value ∙ (c.in_ok-happening.ensures ∙ ap times c.requires.there))
    (subst (λ o. Applies s c.deref.result.now o) c.in-Next.is c.in_ok-place.ensures.ok))
    (Some c.in-Some-2.step) (sym c.in-Some-2.is ∙ c.in_ok-step-in-Next.ensures.ok)

pub returns-clause-found : goal.returns-clause-found
returns-clause-found c =
    let s = c.args.state.now in
    let there = c.deref.ensures.value ∙ (c.in_ok-happening.ensures ∙ ap times c.requires.there) in
    let happened : Happens s.scale (state_of s) c.deref.result.now (state_of c.in-Next.next) = subst (λ o. Applies s c.deref.result.now o) c.in-Next.is c.in_ok-place.ensures.ok in
    let h = subst (λ (ts : List EventOfStep). Happens s.scale (state_of s) ts (state_of c.in-Next.next)) there happened in
    record {
      clear = going_on s.scale (state_of s) c.args.moment c.args.steps.now (events c.args.steps.now)
          (numbered 0 c.args.steps.now)
          (sym c.in_default.is ∙ c.in_ok-step.ensures.ok) (state_of c.in-Next.next) h None (sym c.in-None.is ∙ c.in_ok-step-in-Next.ensures.ok);
      after = is_after s.scale (state_of s) c.args.moment c.args.steps.now (events c.args.steps.now) (state_of c.in-Next.next) h;
      task = subst (λ o. OnNext o (OfOneTask s)) c.in-Next.is c.in_ok-place.ensures.task;
      small = subst (λ (ts : List EventOfStep). StaysSmall s.scale (state_of s) ts) there (subst (λ o. OnNext o (λ _. StaysSmall s.scale (state_of s) c.deref.result.now)) c.in-Next.is c.in_ok-place.ensures.small);
    }
