use Rattle.std.proofs.Common.{◌≡◌, ℕ, ◌≤◌, true, nat_lt, List, length, inr, sym, ap, ap₂, ◌∙◌, subst, arith}
use Rattle.std.specs.List.{list_all}
use Rattle.tp_bounds.specs.declared.Bound.{Bound}
use Rattle.tp_task.specs.Valid.{Planned, Placed, events}
use Rattle.tp_task.specs.Verdict.{states, last_moment}
use Rattle.tp_validate.specs.OfTask.{scale_of, begin, plan_of}
use Rattle.tp_validate.proofs.Planning.{ends, steps_of}
use Rattle.tp_deorder.specs.Answers.{AreSound, IsNetOf}
use Rattle.tp_deorder.specs.Inequalities.{event_count_of, bound_count}
use Rattle.tp_deorder.specs.Kept.{net_bounds}
use Rattle.tp_deorder.proofs.OnNets.{net_of, ok_weaker, always_ok, not_past, not_more, counted}
use Rattle.tp_deorder.proofs.OnSteps.{weaker_err}
use Rattle.tp_deorder.proofs.deordering.bounds_within.Goals as goal

pub placed_events-requires-clause-few : goal.placed_events-requires-clause-few
placed_events-requires-clause-few c =
    subst (λ (ps : List Planned). length ps ≤ 512) (sym (c.deref.ensures.value ∙ c.in_ok-planned.ensures)) (steps_of c.args.task.now c.args.steps.now c.requires.plan).few

pub placed_events-requires-clause-ends : goal.placed_events-requires-clause-ends
placed_events-requires-clause-ends c =
    subst (λ (ps : List Planned). list_all ends ps ≡ true) (sym (c.deref.ensures.value ∙ c.in_ok-planned.ensures)) (steps_of c.args.task.now c.args.steps.now c.requires.plan).ends

pub bounds_of-requires : goal.bounds_of-requires
bounds_of-requires c =
    let t = c.args.task.now in
    subst (λ (ps : List Planned). AreSound t ps) (sym (c.deref-3.ensures.value ∙ c.in_ok-planned.ensures))
    (record { known = steps_of t c.args.steps.now c.requires.plan; clear = c.requires.sound.clear; small = c.requires.sound.small })

pub returns-clause-bounds : goal.returns-clause-bounds
returns-clause-bounds c =
    let t = c.args.task.now in
    let same = ap₂ (λ (k : ℕ) (ps : List Planned). net_bounds k (scale_of t) (states (scale_of t) (begin t) (events ps)) ps) c.horizon.ensures.horizon (c.deref-3.ensures.value ∙ c.in_ok-planned.ensures) in
    ok_weaker c.bounds_of.result _ _ (λ v q. q ∙ same) c.bounds_of.ensures.ok

pub returns-clause-net : goal.returns-clause-net
returns-clause-net c =
    let t = c.args.task.now in
    let h = c.args.limits.now.horizon in
    let es = c.deref-2.result.now in
    let same = ap₂ (λ (k : ℕ) (ps : List Planned). net_bounds k (scale_of t) (states (scale_of t) (begin t) (events ps)) ps) c.horizon.ensures.horizon (c.deref-3.ensures.value ∙ c.in_ok-planned.ensures) in
    let within : last_moment (events (plan_of t c.args.steps.now)) ≤ h =
    subst (λ (xs : List Placed). last_moment xs ≤ h) (c.deref-2.ensures.value ∙ (c.in_ok-events.ensures ∙ ap events (c.deref.ensures.value ∙ c.in_ok-planned.ensures)))
    (not_past (nat_lt c.args.limits.now.events (length es)) h (last_moment es) (sym c.passes.ensures ∙ c.if-passes.false)) in
    ok_weaker c.bounds_of.result _ _
    (λ v q. subst (λ (bs : List Bound). IsNetOf t c.args.steps.now h bs) (sym (q ∙ same)) (net_of t c.args.steps.now h c.requires.sound within)) c.bounds_of.ensures.ok

pub returns-clause-events : goal.returns-clause-events
returns-clause-events c =
    let plan = plan_of c.args.task.now c.args.steps.now in
    let es = c.deref-2.result.now in
    let same : es ≡ events plan = c.deref-2.ensures.value ∙ (c.in_ok-events.ensures ∙ ap events (c.deref.ensures.value ∙ c.in_ok-planned.ensures)) in
    let few : event_count_of plan ≤ c.args.limits.now.events =
    subst (λ (n : ℕ). n ≤ c.args.limits.now.events) (ap length same ∙ counted 0 plan)
    (not_more (nat_lt c.args.limits.now.horizon (last_moment es)) c.args.limits.now.events (length es) (sym c.passes.ensures ∙ c.if-passes.false)) in
    always_ok c.bounds_of.result _ few

pub returns-clause-err : goal.returns-clause-err
returns-clause-err c =
    let t = c.args.task.now in
    let plan = c.deref-3.ensures.value ∙ c.in_ok-planned.ensures in
    let same = ap₂ (λ (k : ℕ) (ps : List Planned). net_bounds k (scale_of t) (states (scale_of t) (begin t) (events ps)) ps) c.horizon.ensures.horizon plan in
    weaker_err c.bounds_of.result _ _
    (λ h. inr (inr (let q = ap (λ (bs : List Bound). length bs) same in omega (arith, h.0, q, c.bounds.ensures), let n = ap bound_count plan in omega (arith, h.1, n, c.bounds.ensures)))) c.bounds_of.ensures.err
