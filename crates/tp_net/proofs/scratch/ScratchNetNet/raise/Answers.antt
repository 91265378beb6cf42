use Rattle.std.proofs.Common.{◌≡◌, ℕ, ◌+◌, ◌≤◌, List, sym, subst, ap, ◌∙◌, arith, length}
use Rattle.tp_bounds.specs.Setting.{Setting}
use Rattle.tp_bounds.specs.declared.Edge.TheVariants.{Now}
use Rattle.tp_bounds.specs.Changes.{at_moment}
use Rattle.tp_bounds.specs.Reasons.{at_least}
use Rattle.tp_bounds.specs.Schedule.{HasSchedule}
use Rattle.tp_net.specs.Moments.{AreExact}
use Rattle.tp_net.specs.Arcs.{floor_at, AreRaised, AllWait, CannotWait, NamesCycle, arc_of}
use Rattle.tp_net.proofs.KeptMoments.{kept_possible}
use Rattle.tp_net.proofs.Raises.{at_same, contrary_raise, refused_raise, start_raised, kept_raised}
use Rattle.tp_net.proofs.Inside.{setting_in}
use Rattle.tp_net.proofs.scratch.ScratchNetNet.raise.Goals as goal

pub returns-then-now-self-clause-exact : goal.returns-then-now-self-clause-exact
returns-then-now-self-clause-exact c =
    let still : c.args.now ≡ c.args.self.now.clock = c.if-now-self.true ∙ ap (λ (s : Setting). s.clock) c.self.view_is in
    subst HasSchedule (sym (at_same c.args.self.now c.args.now still)) (subst HasSchedule c.self.view_is (kept_possible _ _ _ _ _ c.self.invariant))

pub refutation-requires : goal.refutation-requires
refutation-requires c =
    let s : Setting = setting_in c.self.inside in
    let k = c.self.invariant in
    let soon : c.args.now ≤ c.self.inside.horizon = subst (λ (t : Setting). c.args.now ≤ t.horizon) (sym c.self.view_is) c.requires.in_time in
    let late : CannotWait c.self.inside.fixed.items c.self.inside.high.items c.self.inside.lags.items c.args.now c.in-Some.e = simp (c.deref.ensures.value, c.deref-2.ensures.value, c.deref-3.ensures.value) at c.in-Some.ensures in
    simp (c.deref-in-Some-2.ensures.value, c.deref-in-Some-3.ensures.value, c.deref-in-Some-4.ensures.value, c.start_arc-new.ensures, c.floor.ensures, c.deref-in-Some.ensures.value)
    (contrary_raise s c.self.inside.names.items c.self.inside.arcs.items c.self.inside.low.items c.self.inside.high.items c.args.now c.in-Some.e k soon late)

pub returns-in-Some-clause-exact : goal.returns-in-Some-clause-exact
returns-in-Some-clause-exact c =
    let s : Setting = setting_in c.self.inside in
    let k = c.self.invariant in
    let late : CannotWait c.self.inside.fixed.items c.self.inside.high.items c.self.inside.lags.items c.args.now c.in-Some.e = simp (c.deref.ensures.value, c.deref-2.ensures.value, c.deref-3.ensures.value) at c.in-Some.ensures in
    let forward : c.self.inside.clock ≤ c.args.now = subst (λ (t : Setting). t.clock ≤ c.args.now) (sym c.self.view_is) c.requires.forward in
    let h : NamesCycle c.self.inside.names.items c.self.inside.arcs.items (Now c.in-Some.e) (arc_of (at_least c.in-Some.e (floor_at c.args.now c.self.inside.lags.items c.in-Some.e))) c.in_ok-reason.reason.edges.items =
    simp (c.deref-in-Some-2.ensures.value, c.deref-in-Some-3.ensures.value, c.start_arc-new.ensures, c.floor.ensures, c.deref-in-Some.ensures.value) at c.in_ok-reason.ensures in
    rw (← c.self.view_is) (refused_raise s c.self.inside.names.items c.self.inside.arcs.items c.self.inside.low.items c.self.inside.high.items c.args.now c.in-Some.e c.in_ok-reason.reason.edges.items k forward late h)

pub solve-requires-clause-start : goal.solve-requires-clause-start
solve-requires-clause-start c =
    let s : Setting = setting_in c.self.inside in
    let k = c.self.invariant in
    let soon : c.args.now ≤ c.self.inside.horizon = subst (λ (t : Setting). c.args.now ≤ t.horizon) (sym c.self.view_is) c.requires.in_time in
    let r : AreRaised c.args.now c.self.inside.lags.items c.self.inside.names.items c.self.inside.arcs.items c.in_ok-arcs.arcs.items =
    simp (c.deref-4.ensures.value, c.deref-5.ensures.value, c.deref-6.ensures.value) at c.in_ok-arcs.ensures in
    let wait : AllWait c.self.inside.fixed.items c.self.inside.high.items c.self.inside.lags.items c.args.now = simp (c.deref.ensures.value, c.deref-2.ensures.value, c.deref-3.ensures.value) at c.in_default.ensures in
    simp (c.deref-7.ensures.value, c.deref-8.ensures.value)
    (start_raised s c.self.inside.names.items c.self.inside.arcs.items c.self.inside.low.items c.self.inside.high.items c.args.now c.in_ok-arcs.arcs.items k r soon (c.from.result + 1) wait (omega (arith, c.from.ensures)))

pub invariant_of-self : goal.invariant_of-self
invariant_of-self c =
    let s : Setting = setting_in c.self.inside in
    let k = c.self.invariant in
    let soon : c.args.now ≤ c.self.inside.horizon = subst (λ (t : Setting). c.args.now ≤ t.horizon) (sym c.self.view_is) c.requires.in_time in
    let r : AreRaised c.args.now c.self.inside.lags.items c.self.inside.names.items c.self.inside.arcs.items c.in_ok-arcs.arcs.items =
    simp (c.deref-4.ensures.value, c.deref-5.ensures.value, c.deref-6.ensures.value) at c.in_ok-arcs.ensures in
    let exact : AreExact c.in_ok-arcs.arcs.items c.in_ok-low.low.items c.in_ok-low.high.items = simp c.deref-7.ensures.value at c.in_ok-low.ensures.exact in
    let len : length c.in_ok-low.low.items ≡ length c.self.inside.high.items = c.in_ok-low.ensures.len ∙ ap (λ (xs : List ℕ). length xs) c.deref-8.ensures.value in
    kept_raised s c.self.inside.names.items c.self.inside.arcs.items c.self.inside.low.items c.self.inside.high.items c.args.now c.in_ok-arcs.arcs.items k r soon c.in_ok-low.low.items c.in_ok-low.high.items len exact

pub returns-clause-exact : goal.returns-clause-exact
returns-clause-exact c =
    let s : Setting = setting_in c.self.inside in
    let k = c.self.invariant in
    let soon : c.args.now ≤ c.self.inside.horizon = subst (λ (t : Setting). c.args.now ≤ t.horizon) (sym c.self.view_is) c.requires.in_time in
    let r : AreRaised c.args.now c.self.inside.lags.items c.self.inside.names.items c.self.inside.arcs.items c.in_ok-arcs.arcs.items =
    simp (c.deref-4.ensures.value, c.deref-5.ensures.value, c.deref-6.ensures.value) at c.in_ok-arcs.ensures in
    let exact : AreExact c.in_ok-arcs.arcs.items c.in_ok-low.low.items c.in_ok-low.high.items = simp c.deref-7.ensures.value at c.in_ok-low.ensures.exact in
    let len : length c.in_ok-low.low.items ≡ length c.self.inside.high.items = c.in_ok-low.ensures.len ∙ ap (λ (xs : List ℕ). length xs) c.deref-8.ensures.value in
    subst (λ t. HasSchedule (at_moment t c.args.now)) c.self.view_is
    (kept_possible _ _ _ _ _ (kept_raised s c.self.inside.names.items c.self.inside.arcs.items c.self.inside.low.items c.self.inside.high.items c.args.now c.in_ok-arcs.arcs.items k r soon c.in_ok-low.low.items c.in_ok-low.high.items len exact))
