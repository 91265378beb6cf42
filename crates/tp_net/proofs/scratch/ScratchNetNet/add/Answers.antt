use Rattle.std.proofs.Common.{◌≡◌, ℕ, ◌++◌, ◌∷◌, [], None, List, sym, subst, ap, ◌∙◌, length, map}
use Rattle.std.specs.FinMap.{get}
use Rattle.tp_bounds.specs.Setting.{Setting, HasPoint}
use Rattle.tp_bounds.specs.declared.Edge.TheVariants.{New}
use Rattle.tp_bounds.specs.Changes.{with_bound}
use Rattle.tp_bounds.specs.Schedule.{HasSchedule}
use Rattle.tp_net.specs.Moments.{IsAdded, CycleBeginsWith, AreExact}
use Rattle.tp_net.specs.Arcs.{arc_of, name_at}
use Rattle.tp_net.proofs.KeptMoments.{kept_small_low, kept_small_high, kept_weights, kept_among, cycle_named, refused_add, kept_added, kept_possible}
use Rattle.tp_net.proofs.Inside.{setting_in}
use Rattle.tp_net.proofs.scratch.ScratchNetNet.add.Goals as goal

pub add-requires-clause-small_low : goal.add-requires-clause-small_low
add-requires-clause-small_low c = simp c.deref-2.ensures.value (kept_small_low _ _ _ _ _ c.self.invariant)

pub add-requires-clause-small_high : goal.add-requires-clause-small_high
add-requires-clause-small_high c = simp c.deref-3.ensures.value (kept_small_high _ _ _ _ _ c.self.invariant)

pub add-requires-clause-weights : goal.add-requires-clause-weights
add-requires-clause-weights c = simp c.deref.ensures.value (kept_weights _ _ _ _ _ c.self.invariant)

pub add-requires-clause-among : goal.add-requires-clause-among
add-requires-clause-among c = simp (c.deref.ensures.value, c.deref-2.ensures.value) (kept_among _ _ _ _ _ c.self.invariant)

pub named-requires : goal.named-requires
named-requires c =
    let h0 = subst (λ r. IsAdded c.deref.result.now c.arc-new.result (length c.deref-2.result.now) r) c.in-Refused.is c.in_ok-cycle.ensures in
    let h : CycleBeginsWith (c.self.inside.arcs.items ++ arc_of c.args.bound ∷ []) (length c.self.inside.arcs.items) c.in-Refused.cycle.items = simp (c.deref.ensures.value, c.arc-new.ensures) at h0 in
    simp (c.deref-in-Refused.ensures.value, c.deref-in-Refused-2.ensures.value)
    (cycle_named c.self.inside.names.items c.self.inside.arcs.items (arc_of c.args.bound) c.in-Refused.cycle.items c.self.invariant.listed.len h)

pub returns-in_ok-reason-in-Refused-clause-exact : goal.returns-in_ok-reason-in-Refused-clause-exact
returns-in_ok-reason-in-Refused-clause-exact c =
    let s : Setting = setting_in c.self.inside in
    let k = c.self.invariant in
    let h0 = subst (λ r. IsAdded c.deref.result.now c.arc-new.result (length c.deref-2.result.now) r) c.in-Refused.is c.in_ok-cycle.ensures in
    let h : CycleBeginsWith (c.self.inside.arcs.items ++ arc_of c.args.bound ∷ []) (length c.self.inside.arcs.items) c.in-Refused.cycle.items = simp (c.deref.ensures.value, c.arc-new.ensures) at h0 in
    let is : c.in_ok-reason-in-Refused.reason.edges.items ≡ map (name_at (c.self.inside.names.items ++ New ∷ [])) c.in-Refused.cycle.items =
    simp (c.deref-in-Refused.ensures.value, c.deref-in-Refused-2.ensures.value) at c.in_ok-reason-in-Refused.ensures in
    let none : get s.bounds c.args.id.0 ≡ None = subst (λ (t : Setting). get t.bounds c.args.id.0 ≡ None) (sym c.self.view_is) c.requires.unused in
    rw (← c.self.view_is)
    (refused_add s c.self.inside.names.items c.self.inside.arcs.items c.self.inside.low.items c.self.inside.high.items c.args.id.0 c.args.bound c.in_ok-reason-in-Refused.reason.edges.items k none (c.in-Refused.cycle.items, h, is))

pub invariant_of-self-in-Both : goal.invariant_of-self-in-Both
invariant_of-self-in-Both c =
    let s : Setting = setting_in c.self.inside in
    let k = c.self.invariant in
    let h0 = subst (λ r. IsAdded c.deref.result.now c.arc-new.result (length c.deref-2.result.now) r) c.in-Both.is c.in_ok-cycle.ensures in
    let exact : AreExact (c.self.inside.arcs.items ++ arc_of c.args.bound ∷ []) c.in-Both.low.items c.in-Both.high.items = simp (c.deref.ensures.value, c.arc-new.ensures) at h0.1 in
    let len : length c.in-Both.low.items ≡ length c.self.inside.low.items = h0.0 ∙ ap (λ (xs : List ℕ). length xs) c.deref-2.ensures.value in
    let none : get s.bounds c.args.id.0 ≡ None = subst (λ (t : Setting). get t.bounds c.args.id.0 ≡ None) (sym c.self.view_is) c.requires.unused in
    let from : HasPoint s c.args.bound.from = subst (λ t. HasPoint t c.args.bound.from) (sym c.self.view_is) c.requires.from in
    let to : HasPoint s c.args.bound.to = subst (λ t. HasPoint t c.args.bound.to) (sym c.self.view_is) c.requires.to in
    rw (c.in_ok-enter-in-Both.ensures.bounds, c.in_ok-enter-in-Both.ensures.names, c.in_ok-enter-in-Both.ensures.arcs, c.arc-new.ensures)
    (kept_added s c.self.inside.names.items c.self.inside.arcs.items c.self.inside.low.items c.self.inside.high.items c.args.id c.args.bound c.in-Both.low.items c.in-Both.high.items k none from to c.requires.weight len exact)

pub returns-in_ok-enter-in-Both-clause-exact : goal.returns-in_ok-enter-in-Both-clause-exact
returns-in_ok-enter-in-Both-clause-exact c =
    let s : Setting = setting_in c.self.inside in
    let k = c.self.invariant in
    let h0 = subst (λ r. IsAdded c.deref.result.now c.arc-new.result (length c.deref-2.result.now) r) c.in-Both.is c.in_ok-cycle.ensures in
    let exact : AreExact (c.self.inside.arcs.items ++ arc_of c.args.bound ∷ []) c.in-Both.low.items c.in-Both.high.items = simp (c.deref.ensures.value, c.arc-new.ensures) at h0.1 in
    let len : length c.in-Both.low.items ≡ length c.self.inside.low.items = h0.0 ∙ ap (λ (xs : List ℕ). length xs) c.deref-2.ensures.value in
    let none : get s.bounds c.args.id.0 ≡ None = subst (λ (t : Setting). get t.bounds c.args.id.0 ≡ None) (sym c.self.view_is) c.requires.unused in
    let from : HasPoint s c.args.bound.from = subst (λ t. HasPoint t c.args.bound.from) (sym c.self.view_is) c.requires.from in
    let to : HasPoint s c.args.bound.to = subst (λ t. HasPoint t c.args.bound.to) (sym c.self.view_is) c.requires.to in
    subst (λ t. HasSchedule (with_bound t c.args.id.0 c.args.bound)) c.self.view_is (kept_possible _ _ _ _ _ (kept_added s c.self.inside.names.items c.self.inside.arcs.items c.self.inside.low.items c.self.inside.high.items c.args.id c.args.bound c.in-Both.low.items c.in-Both.high.items k none from to c.requires.weight len exact))
