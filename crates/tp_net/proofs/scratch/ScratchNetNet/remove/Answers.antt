use Rattle.std.proofs.Common.{◌≡◌, ℕ, ◌+◌, List, subst, ap, ◌∙◌, arith, length}
use Rattle.tp_bounds.specs.Setting.{Setting}
use Rattle.tp_bounds.specs.Changes.{without_bound}
use Rattle.tp_bounds.specs.Schedule.{HasSchedule}
use Rattle.tp_net.specs.Moments.{AreExact}
use Rattle.tp_net.specs.Arcs.{AreArcs}
use Rattle.tp_bounds.proofs.HeldMaps.{held_removed}
use Rattle.tp_net.proofs.KeptMoments.{kept_possible}
use Rattle.tp_net.proofs.Removals.{start_removed, kept_removed}
use Rattle.tp_net.proofs.Inside.{setting_in}
use Rattle.tp_net.proofs.scratch.ScratchNetNet.remove.Goals as goal

pub solve-requires-clause-start : goal.solve-requires-clause-start
solve-requires-clause-start c =
    let s : Setting = setting_in c.self.inside in
    let k = c.self.invariant in
    let a : AreArcs (without_bound s c.args.id.0) c.in_ok-names.names.items c.in_ok-names.arcs.items = c.in_ok-names.ensures s (simp (c.deref.ensures.value, c.deref-2.ensures.value) k.listed) in
    simp (c.deref-3.ensures.value, c.deref-4.ensures.value)
    (start_removed s c.self.inside.names.items c.self.inside.arcs.items c.self.inside.low.items c.self.inside.high.items c.args.id.0 c.in_ok-names.names.items c.in_ok-names.arcs.items (c.from.result + 1) k a (omega (arith, c.from.ensures)))

pub invariant_of-self : goal.invariant_of-self
invariant_of-self c =
    let s : Setting = setting_in c.self.inside in
    let k = c.self.invariant in
    let a : AreArcs (without_bound s c.args.id.0) c.in_ok-names.names.items c.in_ok-names.arcs.items = c.in_ok-names.ensures s (simp (c.deref.ensures.value, c.deref-2.ensures.value) k.listed) in
    let exact : AreExact c.in_ok-names.arcs.items c.in_ok-low.low.items c.in_ok-low.high.items = simp c.deref-3.ensures.value at c.in_ok-low.ensures.exact in
    let len : length c.in_ok-low.low.items ≡ length c.self.inside.low.items = c.in_ok-low.ensures.len ∙ ap (λ (xs : List ℕ). length xs) c.deref-4.ensures.value in
    rw (held_removed c.self.inside.bounds c.remove-bound.new.self c.args.id.0 c.remove-bound.ensures.updates.0)
    (kept_removed s c.self.inside.names.items c.self.inside.arcs.items c.self.inside.low.items c.self.inside.high.items c.args.id.0 c.in_ok-names.names.items c.in_ok-names.arcs.items c.in_ok-low.low.items c.in_ok-low.high.items k a len exact)

pub returns-clause-ok : goal.returns-clause-ok
returns-clause-ok c = rw (held_removed c.self.inside.bounds c.remove-bound.new.self c.args.id.0 c.remove-bound.ensures.updates.0) (ap (λ s. without_bound s c.args.id.0) c.self.view_is)

pub returns-clause-possible : goal.returns-clause-possible
returns-clause-possible c =
    let s : Setting = setting_in c.self.inside in
    let k = c.self.invariant in
    let a : AreArcs (without_bound s c.args.id.0) c.in_ok-names.names.items c.in_ok-names.arcs.items = c.in_ok-names.ensures s (simp (c.deref.ensures.value, c.deref-2.ensures.value) k.listed) in
    let exact : AreExact c.in_ok-names.arcs.items c.in_ok-low.low.items c.in_ok-low.high.items = simp c.deref-3.ensures.value at c.in_ok-low.ensures.exact in
    let len : length c.in_ok-low.low.items ≡ length c.self.inside.low.items = c.in_ok-low.ensures.len ∙ ap (λ (xs : List ℕ). length xs) c.deref-4.ensures.value in
    subst (λ t. HasSchedule (without_bound t c.args.id.0)) c.self.view_is
    (kept_possible _ _ _ _ _ (kept_removed s c.self.inside.names.items c.self.inside.arcs.items c.self.inside.low.items c.self.inside.high.items c.args.id.0 c.in_ok-names.names.items c.in_ok-names.arcs.items c.in_ok-low.low.items c.in_ok-low.high.items k a len exact))
