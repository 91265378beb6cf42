use Rattle.std.proofs.Common.{◌≡◌, ℕ, suc, ◌+◌, ◌-◌, ◌<◌, ◌≤◌, inl, inr, None, List, refl, sym, subst, ap, ◌∙◌, arith, length, get_or}
use Prim.Native.Nat.{max}
use Rattle.tp_bounds.specs.Setting.{Setting, event_count, fixed_at, floor_of}
use Rattle.tp_bounds.specs.declared.Edge.{Edge}
use Rattle.tp_bounds.specs.declared.Edge.TheVariants.{PastHigh, PastLow}
use Rattle.tp_bounds.specs.Changes.{with_fixed}
use Rattle.tp_bounds.specs.Reasons.{at_least, at_most}
use Rattle.tp_bounds.specs.Schedule.{HasSchedule}
use Rattle.tp_net.specs.declared.slacks.Arc.{Arc}
use Rattle.tp_net.specs.Moments.{AreExact}
use Rattle.tp_net.specs.Arcs.{AreNamesPast, AreArcsPast, NamesCycle, arc_of}
use Rattle.tp_net.proofs.Additions.{read_here}
use Rattle.tp_net.proofs.KeptMoments.{kept_possible, contrary_after, contrary_before}
use Rattle.tp_net.proofs.Fixes.{refused_fix, past_low, past_high, start_fixed, kept_fixed}
use Rattle.tp_net.proofs.Inside.{setting_in}
use Rattle.tp_net.proofs.scratch.ScratchNetNet.fix.Goals as goal

pub refutation-requires : goal.refutation-requires
refutation-requires c =
    let s : Setting = setting_in c.self.inside in
    let k = c.self.invariant in
    let lt : c.args.e < length c.self.inside.fixed.items = subst (λ (t : Setting). c.args.e < event_count t) (sym c.self.view_is) c.requires.event in
    let free : fixed_at s c.args.e ≡ None = subst (λ (t : Setting). fixed_at t c.args.e ≡ None) (sym c.self.view_is) c.requires.free in
    let floor : floor_of s c.args.e ≤ c.args.moment = subst (λ t. floor_of t c.args.e ≤ c.args.moment) (sym c.self.view_is) c.requires.floor in
    let soon : c.args.moment ≤ c.self.inside.horizon = subst (λ (t : Setting). c.args.moment ≤ t.horizon) (sym c.self.view_is) c.requires.in_time in
    let ns : AreNamesPast c.args.e c.self.inside.names.items c.in_ok-names.names.items = subst (λ (ns : List Edge). AreNamesPast c.args.e ns c.in_ok-names.names.items) c.deref.ensures.value c.in_ok-names.ensures in
    let high : get_or c.self.inside.high.items (suc c.args.e) 0 ≡ c.index.result.now = read_here c.self.inside.high.items c.number-point.result c.args.e c.index.result.now c.number-point.ensures (omega (arith, lt, k.points, k.exact.len)) c.index.ensures in
    simp (c.deref-then-index-at.ensures.value, c.deref-then-index-at-2.ensures.value, c.deref-then-index-at-3.ensures.value, c.start_arc-new.ensures)
    (contrary_after s c.self.inside.names.items c.self.inside.arcs.items c.self.inside.low.items c.self.inside.high.items c.in_ok-names.names.items c.args.e c.args.moment k ns.len lt soon (omega (arith, high, c.if-index-at.true, c.from-at.ensures)))

pub returns-then-index-at-clause-exact : goal.returns-then-index-at-clause-exact
returns-then-index-at-clause-exact c =
    let s : Setting = setting_in c.self.inside in
    let k = c.self.invariant in
    let lt : c.args.e < length c.self.inside.fixed.items = subst (λ (t : Setting). c.args.e < event_count t) (sym c.self.view_is) c.requires.event in
    let free : fixed_at s c.args.e ≡ None = subst (λ (t : Setting). fixed_at t c.args.e ≡ None) (sym c.self.view_is) c.requires.free in
    let floor : floor_of s c.args.e ≤ c.args.moment = subst (λ t. floor_of t c.args.e ≤ c.args.moment) (sym c.self.view_is) c.requires.floor in
    let soon : c.args.moment ≤ c.self.inside.horizon = subst (λ (t : Setting). c.args.moment ≤ t.horizon) (sym c.self.view_is) c.requires.in_time in
    let ns : AreNamesPast c.args.e c.self.inside.names.items c.in_ok-names.names.items = subst (λ (ns : List Edge). AreNamesPast c.args.e ns c.in_ok-names.names.items) c.deref.ensures.value c.in_ok-names.ensures in
    let h : NamesCycle c.in_ok-names.names.items c.self.inside.arcs.items (PastLow c.args.e) (arc_of (at_least c.args.e c.args.moment)) c.in_ok-reason.reason.edges.items =
    simp (c.deref-then-index-at.ensures.value, c.deref-then-index-at-2.ensures.value, c.start_arc-new.ensures) at c.in_ok-reason.ensures in
    rw (← c.self.view_is)
    (refused_fix s c.args.e c.args.moment lt free floor soon c.self.inside.names.items c.self.inside.arcs.items c.self.inside.low.items c.self.inside.high.items c.in_ok-names.names.items (PastLow c.args.e) (at_least c.args.e c.args.moment) c.in_ok-reason.reason.edges.items k ns (inr refl) (past_low s c.args.e c.args.moment lt free floor soon) h)

pub refutation-requires-then-at-index : goal.refutation-requires-then-at-index
refutation-requires-then-at-index c =
    let s : Setting = setting_in c.self.inside in
    let k = c.self.invariant in
    let lt : c.args.e < length c.self.inside.fixed.items = subst (λ (t : Setting). c.args.e < event_count t) (sym c.self.view_is) c.requires.event in
    let free : fixed_at s c.args.e ≡ None = subst (λ (t : Setting). fixed_at t c.args.e ≡ None) (sym c.self.view_is) c.requires.free in
    let floor : floor_of s c.args.e ≤ c.args.moment = subst (λ t. floor_of t c.args.e ≤ c.args.moment) (sym c.self.view_is) c.requires.floor in
    let soon : c.args.moment ≤ c.self.inside.horizon = subst (λ (t : Setting). c.args.moment ≤ t.horizon) (sym c.self.view_is) c.requires.in_time in
    let ns : AreNamesPast c.args.e c.self.inside.names.items c.in_ok-names.names.items = subst (λ (ns : List Edge). AreNamesPast c.args.e ns c.in_ok-names.names.items) c.deref.ensures.value c.in_ok-names.ensures in
    let low : get_or c.self.inside.low.items (suc c.args.e) 0 ≡ c.index-2.result.now = read_here c.self.inside.low.items c.number-point.result c.args.e c.index-2.result.now c.number-point.ensures (omega (arith, lt, k.points)) c.index-2.ensures in
    simp (c.deref-then-at-index.ensures.value, c.deref-then-at-index-2.ensures.value, c.deref-then-at-index-3.ensures.value, c.stop_arc-new.ensures)
    (contrary_before s c.self.inside.names.items c.self.inside.arcs.items c.self.inside.low.items c.self.inside.high.items c.in_ok-names.names.items c.args.e c.args.moment k ns.len lt soon (omega (arith, low, c.if-at-index.true, c.from-at.ensures)))

pub returns-then-at-index-clause-exact : goal.returns-then-at-index-clause-exact
returns-then-at-index-clause-exact c =
    let s : Setting = setting_in c.self.inside in
    let k = c.self.invariant in
    let lt : c.args.e < length c.self.inside.fixed.items = subst (λ (t : Setting). c.args.e < event_count t) (sym c.self.view_is) c.requires.event in
    let free : fixed_at s c.args.e ≡ None = subst (λ (t : Setting). fixed_at t c.args.e ≡ None) (sym c.self.view_is) c.requires.free in
    let floor : floor_of s c.args.e ≤ c.args.moment = subst (λ t. floor_of t c.args.e ≤ c.args.moment) (sym c.self.view_is) c.requires.floor in
    let soon : c.args.moment ≤ c.self.inside.horizon = subst (λ (t : Setting). c.args.moment ≤ t.horizon) (sym c.self.view_is) c.requires.in_time in
    let ns : AreNamesPast c.args.e c.self.inside.names.items c.in_ok-names.names.items = subst (λ (ns : List Edge). AreNamesPast c.args.e ns c.in_ok-names.names.items) c.deref.ensures.value c.in_ok-names.ensures in
    let h : NamesCycle c.in_ok-names.names.items c.self.inside.arcs.items (PastHigh c.args.e) (arc_of (at_most c.args.e c.args.moment)) c.in_ok-reason-2.reason.edges.items =
    simp (c.deref-then-at-index.ensures.value, c.deref-then-at-index-2.ensures.value, c.stop_arc-new.ensures) at c.in_ok-reason-2.ensures in
    rw (← c.self.view_is)
    (refused_fix s c.args.e c.args.moment lt free floor soon c.self.inside.names.items c.self.inside.arcs.items c.self.inside.low.items c.self.inside.high.items c.in_ok-names.names.items (PastHigh c.args.e) (at_most c.args.e c.args.moment) c.in_ok-reason-2.reason.edges.items k ns (inl refl) (past_high s c.args.e c.args.moment lt free floor soon) h)

pub solve-requires-clause-start : goal.solve-requires-clause-start
solve-requires-clause-start c =
    let s : Setting = setting_in c.self.inside in
    let k = c.self.invariant in
    let lt : c.args.e < length c.self.inside.fixed.items = subst (λ (t : Setting). c.args.e < event_count t) (sym c.self.view_is) c.requires.event in
    let free : fixed_at s c.args.e ≡ None = subst (λ (t : Setting). fixed_at t c.args.e ≡ None) (sym c.self.view_is) c.requires.free in
    let floor : floor_of s c.args.e ≤ c.args.moment = subst (λ t. floor_of t c.args.e ≤ c.args.moment) (sym c.self.view_is) c.requires.floor in
    let soon : c.args.moment ≤ c.self.inside.horizon = subst (λ (t : Setting). c.args.moment ≤ t.horizon) (sym c.self.view_is) c.requires.in_time in
    let ns : AreNamesPast c.args.e c.self.inside.names.items c.in_ok-names.names.items = subst (λ (ns : List Edge). AreNamesPast c.args.e ns c.in_ok-names.names.items) c.deref.ensures.value c.in_ok-names.ensures in
    let high : get_or c.self.inside.high.items (suc c.args.e) 0 ≡ c.index.result.now = read_here c.self.inside.high.items c.number-point.result c.args.e c.index.result.now c.number-point.ensures (omega (arith, lt, k.points, k.exact.len)) c.index.ensures in
    let low : get_or c.self.inside.low.items (suc c.args.e) 0 ≡ c.index-2.result.now = read_here c.self.inside.low.items c.number-point.result c.args.e c.index-2.result.now c.number-point.ensures (omega (arith, lt, k.points)) c.index-2.ensures in
    let xs : AreArcsPast c.args.e c.args.moment c.self.inside.names.items c.self.inside.arcs.items c.in_ok-arcs.arcs.items =
    subst (λ (ns : List Edge). AreArcsPast c.args.e c.args.moment ns c.self.inside.arcs.items c.in_ok-arcs.arcs.items) c.deref-4.ensures.value (subst (λ (es : List Arc). AreArcsPast c.args.e c.args.moment c.deref-4.result.now es c.in_ok-arcs.arcs.items) c.deref-5.ensures.value c.in_ok-arcs.ensures) in
    let again : get_or c.self.inside.high.items (suc c.args.e) 0 ≡ c.index-3.result.now = read_here c.self.inside.high.items c.number-point.result c.args.e c.index-3.result.now c.number-point.ensures (omega (arith, lt, k.points, k.exact.len)) c.index-3.ensures in
    let known : length c.in_ok-known.known.items ≡ length c.self.inside.low.items = c.in_ok-known.ensures.len ∙ ap (λ (ms : List ℕ). length ms) c.deref-2.ensures.value in
    let each : (x : ℕ) → x < length c.self.inside.low.items → get_or c.in_ok-known.known.items x 0 ≡ max (get_or c.self.inside.low.items x 0) (get_or c.self.inside.high.items x 0 - (c.index-3.result.now - c.from-at.result)) =
    simp (c.deref-2.ensures.value, c.deref-3.ensures.value) at c.in_ok-known.ensures.each in
    simp (c.deref-6.ensures.value, c.deref-7.ensures.value)
    (start_fixed s c.args.e c.args.moment lt free floor soon c.self.inside.names.items c.self.inside.arcs.items c.self.inside.low.items c.self.inside.high.items c.in_ok-names.names.items c.in_ok-arcs.arcs.items k ns xs c.in_ok-known.known.items (c.index-3.result.now - c.from-at.result) (c.from.result + 1) known each
    (omega (arith, again, c.from-at.ensures)) (omega (arith, low, c.if-at-index.false, c.from-at.ensures)) (omega (arith, high, c.if-index-at.false, c.from-at.ensures)) (omega (arith, c.from.ensures)))

pub invariant_of-self : goal.invariant_of-self
invariant_of-self c =
    let s : Setting = setting_in c.self.inside in
    let k = c.self.invariant in
    let lt : c.args.e < length c.self.inside.fixed.items = subst (λ (t : Setting). c.args.e < event_count t) (sym c.self.view_is) c.requires.event in
    let free : fixed_at s c.args.e ≡ None = subst (λ (t : Setting). fixed_at t c.args.e ≡ None) (sym c.self.view_is) c.requires.free in
    let floor : floor_of s c.args.e ≤ c.args.moment = subst (λ t. floor_of t c.args.e ≤ c.args.moment) (sym c.self.view_is) c.requires.floor in
    let soon : c.args.moment ≤ c.self.inside.horizon = subst (λ (t : Setting). c.args.moment ≤ t.horizon) (sym c.self.view_is) c.requires.in_time in
    let ns : AreNamesPast c.args.e c.self.inside.names.items c.in_ok-names.names.items = subst (λ (ns : List Edge). AreNamesPast c.args.e ns c.in_ok-names.names.items) c.deref.ensures.value c.in_ok-names.ensures in
    let xs : AreArcsPast c.args.e c.args.moment c.self.inside.names.items c.self.inside.arcs.items c.in_ok-arcs.arcs.items =
    subst (λ (ns : List Edge). AreArcsPast c.args.e c.args.moment ns c.self.inside.arcs.items c.in_ok-arcs.arcs.items) c.deref-4.ensures.value (subst (λ (es : List Arc). AreArcsPast c.args.e c.args.moment c.deref-4.result.now es c.in_ok-arcs.arcs.items) c.deref-5.ensures.value c.in_ok-arcs.ensures) in
    let exact : AreExact c.in_ok-arcs.arcs.items c.in_ok-low.low.items c.in_ok-low.high.items = simp c.deref-6.ensures.value at c.in_ok-low.ensures.exact in
    let known : length c.in_ok-known.known.items ≡ length c.self.inside.low.items = c.in_ok-known.ensures.len ∙ ap (λ (ms : List ℕ). length ms) c.deref-2.ensures.value in
    let len : length c.in_ok-low.low.items ≡ length c.self.inside.low.items = c.in_ok-low.ensures.len ∙ (ap (λ (ms : List ℕ). length ms) c.deref-7.ensures.value ∙ known) in
    kept_fixed s c.args.e c.args.moment lt free floor soon c.self.inside.names.items c.self.inside.arcs.items c.self.inside.low.items c.self.inside.high.items c.in_ok-names.names.items c.in_ok-arcs.arcs.items k ns xs c.in_ok-low.low.items c.in_ok-low.high.items len exact

pub returns-clause-exact : goal.returns-clause-exact
returns-clause-exact c =
    let s : Setting = setting_in c.self.inside in
    let k = c.self.invariant in
    let lt : c.args.e < length c.self.inside.fixed.items = subst (λ (t : Setting). c.args.e < event_count t) (sym c.self.view_is) c.requires.event in
    let free : fixed_at s c.args.e ≡ None = subst (λ (t : Setting). fixed_at t c.args.e ≡ None) (sym c.self.view_is) c.requires.free in
    let floor : floor_of s c.args.e ≤ c.args.moment = subst (λ t. floor_of t c.args.e ≤ c.args.moment) (sym c.self.view_is) c.requires.floor in
    let soon : c.args.moment ≤ c.self.inside.horizon = subst (λ (t : Setting). c.args.moment ≤ t.horizon) (sym c.self.view_is) c.requires.in_time in
    let ns : AreNamesPast c.args.e c.self.inside.names.items c.in_ok-names.names.items = subst (λ (ns : List Edge). AreNamesPast c.args.e ns c.in_ok-names.names.items) c.deref.ensures.value c.in_ok-names.ensures in
    let xs : AreArcsPast c.args.e c.args.moment c.self.inside.names.items c.self.inside.arcs.items c.in_ok-arcs.arcs.items =
    subst (λ (ns : List Edge). AreArcsPast c.args.e c.args.moment ns c.self.inside.arcs.items c.in_ok-arcs.arcs.items) c.deref-4.ensures.value (subst (λ (es : List Arc). AreArcsPast c.args.e c.args.moment c.deref-4.result.now es c.in_ok-arcs.arcs.items) c.deref-5.ensures.value c.in_ok-arcs.ensures) in
    let exact : AreExact c.in_ok-arcs.arcs.items c.in_ok-low.low.items c.in_ok-low.high.items = simp c.deref-6.ensures.value at c.in_ok-low.ensures.exact in
    let known : length c.in_ok-known.known.items ≡ length c.self.inside.low.items = c.in_ok-known.ensures.len ∙ ap (λ (ms : List ℕ). length ms) c.deref-2.ensures.value in
    let len : length c.in_ok-low.low.items ≡ length c.self.inside.low.items = c.in_ok-low.ensures.len ∙ (ap (λ (ms : List ℕ). length ms) c.deref-7.ensures.value ∙ known) in
    subst (λ t. HasSchedule (with_fixed t c.args.e c.args.moment)) c.self.view_is
    (kept_possible _ _ _ _ _ (kept_fixed s c.args.e c.args.moment lt free floor soon c.self.inside.names.items c.self.inside.arcs.items c.self.inside.low.items c.self.inside.high.items c.in_ok-names.names.items c.in_ok-arcs.arcs.items k ns xs c.in_ok-low.low.items c.in_ok-low.high.items len exact))
