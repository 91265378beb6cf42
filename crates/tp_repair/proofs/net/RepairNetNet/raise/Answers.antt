use Rattle.std.proofs.Common.{◌≡◌, ◌+◌, ◌*◌, ◌≤◌, length, sym, subst, ap, ◌∙◌, arith}
use Rattle.tp_bounds.specs.declared.Edge.TheVariants.{Now}
use Rattle.tp_bounds.specs.Setting.{Setting, event_count}
use Rattle.tp_bounds.specs.Changes.{at_moment}
use Rattle.tp_bounds.specs.Reasons.{at_least}
use Rattle.tp_bounds.specs.Schedule.{HasSchedule}
use Rattle.tp_net.specs.Arcs.{arc_of, floor_at, AllWait, CannotWait, NamesCycle}
use Rattle.tp_net.specs.Faults.{Refutes, IsNow}
use Rattle.tp_net.specs.Kept.{IsKept}
use Rattle.tp_net.proofs.KeptMoments.{kept_possible}
use Rattle.tp_net.proofs.Raises.{at_same, contrary_raise, refused_raise}
use Rattle.tp_repair_engine.specs.Told.{Told, settled}
use Rattle.tp_repair_engine.specs.declared.engine.Engine.{Engine}
use Rattle.tp_repair_engine.specs.Store.{names_of, kept_arcs}
use Rattle.tp_repair_engine.specs.Slots.{raised_node}
use Rattle.tp_repair_engine.specs.Engine.{IsRepaired, IsChanged}
use Rattle.tp_repair_engine.specs.Costs.{IsCheap}
use Rattle.tp_repair_engine.proofs.Cheap.{cheap_up, cheap_still, edges_are}
use Rattle.std.proofs.Common.{refl}
use Rattle.tp_repair_engine.specs.Told.{edge_count}
use Rattle.tp_repair_engine.proofs.Repaired.{kept, solved, wired_here, with_looks, relooked}
use Rattle.tp_repair.proofs.Renewed.{open_floors, at_earlier, none_arcs, repaired_raised, repaired_untouched}
use Rattle.tp_repair.proofs.net.RepairNetNet.raise.Goals as goal

pub returns-then-now-self-clause-exact : goal.returns-then-now-self-clause-exact
returns-then-now-self-clause-exact c =
    let still : c.args.now ≡ c.args.self.now.setting.clock = c.if-now-self.true ∙ ap (λ (t : Told). t.setting.clock) c.self.view_is in
    subst HasSchedule (sym (at_same c.args.self.now.setting c.args.now still)) (subst (λ (t : Told). HasSchedule t.setting) c.self.view_is (kept_possible _ _ _ _ _ (kept _ _ _ _ _ _ c.self.invariant)))

pub refute-requires-clause-solved : goal.refute-requires-clause-solved
refute-requires-clause-solved c =
    let i = c.self.inside in
    let s : Setting = settled i.horizon i.clock i.bounds.entries i.fixed.items i.lags.items in
    let n = length i.bounds.entries in
    solved s n i.keys i.floors.items i.ends.items (with_looks i.engine 0) (relooked s n i.keys i.floors.items i.ends.items i.engine 0 c.self.invariant)

pub refute-requires-clause-none : goal.refute-requires-clause-none
refute-requires-clause-none c =
    let i = c.self.inside in
    let s : Setting = settled i.horizon i.clock i.bounds.entries i.fixed.items i.lags.items in
    let n = length i.bounds.entries in
    let g : Engine = i.engine in
    let g0 : Engine = with_looks g 0 in
    let slots = g.store.nodes.slots in
    let r : IsRepaired s n i.keys i.floors.items i.ends.items g = c.self.invariant in
    let r0 : IsRepaired s n i.keys i.floors.items i.ends.items g0 = relooked s n i.keys i.floors.items i.ends.items g 0 r in
    let k : IsKept s (names_of slots) (kept_arcs slots) g.low.items g.high.items = kept s n i.keys i.floors.items i.ends.items g r in
    let soon : c.args.now ≤ i.horizon = subst (λ (t : Told). c.args.now ≤ t.setting.horizon) (sym c.self.view_is) c.requires.in_time in
    let late : CannotWait i.fixed.items g.high.items i.lags.items c.args.now c.in-Some.e = simp (c.deref.ensures.value, c.deref-2.ensures.value, c.deref-3.ensures.value) at c.in-Some.ensures in
    simp (c.start_arc-new.ensures, c.floor.ensures, c.deref-in-Some.ensures.value)
    (none_arcs slots (arc_of (at_least c.in-Some.e (floor_at c.args.now i.lags.items c.in-Some.e))) (contrary_raise s (names_of slots) (kept_arcs slots) g.low.items g.high.items c.args.now c.in-Some.e k soon late).none)

pub invariant_of-self-in_err-reason : goal.invariant_of-self-in_err-reason
invariant_of-self-in_err-reason c =
    let i = c.self.inside in
    let s : Setting = settled i.horizon i.clock i.bounds.entries i.fixed.items i.lags.items in
    let n = length i.bounds.entries in
    let g : Engine = i.engine in
    let g0 : Engine = with_looks g 0 in
    let slots = g.store.nodes.slots in
    let r : IsRepaired s n i.keys i.floors.items i.ends.items g = c.self.invariant in
    let r0 : IsRepaired s n i.keys i.floors.items i.ends.items g0 = relooked s n i.keys i.floors.items i.ends.items g 0 r in
    let k : IsKept s (names_of slots) (kept_arcs slots) g.low.items g.high.items = kept s n i.keys i.floors.items i.ends.items g r in
    repaired_untouched s n i.keys i.floors.items i.ends.items g0 c.refute.new.engine i.bounds r0 c.refute.ensures.still

pub invariant_of-self-in-Some : goal.invariant_of-self-in-Some
invariant_of-self-in-Some c =
    let i = c.self.inside in
    let s : Setting = settled i.horizon i.clock i.bounds.entries i.fixed.items i.lags.items in
    let n = length i.bounds.entries in
    let g : Engine = i.engine in
    let g0 : Engine = with_looks g 0 in
    let slots = g.store.nodes.slots in
    let r : IsRepaired s n i.keys i.floors.items i.ends.items g = c.self.invariant in
    let r0 : IsRepaired s n i.keys i.floors.items i.ends.items g0 = relooked s n i.keys i.floors.items i.ends.items g 0 r in
    let k : IsKept s (names_of slots) (kept_arcs slots) g.low.items g.high.items = kept s n i.keys i.floors.items i.ends.items g r in
    repaired_untouched s n i.keys i.floors.items i.ends.items g0 c.refute.new.engine i.bounds r0 c.refute.ensures.still

pub returns-in-Some-clause-exact : goal.returns-in-Some-clause-exact
returns-in-Some-clause-exact c =
    let i = c.self.inside in
    let s : Setting = settled i.horizon i.clock i.bounds.entries i.fixed.items i.lags.items in
    let n = length i.bounds.entries in
    let g : Engine = i.engine in
    let g0 : Engine = with_looks g 0 in
    let slots = g.store.nodes.slots in
    let r : IsRepaired s n i.keys i.floors.items i.ends.items g = c.self.invariant in
    let r0 : IsRepaired s n i.keys i.floors.items i.ends.items g0 = relooked s n i.keys i.floors.items i.ends.items g 0 r in
    let k : IsKept s (names_of slots) (kept_arcs slots) g.low.items g.high.items = kept s n i.keys i.floors.items i.ends.items g r in
    let late : CannotWait i.fixed.items g.high.items i.lags.items c.args.now c.in-Some.e = simp (c.deref.ensures.value, c.deref-2.ensures.value, c.deref-3.ensures.value) at c.in-Some.ensures in
    let forward : i.clock ≤ c.args.now = subst (λ (t : Told). t.setting.clock ≤ c.args.now) (sym c.self.view_is) c.requires.forward in
    let h : NamesCycle (names_of slots) (kept_arcs slots) (Now c.in-Some.e) (arc_of (at_least c.in-Some.e (floor_at c.args.now i.lags.items c.in-Some.e))) c.in_ok-reason.reason.edges.items =
    simp (c.start_arc-new.ensures, c.floor.ensures, c.deref-in-Some.ensures.value) at c.in_ok-reason.ensures.reason in
    subst (λ (t : Told). Refutes IsNow (at_moment t.setting c.args.now) (at_moment t.setting c.args.now) c.in_ok-reason.reason.edges.items) c.self.view_is
    (refused_raise s (names_of slots) (kept_arcs slots) g.low.items g.high.items c.args.now c.in-Some.e c.in_ok-reason.reason.edges.items k forward late h)

pub raise-requires-clause-solved : goal.raise-requires-clause-solved
raise-requires-clause-solved c =
    let i = c.self.inside in
    let s : Setting = settled i.horizon i.clock i.bounds.entries i.fixed.items i.lags.items in
    let n = length i.bounds.entries in
    solved s n i.keys i.floors.items i.ends.items (with_looks i.engine 0) (relooked s n i.keys i.floors.items i.ends.items i.engine 0 c.self.invariant)

pub raise-requires-clause-floors : goal.raise-requires-clause-floors
raise-requires-clause-floors c =
    let i = c.self.inside in
    let s : Setting = settled i.horizon i.clock i.bounds.entries i.fixed.items i.lags.items in
    let n = length i.bounds.entries in
    let g : Engine = i.engine in
    let g0 : Engine = with_looks g 0 in
    let slots = g.store.nodes.slots in
    let r : IsRepaired s n i.keys i.floors.items i.ends.items g = c.self.invariant in
    let r0 : IsRepaired s n i.keys i.floors.items i.ends.items g0 = relooked s n i.keys i.floors.items i.ends.items g 0 r in
    let k : IsKept s (names_of slots) (kept_arcs slots) g.low.items g.high.items = kept s n i.keys i.floors.items i.ends.items g r in
    simp (c.deref-4.ensures.value, c.deref-5.ensures.value) (open_floors s n i.keys i.floors.items i.ends.items g r)

pub raise-requires-clause-events : goal.raise-requires-clause-events
raise-requires-clause-events c =
    let i = c.self.inside in
    let s : Setting = settled i.horizon i.clock i.bounds.entries i.fixed.items i.lags.items in
    let n = length i.bounds.entries in
    let g : Engine = i.engine in
    let r : IsRepaired s n i.keys i.floors.items i.ends.items g = c.self.invariant in
    simp c.deref-5.ensures.value (r.fit.events, r.wired.low_len)

pub raise-requires-clause-before : goal.raise-requires-clause-before
raise-requires-clause-before c =
    let i = c.self.inside in
    let s : Setting = settled i.horizon i.clock i.bounds.entries i.fixed.items i.lags.items in
    let n = length i.bounds.entries in
    let g : Engine = i.engine in
    let r : IsRepaired s n i.keys i.floors.items i.ends.items g = c.self.invariant in
    let forward : i.clock ≤ c.args.now = subst (λ (t : Told). t.setting.clock ≤ c.args.now) (sym c.self.view_is) c.requires.forward in
    simp c.deref-6.ensures.value (at_earlier s n i.keys i.floors.items i.ends.items g r c.args.now forward)

pub raise-requires-clause-wait : goal.raise-requires-clause-wait
raise-requires-clause-wait c =
    let i = c.self.inside in
    let s : Setting = settled i.horizon i.clock i.bounds.entries i.fixed.items i.lags.items in
    let n = length i.bounds.entries in
    let g : Engine = i.engine in
    let r : IsRepaired s n i.keys i.floors.items i.ends.items g = c.self.invariant in
    let wait : AllWait i.fixed.items g.high.items i.lags.items c.args.now = simp (c.deref.ensures.value, c.deref-2.ensures.value, c.deref-3.ensures.value) at c.in_default.ensures in
    simp (c.deref-5.ensures.value, c.deref-6.ensures.value) wait

pub invariant_of-self-in_err-raise : goal.invariant_of-self-in_err-raise
invariant_of-self-in_err-raise c =
    let i = c.self.inside in
    let s : Setting = settled i.horizon i.clock i.bounds.entries i.fixed.items i.lags.items in
    let n = length i.bounds.entries in
    let g : Engine = i.engine in
    let g0 : Engine = with_looks g 0 in
    let slots = g.store.nodes.slots in
    let r : IsRepaired s n i.keys i.floors.items i.ends.items g = c.self.invariant in
    let r0 : IsRepaired s n i.keys i.floors.items i.ends.items g0 = relooked s n i.keys i.floors.items i.ends.items g 0 r in
    let k : IsKept s (names_of slots) (kept_arcs slots) g.low.items g.high.items = kept s n i.keys i.floors.items i.ends.items g r in
    repaired_untouched s n i.keys i.floors.items i.ends.items g0 c.raise.new.engine i.bounds r0 c.in_err-raise.ensures.err

pub invariant_of-self-2 : goal.invariant_of-self-2
invariant_of-self-2 c =
    let i = c.self.inside in
    let s : Setting = settled i.horizon i.clock i.bounds.entries i.fixed.items i.lags.items in
    let n = length i.bounds.entries in
    let g : Engine = i.engine in
    let g0 : Engine = with_looks g 0 in
    let slots = g.store.nodes.slots in
    let r : IsRepaired s n i.keys i.floors.items i.ends.items g = c.self.invariant in
    let r0 : IsRepaired s n i.keys i.floors.items i.ends.items g0 = relooked s n i.keys i.floors.items i.ends.items g 0 r in
    let k : IsKept s (names_of slots) (kept_arcs slots) g.low.items g.high.items = kept s n i.keys i.floors.items i.ends.items g r in
    let soon : c.args.now ≤ i.horizon = subst (λ (t : Told). c.args.now ≤ t.setting.horizon) (sym c.self.view_is) c.requires.in_time in
    let changed : IsChanged (raised_node c.args.now i.lags.items) g0 c.raise.new.engine = simp c.deref-6.ensures.value at c.in_ok-raise.ensures.ok in
    relooked _ _ _ _ _ c.raise.new.engine _ (repaired_raised s c.args.now n i.keys i.floors.items i.ends.items g0 c.raise.new.engine r0 changed soon)

pub returns-clause-exact : goal.returns-clause-exact
returns-clause-exact c =
    let i = c.self.inside in
    let s : Setting = settled i.horizon i.clock i.bounds.entries i.fixed.items i.lags.items in
    let n = length i.bounds.entries in
    let g : Engine = i.engine in
    let g0 : Engine = with_looks g 0 in
    let slots = g.store.nodes.slots in
    let r : IsRepaired s n i.keys i.floors.items i.ends.items g = c.self.invariant in
    let r0 : IsRepaired s n i.keys i.floors.items i.ends.items g0 = relooked s n i.keys i.floors.items i.ends.items g 0 r in
    let k : IsKept s (names_of slots) (kept_arcs slots) g.low.items g.high.items = kept s n i.keys i.floors.items i.ends.items g r in
    let soon : c.args.now ≤ i.horizon = subst (λ (t : Told). c.args.now ≤ t.setting.horizon) (sym c.self.view_is) c.requires.in_time in
    let changed : IsChanged (raised_node c.args.now i.lags.items) g0 c.raise.new.engine = simp c.deref-6.ensures.value at c.in_ok-raise.ensures.ok in
    subst (λ (t : Told). HasSchedule (at_moment t.setting c.args.now)) c.self.view_is
    (kept_possible _ _ _ _ _ (kept _ _ _ _ _ _ (repaired_raised s c.args.now n i.keys i.floors.items i.ends.items g0 c.raise.new.engine r0 changed soon)))

pub returns-clause-cheap : goal.returns-clause-cheap
returns-clause-cheap c =
    let i = c.self.inside in
    let s : Setting = settled i.horizon i.clock i.bounds.entries i.fixed.items i.lags.items in
    let n = length i.bounds.entries in
    let g : Engine = i.engine in
    let g0 : Engine = with_looks g 0 in
    let slots = g.store.nodes.slots in
    let r : IsRepaired s n i.keys i.floors.items i.ends.items g = c.self.invariant in
    let r0 : IsRepaired s n i.keys i.floors.items i.ends.items g0 = relooked s n i.keys i.floors.items i.ends.items g 0 r in
    let k : IsKept s (names_of slots) (kept_arcs slots) g.low.items g.high.items = kept s n i.keys i.floors.items i.ends.items g r in
    let soon : c.args.now ≤ i.horizon = subst (λ (t : Told). c.args.now ≤ t.setting.horizon) (sym c.self.view_is) c.requires.in_time in
    let changed : IsChanged (raised_node c.args.now i.lags.items) g0 c.raise.new.engine = simp c.deref-6.ensures.value at c.in_ok-raise.ensures.ok in
    let g' : Engine = c.raise.new.engine in
    let raised = repaired_raised s c.args.now n i.keys i.floors.items i.ends.items g0 g' r0 changed soon in
    subst (λ (t : Told). IsCheap 0 t.setting (at_moment t.setting c.args.now) g'.looks) c.self.view_is
    (cheap_up s (at_moment s c.args.now) n n i.keys i.keys i.floors.items i.ends.items i.floors.items i.ends.items g0 g' g'.up.amounts.items g'.looks r0 raised refl c.in_ok-raise.ensures.moved c.in_ok-raise.ensures.stays c.in_ok-raise.ensures.looks)

pub returns-then-now-self-clause-cheap : goal.returns-then-now-self-clause-cheap
returns-then-now-self-clause-cheap c =
    let still : c.args.now ≡ c.args.self.now.setting.clock = c.if-now-self.true ∙ ap (λ (t : Told). t.setting.clock) c.self.view_is in
    subst (λ (t : Setting). IsCheap 0 c.args.self.now.setting t 0) (sym (at_same c.args.self.now.setting c.args.now still)) (subst (λ (t : Told). IsCheap 0 t.setting t.setting 0) c.self.view_is (cheap_still _ _ _ _ _ _ c.self.invariant))

pub returns-in_err-reason-clause-most : goal.returns-in_err-reason-clause-most
returns-in_err-reason-clause-most c =
    let i = c.self.inside in
    let s : Setting = settled i.horizon i.clock i.bounds.entries i.fixed.items i.lags.items in
    let n = length i.bounds.entries in
    let g0 : Engine = with_looks i.engine 0 in
    let r0 : IsRepaired s n i.keys i.floors.items i.ends.items g0 = relooked s n i.keys i.floors.items i.ends.items i.engine 0 c.self.invariant in
    let most = c.refute.ensures.looks (n + 2 * event_count s) (wired_here s n i.keys i.floors.items i.ends.items g0 r0) in
    let edges = edges_are s n i.keys i.floors.items i.ends.items g0 r0 in
    let told : edge_count s ≡ edge_count c.args.self.now.setting = ap (λ (t : Told). edge_count t.setting) c.self.view_is in
    omega (arith, most, edges, told)

pub returns-in-Some-clause-most : goal.returns-in-Some-clause-most
returns-in-Some-clause-most c =
    let i = c.self.inside in
    let s : Setting = settled i.horizon i.clock i.bounds.entries i.fixed.items i.lags.items in
    let n = length i.bounds.entries in
    let g0 : Engine = with_looks i.engine 0 in
    let r0 : IsRepaired s n i.keys i.floors.items i.ends.items g0 = relooked s n i.keys i.floors.items i.ends.items i.engine 0 c.self.invariant in
    let most = c.refute.ensures.looks (n + 2 * event_count s) (wired_here s n i.keys i.floors.items i.ends.items g0 r0) in
    let edges = edges_are s n i.keys i.floors.items i.ends.items g0 r0 in
    let told : edge_count s ≡ edge_count c.args.self.now.setting = ap (λ (t : Told). edge_count t.setting) c.self.view_is in
    omega (arith, most, edges, told)

pub returns-clause-most : goal.returns-clause-most
returns-clause-most c =
    let i = c.self.inside in
    let s : Setting = settled i.horizon i.clock i.bounds.entries i.fixed.items i.lags.items in
    let n = length i.bounds.entries in
    let g0 : Engine = with_looks i.engine 0 in
    let r0 : IsRepaired s n i.keys i.floors.items i.ends.items g0 = relooked s n i.keys i.floors.items i.ends.items i.engine 0 c.self.invariant in
    let most = c.raise.ensures.most (n + 2 * event_count s) (wired_here s n i.keys i.floors.items i.ends.items g0 r0) in
    let edges = edges_are s n i.keys i.floors.items i.ends.items g0 r0 in
    let told : edge_count s ≡ edge_count c.args.self.now.setting = ap (λ (t : Told). edge_count t.setting) c.self.view_is in
    omega (arith, most, edges, told)
