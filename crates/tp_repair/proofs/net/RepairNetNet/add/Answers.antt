use Rattle.std.proofs.Common.{◌≡◌, ◌+◌, ◌*◌, ◌<◌, ◌^◌, None, length, refl, sym, subst, ap, ◌∙◌, arith}
use Rattle.std.specs.FinMap.{FinMap, get}
use Rattle.std.specs.Ordering.{nat_cmp}
use Rattle.tp_bounds.specs.declared.Bound.{Bound}
use Rattle.tp_bounds.specs.declared.Edge.TheVariants.{New}
use Rattle.tp_bounds.specs.Setting.{Setting, HasPoint, event_count}
use Rattle.tp_bounds.specs.Changes.{with_bound, proposing}
use Rattle.tp_bounds.specs.Schedule.{HasSchedule}
use Rattle.tp_net.specs.Arcs.{arc_of, NamesCycle}
use Rattle.tp_net.specs.Faults.{Refutes, IsNew}
use Rattle.tp_net.proofs.HeldLemmas.{held_len}
use Rattle.tp_bounds.proofs.HeldMaps.{get_held}
use Rattle.tp_net.proofs.KeptMoments.{refused_add, kept_possible}
use Rattle.tp_repair_engine.specs.Told.{Told, settled, edge_count}
use Rattle.tp_repair_engine.specs.declared.engine.Engine.{Engine}
use Rattle.tp_repair_engine.specs.Store.{names_of, kept_arcs}
use Rattle.tp_repair_engine.specs.Engine.{IsRepaired}
use Rattle.tp_repair_engine.specs.Work.{AreCounted}
use Rattle.tp_repair_engine.specs.Bringing.{IsBrought, IsBroughtIn, IsUnbrought}
use Rattle.tp_repair_engine.specs.Costs.{IsCheap}
use Rattle.tp_repair_engine.proofs.Cheap.{cheap}
use Rattle.tp_repair_engine.proofs.Repaired.{wired_here, solved, kept, with_looks, relooked, repaired_brought, repaired_unbrought}
use Rattle.tp_repair.proofs.Few.{fewer_ids}
use Rattle.tp_repair.proofs.net.RepairNetNet.add.Goals as goal

pub bring-requires-clause-solved : goal.bring-requires-clause-solved
bring-requires-clause-solved c =
    let i = c.self.inside in
    let s : Setting = settled i.horizon i.clock i.bounds.entries i.fixed.items i.lags.items in
    let n = length i.bounds.entries in
    solved s n i.keys i.floors.items i.ends.items (with_looks i.engine 0) (relooked s n i.keys i.floors.items i.ends.items i.engine 0 c.self.invariant)

pub bring-requires-clause-free : goal.bring-requires-clause-free
bring-requires-clause-free c =
    let none = ap (λ (t : Told). get t.setting.bounds c.args.id.0) c.self.view_is ∙ c.requires.unused in
    (sym (get_held c.self.inside.bounds c.args.id.0) ∙ none, c.self.invariant.spare c.args.id.0 none)

pub invariant_of-self : goal.invariant_of-self
invariant_of-self c =
    let i = c.self.inside in
    let s : Setting = settled i.horizon i.clock i.bounds.entries i.fixed.items i.lags.items in
    let n = length i.bounds.entries in
    let g0 : Engine = with_looks i.engine 0 in
    let g' : Engine = c.bring.new.engine in
    let r : IsRepaired s n i.keys i.floors.items i.ends.items g0 = relooked s n i.keys i.floors.items i.ends.items i.engine 0 c.self.invariant in
    let u : IsUnbrought g0 g' i.bounds c.bring.new.bounds i.keys c.bring.new.keys = c.in_err-path.ensures.err in
    rw u.holds (repaired_unbrought s n i.keys c.bring.new.keys i.floors.items i.ends.items g0 g' i.bounds c.bring.new.bounds r u)

pub named-requires : goal.named-requires
named-requires c =
    let i = c.self.inside in
    let s : Setting = settled i.horizon i.clock i.bounds.entries i.fixed.items i.lags.items in
    let n = length i.bounds.entries in
    let g0 : Engine = with_looks i.engine 0 in
    let g' : Engine = c.bring.new.engine in
    let b = subst (λ o. IsBrought c.args.id c.args.bound g0 g' i.bounds c.bring.new.bounds i.keys c.bring.new.keys o) c.in-Some.is c.in_ok-path.ensures.ok in
    rw (c.deref.ensures.value, b.1) b.3

pub invariant_of-self-in_err-reason : goal.invariant_of-self-in_err-reason
invariant_of-self-in_err-reason c =
    let i = c.self.inside in
    let s : Setting = settled i.horizon i.clock i.bounds.entries i.fixed.items i.lags.items in
    let n = length i.bounds.entries in
    let g0 : Engine = with_looks i.engine 0 in
    let g' : Engine = c.bring.new.engine in
    let r : IsRepaired s n i.keys i.floors.items i.ends.items g0 = relooked s n i.keys i.floors.items i.ends.items i.engine 0 c.self.invariant in
    let b = subst (λ o. IsBrought c.args.id c.args.bound g0 g' i.bounds c.bring.new.bounds i.keys c.bring.new.keys o) c.in-Some.is c.in_ok-path.ensures.ok in
    rw b.0.holds (relooked s n c.bring.new.keys i.floors.items i.ends.items g' _ (repaired_unbrought s n i.keys c.bring.new.keys i.floors.items i.ends.items g0 g' i.bounds c.bring.new.bounds r b.0))

pub invariant_of-self-in-Some : goal.invariant_of-self-in-Some
invariant_of-self-in-Some c =
    let i = c.self.inside in
    let s : Setting = settled i.horizon i.clock i.bounds.entries i.fixed.items i.lags.items in
    let n = length i.bounds.entries in
    let g0 : Engine = with_looks i.engine 0 in
    let g' : Engine = c.bring.new.engine in
    let r : IsRepaired s n i.keys i.floors.items i.ends.items g0 = relooked s n i.keys i.floors.items i.ends.items i.engine 0 c.self.invariant in
    let b = subst (λ o. IsBrought c.args.id c.args.bound g0 g' i.bounds c.bring.new.bounds i.keys c.bring.new.keys o) c.in-Some.is c.in_ok-path.ensures.ok in
    rw b.0.holds (relooked s n c.bring.new.keys i.floors.items i.ends.items g' _ (repaired_unbrought s n i.keys c.bring.new.keys i.floors.items i.ends.items g0 g' i.bounds c.bring.new.bounds r b.0))

pub returns-in-Some-clause-exact : goal.returns-in-Some-clause-exact
returns-in-Some-clause-exact c =
    let i = c.self.inside in
    let s : Setting = settled i.horizon i.clock i.bounds.entries i.fixed.items i.lags.items in
    let n = length i.bounds.entries in
    let g0 : Engine = with_looks i.engine 0 in
    let g' : Engine = c.bring.new.engine in
    let b = subst (λ o. IsBrought c.args.id c.args.bound g0 g' i.bounds c.bring.new.bounds i.keys c.bring.new.keys o) c.in-Some.is c.in_ok-path.ensures.ok in
    let slots = i.engine.store.nodes.slots in
    let none : get s.bounds c.args.id.0 ≡ None = ap (λ (t : Told). get t.setting.bounds c.args.id.0) c.self.view_is ∙ c.requires.unused in
    let h : NamesCycle (names_of slots) (kept_arcs slots) New (arc_of c.args.bound) c.in_ok-reason.reason.edges.items = (simp (c.deref.ensures.value, b.1) at c.in_ok-reason.ensures) (arc_of c.args.bound) b.2 in
    subst (λ (t : Told). Refutes IsNew (proposing t.setting c.args.bound) (with_bound t.setting c.args.id.0 c.args.bound) c.in_ok-reason.reason.edges.items) c.self.view_is
    (refused_add s (names_of slots) (kept_arcs slots) i.engine.low.items i.engine.high.items c.args.id.0 c.args.bound c.in_ok-reason.reason.edges.items (kept s n i.keys i.floors.items i.ends.items i.engine c.self.invariant) none h)

pub invariant_of-self-2 : goal.invariant_of-self-2
invariant_of-self-2 c =
    let i = c.self.inside in
    let s : Setting = settled i.horizon i.clock i.bounds.entries i.fixed.items i.lags.items in
    let n = length i.bounds.entries in
    let g0 : Engine = with_looks i.engine 0 in
    let g' : Engine = c.bring.new.engine in
    let r : IsRepaired s n i.keys i.floors.items i.ends.items g0 = relooked s n i.keys i.floors.items i.ends.items i.engine 0 c.self.invariant in
    let b : IsBroughtIn c.args.id c.args.bound g0 g' i.bounds c.bring.new.bounds i.keys c.bring.new.keys = subst (λ o. IsBrought c.args.id c.args.bound g0 g' i.bounds c.bring.new.bounds i.keys c.bring.new.keys o) c.in_default.is c.in_ok-path.ensures.ok in
    let none : get s.bounds c.args.id.0 ≡ None = ap (λ (t : Told). get t.setting.bounds c.args.id.0) c.self.view_is ∙ c.requires.unused in
    let from : HasPoint s c.args.bound.from = subst (λ (t : Told). HasPoint t.setting c.args.bound.from) (sym c.self.view_is) c.requires.from in
    let to : HasPoint s c.args.bound.to = subst (λ (t : Told). HasPoint t.setting c.args.bound.to) (sym c.self.view_is) c.requires.to in
    let word : c.args.id.0 < 2 ^ 32 = omega arith in
    let few : n < 2 ^ 32 = fewer_ids i.bounds c.args.id.0 c.len-count.ensures.ordered r.ids word none in
    let brought = repaired_brought s n i.keys c.bring.new.keys i.floors.items i.ends.items g0 g' c.args.id c.args.bound i.bounds c.bring.new.bounds r none from to c.requires.weight b refl few word in
    relooked _ _ _ _ _ g' _
    (subst (λ (m : FinMap nat_cmp Bound). IsRepaired (record { horizon = i.horizon; clock = i.clock; bounds = m; fixed = i.fixed.items; lags = i.lags.items; proposed = None }) (length c.bring.new.bounds.entries) c.bring.new.keys i.floors.items i.ends.items g') (sym b.recorded.holds) brought)

pub returns-clause-exact : goal.returns-clause-exact
returns-clause-exact c =
    let i = c.self.inside in
    let s : Setting = settled i.horizon i.clock i.bounds.entries i.fixed.items i.lags.items in
    let n = length i.bounds.entries in
    let g0 : Engine = with_looks i.engine 0 in
    let g' : Engine = c.bring.new.engine in
    let r : IsRepaired s n i.keys i.floors.items i.ends.items g0 = relooked s n i.keys i.floors.items i.ends.items i.engine 0 c.self.invariant in
    let b : IsBroughtIn c.args.id c.args.bound g0 g' i.bounds c.bring.new.bounds i.keys c.bring.new.keys = subst (λ o. IsBrought c.args.id c.args.bound g0 g' i.bounds c.bring.new.bounds i.keys c.bring.new.keys o) c.in_default.is c.in_ok-path.ensures.ok in
    let none : get s.bounds c.args.id.0 ≡ None = ap (λ (t : Told). get t.setting.bounds c.args.id.0) c.self.view_is ∙ c.requires.unused in
    let from : HasPoint s c.args.bound.from = subst (λ (t : Told). HasPoint t.setting c.args.bound.from) (sym c.self.view_is) c.requires.from in
    let to : HasPoint s c.args.bound.to = subst (λ (t : Told). HasPoint t.setting c.args.bound.to) (sym c.self.view_is) c.requires.to in
    let word : c.args.id.0 < 2 ^ 32 = omega arith in
    let few : n < 2 ^ 32 = fewer_ids i.bounds c.args.id.0 c.len-count.ensures.ordered r.ids word none in
    let brought = repaired_brought s n i.keys c.bring.new.keys i.floors.items i.ends.items g0 g' c.args.id c.args.bound i.bounds c.bring.new.bounds r none from to c.requires.weight b refl few word in
    subst (λ (t : Told). HasSchedule (with_bound t.setting c.args.id.0 c.args.bound)) c.self.view_is (kept_possible _ _ _ _ _ (kept _ _ _ _ _ _ brought))

pub returns-clause-cheap : goal.returns-clause-cheap
returns-clause-cheap c =
    let i = c.self.inside in
    let s : Setting = settled i.horizon i.clock i.bounds.entries i.fixed.items i.lags.items in
    let n = length i.bounds.entries in
    let g0 : Engine = with_looks i.engine 0 in
    let g' : Engine = c.bring.new.engine in
    let r : IsRepaired s n i.keys i.floors.items i.ends.items g0 = relooked s n i.keys i.floors.items i.ends.items i.engine 0 c.self.invariant in
    let b : IsBroughtIn c.args.id c.args.bound g0 g' i.bounds c.bring.new.bounds i.keys c.bring.new.keys = subst (λ o. IsBrought c.args.id c.args.bound g0 g' i.bounds c.bring.new.bounds i.keys c.bring.new.keys o) c.in_default.is c.in_ok-path.ensures.ok in
    let none : get s.bounds c.args.id.0 ≡ None = ap (λ (t : Told). get t.setting.bounds c.args.id.0) c.self.view_is ∙ c.requires.unused in
    let from : HasPoint s c.args.bound.from = subst (λ (t : Told). HasPoint t.setting c.args.bound.from) (sym c.self.view_is) c.requires.from in
    let to : HasPoint s c.args.bound.to = subst (λ (t : Told). HasPoint t.setting c.args.bound.to) (sym c.self.view_is) c.requires.to in
    let word : c.args.id.0 < 2 ^ 32 = omega arith in
    let few : n < 2 ^ 32 = fewer_ids i.bounds c.args.id.0 c.len-count.ensures.ordered r.ids word none in
    let brought = repaired_brought s n i.keys c.bring.new.keys i.floors.items i.ends.items g0 g' c.args.id c.args.bound i.bounds c.bring.new.bounds r none from to c.requires.weight b refl few word in
    let h = subst (λ o. AreCounted g0.store (length g0.low.items) g'.up.amounts.items g'.down.amounts.items 0 g'.looks o) c.in_default.is c.in_ok-path.ensures.counted in
    subst (λ (t : Told). IsCheap 2 t.setting (with_bound t.setting c.args.id.0 c.args.bound) g'.looks) c.self.view_is
    (cheap s (with_bound s c.args.id.0 c.args.bound) n (length c.bring.new.bounds.entries) i.keys c.bring.new.keys i.floors.items i.ends.items i.floors.items i.ends.items g0 g' g'.up.amounts.items g'.down.amounts.items 2 g'.looks r brought refl b.moves.up b.moves.down (omega (arith, h)))

pub returns-clause-some : goal.returns-clause-some
returns-clause-some c =
    let g0 : Engine = with_looks c.self.inside.engine 0 in
    let h = subst (λ o. AreCounted g0.store (length g0.low.items) c.bring.new.engine.up.amounts.items c.bring.new.engine.down.amounts.items 0 c.bring.new.engine.looks o) c.in_default.is c.in_ok-path.ensures.counted in
    omega (arith, h)

pub returns-in_err-path-clause-most : goal.returns-in_err-path-clause-most
returns-in_err-path-clause-most c =
    let i = c.self.inside in
    let s : Setting = settled i.horizon i.clock i.bounds.entries i.fixed.items i.lags.items in
    let n = length i.bounds.entries in
    let g0 : Engine = with_looks i.engine 0 in
    let r : IsRepaired s n i.keys i.floors.items i.ends.items g0 = relooked s n i.keys i.floors.items i.ends.items i.engine 0 c.self.invariant in
    let most = c.bring.ensures.looks (n + 2 * event_count s) (wired_here s n i.keys i.floors.items i.ends.items g0 r) in
    let held = held_len i.bounds c.len-count.ensures.ordered in
    let told : edge_count s ≡ edge_count c.args.self.now.setting = ap (λ (t : Told). edge_count t.setting) c.self.view_is in
    omega (arith, most, held, told)

pub returns-in_err-reason-clause-most : goal.returns-in_err-reason-clause-most
returns-in_err-reason-clause-most c =
    let i = c.self.inside in
    let s : Setting = settled i.horizon i.clock i.bounds.entries i.fixed.items i.lags.items in
    let n = length i.bounds.entries in
    let g0 : Engine = with_looks i.engine 0 in
    let r : IsRepaired s n i.keys i.floors.items i.ends.items g0 = relooked s n i.keys i.floors.items i.ends.items i.engine 0 c.self.invariant in
    let most = c.bring.ensures.looks (n + 2 * event_count s) (wired_here s n i.keys i.floors.items i.ends.items g0 r) in
    let held = held_len i.bounds c.len-count.ensures.ordered in
    let told : edge_count s ≡ edge_count c.args.self.now.setting = ap (λ (t : Told). edge_count t.setting) c.self.view_is in
    omega (arith, most, held, told)

pub returns-in-Some-clause-most : goal.returns-in-Some-clause-most
returns-in-Some-clause-most c =
    let i = c.self.inside in
    let s : Setting = settled i.horizon i.clock i.bounds.entries i.fixed.items i.lags.items in
    let n = length i.bounds.entries in
    let g0 : Engine = with_looks i.engine 0 in
    let r : IsRepaired s n i.keys i.floors.items i.ends.items g0 = relooked s n i.keys i.floors.items i.ends.items i.engine 0 c.self.invariant in
    let most = c.bring.ensures.looks (n + 2 * event_count s) (wired_here s n i.keys i.floors.items i.ends.items g0 r) in
    let held = held_len i.bounds c.len-count.ensures.ordered in
    let told : edge_count s ≡ edge_count c.args.self.now.setting = ap (λ (t : Told). edge_count t.setting) c.self.view_is in
    omega (arith, most, held, told)

pub returns-clause-most : goal.returns-clause-most
returns-clause-most c =
    let i = c.self.inside in
    let s : Setting = settled i.horizon i.clock i.bounds.entries i.fixed.items i.lags.items in
    let n = length i.bounds.entries in
    let g0 : Engine = with_looks i.engine 0 in
    let r : IsRepaired s n i.keys i.floors.items i.ends.items g0 = relooked s n i.keys i.floors.items i.ends.items i.engine 0 c.self.invariant in
    let most = c.bring.ensures.looks (n + 2 * event_count s) (wired_here s n i.keys i.floors.items i.ends.items g0 r) in
    let held = held_len i.bounds c.len-count.ensures.ordered in
    let told : edge_count s ≡ edge_count c.args.self.now.setting = ap (λ (t : Told). edge_count t.setting) c.self.view_is in
    omega (arith, most, held, told)
