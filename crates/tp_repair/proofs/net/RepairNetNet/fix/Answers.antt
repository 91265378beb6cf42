use Rattle.std.proofs.Common.{◌≡◌, suc, ◌+◌, ◌*◌, ◌<◌, ◌≤◌, inl, inr, None, length, get_or, refl, sym, subst, ap, ◌∙◌, arith}
use Rattle.tp_bounds.specs.declared.Edge.TheVariants.{PastLow, PastHigh}
use Rattle.tp_bounds.specs.Setting.{Setting, event_count, fixed_at, floor_of}
use Rattle.tp_bounds.specs.Changes.{with_fixed}
use Rattle.tp_bounds.specs.Reasons.{at_least, at_most}
use Rattle.tp_bounds.specs.Schedule.{HasSchedule}
use Rattle.tp_net.specs.Arcs.{arc_of}
use Rattle.tp_net.specs.Faults.{Refutes, IsPastOf}
use Rattle.tp_net.specs.Kept.{IsKept}
use Rattle.tp_net.proofs.Additions.{read_at}
use Rattle.tp_net.proofs.KeptMoments.{kept_possible, contrary_after, contrary_before}
use Rattle.tp_net.proofs.Fixes.{refused_fix, past_low, past_high}
use Rattle.tp_repair_engine.specs.Told.{Told, settled}
use Rattle.tp_repair_engine.specs.declared.engine.Engine.{Engine}
use Rattle.tp_repair_engine.specs.Store.{names_of, kept_arcs}
use Rattle.tp_repair_engine.specs.Slots.{past_slots}
use Rattle.tp_repair_engine.specs.Engine.{IsRepaired}
use Rattle.tp_repair_engine.specs.Costs.{IsCheap}
use Rattle.tp_repair_engine.proofs.Cheap.{cheap, edges_are}
use Rattle.std.proofs.Common.{length-set}
use Rattle.std.specs.Prelude.{Some}
use Rattle.tp_repair_engine.specs.Told.{edge_count}
use Rattle.tp_repair_engine.proofs.Repaired.{kept, solved, wired_here, with_looks, relooked}
use Rattle.tp_repair.proofs.Renewed.{are_names_past, floor_and_end, none_arcs, past_reason, repaired_fixed, repaired_untouched}
use Rattle.tp_repair.proofs.net.RepairNetNet.fix.Goals as goal

pub refute-requires-clause-solved : goal.refute-requires-clause-solved
refute-requires-clause-solved c =
    let i = c.self.inside in
    let s : Setting = settled i.horizon i.clock i.bounds.entries i.fixed.items i.lags.items in
    let n = length i.bounds.entries in
    solved s n i.keys i.floors.items i.ends.items (with_looks i.engine 0) (relooked s n i.keys i.floors.items i.ends.items i.engine 0 c.self.invariant)

pub refute-requires-clause-none : goal.refute-requires-clause-none
refute-requires-clause-none c =
    let i = c.self.inside in
    let s : Setting = settled i.horizon i.clock i.bounds.entries i.fixed.items i.lags.items in
    let n = length i.bounds.entries in
    let g : Engine = i.engine in
    let g0 : Engine = with_looks g 0 in
    let slots = g.store.nodes.slots in
    let r : IsRepaired s n i.keys i.floors.items i.ends.items g = c.self.invariant in
    let r0 : IsRepaired s n i.keys i.floors.items i.ends.items g0 = relooked s n i.keys i.floors.items i.ends.items g 0 r in
    let k : IsKept s (names_of slots) (kept_arcs slots) g.low.items g.high.items = kept s n i.keys i.floors.items i.ends.items g r in
    let lt : c.args.e < length i.fixed.items = subst (λ (t : Told). c.args.e < event_count t.setting) (sym c.self.view_is) c.requires.event in
    let free : fixed_at s c.args.e ≡ None = subst (λ (t : Told). fixed_at t.setting c.args.e ≡ None) (sym c.self.view_is) c.requires.free in
    let floor : floor_of s c.args.e ≤ c.args.moment = subst (λ (t : Told). floor_of t.setting c.args.e ≤ c.args.moment) (sym c.self.view_is) c.requires.floor in
    let soon : c.args.moment ≤ i.horizon = subst (λ (t : Told). c.args.moment ≤ t.setting.horizon) (sym c.self.view_is) c.requires.in_time in
    let at1 : c.from-point.result + 1 ≡ suc c.args.e = omega (arith, c.from-point.ensures) in
    let high_len = r.wired.high_len in
    let low_len = r.wired.low_len in
    let high : get_or g.high.items (suc c.args.e) 0 ≡ c.index.result.now = ap (λ j. get_or g.high.items j 0) (sym at1) ∙ read_at g.high.items (c.from-point.result + 1) c.index.result.now (omega (arith, at1, high_len, lt)) c.index.ensures in
    simp c.start_arc-new.ensures
    (none_arcs slots (arc_of (at_least c.args.e c.args.moment)) (contrary_after s (names_of slots) (kept_arcs slots) g.low.items g.high.items (names_of slots) c.args.e c.args.moment k refl lt soon (omega (arith, high, c.if-index-from.true, c.from.ensures))).none)

pub invariant_of-self : goal.invariant_of-self
invariant_of-self c =
    let i = c.self.inside in
    let s : Setting = settled i.horizon i.clock i.bounds.entries i.fixed.items i.lags.items in
    let n = length i.bounds.entries in
    let g : Engine = i.engine in
    let g0 : Engine = with_looks g 0 in
    let slots = g.store.nodes.slots in
    let r : IsRepaired s n i.keys i.floors.items i.ends.items g = c.self.invariant in
    let r0 : IsRepaired s n i.keys i.floors.items i.ends.items g0 = relooked s n i.keys i.floors.items i.ends.items g 0 r in
    let k : IsKept s (names_of slots) (kept_arcs slots) g.low.items g.high.items = kept s n i.keys i.floors.items i.ends.items g r in
    repaired_untouched s n i.keys i.floors.items i.ends.items g0 c.refute.new.engine i.bounds r0 c.refute.ensures.still

pub invariant_of-self-then-index-from : goal.invariant_of-self-then-index-from
invariant_of-self-then-index-from c =
    let i = c.self.inside in
    let s : Setting = settled i.horizon i.clock i.bounds.entries i.fixed.items i.lags.items in
    let n = length i.bounds.entries in
    let g : Engine = i.engine in
    let g0 : Engine = with_looks g 0 in
    let slots = g.store.nodes.slots in
    let r : IsRepaired s n i.keys i.floors.items i.ends.items g = c.self.invariant in
    let r0 : IsRepaired s n i.keys i.floors.items i.ends.items g0 = relooked s n i.keys i.floors.items i.ends.items g 0 r in
    let k : IsKept s (names_of slots) (kept_arcs slots) g.low.items g.high.items = kept s n i.keys i.floors.items i.ends.items g r in
    repaired_untouched s n i.keys i.floors.items i.ends.items g0 c.refute.new.engine i.bounds r0 c.refute.ensures.still

pub returns-then-index-from-clause-exact : goal.returns-then-index-from-clause-exact
returns-then-index-from-clause-exact c =
    let i = c.self.inside in
    let s : Setting = settled i.horizon i.clock i.bounds.entries i.fixed.items i.lags.items in
    let n = length i.bounds.entries in
    let g : Engine = i.engine in
    let g0 : Engine = with_looks g 0 in
    let slots = g.store.nodes.slots in
    let r : IsRepaired s n i.keys i.floors.items i.ends.items g = c.self.invariant in
    let r0 : IsRepaired s n i.keys i.floors.items i.ends.items g0 = relooked s n i.keys i.floors.items i.ends.items g 0 r in
    let k : IsKept s (names_of slots) (kept_arcs slots) g.low.items g.high.items = kept s n i.keys i.floors.items i.ends.items g r in
    let lt : c.args.e < length i.fixed.items = subst (λ (t : Told). c.args.e < event_count t.setting) (sym c.self.view_is) c.requires.event in
    let free : fixed_at s c.args.e ≡ None = subst (λ (t : Told). fixed_at t.setting c.args.e ≡ None) (sym c.self.view_is) c.requires.free in
    let floor : floor_of s c.args.e ≤ c.args.moment = subst (λ (t : Told). floor_of t.setting c.args.e ≤ c.args.moment) (sym c.self.view_is) c.requires.floor in
    let soon : c.args.moment ≤ i.horizon = subst (λ (t : Told). c.args.moment ≤ t.setting.horizon) (sym c.self.view_is) c.requires.in_time in
    let h = past_reason c.args.e c.args.moment slots (PastLow c.args.e) (arc_of (at_least c.args.e c.args.moment)) c.in_ok-reason.reason.edges.items c.past.result.edges.items refl (simp c.start_arc-new.ensures at c.in_ok-reason.ensures.reason) c.past.ensures in
    subst (λ (t : Told). Refutes (IsPastOf c.args.e) (with_fixed t.setting c.args.e c.args.moment) (with_fixed t.setting c.args.e c.args.moment) c.past.result.edges.items) c.self.view_is
    (refused_fix s c.args.e c.args.moment lt free floor soon (names_of slots) (kept_arcs slots) g.low.items g.high.items (names_of (past_slots c.args.e c.args.moment slots)) (PastLow c.args.e) (at_least c.args.e c.args.moment) c.past.result.edges.items k (are_names_past c.args.e c.args.moment slots) (inr refl) (past_low s c.args.e c.args.moment lt free floor soon) h)

pub refute-requires-then-from-index-clause-solved : goal.refute-requires-then-from-index-clause-solved
refute-requires-then-from-index-clause-solved c =
    let i = c.self.inside in
    let s : Setting = settled i.horizon i.clock i.bounds.entries i.fixed.items i.lags.items in
    let n = length i.bounds.entries in
    solved s n i.keys i.floors.items i.ends.items (with_looks i.engine 0) (relooked s n i.keys i.floors.items i.ends.items i.engine 0 c.self.invariant)

pub refute-requires-then-from-index-clause-none : goal.refute-requires-then-from-index-clause-none
refute-requires-then-from-index-clause-none c =
    let i = c.self.inside in
    let s : Setting = settled i.horizon i.clock i.bounds.entries i.fixed.items i.lags.items in
    let n = length i.bounds.entries in
    let g : Engine = i.engine in
    let g0 : Engine = with_looks g 0 in
    let slots = g.store.nodes.slots in
    let r : IsRepaired s n i.keys i.floors.items i.ends.items g = c.self.invariant in
    let r0 : IsRepaired s n i.keys i.floors.items i.ends.items g0 = relooked s n i.keys i.floors.items i.ends.items g 0 r in
    let k : IsKept s (names_of slots) (kept_arcs slots) g.low.items g.high.items = kept s n i.keys i.floors.items i.ends.items g r in
    let lt : c.args.e < length i.fixed.items = subst (λ (t : Told). c.args.e < event_count t.setting) (sym c.self.view_is) c.requires.event in
    let free : fixed_at s c.args.e ≡ None = subst (λ (t : Told). fixed_at t.setting c.args.e ≡ None) (sym c.self.view_is) c.requires.free in
    let floor : floor_of s c.args.e ≤ c.args.moment = subst (λ (t : Told). floor_of t.setting c.args.e ≤ c.args.moment) (sym c.self.view_is) c.requires.floor in
    let soon : c.args.moment ≤ i.horizon = subst (λ (t : Told). c.args.moment ≤ t.setting.horizon) (sym c.self.view_is) c.requires.in_time in
    let at1 : c.from-point.result + 1 ≡ suc c.args.e = omega (arith, c.from-point.ensures) in
    let high_len = r.wired.high_len in
    let low_len = r.wired.low_len in
    let high : get_or g.high.items (suc c.args.e) 0 ≡ c.index.result.now = ap (λ j. get_or g.high.items j 0) (sym at1) ∙ read_at g.high.items (c.from-point.result + 1) c.index.result.now (omega (arith, at1, high_len, lt)) c.index.ensures in
    let low : get_or g.low.items (suc c.args.e) 0 ≡ c.index-2.result.now = ap (λ j. get_or g.low.items j 0) (sym at1) ∙ read_at g.low.items (c.from-point.result + 1) c.index-2.result.now (omega (arith, at1, low_len, lt)) c.index-2.ensures in
    simp c.stop_arc-new.ensures
    (none_arcs slots (arc_of (at_most c.args.e c.args.moment)) (contrary_before s (names_of slots) (kept_arcs slots) g.low.items g.high.items (names_of slots) c.args.e c.args.moment k refl lt soon (omega (arith, low, c.if-from-index.true, c.from-2.ensures))).none)

pub invariant_of-self-in_err-reason-2 : goal.invariant_of-self-in_err-reason-2
invariant_of-self-in_err-reason-2 c =
    let i = c.self.inside in
    let s : Setting = settled i.horizon i.clock i.bounds.entries i.fixed.items i.lags.items in
    let n = length i.bounds.entries in
    let g : Engine = i.engine in
    let g0 : Engine = with_looks g 0 in
    let slots = g.store.nodes.slots in
    let r : IsRepaired s n i.keys i.floors.items i.ends.items g = c.self.invariant in
    let r0 : IsRepaired s n i.keys i.floors.items i.ends.items g0 = relooked s n i.keys i.floors.items i.ends.items g 0 r in
    let k : IsKept s (names_of slots) (kept_arcs slots) g.low.items g.high.items = kept s n i.keys i.floors.items i.ends.items g r in
    repaired_untouched s n i.keys i.floors.items i.ends.items g0 c.refute-then-from-index.new.engine i.bounds r0 c.refute-then-from-index.ensures.still

pub invariant_of-self-then-from-index : goal.invariant_of-self-then-from-index
invariant_of-self-then-from-index c =
    let i = c.self.inside in
    let s : Setting = settled i.horizon i.clock i.bounds.entries i.fixed.items i.lags.items in
    let n = length i.bounds.entries in
    let g : Engine = i.engine in
    let g0 : Engine = with_looks g 0 in
    let slots = g.store.nodes.slots in
    let r : IsRepaired s n i.keys i.floors.items i.ends.items g = c.self.invariant in
    let r0 : IsRepaired s n i.keys i.floors.items i.ends.items g0 = relooked s n i.keys i.floors.items i.ends.items g 0 r in
    let k : IsKept s (names_of slots) (kept_arcs slots) g.low.items g.high.items = kept s n i.keys i.floors.items i.ends.items g r in
    repaired_untouched s n i.keys i.floors.items i.ends.items g0 c.refute-then-from-index.new.engine i.bounds r0 c.refute-then-from-index.ensures.still

pub returns-then-from-index-clause-exact : goal.returns-then-from-index-clause-exact
returns-then-from-index-clause-exact c =
    let i = c.self.inside in
    let s : Setting = settled i.horizon i.clock i.bounds.entries i.fixed.items i.lags.items in
    let n = length i.bounds.entries in
    let g : Engine = i.engine in
    let g0 : Engine = with_looks g 0 in
    let slots = g.store.nodes.slots in
    let r : IsRepaired s n i.keys i.floors.items i.ends.items g = c.self.invariant in
    let r0 : IsRepaired s n i.keys i.floors.items i.ends.items g0 = relooked s n i.keys i.floors.items i.ends.items g 0 r in
    let k : IsKept s (names_of slots) (kept_arcs slots) g.low.items g.high.items = kept s n i.keys i.floors.items i.ends.items g r in
    let lt : c.args.e < length i.fixed.items = subst (λ (t : Told). c.args.e < event_count t.setting) (sym c.self.view_is) c.requires.event in
    let free : fixed_at s c.args.e ≡ None = subst (λ (t : Told). fixed_at t.setting c.args.e ≡ None) (sym c.self.view_is) c.requires.free in
    let floor : floor_of s c.args.e ≤ c.args.moment = subst (λ (t : Told). floor_of t.setting c.args.e ≤ c.args.moment) (sym c.self.view_is) c.requires.floor in
    let soon : c.args.moment ≤ i.horizon = subst (λ (t : Told). c.args.moment ≤ t.setting.horizon) (sym c.self.view_is) c.requires.in_time in
    let h = past_reason c.args.e c.args.moment slots (PastHigh c.args.e) (arc_of (at_most c.args.e c.args.moment)) c.in_ok-reason-2.reason.edges.items c.past-then-from-index.result.edges.items refl (simp c.stop_arc-new.ensures at c.in_ok-reason-2.ensures.reason) c.past-then-from-index.ensures in
    subst (λ (t : Told). Refutes (IsPastOf c.args.e) (with_fixed t.setting c.args.e c.args.moment) (with_fixed t.setting c.args.e c.args.moment) c.past-then-from-index.result.edges.items) c.self.view_is
    (refused_fix s c.args.e c.args.moment lt free floor soon (names_of slots) (kept_arcs slots) g.low.items g.high.items (names_of (past_slots c.args.e c.args.moment slots)) (PastHigh c.args.e) (at_most c.args.e c.args.moment) c.past-then-from-index.result.edges.items k (are_names_past c.args.e c.args.moment slots) (inl refl) (past_high s c.args.e c.args.moment lt free floor soon) h)

pub settle-requires-clause-solved : goal.settle-requires-clause-solved
settle-requires-clause-solved c =
    let i = c.self.inside in
    let s : Setting = settled i.horizon i.clock i.bounds.entries i.fixed.items i.lags.items in
    let n = length i.bounds.entries in
    solved s n i.keys i.floors.items i.ends.items (with_looks i.engine 0) (relooked s n i.keys i.floors.items i.ends.items i.engine 0 c.self.invariant)

pub settle-requires-clause-keys : goal.settle-requires-clause-keys
settle-requires-clause-keys c =
    let i = c.self.inside in
    let s : Setting = settled i.horizon i.clock i.bounds.entries i.fixed.items i.lags.items in
    let n = length i.bounds.entries in
    let g : Engine = i.engine in
    let g0 : Engine = with_looks g 0 in
    let slots = g.store.nodes.slots in
    let r : IsRepaired s n i.keys i.floors.items i.ends.items g = c.self.invariant in
    let r0 : IsRepaired s n i.keys i.floors.items i.ends.items g0 = relooked s n i.keys i.floors.items i.ends.items g 0 r in
    let k : IsKept s (names_of slots) (kept_arcs slots) g.low.items g.high.items = kept s n i.keys i.floors.items i.ends.items g r in
    let lt : c.args.e < length i.fixed.items = subst (λ (t : Told). c.args.e < event_count t.setting) (sym c.self.view_is) c.requires.event in
    let free : fixed_at s c.args.e ≡ None = subst (λ (t : Told). fixed_at t.setting c.args.e ≡ None) (sym c.self.view_is) c.requires.free in
    let floor : floor_of s c.args.e ≤ c.args.moment = subst (λ (t : Told). floor_of t.setting c.args.e ≤ c.args.moment) (sym c.self.view_is) c.requires.floor in
    let soon : c.args.moment ≤ i.horizon = subst (λ (t : Told). c.args.moment ≤ t.setting.horizon) (sym c.self.view_is) c.requires.in_time in
    let read : get_or i.floors.items c.args.e 0 ≡ c.index-floor.result.now = read_at i.floors.items c.args.e c.index-floor.result.now (let l = r.floors_len in omega (arith, lt, l)) c.index-floor.ensures in
    let end : get_or i.ends.items c.args.e 0 ≡ c.index-end.result.now = read_at i.ends.items c.args.e c.index-end.result.now (let l = r.ends_len in omega (arith, lt, l)) c.index-end.ensures in
    floor_and_end s n i.keys i.floors.items i.ends.items g r c.args.e c.args.moment c.index-floor.result.now c.index-end.result.now lt free floor soon read end

pub settle-requires-clause-window : goal.settle-requires-clause-window
settle-requires-clause-window c =
    let i = c.self.inside in
    let s : Setting = settled i.horizon i.clock i.bounds.entries i.fixed.items i.lags.items in
    let n = length i.bounds.entries in
    let g : Engine = i.engine in
    let r : IsRepaired s n i.keys i.floors.items i.ends.items g = c.self.invariant in
    let lt : c.args.e < length i.fixed.items = subst (λ (t : Told). c.args.e < event_count t.setting) (sym c.self.view_is) c.requires.event in
    let at1 : c.from-point.result + 1 ≡ suc c.args.e = omega (arith, c.from-point.ensures) in
    let high_len = r.wired.high_len in
    let low_len = r.wired.low_len in
    let low : get_or g.low.items (suc c.args.e) 0 ≡ c.index-2.result.now = ap (λ j. get_or g.low.items j 0) (sym at1) ∙ read_at g.low.items (c.from-point.result + 1) c.index-2.result.now (omega (arith, at1, low_len, lt)) c.index-2.ensures in
    let high : get_or g.high.items (suc c.args.e) 0 ≡ c.index.result.now = ap (λ j. get_or g.high.items j 0) (sym at1) ∙ read_at g.high.items (c.from-point.result + 1) c.index.result.now (omega (arith, at1, high_len, lt)) c.index.ensures in
    record {
      point = omega (arith, low_len, lt);
      above = omega (arith, low, c.if-from-index.false, c.from-2.ensures);
      below = omega (arith, high, c.if-index-from.false, c.from.ensures);
    }

pub invariant_of-self-in_err-settle : goal.invariant_of-self-in_err-settle
invariant_of-self-in_err-settle c =
    let i = c.self.inside in
    let s : Setting = settled i.horizon i.clock i.bounds.entries i.fixed.items i.lags.items in
    let n = length i.bounds.entries in
    let g : Engine = i.engine in
    let g0 : Engine = with_looks g 0 in
    let slots = g.store.nodes.slots in
    let r : IsRepaired s n i.keys i.floors.items i.ends.items g = c.self.invariant in
    let r0 : IsRepaired s n i.keys i.floors.items i.ends.items g0 = relooked s n i.keys i.floors.items i.ends.items g 0 r in
    let k : IsKept s (names_of slots) (kept_arcs slots) g.low.items g.high.items = kept s n i.keys i.floors.items i.ends.items g r in
    repaired_untouched s n i.keys i.floors.items i.ends.items g0 c.settle.new.engine i.bounds r0 c.in_err-settle.ensures.err

pub invariant_of-self-2 : goal.invariant_of-self-2
invariant_of-self-2 c =
    let i = c.self.inside in
    let s : Setting = settled i.horizon i.clock i.bounds.entries i.fixed.items i.lags.items in
    let n = length i.bounds.entries in
    let g : Engine = i.engine in
    let g0 : Engine = with_looks g 0 in
    let slots = g.store.nodes.slots in
    let r : IsRepaired s n i.keys i.floors.items i.ends.items g = c.self.invariant in
    let r0 : IsRepaired s n i.keys i.floors.items i.ends.items g0 = relooked s n i.keys i.floors.items i.ends.items g 0 r in
    let k : IsKept s (names_of slots) (kept_arcs slots) g.low.items g.high.items = kept s n i.keys i.floors.items i.ends.items g r in
    let lt : c.args.e < length i.fixed.items = subst (λ (t : Told). c.args.e < event_count t.setting) (sym c.self.view_is) c.requires.event in
    let free : fixed_at s c.args.e ≡ None = subst (λ (t : Told). fixed_at t.setting c.args.e ≡ None) (sym c.self.view_is) c.requires.free in
    let floor : floor_of s c.args.e ≤ c.args.moment = subst (λ (t : Told). floor_of t.setting c.args.e ≤ c.args.moment) (sym c.self.view_is) c.requires.floor in
    let soon : c.args.moment ≤ i.horizon = subst (λ (t : Told). c.args.moment ≤ t.setting.horizon) (sym c.self.view_is) c.requires.in_time in
    relooked _ _ _ _ _ c.settle.new.engine _ (repaired_fixed s c.args.e c.args.moment n i.keys i.floors.items i.ends.items g0 c.settle.new.engine r0 c.in_ok-settle.ensures.ok lt free floor soon)

pub returns-clause-exact : goal.returns-clause-exact
returns-clause-exact c =
    let i = c.self.inside in
    let s : Setting = settled i.horizon i.clock i.bounds.entries i.fixed.items i.lags.items in
    let n = length i.bounds.entries in
    let g : Engine = i.engine in
    let g0 : Engine = with_looks g 0 in
    let slots = g.store.nodes.slots in
    let r : IsRepaired s n i.keys i.floors.items i.ends.items g = c.self.invariant in
    let r0 : IsRepaired s n i.keys i.floors.items i.ends.items g0 = relooked s n i.keys i.floors.items i.ends.items g 0 r in
    let k : IsKept s (names_of slots) (kept_arcs slots) g.low.items g.high.items = kept s n i.keys i.floors.items i.ends.items g r in
    let lt : c.args.e < length i.fixed.items = subst (λ (t : Told). c.args.e < event_count t.setting) (sym c.self.view_is) c.requires.event in
    let free : fixed_at s c.args.e ≡ None = subst (λ (t : Told). fixed_at t.setting c.args.e ≡ None) (sym c.self.view_is) c.requires.free in
    let floor : floor_of s c.args.e ≤ c.args.moment = subst (λ (t : Told). floor_of t.setting c.args.e ≤ c.args.moment) (sym c.self.view_is) c.requires.floor in
    let soon : c.args.moment ≤ i.horizon = subst (λ (t : Told). c.args.moment ≤ t.setting.horizon) (sym c.self.view_is) c.requires.in_time in
    subst (λ (t : Told). HasSchedule (with_fixed t.setting c.args.e c.args.moment)) c.self.view_is
    (kept_possible _ _ _ _ _ (kept _ _ _ _ _ _ (repaired_fixed s c.args.e c.args.moment n i.keys i.floors.items i.ends.items g0 c.settle.new.engine r0 c.in_ok-settle.ensures.ok lt free floor soon)))

pub returns-clause-cheap : goal.returns-clause-cheap
returns-clause-cheap c =
    let i = c.self.inside in
    let s : Setting = settled i.horizon i.clock i.bounds.entries i.fixed.items i.lags.items in
    let n = length i.bounds.entries in
    let g : Engine = i.engine in
    let g0 : Engine = with_looks g 0 in
    let slots = g.store.nodes.slots in
    let r : IsRepaired s n i.keys i.floors.items i.ends.items g = c.self.invariant in
    let r0 : IsRepaired s n i.keys i.floors.items i.ends.items g0 = relooked s n i.keys i.floors.items i.ends.items g 0 r in
    let k : IsKept s (names_of slots) (kept_arcs slots) g.low.items g.high.items = kept s n i.keys i.floors.items i.ends.items g r in
    let lt : c.args.e < length i.fixed.items = subst (λ (t : Told). c.args.e < event_count t.setting) (sym c.self.view_is) c.requires.event in
    let free : fixed_at s c.args.e ≡ None = subst (λ (t : Told). fixed_at t.setting c.args.e ≡ None) (sym c.self.view_is) c.requires.free in
    let floor : floor_of s c.args.e ≤ c.args.moment = subst (λ (t : Told). floor_of t.setting c.args.e ≤ c.args.moment) (sym c.self.view_is) c.requires.floor in
    let soon : c.args.moment ≤ i.horizon = subst (λ (t : Told). c.args.moment ≤ t.setting.horizon) (sym c.self.view_is) c.requires.in_time in
    let g' : Engine = c.settle.new.engine in
    let fixed = repaired_fixed s c.args.e c.args.moment n i.keys i.floors.items i.ends.items g0 g' r0 c.in_ok-settle.ensures.ok lt free floor soon in
    let h = c.in_ok-settle.ensures.looks in
    let moves = c.in_ok-settle.ensures.moves in
    subst (λ (t : Told). IsCheap 2 t.setting (with_fixed t.setting c.args.e c.args.moment) g'.looks) c.self.view_is
    (cheap s (with_fixed s c.args.e c.args.moment) n n i.keys i.keys i.floors.items i.ends.items i.floors.items i.ends.items g0 g' g'.up.amounts.items g'.down.amounts.items 2 g'.looks r0 fixed (length-set s.fixed c.args.e (Some c.args.moment)) moves.up moves.down (omega (arith, h)))

pub returns-then-index-from-clause-most : goal.returns-then-index-from-clause-most
returns-then-index-from-clause-most c =
    let i = c.self.inside in
    let s : Setting = settled i.horizon i.clock i.bounds.entries i.fixed.items i.lags.items in
    let n = length i.bounds.entries in
    let g0 : Engine = with_looks i.engine 0 in
    let r0 : IsRepaired s n i.keys i.floors.items i.ends.items g0 = relooked s n i.keys i.floors.items i.ends.items i.engine 0 c.self.invariant in
    let most = c.refute.ensures.looks (n + 2 * event_count s) (wired_here s n i.keys i.floors.items i.ends.items g0 r0) in
    let edges = edges_are s n i.keys i.floors.items i.ends.items g0 r0 in
    let told : edge_count s ≡ edge_count c.args.self.now.setting = ap (λ (t : Told). edge_count t.setting) c.self.view_is in
    omega (arith, most, edges, told)

pub returns-then-from-index-clause-most : goal.returns-then-from-index-clause-most
returns-then-from-index-clause-most c =
    let i = c.self.inside in
    let s : Setting = settled i.horizon i.clock i.bounds.entries i.fixed.items i.lags.items in
    let n = length i.bounds.entries in
    let g0 : Engine = with_looks i.engine 0 in
    let r0 : IsRepaired s n i.keys i.floors.items i.ends.items g0 = relooked s n i.keys i.floors.items i.ends.items i.engine 0 c.self.invariant in
    let most = c.refute-then-from-index.ensures.looks (n + 2 * event_count s) (wired_here s n i.keys i.floors.items i.ends.items g0 r0) in
    let edges = edges_are s n i.keys i.floors.items i.ends.items g0 r0 in
    let told : edge_count s ≡ edge_count c.args.self.now.setting = ap (λ (t : Told). edge_count t.setting) c.self.view_is in
    omega (arith, most, edges, told)
