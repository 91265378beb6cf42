use Rattle.std.proofs.Common.{◌≡◌, ◌≢◌, suc, ◌+◌, cond, None, length, sym, subst, ap, ◌∙◌, arith}
use Rattle.std.specs.Prelude.{Some, is_some}
use Rattle.std.specs.FinMap.{FinMap, get}
use Rattle.std.specs.Ordering.{nat_cmp}
use Rattle.std.specs.BTreeMap as tree
use Rattle.tp_bounds.specs.declared.Bound.{Bound}
use Rattle.tp_bounds.specs.Setting.{Setting}
use Rattle.tp_bounds.specs.Changes.{without_bound}
use Rattle.tp_bounds.specs.Schedule.{HasSchedule}
use Rattle.tp_bounds.proofs.HeldMaps.{get_held, held_removed}
use Rattle.tp_net.proofs.KeptMoments.{kept_possible}
use Rattle.tp_repair_engine.specs.Told.{Told, settled}
use Rattle.tp_repair_engine.specs.declared.engine.Engine.{Engine}
use Rattle.tp_repair_engine.specs.Engine.{IsRepaired}
use Rattle.tp_repair_engine.specs.Costs.{AreWindows}
use Rattle.tp_repair.proofs.Loose.{loose_node}
use Rattle.tp_repair_engine.proofs.Repaired.{kept, solved, with_looks, relooked}
use Rattle.tp_repair.proofs.Renewed.{some_of, has_own_key, may_leave, repaired_left, repaired_untouched}
use Rattle.tp_repair.proofs.net.RepairNetNet.remove.Goals as goal

pub key_of-key-requires : goal.key_of-key-requires
key_of-key-requires c =
    let i = c.self.inside in
    let s : Setting = settled i.horizon i.clock i.bounds.entries i.fixed.items i.lags.items in
    let n = length i.bounds.entries in
    let g : Engine = i.engine in
    let g0 : Engine = with_looks g 0 in
    let r : IsRepaired s n i.keys i.floors.items i.ends.items g = c.self.invariant in
    let r0 : IsRepaired s n i.keys i.floors.items i.ends.items g0 = relooked s n i.keys i.floors.items i.ends.items g 0 r in
    let there : get s.bounds c.args.id.0 ≢ None = λ none. c.requires.in_force (sym (ap (λ (t : Told). get t.setting.bounds c.args.id.0) c.self.view_is) ∙ none) in
    let b = some_of (get s.bounds c.args.id.0) there in
    has_own_key s n i.keys i.floors.items i.ends.items g r c.args.id b.0 b.1

pub leave-requires-clause-solved : goal.leave-requires-clause-solved
leave-requires-clause-solved c =
    let i = c.self.inside in
    let s : Setting = settled i.horizon i.clock i.bounds.entries i.fixed.items i.lags.items in
    let n = length i.bounds.entries in
    solved s n i.keys i.floors.items i.ends.items (with_looks i.engine 0) (relooked s n i.keys i.floors.items i.ends.items i.engine 0 c.self.invariant)

pub leave-requires-clause-may : goal.leave-requires-clause-may
leave-requires-clause-may c =
    let i = c.self.inside in
    let s : Setting = settled i.horizon i.clock i.bounds.entries i.fixed.items i.lags.items in
    let n = length i.bounds.entries in
    let g : Engine = i.engine in
    let g0 : Engine = with_looks g 0 in
    let r : IsRepaired s n i.keys i.floors.items i.ends.items g = c.self.invariant in
    let r0 : IsRepaired s n i.keys i.floors.items i.ends.items g0 = relooked s n i.keys i.floors.items i.ends.items g 0 r in
    let there : get s.bounds c.args.id.0 ≢ None = λ none. c.requires.in_force (sym (ap (λ (t : Told). get t.setting.bounds c.args.id.0) c.self.view_is) ∙ none) in
    let b = some_of (get s.bounds c.args.id.0) there in
    let amount : c.from-amount.result + 1 ≡ suc i.horizon = omega (arith, c.from-amount.ensures) in
    may_leave s n i.keys i.floors.items i.ends.items g0 r0 c.args.id b.0 c.key_of-key.result (c.from-amount.result + 1) b.1 c.key_of-key.ensures amount (let h = r.fit.horizon in omega (arith, amount, h))

pub invariant_of-self : goal.invariant_of-self
invariant_of-self c =
    let i = c.self.inside in
    let s : Setting = settled i.horizon i.clock i.bounds.entries i.fixed.items i.lags.items in
    let n = length i.bounds.entries in
    let g : Engine = i.engine in
    let g0 : Engine = with_looks g 0 in
    let r : IsRepaired s n i.keys i.floors.items i.ends.items g = c.self.invariant in
    let r0 : IsRepaired s n i.keys i.floors.items i.ends.items g0 = relooked s n i.keys i.floors.items i.ends.items g 0 r in
    repaired_untouched s n i.keys i.floors.items i.ends.items g0 c.leave.new.engine i.bounds r0 c.in_err-leave.ensures.err

pub invariant_of-self-2 : goal.invariant_of-self-2
invariant_of-self-2 c =
    let i = c.self.inside in
    let s : Setting = settled i.horizon i.clock i.bounds.entries i.fixed.items i.lags.items in
    let n = length i.bounds.entries in
    let g : Engine = i.engine in
    let g0 : Engine = with_looks g 0 in
    let r : IsRepaired s n i.keys i.floors.items i.ends.items g = c.self.invariant in
    let r0 : IsRepaired s n i.keys i.floors.items i.ends.items g0 = relooked s n i.keys i.floors.items i.ends.items g 0 r in
    let there : get s.bounds c.args.id.0 ≢ None = λ none. c.requires.in_force (sym (ap (λ (t : Told). get t.setting.bounds c.args.id.0) c.self.view_is) ∙ none) in
    let b = some_of (get s.bounds c.args.id.0) there in
    let m = length c.remove-bound.new.self.entries in
    let held_b : tree.get nat_cmp i.bounds c.args.id.0 ≡ Some b.0 = sym (get_held i.bounds c.args.id.0) ∙ b.1 in
    let one : c.remove-bound.result ≡ Some b.0 = c.remove-bound.ensures.value ∙ held_b in
    let count : m + 1 ≡ n = ap (λ o. m + cond (is_some o) 1 0) (sym one) ∙ c.remove-bound.ensures.len in
    let r1 : IsRepaired s (m + 1) i.keys i.floors.items i.ends.items g0 = subst (λ q. IsRepaired s q i.keys i.floors.items i.ends.items g0) (sym count) r0 in
    let left = repaired_left s m i.keys c.remove-key.new.self i.floors.items i.ends.items g0 c.leave.new.engine c.args.id b.0 c.key_of-key.result r1 b.1 c.key_of-key.ensures c.remove-key.ensures.updates.0 c.in_ok-leave.ensures.ok in
    relooked _ _ _ _ _ c.leave.new.engine _
    (subst (λ (h : FinMap nat_cmp Bound). IsRepaired (record { horizon = i.horizon; clock = i.clock; bounds = h; fixed = i.fixed.items; lags = i.lags.items; proposed = None }) m c.remove-key.new.self i.floors.items i.ends.items c.leave.new.engine)
    (sym (held_removed i.bounds c.remove-bound.new.self c.args.id.0 c.remove-bound.ensures.updates.0)) left)

pub returns-clause-ok : goal.returns-clause-ok
returns-clause-ok c =
    let i = c.self.inside in
    let s : Setting = settled i.horizon i.clock i.bounds.entries i.fixed.items i.lags.items in
    let n = length i.bounds.entries in
    let g : Engine = i.engine in
    let g0 : Engine = with_looks g 0 in
    let r : IsRepaired s n i.keys i.floors.items i.ends.items g = c.self.invariant in
    let r0 : IsRepaired s n i.keys i.floors.items i.ends.items g0 = relooked s n i.keys i.floors.items i.ends.items g 0 r in
    ap (λ (h : FinMap nat_cmp Bound). record { horizon = i.horizon; clock = i.clock; bounds = h; fixed = i.fixed.items; lags = i.lags.items; proposed = None }) (held_removed i.bounds c.remove-bound.new.self c.args.id.0 c.remove-bound.ensures.updates.0)
    ∙ ap (λ (t : Told). without_bound t.setting c.args.id.0) c.self.view_is

pub returns-clause-possible : goal.returns-clause-possible
returns-clause-possible c =
    let i = c.self.inside in
    let s : Setting = settled i.horizon i.clock i.bounds.entries i.fixed.items i.lags.items in
    let n = length i.bounds.entries in
    let g : Engine = i.engine in
    let g0 : Engine = with_looks g 0 in
    let r : IsRepaired s n i.keys i.floors.items i.ends.items g = c.self.invariant in
    let r0 : IsRepaired s n i.keys i.floors.items i.ends.items g0 = relooked s n i.keys i.floors.items i.ends.items g 0 r in
    let there : get s.bounds c.args.id.0 ≢ None = λ none. c.requires.in_force (sym (ap (λ (t : Told). get t.setting.bounds c.args.id.0) c.self.view_is) ∙ none) in
    let b = some_of (get s.bounds c.args.id.0) there in
    let m = length c.remove-bound.new.self.entries in
    let held_b : tree.get nat_cmp i.bounds c.args.id.0 ≡ Some b.0 = sym (get_held i.bounds c.args.id.0) ∙ b.1 in
    let one : c.remove-bound.result ≡ Some b.0 = c.remove-bound.ensures.value ∙ held_b in
    let count : m + 1 ≡ n = ap (λ o. m + cond (is_some o) 1 0) (sym one) ∙ c.remove-bound.ensures.len in
    let r1 : IsRepaired s (m + 1) i.keys i.floors.items i.ends.items g0 = subst (λ q. IsRepaired s q i.keys i.floors.items i.ends.items g0) (sym count) r0 in
    let left = repaired_left s m i.keys c.remove-key.new.self i.floors.items i.ends.items g0 c.leave.new.engine c.args.id b.0 c.key_of-key.result r1 b.1 c.key_of-key.ensures c.remove-key.ensures.updates.0 c.in_ok-leave.ensures.ok in
    subst (λ (t : Told). HasSchedule (without_bound t.setting c.args.id.0)) c.self.view_is (kept_possible _ _ _ _ _ (kept _ _ _ _ _ _ left))

pub returns-clause-loose : goal.returns-clause-loose
returns-clause-loose c = λ low high b w is loose.
    let i = c.self.inside in
    let s : Setting = settled i.horizon i.clock i.bounds.entries i.fixed.items i.lags.items in
    let n = length i.bounds.entries in
    let r : IsRepaired s n i.keys i.floors.items i.ends.items i.engine = c.self.invariant in
    let windows : AreWindows s low high = subst (λ (t : Told). AreWindows t.setting low high) (sym c.self.view_is) w in
    let held : get s.bounds c.args.id.0 ≡ Some b = ap (λ (t : Told). get t.setting.bounds c.args.id.0) c.self.view_is ∙ is in
    let x = loose_node s n i.keys i.floors.items i.ends.items i.engine r low high windows c.args.id b c.key_of-key.result held c.key_of-key.ensures loose in
    (c.in_ok-leave.ensures.loose x.0 x.1 x.2).0
