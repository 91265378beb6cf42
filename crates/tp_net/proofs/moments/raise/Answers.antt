use Rattle.std.proofs.Common.{◌≡◌, ℕ, ◌<◌, length, get_or, subst, sym, arith, rules, List, [], ◌∷◌, ◌++◌, ◌∙◌, ap, w64}
use Rattle.std.proofs.lemmas.Int.{to_z-of_z}
use mir.Val.{SFits}
use Rattle.tp_net.specs.Links.{IsTrace}
use Rattle.tp_net.specs.Moments.{CycleBeginsWith}
use Rattle.tp_net.proofs.Additions.{sum_fits, raise_consistent, raise_negative_cycle, read_at}
use Rattle.tp_net.proofs.moments.raise.Goals as goal

pub sums-requires-clause-fits : goal.sums-requires-clause-fits
sums-requires-clause-fits c =
    let f : SFits w64 c.args.new.weight = search rules in
    let s = simp c.deref.ensures.value at c.in_ok-raised.ensures.spread in
    let r = c.in_ok-raised.raised in
    simp c.deref-else-index-gt0.ensures.value
    (sum_fits c.in_ok-links.links.items c.args.new.from c.gap-amount.result c.args.low.now r.amounts.items r.ranks.items r.parents.items c.args.new s c.requires.small c.requires.new_weight c.requires.new_among (simp to_z-of_z at c.gap-amount.ensures))

pub returns-then-index-gt0 : goal.returns-then-index-gt0
returns-then-index-gt0 c =
    let f : SFits w64 c.args.new.weight = search rules in
    let r = c.in_ok-raised.raised in
    let links = c.in_ok-links.links.items in
    let s = simp c.deref.ensures.value at c.in_ok-raised.ensures.spread in
    let seeded : get_or r.amounts.items c.args.new.from 0 ≡ c.gap-amount.result = s.spreading.seeded in
    let t0 = simp c.deref-then-index-gt0.ensures.value at c.in_ok-path.ensures in
    let t : IsTrace links c.args.new.to c.args.new.from c.gap-amount.result (get_or r.amounts.items c.args.new.to 0) c.in_ok-path.path.items =
    subst (λ a. IsTrace links c.args.new.to c.args.new.from a (get_or r.amounts.items c.args.new.to 0) c.in_ok-path.path.items) seeded t0 in
    let within : c.args.new.to < length r.amounts.items = omega (arith, c.requires.new_among.1, c.in_ok-raised.ensures.len, r.amounts.ok.0) in
    let here : get_or r.amounts.items c.args.new.to 0 ≡ c.index.result.now = read_at r.amounts.items c.args.new.to c.index.result.now within c.index.ensures in
    let some : 0 < get_or r.amounts.items c.args.new.to 0 = omega (arith, here, c.if-index-gt0.true) in
    let found = raise_negative_cycle c.args.arcs.now links c.args.new c.gap-amount.result (get_or r.amounts.items c.args.new.to 0) (λ x. get_or c.args.low.now x 0) c.in_ok-path.path.items c.in_ok-links.ensures (simp to_z-of_z at c.gap-amount.ensures) some t in
    let e : c.extend_from_slice.new.self.items ≡ length c.args.arcs.now ∷ c.in_ok-path.path.items =
    (let p : c.push.new.self.items ≡ length c.args.arcs.now ∷ [] = c.in_ok-push.ensures.items ∙ ap (λ (xs : List ℕ). xs ++ length c.args.arcs.now ∷ []) c.new-cycle.ensures.items in
    c.in_ok-extend_from_slice.ensures.items ∙ (ap (λ (xs : List ℕ). xs ++ c.deref-then-index-gt0-2.result.now) p ∙ ap (λ (ys : List ℕ). length c.args.arcs.now ∷ ys) c.deref-then-index-gt0-2.ensures.value)) in
    subst (λ cycle. CycleBeginsWith (c.args.arcs.now ++ c.args.new ∷ []) (length c.args.arcs.now) cycle) (sym e) found

pub returns : goal.returns
returns c =
    let f : SFits w64 c.args.new.weight = search rules in
    let r = c.in_ok-raised.raised in
    let s = simp c.deref.ensures.value at c.in_ok-raised.ensures.spread in
    let within : c.args.new.to < length r.amounts.items = omega (arith, c.requires.new_among.1, c.in_ok-raised.ensures.len, r.amounts.ok.0) in
    let here : get_or r.amounts.items c.args.new.to 0 ≡ c.index.result.now = read_at r.amounts.items c.args.new.to c.index.result.now within c.index.ensures in
    let quiet : get_or r.amounts.items c.args.new.to 0 ≡ 0 = omega (arith, here, c.if-index-gt0.false) in
    let len : length c.in_ok-sums.field-0.items ≡ length c.args.low.now = sym c.in_ok-sums.field-0.ok.0 ∙ c.in_ok-sums.ensures.len in (
      len,
      raise_consistent c.args.arcs.now c.in_ok-links.links.items c.args.new c.gap-amount.result c.args.low.now r.amounts.items r.ranks.items r.parents.items c.in_ok-sums.field-0.items
          c.requires.origin c.requires.among c.requires.new_among c.in_ok-links.ensures (simp to_z-of_z at c.gap-amount.ensures) s c.requires.low quiet len (simp c.deref-else-index-gt0.ensures.value at c.in_ok-sums.ensures.each),
    )
