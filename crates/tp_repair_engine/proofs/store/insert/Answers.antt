use Rattle.std.proofs.Common.{◌≡◌, ap, ◌∙◌, sym, subst, length, ◌++◌, ◌∷◌, []}
use Rattle.slab.specs.Slab.{Slab}
use Rattle.tp_repair_engine.specs.declared.store.Node.{Node}
use Rattle.tp_repair_engine.specs.declared.store.Direction.TheVariants.{Up, Down}
use Rattle.tp_repair_engine.specs.Store.{halves_at, half_of, AreHalves}
use Rattle.tp_repair_engine.proofs.Halves.{halves_inserted}
use Rattle.tp_repair_engine.proofs.store.insert.Goals as goal

pub returns-clause-halves_in : goal.returns-clause-halves_in
returns-clause-halves_in c =
    let s = c.args.store.now in
    let n : Node = record { name = c.args.name; arc = c.args.arc; place_in = c.degree-place_in.result; place_out = c.degree-place_out.result } in
    let key = c.insert_reserved.result in
    let slots = c.reserve.new.self.slots in
    let slots_is : slots ≡ s.nodes.slots = ap (λ (b : Slab Node). b.slots) c.in_ok-reserve.ensures.rest_kept in
    let key_is : c.vacant_key-key.result ≡ key = c.vacant_key-key.ensures.value ∙ sym c.insert_reserved.ensures.key in
    halves_inserted Up slots c.insert_reserved.new.self.slots s.into.items c.push_both.new.into.items key n
    (subst (λ b. AreHalves Up b s.into.items) (sym slots_is) c.requires.halves_in)
    c.insert_reserved.ensures.was_vacant c.insert_reserved.ensures.updates.changed c.insert_reserved.ensures.updates.others
    (c.degree-place_in.ensures ∙ ap (λ ls. length (halves_at ls c.args.arc.to)) c.deref.ensures.value)
    (subst (λ k. halves_at c.push_both.new.into.items c.args.arc.to ≡ halves_at s.into.items c.args.arc.to ++ half_of Up k c.args.arc ∷ []) key_is c.in_ok-push_both.ensures.into)
    c.in_ok-push_both.ensures.into_others

pub returns-clause-halves_out : goal.returns-clause-halves_out
returns-clause-halves_out c =
    let s = c.args.store.now in
    let n : Node = record { name = c.args.name; arc = c.args.arc; place_in = c.degree-place_in.result; place_out = c.degree-place_out.result } in
    let key = c.insert_reserved.result in
    let slots = c.reserve.new.self.slots in
    let slots_is : slots ≡ s.nodes.slots = ap (λ (b : Slab Node). b.slots) c.in_ok-reserve.ensures.rest_kept in
    let key_is : c.vacant_key-key.result ≡ key = c.vacant_key-key.ensures.value ∙ sym c.insert_reserved.ensures.key in
    halves_inserted Down slots c.insert_reserved.new.self.slots s.out.items c.push_both.new.out.items key n
    (subst (λ b. AreHalves Down b s.out.items) (sym slots_is) c.requires.halves_out)
    c.insert_reserved.ensures.was_vacant c.insert_reserved.ensures.updates.changed c.insert_reserved.ensures.updates.others
    (c.degree-place_out.ensures ∙ ap (λ ls. length (halves_at ls c.args.arc.from)) c.deref-2.ensures.value)
    (subst (λ k. halves_at c.push_both.new.out.items c.args.arc.from ≡ halves_at s.out.items c.args.arc.from ++ half_of Down k c.args.arc ∷ []) key_is c.in_ok-push_both.ensures.out)
    c.in_ok-push_both.ensures.out_others
