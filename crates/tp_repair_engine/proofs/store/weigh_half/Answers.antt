use Rattle.std.proofs.Common.{◌≡◌, List, length, ap, ◌∙◌, refl, arith, rules, w64}
use Rattle.std.proofs.lemmas.Int.{to_z-of_z}
use mir.Val.{SFits, to_z, of_z}
use Rattle.tp_repair_engine.specs.declared.store.Half.{Half}
use Rattle.tp_repair_engine.specs.Store.{halves_at, half_at}
use Rattle.tp_repair_engine.proofs.Stores.{halves_at_is, written_lens, written_here, written_stay, half_read, half_weighed}
use Rattle.tp_repair_engine.proofs.store.weigh_half.Goals as goal

pub index_mut-requires-2 : goal.index_mut-requires-2
index_mut-requires-2 c =
    let v = c.index_mut.result.now in
    let row = halves_at_is c.args.lists.now.items c.args.point v c.requires.point c.index_mut.ensures.value in
    let len : length v.items ≡ length (halves_at c.args.lists.now.items c.args.point) = ap (λ (hs : List Half). length hs) row in
    let full : v.len ≡ length v.items = v.ok.0 in
    omega (arith, c.requires.place, len, full)

pub returns-clause-lens : goal.returns-clause-lens
returns-clause-lens c =
    written_lens c.args.lists.now.items c.args.point c.args.place c.index_mut.result.now _ _ c.requires.point c.index_mut.ensures.value refl c.requires.place

pub returns-clause-here : goal.returns-clause-here
returns-clause-here c =
    let f : SFits w64 c.args.weight = search rules in
    let e : to_z w64 (of_z w64 c.args.weight) ≡ c.args.weight = simp to_z-of_z refl in
    written_here c.args.lists.now.items c.args.point c.args.place c.index_mut.result.now _ _ c.requires.point c.index_mut.ensures.value refl c.requires.place
    ∙ half_weighed c.index_mut-2.result.now (half_at (halves_at c.args.lists.now.items c.args.point) c.args.place) _ c.args.weight
    (half_read c.args.lists.now.items c.args.point c.args.place c.index_mut.result.now c.index_mut-2.result.now c.requires.point c.index_mut.ensures.value c.requires.place c.index_mut-2.ensures.value)
    e

pub returns-clause-stay : goal.returns-clause-stay
returns-clause-stay c =
    written_stay c.args.lists.now.items c.args.point c.args.place c.index_mut.result.now _ _ c.requires.point c.index_mut.ensures.value refl c.requires.place
