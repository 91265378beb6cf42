use Rattle.std.proofs.Common.{◌≡◌, List, ◌<◌, length, ap, ◌∙◌, arith}
use Rattle.std.proofs.lemmas.List.{get_or_default}
use Rattle.tp_repair_engine.specs.declared.store.Half.{Half}
use Rattle.tp_repair_engine.specs.Store.{halves_at, half_at, no_half}
use Rattle.tp_repair_engine.proofs.Stores.{halves_at_is}
use Rattle.tp_repair_engine.proofs.store.key_at.Goals as goal

pub returns-then-place-len : goal.returns-then-place-len
returns-then-place-len c =
    let v = c.index-lists-point.result in
    let row = halves_at_is c.args.lists.now c.args.point v c.requires c.index-lists-point.is in
    let len : length v.items ≡ length (halves_at c.args.lists.now c.args.point) = ap (λ (hs : List Half). length hs) row in
    let full : v.len ≡ length v.items = v.ok.0 in
    let inside : c.args.place < length v.items = omega (arith, full, c.len.ensures, c.if-place-len.true) in
    let here : c.index.result.now ≡ half_at v.items c.args.place = c.index.ensures ∙ get_or_default v.items c.args.place c.index.result.now no_half inside in (
      omega (arith, inside, len),
      ap (λ (h : Half). h.key) (here ∙ ap (λ hs. half_at hs c.args.place) row),
    )

pub returns-else-place-len : goal.returns-else-place-len
returns-else-place-len c =
    let v = c.index-lists-point.result in
    let row = halves_at_is c.args.lists.now c.args.point v c.requires c.index-lists-point.is in
    let len : length v.items ≡ length (halves_at c.args.lists.now c.args.point) = ap (λ (hs : List Half). length hs) row in
    let full : v.len ≡ length v.items = v.ok.0 in
    omega (arith, len, full, c.len.ensures, c.if-place-len.false)
