use Rattle.std.proofs.Common.{◌≡◌, List, ◌-◌, length, ap, ◌∙◌, arith}
use Rattle.tp_repair_engine.specs.declared.store.Half.{Half}
use Rattle.tp_repair_engine.specs.Store.{halves_at, half_at, no_half}
use Rattle.tp_repair_engine.proofs.Stores.{halves_at_is, halves_written, halves_other}
use Rattle.tp_repair_engine.proofs.store.drop_half.Goals as goal

pub swap_remove-half-requires : goal.swap_remove-half-requires
swap_remove-half-requires c =
    let row = halves_at_is c.args.lists.now.items c.args.point c.index_mut.result.now c.requires.point c.index_mut.ensures.value in
    let len : length c.index_mut.result.now.items ≡ length (halves_at c.args.lists.now.items c.args.point) = ap (λ (hs : List Half). length hs) row in
    let small : c.index_mut.result.now.len ≡ length c.index_mut.result.now.items = c.index_mut.result.now.ok.0 in
    omega (arith, c.requires.place, len, small)

pub returns-clause-shorter : goal.returns-clause-shorter
returns-clause-shorter c =
    let row = halves_at_is c.args.lists.now.items c.args.point c.index_mut.result.now c.requires.point c.index_mut.ensures.value in
    let len : length c.index_mut.result.now.items ≡ length (halves_at c.args.lists.now.items c.args.point) = ap (λ (hs : List Half). length hs) row in
    let here : length (halves_at _ c.args.point) ≡ length c.swap_remove-half.new.self.items = ap (λ (hs : List Half). length hs) (halves_written c.args.lists.now.items c.args.point c.swap_remove-half.new.self c.requires.point) in
    let before : c.index_mut.result.now.len ≡ length c.index_mut.result.now.items = c.index_mut.result.now.ok.0 in
    let after : c.swap_remove-half.new.self.len ≡ length c.swap_remove-half.new.self.items = c.swap_remove-half.new.self.ok.0 in
    omega (arith, here, len, before, after, c.swap_remove-half.ensures.len)

pub returns-clause-moved : goal.returns-clause-moved
returns-clause-moved c = λ inside.
    let row = halves_at_is c.args.lists.now.items c.args.point c.index_mut.result.now c.requires.point c.index_mut.ensures.value in
    let len : length c.index_mut.result.now.items ≡ length (halves_at c.args.lists.now.items c.args.point) = ap (λ (hs : List Half). length hs) row in
    let here = halves_written c.args.lists.now.items c.args.point c.swap_remove-half.new.self c.requires.point in
    let before : c.index_mut.result.now.len ≡ length c.index_mut.result.now.items = c.index_mut.result.now.ok.0 in
    let moved = c.swap_remove-half.ensures.by_index.0 no_half (omega (arith, inside, len, before)) in
    let last : c.index_mut.result.now.len - 1 ≡ length (halves_at c.args.lists.now.items c.args.point) - 1 = omega (arith, len, before) in
    ap (λ hs. half_at hs c.args.place) here ∙ (moved ∙ (ap (λ j. half_at c.index_mut.result.now.items j) last ∙ ap (λ hs. half_at hs (length (halves_at c.args.lists.now.items c.args.point) - 1)) row))

pub returns-clause-stay : goal.returns-clause-stay
returns-clause-stay c = λ j ne inside.
    let row = halves_at_is c.args.lists.now.items c.args.point c.index_mut.result.now c.requires.point c.index_mut.ensures.value in
    let len : length c.index_mut.result.now.items ≡ length (halves_at c.args.lists.now.items c.args.point) = ap (λ (hs : List Half). length hs) row in
    let here = halves_written c.args.lists.now.items c.args.point c.swap_remove-half.new.self c.requires.point in
    let before : c.index_mut.result.now.len ≡ length c.index_mut.result.now.items = c.index_mut.result.now.ok.0 in
    let stay = c.swap_remove-half.ensures.by_index.1 j no_half ne (omega (arith, inside, len, before)) in
    ap (λ hs. half_at hs j) here ∙ (stay ∙ ap (λ hs. half_at hs j) row)

pub returns-clause-others : goal.returns-clause-others
returns-clause-others c = λ y ne. halves_other c.args.lists.now.items c.args.point c.swap_remove-half.new.self y ne
