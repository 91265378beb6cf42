use Rattle.std.proofs.Common.{List, Bor, ℕ, ◌∷◌, map, filter, sym, ap, ◌∙◌}
use Rattle.std.specs.Cow.{cow_slice_items}
use Rattle.std.specs.List.{flat_map}
use Rattle.std.proofs.lemmas.List.{take_all}
use Rattle.std.proofs.lemmas.List.Folds.{flat_map-map}
use Rattle.tp_task.specs.Words.{has_words}
use Rattle.tp_ground_named.specs.Picks.{row_words}
use Rattle.tp_ground_bindings.specs.Rows.{Names, names_of, product, lists_of}
use Rattle.tp_ground_named.proofs.OnPicks.{none_asked, more_picked}
use Rattle.tp_ground_named.proofs.picks.+pick.Goals as goal

pub returns-then-is_empty : goal.returns-then-is_empty
returns-then-is_empty t c =
    ap (map names_of) c.new-picked.ensures.items
    ∙ sym (none_asked c.args.rows.now (product (lists_of c.args.lists.now)) (sym c.is_empty.ensures ∙ c.if-is_empty.true))

pub loop-name-preserved : goal.loop-name-preserved
loop-name-preserved t c =
    more_picked (map row_words c.args.rows.now) (product (lists_of c.in-Some.rest.now)) c.as_slice-names.result.now c.loop-name.name-index _ c.loop-name-test.true _ _ _ _
    c.in_ok-push_behind.ensures
    (ap (map names_of) c.deref-in-loop-name.ensures.value ∙ c.in_ok-behind.ensures)
    (ap (map row_words) c.deref.ensures.value ∙ c.in_ok-tails.ensures ∙ c.in_ok-groups.ensures _)
    c.loop-name.invariant

pub returns : goal.returns
returns t c =
    let asked = has_words (map row_words c.args.rows.now) in
    let others = product (lists_of c.in-Some.rest.now) in
    c.loop-name.invariant
    ∙ ap (λ (ns : List (Bor (List ℕ))). filter asked (flat_map (λ b. map (λ r. b.now ∷ r) others) ns))
    (take_all c.loop-name.name-index c.as_slice-names.result.now c.loop-name-test.false ∙ c.as_slice-names.ensures.value)
    ∙ ap (filter asked) (sym (flat_map-map (λ n. map (λ r. n ∷ r) others) (λ b. b.now) (cow_slice_items c.in-Some.first.now)))
    ∙ ap (λ (ls : List Names). filter asked (product (lists_of ls))) (sym c.in-Some.ensures.cases.0)
