use Rattle.std.proofs.Common.{◌≡◌, ◌<◌, ℕ, List, true, length, get_or, sym, ap, subst, ◌∙◌, arith}
use Rattle.std.specs.List.{list_all}
use Rattle.std.proofs.lemmas.List.{get_or-replicate, length-map}
use Rattle.tp_ground_bindings.specs.Rows.{Names, names_in, lists_of, has_names}
use Rattle.tp_ground_bindings.proofs.OnRows.{first_row}
use Rattle.tp_ground_bindings.proofs.rows.rows_over.Goals as goal

pub returns : goal.returns
returns c =
    let lists = c.args.lists.items in
    let places = c.in_ok-places.places.items in
    let long : length places ≡ length lists = omega arith in
    let zeros = c.in_ok-places.ensures.items_if_clones_equal (λ y same. same) in
    sym (first_row (lists_of lists) places
    (subst (λ (vs : List Names). list_all has_names (lists_of vs) ≡ true) c.deref.ensures.value (c.have_names.ensures.some c.if-not-have_names.false))
    (long ∙ sym (length-map lists names_in))
    (λ k lt. ap (λ (ns : List ℕ). get_or ns k 0) zeros ∙ get_or-replicate c.len.result k 0 0 (let le : k < c.len.result = omega arith in le)))
