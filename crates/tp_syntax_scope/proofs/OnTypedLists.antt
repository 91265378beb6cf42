-- The loop over a typed list.
use Rattle.std.proofs.Common.{◌≡◌, ◌-◌, ◌<◌, ◌≤◌, List, [], ◌∷◌, ◌++◌, length, take, drop, get_or, map, Bool, true, false, Option, Some, None, option_map, codes, refl, sym, ap, ◌∙◌, subst, arith, append_assoc, append-nil, Vec, String, Global, vec_len, string_bytes, eqb}
use Rattle.std.proofs.lemmas.Bool.{eqb-false}
use Rattle.std.proofs.lemmas.List.{length-map}
use Rattle.std.proofs.lemmas.List.{map-append}
use Rattle.tp_text.specs.Shapes.{Shape, Shapes, shape}
use Rattle.tp_text.specs.Trees.{shape_of}
use Rattle.tp_text.specs.declared.tree.Tree.{Tree}
use Rattle.tp_syntax_ast.specs.Gives.{◌>>=◌, Fails}
use Rattle.tp_syntax_ast.specs.Terms.{shapes}
use Rattle.tp_syntax_ast.specs.Symbols.{Name, Declared}
use Rattle.tp_syntax_ast.specs.TypedLists.{is_dash, given, joined, unless, Typing, outcome, item_at, type_at, typing_of, after_dash, run_of, typed_list, waiting}
use Rattle.tp_syntax_ast.specs.declared.words.Items.{Items}
use Rattle.tp_syntax_ast.specs.declared.fault.SyntaxFault.{SyntaxFault}
use Rattle.tp_syntax_ast.proofs.OnGives.{fails_bind, fails_map}
use Rattle.tp_syntax_ast.proofs.OnLists.{peel}

module _ (k : Items) where
  pub begins : (done : List Declared) (ns : List Name) (ss : Shapes) → done ≡ [] → ns ≡ [] → outcome done ns (waiting k ns ss) ≡ typed_list k ss
  unfolding typed_list
  begins done ns ss no_done no_names = rw (no_done, no_names) refl

  typing_dash : (s : Shape) (ss : Shapes) → is_dash s ≡ true → typing_of k (shape s ss) ≡ after_dash k ss
  unfolding typing_of
  typing_dash s ss is = ap (λ (b : Bool). elim b as (λ v. Option Typing) [ true ↦ after_dash k ss | false ↦ item_at k s >>= λ v. option_map (joined v) (typing_of k ss) ]) is

  typing_item : (s : Shape) (ss : Shapes) → is_dash s ≡ false → typing_of k (shape s ss) ≡ (item_at k s >>= λ v. option_map (joined v) (typing_of k ss))
  unfolding typing_of
  typing_item s ss is = ap (λ (b : Bool). elim b as (λ v. Option Typing) [ true ↦ after_dash k ss | false ↦ item_at k s >>= λ v. option_map (joined v) (typing_of k ss) ]) is

  waits_some : (ns : List Name) (ss : Shapes) → (length ns ≡ 0 → ⊥) → waiting k ns ss ≡ typing_of k ss
  waits_some [] ss some = absurd (some refl)
  waits_some (n ∷ ns) ss some = refl

  waits_item : (ns : List Name) (s : Shape) (ss : Shapes) → is_dash s ≡ false → waiting k ns (shape s ss) ≡ (item_at k s >>= λ v. option_map (joined v) (typing_of k ss))
  waits_item [] s ss is = ap (λ (b : Bool). unless b (typing_of k (shape s ss))) is ∙ typing_item s ss is
  waits_item (n ∷ ns) s ss is = typing_item s ss is

  pushed_waits : (ns : List Name) (v : Name) (ss : Shapes) → waiting k (ns ++ v ∷ []) ss ≡ typing_of k ss
  pushed_waits [] v ss = refl
  pushed_waits (n ∷ ns) v ss = refl

  typed_now : (done : List Declared) (ns : List Name) (ts : List Name) (o : Option Typing) → outcome done ns (option_map (λ r. (r.0, ts)) o) ≡ outcome (done ++ map (given ts) ns) [] o
  typed_now done ns ts None = refl
  typed_now done ns ts (Some r) = ap Some (sym (append_assoc done (map (given ts) ns) r.0))

  joins : (done : List Declared) (ns : List Name) (v : Name) (o : Option Typing) → outcome done ns (option_map (joined v) o) ≡ outcome done (ns ++ v ∷ []) o
  joins done ns v None = refl
  joins done ns v (Some r) =
      ap (λ (ds : List Declared). Some (done ++ ds)) (sym (ap (λ (ds : List Declared). ds ++ r.0) (map-append (given r.1) ns (v ∷ [])) ∙ append_assoc (map (given r.1) ns) (given r.1 v ∷ []) r.0))

  no_type : (ys : List Tree) → length ys < 1 → after_dash k (shapes ys) ≡ None
  unfolding typing_of
  no_type [] lt = refl
  no_type (y ∷ ys) lt = absurd (omega arith)

  dash_type : (t : Shape) (ss : Shapes) → after_dash k (shape t ss) ≡ (type_at k t >>= λ ts. option_map (λ r. (r.0, ts)) (run_of k ss))
  unfolding typing_of
  dash_type t ss = refl

  module _ (done : List Declared) (ns : List Name) (xs : List Tree) (first : Tree) (total : Option (List Declared)) (le : 1 ≤ length xs) (at_zero : first ≡ get_or xs 0 first) (so_far : outcome done ns (waiting k ns (shapes xs)) ≡ total) where
    -- an item
    pub item_here : is_dash (shape_of first) ≡ false → outcome done ns (item_at k (shape_of first) >>= λ v. option_map (joined v) (typing_of k (shapes (take (length xs - 1) (drop 1 xs))))) ≡ total
    item_here item = ap (outcome done ns) (sym (ap (waiting k ns) (peel xs first le at_zero) ∙ waits_item ns (shape_of first) (shapes (take (length xs - 1) (drop 1 xs))) item)) ∙ so_far

    pub item_fails : (e : SyntaxFault) → is_dash (shape_of first) ≡ false → Fails e (item_at k (shape_of first)) → Fails e total
    item_fails e item h = subst (Fails e) (item_here item) (fails_map _ e _ (fails_bind e (item_at k (shape_of first)) _ h))

    pub item_goes_on : (v : Name) (new : List Name) → is_dash (shape_of first) ≡ false → item_at k (shape_of first) ≡ Some v → new ≡ ns ++ v ∷ [] → outcome done new (waiting k new (shapes (take (length xs - 1) (drop 1 xs)))) ≡ total
    item_goes_on v new item is pushed =
        let rest = shapes (take (length xs - 1) (drop 1 xs)) in
        ap (λ (ms : List Name). outcome done ms (waiting k ms rest)) pushed
        ∙ ap (outcome done (ns ++ v ∷ [])) (pushed_waits ns v rest)
        ∙ sym (joins done ns v (typing_of k rest))
        ∙ ap (λ o. outcome done ns (o >>= λ w. option_map (joined w) (typing_of k rest))) (sym is)
        ∙ item_here item

    -- a dash behind items
    dash_at : is_dash (shape_of first) ≡ true → (length ns ≡ 0 → ⊥) → outcome done ns (after_dash k (shapes (take (length xs - 1) (drop 1 xs)))) ≡ total
    dash_at dash some = ap (outcome done ns) (sym (ap (waiting k ns) (peel xs first le at_zero) ∙ waits_some ns _ some ∙ typing_dash (shape_of first) (shapes (take (length xs - 1) (drop 1 xs))) dash)) ∙ so_far

    pub dash_last : is_dash (shape_of first) ≡ true → (length ns ≡ 0 → ⊥) → length (take (length xs - 1) (drop 1 xs)) < 1 → total ≡ None
    dash_last dash some none = sym (dash_at dash some) ∙ ap (outcome done ns) (no_type (take (length xs - 1) (drop 1 xs)) none)

    type_at_dash : (ys : List Tree) (kind : Tree) → take (length xs - 1) (drop 1 xs) ≡ ys → is_dash (shape_of first) ≡ true → (length ns ≡ 0 → ⊥) → 1 ≤ length ys → kind ≡ get_or ys 0 kind → outcome done ns (type_at k (shape_of kind) >>= λ ts. option_map (λ r. (r.0, ts)) (run_of k (shapes (take (length ys - 1) (drop 1 ys))))) ≡ total
    type_at_dash ys kind is dash some more here =
        ap (outcome done ns) (sym (ap (λ (zs : List Tree). after_dash k (shapes zs)) is ∙ ap (after_dash k) (peel ys kind more here) ∙ dash_type (shape_of kind) _)) ∙ dash_at dash some

    pub dash_fails : (e : SyntaxFault) (ys : List Tree) (kind : Tree) → take (length xs - 1) (drop 1 xs) ≡ ys → is_dash (shape_of first) ≡ true → (length ns ≡ 0 → ⊥) → 1 ≤ length ys → kind ≡ get_or ys 0 kind → Fails e (type_at k (shape_of kind)) → Fails e total
    dash_fails e ys kind is dash some more here h = subst (Fails e) (type_at_dash ys kind is dash some more here) (fails_map _ e _ (fails_bind e (type_at k (shape_of kind)) _ h))

    pub dash_goes_on : (ys : List Tree) (kind : Tree) (ts : List Name) (new : List Declared) (none : List Name) → take (length xs - 1) (drop 1 xs) ≡ ys → is_dash (shape_of first) ≡ true → (length ns ≡ 0 → ⊥) → 1 ≤ length ys → kind ≡ get_or ys 0 kind → type_at k (shape_of kind) ≡ Some ts → new ≡ done ++ map (given ts) ns → none ≡ [] → outcome new none (waiting k none (shapes (take (length ys - 1) (drop 1 ys)))) ≡ total
    dash_goes_on ys kind ts new none is dash some more here typed grown emptied =
        let rest = shapes (take (length ys - 1) (drop 1 ys)) in
        ap (λ (ms : List Name). outcome new ms (waiting k ms rest)) emptied
        ∙ ap (λ (ds : List Declared). outcome ds [] (run_of k rest)) grown
        ∙ sym (typed_now done ns ts (run_of k rest))
        ∙ ap (λ o. outcome done ns (o >>= λ us. option_map (λ r. (r.0, us)) (run_of k rest))) (sym typed)
        ∙ type_at_dash ys kind is dash some more here

  -- nothing is left
  pub over : (done new : List Declared) (ns : List Name) (xs : List Tree) (total : Option (List Declared)) → length xs < 1 → outcome done ns (waiting k ns (shapes xs)) ≡ total → new ≡ done ++ map (given (codes "object" ∷ [])) ns → total ≡ Some new
  unfolding typing_of
  over done new ns (x ∷ xs) total lt so_far grown = absurd (omega arith)
  over done new [] [] total lt so_far grown = sym so_far ∙ ap Some (sym grown)
  over done new (n ∷ ns) [] total lt so_far grown = sym so_far ∙ ap (λ (ds : List Declared). Some (done ++ ds)) (append-nil (map (given (codes "object" ∷ [])) (n ∷ ns))) ∙ ap Some (sym grown)

  pub some_names : (v : Vec (String Global) Global) → false ≡ eqb (vec_len v) 0 → length (map string_bytes v.items) ≡ 0 → ⊥
  some_names v is e = eqb-false (vec_len v) 0 (sym is) (omega (arith, v.ok, e, length-map v.items (λ (s : String Global). string_bytes s)))
