-- The rows behind one, and the next of them.
use Rattle.std.proofs.Common.{◌≡◌, ℕ, zero, suc, ◌+◌, ◌<◌, ◌≤◌, ◌==◌, nat_lt, Bool, Bor, List, [], ◌∷◌, ◌++◌, Some, true, false, true≢false, map, length, get_or, take, drop, refl, sym, ap, ◌∙◌, arith, append_assoc, append-nil}
use Rattle.std.specs.List.{flat_map, list_all}
use Rattle.std.proofs.lemmas.Bool.{and_parts, and_from}
use Rattle.std.proofs.lemmas.Bool.Decides.{nat_tests}
use Rattle.std.specs.Cow.{cow_slice_items}
use Rattle.std.proofs.Math.ListN.{drop_of_length-le}
use Rattle.std.proofs.lemmas.List.{map-append, length-map, get_or-map, drop_more, take_more, take_all, drop_all, at_drop_more}
use Rattle.tp_syntax_ast.specs.Symbols.{Declared, typed_view}
use Rattle.tp_syntax_ast.specs.declared.symbols.Typed.{Typed}
use Rattle.tp_ground_bindings.specs.Bindings.{Universe, choices, bindings}
use Rattle.tp_ground_bindings.specs.Rows.{product, row_at, rows_behind, has_names, IsAtEnd, IsLast, IsTurned, Names, names_in, lists_of}

abbrev pub Row : Type 0
Row = List (List ℕ)

abbrev under : Row → List Row → List Row
under ns rs = flat_map (λ n. map (λ rest. n ∷ rest) rs) ns

-- ---- the first row

pub first_row : (nss : List Row) (qs : List ℕ) → list_all has_names nss ≡ true → length qs ≡ length nss → ((k : ℕ) → k < length qs → get_or qs k 0 ≡ 0) → product nss ≡ row_at nss qs ∷ rows_behind nss qs
first_row [] qs some long zeros = refl
first_row (ns ∷ nss) [] some long zeros = absurd (omega (arith, long))
first_row ([] ∷ nss) (q ∷ qs) some long zeros = absurd (true≢false (sym some))
first_row ((n ∷ ns) ∷ nss) (q ∷ qs) some long zeros =
    let ih : product nss ≡ row_at nss qs ∷ rows_behind nss qs = first_row nss qs (and_parts (has_names (n ∷ ns)) (list_all has_names nss) some).1 (omega (arith, long)) (λ k lt. zeros (suc k) (omega (arith, lt))) in
    let first : q ≡ 0 = zeros 0 (omega arith) in
    ap (λ (rs : List Row). map (λ rest. n ∷ rest) rs ++ under ns (product nss)) ih
    ∙ ap (λ k. (get_or (n ∷ ns) k [] ∷ row_at nss qs) ∷ (map (λ rest. get_or (n ∷ ns) k [] ∷ rest) (rows_behind nss qs) ++ under (drop (k + 1) (n ∷ ns)) (product nss))) (sym first)

-- ---- no row behind

pub none_behind : (nss : List Row) (ps : List ℕ) → ((k : ℕ) → k < length ps → IsAtEnd nss ps k) → rows_behind nss ps ≡ []
none_behind [] ps h = refl
none_behind (ns ∷ nss) [] h = refl
none_behind (ns ∷ nss) (p ∷ ps) h =
    let ih : rows_behind nss ps ≡ [] = none_behind nss ps (λ k lt. h (suc k) (omega (arith, lt))) in
    let here : drop (p + 1) ns ≡ [] = drop_of_length-le ns (h 0 (omega arith)) in
    ap (λ (rs : List Row). map (λ rest. get_or ns p [] ∷ rest) rs ++ under (drop (p + 1) ns) (product nss)) ih
    ∙ ap (λ (ms : Row). under ms (product nss)) here

-- ---- the next row

pub next_row : (nss : List Row) (ps qs : List ℕ) (i : ℕ) → list_all has_names nss ≡ true → length ps ≡ length nss → IsLast nss ps (Some i) → IsTurned i ps qs → rows_behind nss ps ≡ row_at nss qs ∷ rows_behind nss qs
next_row [] [] qs i some long last turned = absurd (omega (arith, last.0))
next_row [] (p ∷ ps) qs i some long last turned = absurd (omega (arith, long))
next_row (ns ∷ nss) [] qs i some long last turned = absurd (omega (arith, long))
next_row (ns ∷ nss) (p ∷ ps) [] i some long last turned = absurd (omega (arith, turned.long))
next_row (ns ∷ nss) (p ∷ ps) (q ∷ qs) zero some long last turned =
    let none : rows_behind nss ps ≡ [] = none_behind nss ps (λ k lt. last.2 (suc k) (omega arith) (omega (arith, lt))) in
    let at : q ≡ p + 1 = turned.at in
    let more : drop (p + 1) ns ≡ get_or ns (p + 1) [] ∷ drop (p + 1 + 1) ns = drop_more ns (p + 1) [] last.1 in
    let rest : product nss ≡ row_at nss qs ∷ rows_behind nss qs = first_row nss qs (and_parts (has_names ns) (list_all has_names nss) some).1 (omega (arith, turned.long, long)) (λ k lt. turned.behind (suc k) (omega arith) (omega (arith, lt))) in
    ap (λ (rs : List Row). map (λ rest. get_or ns p [] ∷ rest) rs ++ under (drop (p + 1) ns) (product nss)) none
    ∙ ap (λ (ms : Row). under ms (product nss)) more
    ∙ ap (λ (rs : List Row). map (λ rest. get_or ns (p + 1) [] ∷ rest) rs ++ under (drop (p + 1 + 1) ns) (product nss)) rest
    ∙ ap (λ k. (get_or ns k [] ∷ row_at nss qs) ∷ (map (λ rest. get_or ns k [] ∷ rest) (rows_behind nss qs) ++ under (drop (k + 1) ns) (product nss))) (sym at)
next_row (ns ∷ nss) (p ∷ ps) (q ∷ qs) (suc i) some long last turned =
    let same : q ≡ p = turned.before 0 (omega arith) in
    let ih : rows_behind nss ps ≡ row_at nss qs ∷ rows_behind nss qs =
    next_row nss ps qs i (and_parts (has_names ns) (list_all has_names nss) some).1 (omega (arith, long)) (omega (arith, last.0), last.1, λ k lt le. last.2 (suc k) (omega (arith, lt)) (omega (arith, le)))
    (record { long = omega (arith, turned.long); before = λ k lt. turned.before (suc k) (omega (arith, lt)); at = turned.at; behind = λ k lt le. turned.behind (suc k) (omega (arith, lt)) (omega (arith, le)) }) in
    ap (λ (rs : List Row). map (λ rest. get_or ns p [] ∷ rest) rs ++ under (drop (p + 1) ns) (product nss)) ih
    ∙ ap (λ k. (get_or ns k [] ∷ row_at nss qs) ∷ (map (λ rest. get_or ns k [] ∷ rest) (rows_behind nss qs) ++ under (drop (k + 1) ns) (product nss))) (sym same)

-- ---- the row, name by name

pub row_on : (nss : List Row) (ps : List ℕ) (i : ℕ) (row new : List (Bor (List ℕ))) (name : Bor (List ℕ)) (total : Row) → i < length ps → length ps ≡ length nss → name.now ≡ get_or (get_or nss i []) (get_or ps i 0) [] → take (i + 1) new ≡ take i row ++ name ∷ [] → map (λ o. o.now) (take i row) ++ row_at (drop i nss) (drop i ps) ≡ total → map (λ o. o.now) (take (i + 1) new) ++ row_at (drop (i + 1) nss) (drop (i + 1) ps) ≡ total
row_on nss ps i row new name total lt long is longer so_far =
    ap (λ (ns : List (Bor (List ℕ))). map (λ (o : Bor (List ℕ)). o.now) ns ++ behind) longer
    ∙ ap (λ (ns : Row). ns ++ behind) (map-append (λ (o : Bor (List ℕ)). o.now) (take i row) (name ∷ []))
    ∙ append_assoc (map (λ (o : Bor (List ℕ)). o.now) (take i row)) (name.now ∷ []) behind
    ∙ ap (λ (ns : Row). map (λ (o : Bor (List ℕ)). o.now) (take i row) ++ ns) (sym here)
    ∙ so_far
  where
    behind : Row
    behind = row_at (drop (i + 1) nss) (drop (i + 1) ps)

    within : i < length nss
    within = omega (arith, lt, long)

    here : row_at (drop i nss) (drop i ps) ≡ name.now ∷ behind
    here =
        ap (λ (ms : List Row). row_at ms (drop i ps)) (drop_more nss i [] within)
        ∙ ap (row_at (get_or nss i [] ∷ drop (i + 1) nss)) (drop_more ps i 0 lt)
        ∙ ap (λ (n : List ℕ). n ∷ behind) (sym is)

pub row_whole : (nss : List Row) (ps : List ℕ) (i : ℕ) (row : List (Bor (List ℕ))) (total : Row) → length ps ≤ i → length row ≡ length ps → length ps ≡ length nss → map (λ o. o.now) (take i row) ++ row_at (drop i nss) (drop i ps) ≡ total → map (λ o. o.now) row ≡ total
row_whole nss ps i row total le wide long so_far =
    sym (append-nil (map (λ (o : Bor (List ℕ)). o.now) row))
    ∙ ap (λ (ns : List (Bor (List ℕ))). map (λ (o : Bor (List ℕ)). o.now) ns ++ []) (sym (take_all i row (omega (arith, le, wide))))
    ∙ ap (λ (ms : List Row). map (λ (o : Bor (List ℕ)). o.now) (take i row) ++ row_at ms (drop i ps)) (sym (drop_all i nss (omega (arith, le, long))))
    ∙ so_far

-- ---- lists

-- the names of a list, or none
pub names_there : (vs : List Names) (i : ℕ) (v : Names) → i < length vs → v ≡ get_or vs i v → names_in v ≡ get_or (lists_of vs) i []
names_there vs i v lt item = ap names_in item ∙ sym (get_or-map names_in vs i v [] lt)

-- one more list
pub lists_more : (u : Universe) (old new : List Names) (v : Names) (xs : List Typed) (k : ℕ) (x : Typed) → new ≡ old ++ v ∷ [] → names_in v ≡ choices u (typed_view x) → lists_of old ≡ map (choices u) (map typed_view (take k xs)) → k < length xs → x ≡ get_or xs k x → lists_of new ≡ map (choices u) (map typed_view (take (k + 1) xs))
lists_more u old new v xs k x grown is made lt item =
    ap lists_of grown
    ∙ map-append names_in old (v ∷ [])
    ∙ ap (λ (ls : List Row). ls ++ names_in v ∷ []) made
    ∙ ap (λ (ns : Row). map (choices u) (map typed_view (take k xs)) ++ ns ∷ []) (is ∙ ap (λ (y : Typed). choices u (typed_view y)) item)
    ∙ sym (
    ap (λ (ys : List Typed). map (choices u) (map typed_view ys)) (take_more xs k x lt)
    ∙ ap (map (choices u)) (map-append typed_view (take k xs) (get_or xs k x ∷ []))
    ∙ map-append (choices u) (map typed_view (take k xs)) (typed_view (get_or xs k x) ∷ []))

-- the bindings are the rows of what each variable may stand for
pub rows_bindings : (u : Universe) (ps : List Declared) → product (map (choices u) ps) ≡ bindings u ps
rows_bindings u [] = refl
rows_bindings u (p ∷ ps) = ap (λ rests. flat_map (λ n. map (λ r. n ∷ r) rests) (choices u p)) (rows_bindings u ps)

-- one list has no name
pub none_under : (ns : Row) → under ns [] ≡ []
none_under [] = refl
none_under (n ∷ ns) = none_under ns

-- ---- whether each list has a name

filled : (n : ℕ) → (n == 0) ≡ false → nat_lt 0 n ≡ true
filled zero h = absurd (true≢false h)
filled (suc n) h = grind (arith, nat_tests)

module _ (vs : List Names) (i : ℕ) (v : Names) (lt : i < length vs) (item : v ≡ get_or vs i v) where
  split : lists_of (drop i vs) ≡ names_in v ∷ lists_of (drop (i + 1) vs)
  split = at_drop_more lists_of vs i v lt ∙ ap (λ (w : Names). names_in w ∷ lists_of (drop (i + 1) vs)) (sym item)

  pub some_more : (ns : List (Bor (List ℕ))) (b : Bool) → ns ≡ cow_slice_items v → b ≡ (length ns == 0) → b ≡ false → list_all has_names (lists_of (drop (i + 1) vs)) ≡ true → list_all has_names (lists_of (drop i vs)) ≡ true
  some_more ns b same is off rest =
      ap (list_all has_names) split
      ∙ and_from (has_names (names_in v)) (list_all has_names (lists_of (drop (i + 1) vs)))
      (ap (nat_lt 0) (length-map (cow_slice_items v) (λ (o : Bor (List ℕ)). o.now) ∙ ap length (sym same)) ∙ filled (length ns) (sym is ∙ off)) rest

  pub none_more : product (lists_of (drop (i + 1) vs)) ≡ [] → product (lists_of (drop i vs)) ≡ []
  none_more rest = ap product split ∙ ap (under (names_in v)) rest ∙ none_under (names_in v)

  pub none_here : (ns : List (Bor (List ℕ))) (b : Bool) → ns ≡ cow_slice_items v → b ≡ (length ns == 0) → b ≡ true → product (lists_of (drop i vs)) ≡ []
  none_here ns b same is on =
      ap product split
      ∙ ap (λ (ms : Row). under ms (product (lists_of (drop (i + 1) vs)))) (emptied (names_in v) (length-map (cow_slice_items v) (λ (o : Bor (List ℕ)). o.now) ∙ ap length (sym same) ∙ nothing (length ns) (sym is ∙ on)))
    where
      nothing : (n : ℕ) → (n == 0) ≡ true → n ≡ 0
      nothing n h = grind (arith, nat_tests)

      emptied : (ms : Row) → length ms ≡ 0 → ms ≡ []
      emptied [] h = refl
      emptied (m ∷ ms) h = absurd (omega (arith, h))
