-- Identifiers below a number of which one is free are fewer than it.
use Rattle.std.proofs.Common.{◌≡◌, ◌≢◌, ℕ, suc, ◌+◌, ◌<◌, ◌≤◌, ◌^◌, ◌⊎◌, inl, inr, cond, List, [], ◌∷◌, length, map, refl, sym, ◌∙◌, ap, arith}
use Rattle.std.specs.Prelude.{Some, None}
use Rattle.std.specs.Ordering.{nat_cmp}
use Rattle.std.specs.declared.cmp.Ordering.TheVariants.{Less}
use Rattle.std.specs.List.{AllByRecursion}
use Rattle.std.specs.List.Sorted.{IsStrictlySortedBy}
use Rattle.std.specs.BTreeMap.{BTreeMap}
use Rattle.std.specs.BTreeMap as tree
use Rattle.std.specs.Cmp.{nat_cmp_total}
use Rattle.std.specs.FinMap.{find, get, get-from_entries}
use Rattle.std.proofs.lemmas.Option.{none-some}
use Rattle.std.proofs.lemmas.Map.Keys.{below_from_sorted}
use Rattle.tp_bounds.specs.declared.Bound.{Bound}
use Rattle.tp_bounds.specs.Held.{held}
use Rattle.tp_net.proofs.Spreads.{same_or}
use Rattle.tp_net.proofs.Laws.{key_itself, other_key}

less_lt : (x y : ℕ) → nat_cmp x y ≡ Less → x < y
unfolding IsStrictlySortedBy
less_lt x y h = below_from_sorted (x ∷ y ∷ []) 0 1 0 ((h, tt), (tt, tt)) (omega arith) (omega arith)

-- the first entry is found by its key, and by no other
found_first : (e : ℕ × Bound) (es : List (ℕ × Bound)) → find nat_cmp e.0 (e ∷ es) ≡ Some e.1
found_first e es = ap (λ t. cond t (Some e.1) (find nat_cmp e.0 es)) (key_itself e.0)

not_first : (q : ℕ) (e : ℕ × Bound) (es : List (ℕ × Bound)) → q ≢ e.0 → find nat_cmp q (e ∷ es) ≡ find nat_cmp q es
not_first q e es ne = ap (λ t. cond t (Some e.1) (find nat_cmp q es)) (other_key q e.0 ne)

-- what is found behind a key that is less than all is greater
found_above : (k q : ℕ) (es : List (ℕ × Bound)) → AllByRecursion (λ y. nat_cmp k y ≡ Less) (map (λ (e : ℕ × Bound). e.0) es) → find nat_cmp q es ≢ None → k < q
found_above k q [] all some = absurd (some refl)
found_above k q (e ∷ es) all some =
    elim (same_or q e.0) [
      | inl same ↦ (let lt = less_lt k e.0 all.0 in omega (arith, lt, same))
      | inr ne ↦ found_above k q es all.1 (λ none. some (not_first q e es ne ∙ none))
    ]

before_or : (a b : ℕ) → a ≢ b → (a < b) ⊎ (b < a)
before_or a b ne = grind (arith, ne)

-- the keys are from one number on, and below another
abbrev AreWithin : ℕ → ℕ → List (ℕ × Bound) → Type 0
AreWithin low most es = (q : ℕ) → find nat_cmp q es ≢ None → (low ≤ q) × (q < most)

first_within : (low most : ℕ) (e : ℕ × Bound) (es : List (ℕ × Bound)) → AreWithin low most (e ∷ es) → (low ≤ e.0) × (e.0 < most)
first_within low most e es within = within e.0 (λ none. none-some e.1 (sym none ∙ found_first e es))

rest_within : (low most : ℕ) (e : ℕ × Bound) (es : List (ℕ × Bound)) → AllByRecursion (λ y. nat_cmp e.0 y ≡ Less) (map (λ (x : ℕ × Bound). x.0) es) → AreWithin low most (e ∷ es) → AreWithin (suc e.0) most es
rest_within low most e es all within q some =
    let lt : e.0 < q = found_above e.0 q es all some in
    let h = within q (λ none. some (sym (not_first q e es (λ same. (let no : ⊥ = omega (arith, lt, same) in no))) ∙ none)) in
    (omega (arith, lt), h.1)

at_most : (es : List (ℕ × Bound)) (low most : ℕ) → IsStrictlySortedBy nat_cmp (map (λ (e : ℕ × Bound). e.0) es) → AreWithin low most es → low ≤ most → low + length es ≤ most
unfolding IsStrictlySortedBy
at_most [] low most sorted within le = omega (arith, le)
at_most (e ∷ es) low most sorted within le =
    let here = first_within low most e es within in
    let rest = at_most es (suc e.0) most sorted.1 (rest_within low most e es sorted.0 within) (omega (arith, here)) in
    omega (arith, here, rest)

fewer : (es : List (ℕ × Bound)) (low most free : ℕ) → IsStrictlySortedBy nat_cmp (map (λ (e : ℕ × Bound). e.0) es) → AreWithin low most es → low ≤ free → free < most → find nat_cmp free es ≡ None → low + length es < most
unfolding IsStrictlySortedBy
fewer [] low most free sorted within le lt none = omega (arith, le, lt)
fewer (e ∷ es) low most free sorted within le lt none =
    let here = first_within low most e es within in
    let rest = rest_within low most e es sorted.0 within in
    elim (same_or free e.0) [
      | inl same ↦ absurd (none-some e.1 (sym none ∙ (ap (λ q. find nat_cmp q (e ∷ es)) same ∙ found_first e es)))
      | inr ne ↦
          elim (before_or free e.0 ne) [
            | inl before ↦ (let h = at_most es (suc e.0) most sorted.1 rest (omega (arith, here)) in omega (arith, le, before, h))
            | inr after ↦ (let h = fewer es (suc e.0) most free sorted.1 rest (omega (arith, after)) lt (sym (not_first free e es ne) ∙ none) in omega (arith, here, h))
          ]
    ]

-- where an identifier of 32 bits is free, fewer are in force
pub fewer_ids : (m : BTreeMap ℕ Bound) (free : ℕ) → tree.IsOrdered nat_cmp m → ((q : ℕ) → get (held m.entries) q ≢ None → q < 2 ^ 32) → free < 2 ^ 32 → get (held m.entries) free ≡ None → length m.entries < 2 ^ 32
fewer_ids m free ordered below lt none =
    let h = fewer m.entries 0 (2 ^ 32) free ordered
    (λ q some. (omega arith, below q (λ e. some (sym (get-from_entries nat_cmp_total m.entries q) ∙ e))))
    (omega arith) lt (sym (get-from_entries nat_cmp_total m.entries free) ∙ none) in
    omega (arith, h)
