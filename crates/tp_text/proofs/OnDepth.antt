-- How deep lists lie in one another, in trees and in their lexemes.
use Rattle.std.proofs.Common.{◌≡◌, ℕ, zero, suc, ◌+◌, ◌<◌, ◌≤◌, max, List, [], ◌∷◌, ◌++◌, refl, sym, ap, ◌∙◌, subst, arith, append_assoc, append-nil, ◌⊎◌, inl, inr, Result, Ok, Err}
use Rattle.std.specs.Prelude.{IfOk, OnOk}
use Rattle.std.proofs.lemmas.Bool.{cases_lt}
use Rattle.tp_text.specs.Lexemes.{Lexeme, left, right, word}
use Rattle.tp_text.specs.Shapes.{Shape, leaf, node, Shapes, no_shapes, shape, written, all_written, nesting, most_nesting}
use Rattle.tp_text.specs.Trees.{lefts, rights, IsDeep, HasRoom, DeepIsNested, shape_of, tree_written}
use Rattle.tp_text.specs.declared.tree.Tree.{Tree}
use Rattle.tp_text.specs.declared.fault.TextFault.{TextFault}
use Rattle.tp_text.proofs.OnTrees.{lefts-append, rights-append, balanced}

-- ---- a lexeme of two lists in a row stands in the first or in the second

abbrev InFirst : List Lexeme → List Lexeme → Lexeme → List Lexeme → Type 0
InFirst a front m rest = (more : List Lexeme) × (a ≡ front ++ m ∷ more)

abbrev InSecond : List Lexeme → List Lexeme → List Lexeme → Lexeme → List Lexeme → Type 0
InSecond a b front m rest = (more : List Lexeme) × (front ≡ a ++ more) × (b ≡ more ++ m ∷ rest)

in_more : (x : Lexeme) (a b front : List Lexeme) (m : Lexeme) (rest : List Lexeme) → InFirst a front m rest ⊎ InSecond a b front m rest → InFirst (x ∷ a) (x ∷ front) m rest ⊎ InSecond (x ∷ a) b (x ∷ front) m rest
in_more x a b front m rest (inl h) = inl (h.0, ap (λ (ms : List Lexeme). x ∷ ms) h.1)
in_more x a b front m rest (inr h) = inr (h.0, ap (λ (ms : List Lexeme). x ∷ ms) h.1, h.2)

where_it_stands : (a b front : List Lexeme) (m : Lexeme) (rest : List Lexeme) → a ++ b ≡ front ++ m ∷ rest → InFirst a front m rest ⊎ InSecond a b front m rest
where_it_stands [] b front m rest e = inr (front, refl, e)
where_it_stands (x ∷ a) b [] m rest e = let h : x ≡ m = cc in inl (a, ap (λ (n : Lexeme). n ∷ a) h)
where_it_stands (x ∷ a) b (y ∷ front) m rest e =
    let h : x ≡ y = cc in
    let t : a ++ b ≡ front ++ m ∷ rest = cc in
    subst (λ (n : Lexeme). InFirst (x ∷ a) (n ∷ front) m rest ⊎ InSecond (x ∷ a) b (n ∷ front) m rest) h (in_more x a b front m rest (where_it_stands a b front m rest t))

-- ---- one lexeme more

not_after : (m : Lexeme) (front rest : List Lexeme) → m ∷ [] ≡ front ++ left ∷ rest → (front ≡ []) × (m ≡ left)
not_after m [] rest e = (refl, cc)
not_after m (x ∷ []) rest e = absurd cc
not_after m (x ∷ y ∷ front) rest e = absurd cc

pub deep_more : (ms : List Lexeme) (m : Lexeme) → HasRoom ms m → ¬ (IsDeep ms) → ¬ (IsDeep (ms ++ m ∷ []))
deep_more ms m room shallow deep = elim (where_it_stands ms (m ∷ []) deep.0 left deep.1 deep.2) as (λ v. ⊥) [
  | inl h ↦ shallow (deep.0, h.0, h.1, deep.3)
  | inr h ↦ let n = not_after m h.0 deep.1 h.2 in
      let front : deep.0 ≡ ms = h.1 ∙ ap (λ (ns : List Lexeme). ms ++ ns) n.0 ∙ append-nil ms in
      let now : lefts ms < rights ms + 64 = subst (HasRoom ms) n.1 room in
      let counted : rights ms + 64 ≤ lefts ms = subst (λ (ns : List Lexeme). rights ns + 64 ≤ lefts ns) front deep.3 in
      absurd (omega arith)
]

nothing_there : (front rest : List Lexeme) → [] ≡ front ++ left ∷ rest → ⊥
nothing_there [] rest e = cc
nothing_there (x ∷ front) rest e = cc

pub not_deep : ¬ (IsDeep [])
not_deep deep = nothing_there deep.0 deep.1 deep.2

-- ---- a tree that is nested so deep has lexemes that are

-- a list begins where so many are open
abbrev Reaches : ℕ → List Lexeme → Type 0
Reaches k ms = (front : List Lexeme) × (rest : List Lexeme) × (ms ≡ front ++ left ∷ rest) × (rights front + k ≤ lefts front)

reaches_before : (k : ℕ) (a b : List Lexeme) → Reaches k a → Reaches k (a ++ b)
reaches_before k a b h = (h.0, h.1 ++ b, ap (λ (ms : List Lexeme). ms ++ b) h.2 ∙ append_assoc h.0 (left ∷ h.1) b, h.3)

reaches_behind : (k : ℕ) (a b : List Lexeme) → lefts a ≡ rights a → Reaches k b → Reaches k (a ++ b)
reaches_behind k a b even h = (a ++ h.0, h.1, ap (λ (ms : List Lexeme). a ++ ms) h.2 ∙ sym (append_assoc a h.0 (left ∷ h.1)), omega (arith, h.3, lefts-append a h.0, rights-append a h.0))

reaches_inside : (k : ℕ) (ms : List Lexeme) → Reaches k ms → Reaches (suc k) (left ∷ ms)
reaches_inside k ms h = (left ∷ h.0, h.1, ap (λ (ns : List Lexeme). left ∷ ns) h.2, omega (arith, h.3))

mutual
  reaches : (k : ℕ) (s : Shape) → k < nesting s → Reaches k (written s)
  reaches k (leaf w) lt = absurd (omega arith)
  reaches zero (node ss) lt = ([], all_written ss ++ right ∷ [], refl, omega arith)
  reaches (suc k) (node ss) lt = reaches_inside k (all_written ss ++ right ∷ []) (reaches_before k (all_written ss) (right ∷ []) (all_reach k ss (omega arith)))

  all_reach : (k : ℕ) (ss : Shapes) → k < most_nesting ss → Reaches k (all_written ss)
  all_reach k no_shapes lt = absurd (omega arith)
  all_reach k (shape s ss) lt = elim (cases_lt k (nesting s)) as (λ v. Reaches k (written s ++ all_written ss)) [
    | inl here ↦ reaches_before k (written s) (all_written ss) (reaches k s here)
    | inr le ↦ reaches_behind k (written s) (all_written ss) (balanced s) (all_reach k ss (omega arith))
  ]

-- ---- and the other way round

no_left : (w : List ℕ) (front rest : List Lexeme) → word w ∷ [] ≡ front ++ left ∷ rest → ⊥
no_left w [] rest e = cc
no_left w (x ∷ []) rest e = cc
no_left w (x ∷ y ∷ front) rest e = cc

open_inside : (k : ℕ) (ss : Shapes) (front rest : List Lexeme) → ((j : ℕ) → Reaches j (all_written ss) → j < most_nesting ss) → all_written ss ≡ front ++ left ∷ rest → rights front + k ≤ lefts front + 1 → k < most_nesting ss + 1
open_inside zero ss front rest below e counted = omega arith
open_inside (suc k) ss front rest below e counted = let h = below k (front, rest, e, omega arith) in omega arith

nests_list : (k : ℕ) (ss : Shapes) (front rest : List Lexeme) → ((j : ℕ) → Reaches j (all_written ss) → j < most_nesting ss) → left ∷ (all_written ss ++ right ∷ []) ≡ front ++ left ∷ rest → rights front + k ≤ lefts front → k < most_nesting ss + 1
nests_list k ss [] rest below e counted = omega arith
nests_list k ss (x ∷ front) rest below e counted =
    let is : x ≡ left = cc in
    let inside : all_written ss ++ right ∷ [] ≡ front ++ left ∷ rest = cc in
    let here : rights (left ∷ front) + k ≤ lefts (left ∷ front) = subst (λ (m : Lexeme). rights (m ∷ front) + k ≤ lefts (m ∷ front)) is counted in
    elim (where_it_stands (all_written ss) (right ∷ []) front left rest inside) as (λ v. k < most_nesting ss + 1) [
      | inl h ↦ open_inside k ss front h.0 below h.1 here
      | inr h ↦ let n = not_after right h.0 rest h.2 in let wrong : right ≡ left = n.1 in absurd cc
    ]

mutual
  nests : (k : ℕ) (s : Shape) → Reaches k (written s) → k < nesting s
  nests k (leaf w) h = absurd (no_left w h.0 h.1 h.2)
  nests k (node ss) h = nests_list k ss h.0 h.1 (λ j. all_nest j ss) h.2 h.3

  all_nest : (k : ℕ) (ss : Shapes) → Reaches k (all_written ss) → k < most_nesting ss
  all_nest k no_shapes h = absurd (nothing_there h.0 h.1 h.2)
  all_nest k (shape s ss) h = elim (where_it_stands (written s) (all_written ss) h.0 left h.1 h.2) as (λ v. k < max (nesting s) (most_nesting ss)) [
    | inl g ↦ let here = nests k s (h.0, g.0, g.1, h.3) in omega arith
    | inr g ↦ let counted : rights (written s ++ g.0) + k ≤ lefts (written s ++ g.0) = subst (λ (ms : List Lexeme). rights ms + k ≤ lefts ms) g.1 h.3 in
        let there = all_nest k ss (g.0, h.1, g.2, omega (arith, counted, balanced s, lefts-append (written s) g.0, rights-append (written s) g.0)) in
        omega arith
  ]

pub deep_nested : DeepIsNested
deep_nested s = (nests 64 s, reaches 64 s)

-- what was read lies within the limit
pub nested : (r : Result Tree TextFault) (ms : List Lexeme) → IfOk r (λ t. tree_written t ≡ ms) → OnOk r (¬ (IsDeep ms)) → IfOk r (λ t. nesting (shape_of t) ≤ 64)
nested (Ok t) ms is shallow = elim (cases_lt 64 (nesting (shape_of t))) as (λ v. nesting (shape_of t) ≤ 64) [
  | inl deep ↦ absurd (shallow (subst IsDeep is (reaches 64 (shape_of t) deep)))
  | inr le ↦ le
]
nested (Err e) ms is shallow = tt
