-- Marks of the points at which bounds begin.
use Rattle.std.proofs.Common.{◌≡◌, ◌≢◌, ℕ, zero, suc, ◌<◌, ◌≤◌, Bool, true, false, List, [], ◌∷◌, length, get_or, set, replicate, drop, Option, Some, None, inl, inr, refl, ap, sym, ◌∙◌, arith, length-set}
use Rattle.std.specs.List.{AllByRecursion, filter_map, cons_option}
use Rattle.std.proofs.lemmas.Bool.{cases_eq}
use Rattle.std.proofs.lemmas.List.{get_or-set_same, get_or-set_other}
use Rattle.tp_bounds.specs.declared.Point.{Point}
use Rattle.tp_bounds.specs.declared.Point.TheVariants.{Origin, Event}
use Rattle.tp_bounds.specs.declared.Bound.{Bound}
use Rattle.tp_bounds.specs.declared.Edge.{Edge}
use Rattle.tp_bounds.specs.Reasons.{BeginApart}
use Rattle.tp_net.specs.Arcs.{number_of}

-- the marks are those of the points at which the bounds begin, as far as they have a place
pub record Marked (marks : List Bool) (bs : List Bound) : Type 0 where
  pub unmarked : (p : Point) → number_of p < length marks → get_or marks (number_of p) false ≡ false → AllByRecursion (λ b. p ≢ b.from) bs
  pub marked : (p : Point) → get_or marks (number_of p) false ≡ true → AllByRecursion (λ b. p ≢ b.from) bs → ⊥

same_place : (p q : Point) → number_of p ≡ number_of q → p ≡ q
same_place Origin Origin h = refl
same_place Origin (Event e) h = absurd (let f : ⊥ = omega arith in f)
same_place (Event e) Origin h = absurd (let f : ⊥ = omega arith in f)
same_place (Event e) (Event k) h = let f : e ≡ k = omega arith in ap (λ n. Event n) f

pub marked_more : (marks : List Bool) (bs : List Bound) (b : Bound) → number_of b.from < length marks → Marked marks bs → Marked (set marks (number_of b.from) true) (b ∷ bs)
marked_more marks bs b there h =
    record {
      unmarked = λ p lt is. (
          elim (cases_eq (number_of p) (number_of b.from)) [
            | inl same ↦
                let one : get_or (set marks (number_of b.from) true) (number_of b.from) false ≡ true = get_or-set_same marks (number_of b.from) true false there in
                let f : true ≡ false = sym one ∙ (ap (λ k. get_or (set marks (number_of b.from) true) k false) (sym same) ∙ is) in
                absurd (let g : ⊥ = cc in g)
            | inr ne ↦ (
              λ e. ne (ap number_of e),
              h.unmarked p (omega (arith, lt, length-set marks (number_of b.from) true)) (sym (get_or-set_other marks (number_of b.from) (number_of p) true false ne) ∙ is),
            )
          ]);
      marked = λ p is all. (
          elim (cases_eq (number_of p) (number_of b.from)) [
            | inl same ↦ all.0 (same_place p b.from same)
            | inr ne ↦ h.marked p (sym (get_or-set_other marks (number_of b.from) (number_of p) true false ne) ∙ is) all.1
          ]);
    }

pub marked_far : (marks : List Bool) (bs : List Bound) (b : Bound) → length marks ≤ number_of b.from → Marked marks bs → Marked marks (b ∷ bs)
marked_far marks bs b far h =
    record {
      unmarked = λ p lt is. (λ e. absurd (let same : number_of p ≡ number_of b.from = ap number_of e in let f : ⊥ = omega (arith, same) in f), h.unmarked p lt is);
      marked = λ p is all. h.marked p is all.1;
    }

apart_tail : (o : Option Bound) (bs : List Bound) → BeginApart (cons_option o bs) → BeginApart bs
apart_tail None bs h = h
apart_tail (Some b) bs h = h.1

-- what begins apart as a whole does so behind any place
pub apart_behind : (f : Edge → Option Bound) (i : ℕ) (es : List Edge) → BeginApart (filter_map f es) → BeginApart (filter_map f (drop i es))
apart_behind f zero es h = h
apart_behind f (suc i) [] h = h
apart_behind f (suc i) (e ∷ es) h = apart_behind f i es (apart_tail (f e) (filter_map f es) h)

pub all_false : (n k : ℕ) → get_or (replicate n false) k false ≡ false
all_false zero k = refl
all_false (suc n) zero = refl
all_false (suc n) (suc k) = all_false n k
