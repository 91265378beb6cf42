-- Lemmas on what is written for words and steps.
use Rattle.std.proofs.Common.{◌≡◌, ℕ, zero, suc, ◌+◌, ◌<◌, inl, inr, List, [], ◌∷◌, ◌++◌, length, take, drop, get_or, flat_map, refl, sym, ap, ◌∙◌, append_assoc, append-nil, arith, Some, None, take-append-drop}
use Rattle.std.specs.Prelude.{slice_get}
use Rattle.std.proofs.lemmas.Grind.{flat_map-append}
use Rattle.std.proofs.lemmas.List.{take_all}
use Rattle.std.proofs.lemmas.Option.{slice_get_cases}
use Rattle.tp_plan_text.specs.PlanPrints.{space_before, words_text}

pub space_is : (n : ℕ) → (n ≡ 0 → ⊥) → 32 ∷ [] ≡ space_before n
space_is zero ne = absurd (ne refl)
space_is (suc n) ne = refl

abbrev spaced : List ℕ → List ℕ
spaced v = 32 ∷ v

spaces_more : (ws : List (List ℕ)) (p : ℕ) (w : List ℕ) → slice_get ws p ≡ Some w → flat_map spaced (take (suc p) ws) ≡ flat_map spaced (take p ws) ++ (32 ∷ w)
spaces_more [] p w h = absurd (let no : ⊥ = cc in no)
spaces_more (v ∷ vs) zero w h = let e : v ≡ w = cc in append-nil (32 ∷ v) ∙ ap (λ x. 32 ∷ x) e
spaces_more (v ∷ vs) (suc p) w h = ap (λ t. (32 ∷ v) ++ t) (spaces_more vs p w h) ∙ sym (append_assoc (32 ∷ v) (flat_map spaced (take p vs)) (32 ∷ w))

words_step : (ws : List (List ℕ)) (p : ℕ) (w : List ℕ) → slice_get ws p ≡ Some w → words_text (take (suc p) ws) ≡ words_text (take p ws) ++ (space_before p ++ w)
words_step [] p w h = absurd (let no : ⊥ = cc in no)
words_step (v ∷ vs) zero w h = let e : v ≡ w = cc in append-nil v ∙ e
words_step (v ∷ vs) (suc p) w h = ap (λ t. v ++ t) (spaces_more vs p w h) ∙ sym (append_assoc v (flat_map spaced (take p vs)) (32 ∷ w))

-- one word more
pub words_more : (ws : List (List ℕ)) (p : ℕ) (w : List ℕ) → slice_get ws p ≡ Some w → words_text (take (p + 1) ws) ≡ words_text (take p ws) ++ (space_before p ++ w)
words_more ws p w h = ap (λ n. words_text (take n ws)) (let e : p + 1 ≡ suc p = omega arith in e) ∙ words_step ws p w h

front_text : (v : List ℕ) (vs : List (List ℕ)) (n : ℕ) → words_text (v ∷ vs) ≡ words_text (v ∷ take n vs) ++ flat_map spaced (drop n vs)
front_text v vs n =
    ap (λ t. v ++ flat_map spaced t) (sym (take-append-drop n vs))
    ∙ ap (λ t. v ++ t) (flat_map-append spaced (take n vs) (drop n vs))
    ∙ sym (append_assoc v (flat_map spaced (take n vs)) (flat_map spaced (drop n vs)))

-- a word, what stands before it, and what follows
pub words_split : (ws : List (List ℕ)) (p : ℕ) (w : List ℕ) → slice_get ws p ≡ Some w → (rest : List ℕ) × (words_text ws ≡ words_text (take p ws) ++ ((space_before p ++ w) ++ rest))
words_split [] p w h = absurd (let no : ⊥ = cc in no)
words_split (v ∷ vs) p w h = (
  flat_map spaced (drop p vs),
  front_text v vs p
      ∙ ap (λ t. t ++ flat_map spaced (drop p vs)) (words_step (v ∷ vs) p w h)
      ∙ append_assoc (words_text (take p (v ∷ vs))) (space_before p ++ w) (flat_map spaced (drop p vs)),
)

pub words_all : (ws : List (List ℕ)) (p : ℕ) → slice_get ws p ≡ None → words_text (take p ws) ≡ words_text ws
words_all ws p h = elim (slice_get_cases ws p).1 [
  | inl some ↦ absurd (let e : Some some.0 ≡ None = sym some.2 ∙ h in let no : ⊥ = cc in no)
  | inr past ↦ ap words_text (take_all p ws past.0)
]

-- what is written for a list is written for its items, one after another
pub flat_split : {X : Type 0} (f : X → List ℕ) (xs : List X) (i : ℕ) (d : X) → i < length xs → (rest : List ℕ) × (flat_map f xs ≡ flat_map f (take i xs) ++ (f (get_or xs i d) ++ rest))
flat_split f [] i d lt = absurd (let no : ⊥ = omega arith in no)
flat_split f (x ∷ xs) zero d lt = (flat_map f xs, refl)
flat_split f (x ∷ xs) (suc i) d lt =
    let more = flat_split f xs i d (omega arith) in
    (more.0, ap (λ t. f x ++ t) more.1 ∙ sym (append_assoc (f x) (flat_map f (take i xs)) (f (get_or xs i d) ++ more.0)))
