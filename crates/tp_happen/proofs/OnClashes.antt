-- Writes that mix, found by a table of the writes so far.
use Rattle.std.proofs.Common.{◌≡◌, ℕ, Bool, true, false, cond, not, ◌&&◌, ◌||◌, ◌==◌, List, [], ◌∷◌, Option, Some, None, ◌+◌, ◌<◌, length, drop, get_or, set, arith, refl, sym, ap, ap₂, ◌∙◌}
use Rattle.std.specs.List.{list_any}
use Rattle.std.proofs.lemmas.Bool.{eqb-true, eqb-false, false≢true}
use Rattle.std.proofs.lemmas.List.{drop_more, get_or-set_same, get_or-set_other}
use Rattle.tp_task.specs.declared.events.NumericEffect.{NumericEffect}
use Rattle.tp_task.specs.Event.{is_additive, mixes_with, mixes_in}
use Rattle.tp_happen.specs.Clashes.{clashes}

-- some write clashes with what a table tells of its fluent
abbrev pub some_clashes : (ℕ → Option Bool) → List NumericEffect → Bool
some_clashes table ws = list_any (λ w. clashes (table w.fluent) (is_additive w.change)) ws

same : (before : Option Bool) (a b : Bool) → clashes before a ≡ false → (clashes before b || not (b && a)) ≡ not (a && b)
same None true true h = refl
same None true false h = refl
same None false true h = refl
same None false false h = refl
same (Some true) true true h = refl
same (Some true) true false h = refl
same (Some true) false b h = absurd (false≢true (sym h))
same (Some false) a b h = absurd (false≢true (sym h))

or_false : (a : Bool) → (a || false) ≡ a
or_false true = refl
or_false false = refl

across : (c a m r : Bool) → ((c || a) || (m || r)) ≡ ((c || m) || (a || r))
across true a m r = refl
across false true true r = refl
across false true false r = refl
across false false m r = refl

assoc : (c a b : Bool) → ((c || a) || b) ≡ (c || (a || b))
assoc true a b = refl
assoc false a b = refl

module _ (table after : ℕ → Option Bool) (w : NumericEffect)
    (told : (f : ℕ) → after f ≡ cond (f == w.fluent) (Some (is_additive w.change)) (table f))
    (h : clashes (table w.fluent) (is_additive w.change) ≡ false) where
  other : (v : NumericEffect) (t : Bool) → (v.fluent == w.fluent) ≡ t → (clashes (table v.fluent) (is_additive v.change) || (t && not (is_additive v.change && is_additive w.change))) ≡ clashes (cond t (Some (is_additive w.change)) (table v.fluent)) (is_additive v.change)
  other v true e =
      ap (λ f. clashes (table f) (is_additive v.change) || not (is_additive v.change && is_additive w.change)) (eqb-true v.fluent w.fluent e)
      ∙ same (table w.fluent) (is_additive w.change) (is_additive v.change) h
  other v false e = or_false (clashes (table v.fluent) (is_additive v.change))

  one : (v : NumericEffect) → (clashes (table v.fluent) (is_additive v.change) || ((v.fluent == w.fluent) && not (is_additive v.change && is_additive w.change))) ≡ clashes (after v.fluent) (is_additive v.change)
  one v = other v (v.fluent == w.fluent) refl ∙ ap (λ b. clashes b (is_additive v.change)) (sym (told v.fluent))

  each : (ws : List NumericEffect) → (some_clashes table ws || mixes_with w ws) ≡ some_clashes after ws
  each [] = refl
  each (v ∷ vs) =
      across (clashes (table v.fluent) (is_additive v.change)) (some_clashes table vs) ((v.fluent == w.fluent) && not (is_additive v.change && is_additive w.change)) (mixes_with w vs)
      ∙ ap₂ (λ a b. a || b) (one v) (each vs)

  -- a write that does not clash is noted in the table
  pub noted : (ws : List NumericEffect) → (some_clashes table (w ∷ ws) || mixes_in (w ∷ ws)) ≡ (some_clashes after ws || mixes_in ws)
  noted ws =
      ap (λ b. (b || some_clashes table ws) || (mixes_with w ws || mixes_in ws)) h
      ∙ sym (assoc (some_clashes table ws) (mixes_with w ws) (mixes_in ws))
      ∙ ap (λ b. b || mixes_in ws) (each ws)

-- a table that tells of no write
pub blank : (table : ℕ → Option Bool) (ws : List NumericEffect) → ((f : ℕ) → table f ≡ None) → some_clashes table ws ≡ false
blank table [] h = refl
blank table (w ∷ ws) h = ap (λ b. clashes b (is_additive w.change) || some_clashes table ws) (h w.fluent) ∙ blank table ws h

told_at : (table : List (Option Bool)) (i f : ℕ) (a : Option Bool) (t : Bool) → (f == i) ≡ t → i < length table → get_or (set table i a) f None ≡ cond t a (get_or table f None)
told_at table i f a true e lt = ap (λ j. get_or (set table i a) j None) (eqb-true f i e) ∙ get_or-set_same table i a None lt
told_at table i f a false e lt = get_or-set_other table i f a None (eqb-false f i e)

-- one round of a loop over the writes
pub go_on : (effects : List NumericEffect) (i : ℕ) (w : NumericEffect) (table : List (Option Bool)) (a all : Bool) → i < length effects → w ≡ get_or effects i w → w.fluent < length table → a ≡ is_additive w.change → clashes (get_or table w.fluent None) a ≡ false → (some_clashes (λ f. get_or table f None) (drop i effects) || mixes_in (drop i effects)) ≡ all → (some_clashes (λ f. get_or (set table w.fluent (Some a)) f None) (drop (i + 1) effects) || mixes_in (drop (i + 1) effects)) ≡ all
go_on effects i w table a all lt is known additive h before =
    sym (noted (λ f. get_or table f None) (λ f. get_or (set table w.fluent (Some a)) f None) w
    (λ f. told_at table w.fluent f (Some a) (f == w.fluent) refl known ∙ ap (λ b. cond (f == w.fluent) (Some b) (get_or table f None)) additive)
    (ap (clashes (get_or table w.fluent None)) (sym additive) ∙ h) (drop (i + 1) effects))
    ∙ ap (λ v. some_clashes (λ f. get_or table f None) (v ∷ drop (i + 1) effects) || mixes_in (v ∷ drop (i + 1) effects)) is
    ∙ ap (λ ws. some_clashes (λ f. get_or table f None) ws || mixes_in ws) (sym (drop_more effects i w lt))
    ∙ before

-- fewer than two writes do not mix
pub few : (ws : List NumericEffect) → length ws < 2 → mixes_in ws ≡ false
few [] h = refl
few (w ∷ []) h = refl
few (w ∷ v ∷ ws) h = absurd (let no : ⊥ = omega (arith, h) in no)
