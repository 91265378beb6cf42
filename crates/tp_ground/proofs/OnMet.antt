-- What a set of words meets, and what the set of their numbers meets.
use Rattle.std.proofs.Common.{◌≡◌, ℕ, Bool, true, false, not, ◌&&◌, ◌||◌, List, [], ◌∷◌, map, Vec, Box, Global, refl, sym, ap, ap₂, subst, ◌∙◌}
use Rattle.std.specs.List.{list_all, list_any}
use Rattle.std.proofs.lemmas.Bool.{and_parts}
use Rattle.tp_task.specs.declared.events.Cond as conds
use Rattle.tp_task.specs.declared.events.Cond.{Cond, ind-Cond, roll-Cond, map-Cond}
use Rattle.tp_task.specs.declared.events.Cond.TheOpen.{Cond-F}
use Rattle.tp_task.specs.declared.events.Cond.TheVariants.{rolls-Atom, rolls-Compare, rolls-Not, rolls-And, rolls-Or}
use Rattle.tp_task.specs.declared.events.Comparison.{Comparison}
use Rattle.tp_task.specs.declared.events.Expr.{Expr}
use Rattle.tp_task.specs.Tables.{Tables, words_at}
use Rattle.tp_task.specs.Reach as numbers
use Rattle.tp_task.specs.Words.{Words}
use Rattle.tp_ground_bodies.specs.ReadBack.{named_condition}
use Rattle.tp_ground_bodies.specs.Written.{GroundCondition, GroundConditions, atom, compared, negation, all_of, any_of, no_conditions, condition, conditions_from}
use Rattle.tp_ground.proofs.OnFits.{are_words}
use Rattle.tp_ground_bodies.proofs.OnConditions.{named_And, named_Or, named_Not, named_Atom, named_Compare}
use Rattle.tp_task.specs.Rounds.{over}
use Rattle.tp_task.proofs.Rows.{met_And, met_Or}
use Rattle.tp_ground.specs.Reached.{met, each_met, some_met}

-- ---- what there is for each part

abbrev mutual
  pub worded : GroundCondition → Bool
  worded (atom w) = are_words w
  worded (compared how x y) = true
  worded (negation c) = worded c
  worded (all_of cs) = all_worded cs
  worded (any_of cs) = all_worded cs

  pub all_worded : GroundConditions → Bool
  all_worded no_conditions = true
  all_worded (condition c cs) = worded c && all_worded cs

module _ (t : Tables) (r : ℕ → Bool) (R : Words → Bool) (same : (i : ℕ) → are_words (words_at t.atoms i) ≡ true → R (words_at t.atoms i) ≡ r i) where
  abbrev pub IsSame : Cond → Type 0
  IsSame c = (b : Bool) → worded (named_condition t c) ≡ true → met R b (named_condition t c) ≡ numbers.met r b c

  as_named : (c : Cond) (g : GroundCondition) → named_condition t c ≡ g → ((b : Bool) → worded g ≡ true → met R b g ≡ numbers.met r b c) → IsSame c
  as_named c g e h b w = ap (met R b) e ∙ h b (ap worded (sym e) ∙ w)

  atom_same : (a : ℕ) → IsSame (conds.Atom a)
  atom_same a = as_named (conds.Atom a) (atom (words_at t.atoms a)) (named_Atom t a) (λ b w. by b w)
    where
      by : (b : Bool) → are_words (words_at t.atoms a) ≡ true → met R b (atom (words_at t.atoms a)) ≡ numbers.met r b (conds.Atom a)
      by true w = same a w
      by false w = refl

  compare_same : (how : Comparison) (x y : Box Expr Global) → IsSame (conds.Compare how x y)
  compare_same how x y = as_named (conds.Compare how x y) _ (named_Compare t how x y) (λ b w. by b)
    where
      by : (b : Bool) → true ≡ numbers.met r b (conds.Compare how x y)
      by true = refl
      by false = refl

  not_same : (c : Box Cond Global) → IsSame c.value → IsSame (conds.Not c)
  not_same c h = as_named (conds.Not c) (negation (named_condition t c.value)) (named_Not t c) (λ b w. by b w)
    where
      by : (b : Bool) → worded (named_condition t c.value) ≡ true → met R b (negation (named_condition t c.value)) ≡ numbers.met r b (conds.Not c)
      by true w = h false w
      by false w = h true w

  module _ {A : Type 0} (f : A → Cond) (each : (a : A) → IsSame (f a)) where
    abbrev parts : List A → GroundConditions
    parts xs = conditions_from (map (named_condition t) (map f xs))

    all_same : (b : Bool) (xs : List A) → all_worded (parts xs) ≡ true → each_met R b (parts xs) ≡ list_all (λ c. numbers.met r b c) (map f xs)
    all_same b [] w = refl
    all_same b (x ∷ xs) w = let p = and_parts (worded (named_condition t (f x))) (all_worded (parts xs)) w in ap₂ ◌&&◌ (each x b p.0) (all_same b xs p.1)

    some_same : (b : Bool) (xs : List A) → all_worded (parts xs) ≡ true → some_met R b (parts xs) ≡ list_any (λ c. numbers.met r b c) (map f xs)
    some_same b [] w = refl
    some_same b (x ∷ xs) w = let p = and_parts (worded (named_condition t (f x))) (all_worded (parts xs)) w in ap₂ ◌||◌ (each x b p.0) (some_same b xs p.1)

    and_same : (v : Vec Cond Global) (xs : List A) → v.items ≡ map f xs → IsSame (conds.And v)
    and_same v xs is = as_named (conds.And v) (all_of (parts xs)) (named_And t v ∙ ap (λ cs. all_of (conditions_from (map (named_condition t) cs))) is) (λ b w. by b w ∙ ap (over b (λ c. numbers.met r b c)) (sym is) ∙ sym (met_And r b v))
      where
        by : (b : Bool) → all_worded (parts xs) ≡ true → met R b (all_of (parts xs)) ≡ over b (λ c. numbers.met r b c) (map f xs)
        by true w = all_same true xs w
        by false w = some_same false xs w

    or_same : (v : Vec Cond Global) (xs : List A) → v.items ≡ map f xs → IsSame (conds.Or v)
    or_same v xs is = as_named (conds.Or v) (any_of (parts xs)) (named_Or t v ∙ ap (λ cs. any_of (conditions_from (map (named_condition t) cs))) is) (λ b w. by b w ∙ ap (over (not b) (λ c. numbers.met r b c)) (sym is) ∙ sym (met_Or r b v))
      where
        by : (b : Bool) → all_worded (parts xs) ≡ true → met R b (any_of (parts xs)) ≡ over (not b) (λ c. numbers.met r b c) (map f xs)
        by true w = some_same true xs w
        by false w = all_same false xs w

    layer_same : (y : Cond-F A) → IsSame (roll-Cond (map-Cond A Cond f y))
    layer_same (Cond-F.Atom a) = subst IsSame (sym (rolls-Atom a)) (atom_same a)
    layer_same (Cond-F.Compare how x y) = subst IsSame (sym (rolls-Compare how x y)) (compare_same how x y)
    layer_same (Cond-F.Not c) = subst IsSame (sym (rolls-Not _)) (not_same _ (each c.value))
    layer_same (Cond-F.And v) = subst IsSame (sym (rolls-And _)) (and_same _ v.items refl)
    layer_same (Cond-F.Or v) = subst IsSame (sym (rolls-Or _)) (or_same _ v.items refl)

  pub met_same : (c : Cond) → IsSame c
  met_same = ind-Cond IsSame (λ x y is. subst (λ z. IsSame (roll-Cond z)) is (layer_same (λ e. e.0) (λ e. e.1) y))
