-- What is read of a state depends only on the atoms and fluents that are mentioned.
use Rattle.std.proofs.Common.{◌≡◌, ℕ, Bool, true, false, not, ◌&&◌, ◌||◌, ◌==◌, List, [], ◌∷◌, ◌++◌, ◌⊎◌, inl, inr, ⊎_elim, refl, sym, ap, ap₂, subst, Option, None, ℤ, ◌+ℤ◌, ◌-ℤ◌, ◌*ℤ◌, is_some, eq-eqb, eqb-true}
use Rattle.std.proofs.lemmas.Bool.{or_parts, or_cases, or_left, or_right}
use Rattle.tp_task.specs.declared.events.Expr.{Expr}
use Rattle.tp_task.specs.declared.events.Expr.TheVariants.{Number, Fluent, Duration, Negated', Sum', Difference', Product'}
use Rattle.tp_task.specs.declared.events.Cond.{Cond, Row_of-Cond, end_of-Cond, more_of-Cond}
use Rattle.tp_task.specs.declared.events.Cond.TheVariants.{Atom, Compare, Not', And', Or'}
use Rattle.tp_task.specs.State.{State, value, both, negated, compares_values, fluents_of, atoms_in, atoms_in_row, fluents_in, fluents_in_row, truth, all_true, some_true, has_values, have_values, holds, mentions_duration}
use Rattle.tp_task.specs.Event.{has, meets}

pub has_left : (xs ys : List ℕ) (x : ℕ) → has xs x ≡ true → has (xs ++ ys) x ≡ true
has_left (y ∷ xs) ys x h = ⊎_elim (λ e. or_left (y == x) _ e) (λ e. or_right (y == x) _ (has_left xs ys x e)) (or_cases (y == x) (has xs x) h)
has_left [] ys x h = absurd (cc)

pub has_right : (xs ys : List ℕ) (x : ℕ) → has ys x ≡ true → has (xs ++ ys) x ≡ true
has_right [] ys x h = h
has_right (y ∷ xs) ys x h = or_right (y == x) _ (has_right xs ys x h)

pub has_parts : (xs ys : List ℕ) (x : ℕ) → has (xs ++ ys) x ≡ true → (has xs x ≡ true) ⊎ (has ys x ≡ true)
has_parts [] ys x h = inr h
has_parts (y ∷ xs) ys x h = ⊎_elim (λ e. inl (or_left (y == x) _ e)) (λ e. ⊎_elim (λ z. inl (or_right (y == x) _ z)) inr (has_parts xs ys x e)) (or_cases (y == x) (has (xs ++ ys) x) h)

-- two lists that have a number in common meet
pub meets_at : (xs ys : List ℕ) (x : ℕ) → has xs x ≡ true → has ys x ≡ true → meets xs ys ≡ true
meets_at (z ∷ xs) ys x h k = ⊎_elim (λ e. or_left (has ys z) _ (subst (λ w. has ys w ≡ true) (sym (eqb-true z x e)) k)) (λ e. or_right (has ys z) _ (meets_at xs ys x e k)) (or_cases (z == x) (has xs x) h)
meets_at [] ys x h k = absurd (cc)

-- the duration is the same, or isn't mentioned
abbrev pub SameDuration : Option ℤ → Option ℤ → Bool → Type 0
SameDuration d d' mentioned = (d ≡ d') ⊎ (mentioned ≡ false)

abbrev pub SameAtoms : State → State → List ℕ → Type 0
SameAtoms s s' xs = (a : ℕ) → has xs a ≡ true → s.atom a ≡ s'.atom a

abbrev pub SameNumbers : State → State → List ℕ → Type 0
SameNumbers s s' xs = (f : ℕ) → has xs f ≡ true → s.number f ≡ s'.number f

left_part : {d d' : Option ℤ} (x y : Bool) → SameDuration d d' (x || y) → SameDuration d d' x
left_part x y h = ⊎_elim inl (λ e. inr (or_parts x y e).0) h

right_part : {d d' : Option ℤ} (x y : Bool) → SameDuration d d' (x || y) → SameDuration d d' y
right_part x y h = ⊎_elim inl (λ e. inr (or_parts x y e).1) h

module _ (s s' : State) (d d' : Option ℤ) where
  pub value_same : (x : Expr) → SameNumbers s s' (fluents_of x) → SameDuration d d' (mentions_duration x) → value s d x ≡ value s' d' x
  value_same (Number n) h k = refl
  value_same (Fluent f) h k = h f (or_left (f == f) false (eq-eqb f f refl))
  value_same Duration h k = ⊎_elim (λ e. e) (λ e. absurd (cc)) k
  value_same (Negated' p x) h k = ap negated (value_same x h k)
  value_same (Sum' p x q y) h k = ap₂ (both ◌+ℤ◌) (value_same x (λ f i. h f (has_left (fluents_of x) _ f i)) (left_part (mentions_duration x) _ k)) (value_same y (λ f i. h f (has_right (fluents_of x) _ f i)) (right_part (mentions_duration x) _ k))
  value_same (Difference' p x q y) h k = ap₂ (both ◌-ℤ◌) (value_same x (λ f i. h f (has_left (fluents_of x) _ f i)) (left_part (mentions_duration x) _ k)) (value_same y (λ f i. h f (has_right (fluents_of x) _ f i)) (right_part (mentions_duration x) _ k))
  value_same (Product' p x q y) h k = ap₂ (both ◌*ℤ◌) (value_same x (λ f i. h f (has_left (fluents_of x) _ f i)) (left_part (mentions_duration x) _ k)) (value_same y (λ f i. h f (has_right (fluents_of x) _ f i)) (right_part (mentions_duration x) _ k))

module _ (s s' : State) where
  mutual
    pub truth_same : (c : Cond) → SameAtoms s s' (atoms_in c) → SameNumbers s s' (fluents_in c) → truth s c ≡ truth s' c
    truth_same (Atom a) h k = h a (or_left (a == a) false (eq-eqb a a refl))
    truth_same (Compare how x y) h k = ap₂ (compares_values how) (value_same s s' None None x.value (λ f i. k f (has_left (fluents_of x.value) _ f i)) (inl refl)) (value_same s s' None None y.value (λ f i. k f (has_right (fluents_of x.value) _ f i)) (inl refl))
    truth_same (Not' p c) h k = ap not (truth_same c h k)
    truth_same (And' shape cs) h k = all_same cs h k
    truth_same (Or' shape cs) h k = some_same cs h k

    all_same : {m : _} (cs : Row_of-Cond m) → SameAtoms s s' (atoms_in_row cs) → SameNumbers s s' (fluents_in_row cs) → all_true s cs ≡ all_true s' cs
    all_same end_of-Cond h k = refl
    all_same (more_of-Cond c cs) h k = ap₂ ◌&&◌ (truth_same c (λ a i. h a (has_left (atoms_in c) _ a i)) (λ f i. k f (has_left (fluents_in c) _ f i))) (all_same cs (λ a i. h a (has_right (atoms_in c) _ a i)) (λ f i. k f (has_right (fluents_in c) _ f i)))

    some_same : {m : _} (cs : Row_of-Cond m) → SameAtoms s s' (atoms_in_row cs) → SameNumbers s s' (fluents_in_row cs) → some_true s cs ≡ some_true s' cs
    some_same end_of-Cond h k = refl
    some_same (more_of-Cond c cs) h k = ap₂ ◌||◌ (truth_same c (λ a i. h a (has_left (atoms_in c) _ a i)) (λ f i. k f (has_left (fluents_in c) _ f i))) (some_same cs (λ a i. h a (has_right (atoms_in c) _ a i)) (λ f i. k f (has_right (fluents_in c) _ f i)))

  mutual
    has_values_same : (c : Cond) → SameNumbers s s' (fluents_in c) → has_values s c ≡ has_values s' c
    has_values_same (Atom a) k = refl
    has_values_same (Compare how x y) k = ap₂ (λ v w. is_some v && is_some w) (value_same s s' None None x.value (λ f i. k f (has_left (fluents_of x.value) _ f i)) (inl refl)) (value_same s s' None None y.value (λ f i. k f (has_right (fluents_of x.value) _ f i)) (inl refl))
    has_values_same (Not' p c) k = has_values_same c k
    has_values_same (And' shape cs) k = have_values_same cs k
    has_values_same (Or' shape cs) k = have_values_same cs k

    have_values_same : {m : _} (cs : Row_of-Cond m) → SameNumbers s s' (fluents_in_row cs) → have_values s cs ≡ have_values s' cs
    have_values_same end_of-Cond k = refl
    have_values_same (more_of-Cond c cs) k = ap₂ ◌&&◌ (has_values_same c (λ f i. k f (has_left (fluents_in c) _ f i))) (have_values_same cs (λ f i. k f (has_right (fluents_in c) _ f i)))

  pub holds_same : (c : Cond) → SameAtoms s s' (atoms_in c) → SameNumbers s s' (fluents_in c) → holds s c ≡ holds s' c
  holds_same c h k = ap₂ ◌&&◌ (has_values_same c k) (truth_same c h k)
