-- What numbered expressions and conditions mean, by the words at their numbers.
use Rattle.std.proofs.Common.{◌≡◌, ℕ, Bool, true, false, not, ◌&&◌, ◌||◌, List, [], ◌++◌, map, Option, None, ℤ, ◌+ℤ◌, ◌-ℤ◌, ◌*ℤ◌, is_some, Vec, Global, refl, sym, ap, ap₂, ◌∙◌, rules, ◌==◌, eq-eqb, true≢false}
use Rattle.std.proofs.lemmas.List.{map-append}
use Rattle.tp_task.specs.declared.events.Expr.{Expr}
use Rattle.tp_task.specs.declared.events.Expr.TheVariants.{Number, Fluent, Duration, Negated', Sum', Difference', Product'}
use Rattle.tp_task.specs.declared.events.Cond as conds
use Rattle.tp_task.specs.declared.events.Cond.TheOpen as opened
use Rattle.tp_task.specs.declared.events.Cond.{Cond, Row_of-Cond, end_of-Cond, more_of-Cond, items-the_row-Cond, items_hidden-the_row-Cond-0}
use Rattle.tp_task.specs.declared.events.Cond.TheVariants.{Atom, Compare, Not', And', Or', rolls-And, rolls-Or, rolls-Atom, rolls-Compare, rolls-Not}
use Rattle.tp_task.specs.State.{State, both, negated, value, compares_values, truth, all_true, some_true, has_values, have_values, holds, fluents_of, atoms_in, atoms_in_row, fluents_in, fluents_in_row}
use Rattle.tp_task.specs.Reach as by_number
use Rattle.tp_task.specs.Words.{Words}
use Rattle.tp_task.specs.Tables.{Tables, words_at}
use Rattle.tp_ground.specs.Written.{negative, sum, difference, product, negation, all_of, any_of, conditions_from}
use Rattle.tp_ground.specs.ReadBack.{named_expression, named_condition}
use Rattle.tp_ground.specs.Reached.{met, each_met, some_met}
use Rattle.tp_ground.proofs.OnExpressions.{named_Number, named_Duration, named_Fluent, named_Negated, named_Sum, named_Difference, named_Product}
use Rattle.tp_ground.proofs.OnConditions.{named_Atom, named_Compare, named_And, named_Or}
use Rattle.tp_ground_laws.proofs.ByWords.{WordState, value_in, truth_in, all_true_in, some_true_in, has_values_in, have_values_in, holds_in, fluents_from, atoms_among, atoms_among_all, fluents_among, fluents_among_all}

-- the conditions of a conjunction or a disjunction
abbrev items_in : Cond → List Cond
items_in (And' shape cs) = items-the_row-Cond _ cs
items_in (Or' shape cs) = items-the_row-Cond _ cs
items_in _ = []

abbrev kind : Cond → ℕ
kind (And' shape cs) = 1
kind (Or' shape cs) = 2
kind _ = 0

rolled : (c : Cond) → conds.roll-Cond (conds.out-Cond c) ≡ c
rolled c = search (rules, conds.the_lemmas)

other_kind : (m n : ℕ) → m ≡ n → (m == n) ≡ false → ⊥
other_kind m n e f = true≢false (sym (eq-eqb m n e) ∙ f)

-- a conjunction is one of a vector, and so is a disjunction
as_and : (x : opened.Cond-F Cond) (c : Cond) → conds.roll-Cond x ≡ c → kind c ≡ 1 → (v : Vec Cond Global) × (c ≡ conds.And v)
as_and (opened.Cond-F.And v) c e k = (v, sym e ∙ rolls-And v)
as_and (opened.Cond-F.Or v) c e k = absurd (other_kind 2 1 (ap kind (sym (rolls-Or v) ∙ e) ∙ k) refl)
as_and (opened.Cond-F.Atom a) c e k = absurd (other_kind 0 1 (ap kind (sym (rolls-Atom a) ∙ e) ∙ k) refl)
as_and (opened.Cond-F.Compare how x y) c e k = absurd (other_kind 0 1 (ap kind (sym (rolls-Compare how x y) ∙ e) ∙ k) refl)
as_and (opened.Cond-F.Not b) c e k = absurd (other_kind 0 1 (ap kind (sym (rolls-Not b) ∙ e) ∙ k) refl)

as_or : (x : opened.Cond-F Cond) (c : Cond) → conds.roll-Cond x ≡ c → kind c ≡ 2 → (v : Vec Cond Global) × (c ≡ conds.Or v)
as_or (opened.Cond-F.Or v) c e k = (v, sym e ∙ rolls-Or v)
as_or (opened.Cond-F.And v) c e k = absurd (other_kind 1 2 (ap kind (sym (rolls-And v) ∙ e) ∙ k) refl)
as_or (opened.Cond-F.Atom a) c e k = absurd (other_kind 0 2 (ap kind (sym (rolls-Atom a) ∙ e) ∙ k) refl)
as_or (opened.Cond-F.Compare how x y) c e k = absurd (other_kind 0 2 (ap kind (sym (rolls-Compare how x y) ∙ e) ∙ k) refl)
as_or (opened.Cond-F.Not b) c e k = absurd (other_kind 0 2 (ap kind (sym (rolls-Not b) ∙ e) ∙ k) refl)

abbrev IsNamed : Tables → Cond → Type 0
IsNamed t (And' shape cs) = named_condition t (And' shape cs) ≡ all_of (conditions_from (map (named_condition t) (items-the_row-Cond _ cs)))
IsNamed t (Or' shape cs) = named_condition t (Or' shape cs) ≡ any_of (conditions_from (map (named_condition t) (items-the_row-Cond _ cs)))
IsNamed t _ = Unit {0}

pub is_named : (t : Tables) (c : Cond) → IsNamed t c
is_named t (And' shape cs) =
    let c : Cond = And' shape cs in
    let (v, is) = as_and (conds.out-Cond c) c (rolled c) refl in
    ap (named_condition t) is ∙ named_And t v ∙ ap (λ ds. all_of (conditions_from (map (named_condition t) ds))) (sym (items_hidden-the_row-Cond-0 v) ∙ sym (ap items_in is))
is_named t (Or' shape cs) =
    let c : Cond = Or' shape cs in
    let (v, is) = as_or (conds.out-Cond c) c (rolled c) refl in
    ap (named_condition t) is ∙ named_Or t v ∙ ap (λ ds. any_of (conditions_from (map (named_condition t) ds))) (sym (items_hidden-the_row-Cond-0 v) ∙ sym (ap items_in is))
is_named t (Atom a) = tt
is_named t (Compare how x y) = tt
is_named t (Not' p c) = tt

module _ (t : Tables) where
  pub is_negative : (p : _) (x : Expr) → named_expression t (Negated' p x) ≡ negative (named_expression t x)
  is_negative p x = named_Negated t _

  pub is_sum : (p : _) (x : Expr) (q : _) (y : Expr) → named_expression t (Sum' p x q y) ≡ sum (named_expression t x) (named_expression t y)
  is_sum p x q y = named_Sum t _ _

  pub is_difference : (p : _) (x : Expr) (q : _) (y : Expr) → named_expression t (Difference' p x q y) ≡ difference (named_expression t x) (named_expression t y)
  is_difference p x q y = named_Difference t _ _

  pub is_product : (p : _) (x : Expr) (q : _) (y : Expr) → named_expression t (Product' p x q y) ≡ product (named_expression t x) (named_expression t y)
  is_product p x q y = named_Product t _ _

  is_negation : (p : _) (c : Cond) → named_condition t (Not' p c) ≡ negation (named_condition t c)
  is_negation p c = search (rules, conds.the_lemmas)

  pub fluents_named : (x : Expr) → map (words_at t.fluents) (fluents_of x) ≡ fluents_from (named_expression t x)
  fluents_named (Number n) = ap fluents_from (sym (named_Number t n))
  fluents_named (Fluent f) = ap fluents_from (sym (named_Fluent t f))
  fluents_named Duration = ap fluents_from (sym (named_Duration t))
  fluents_named (Negated' p x) = fluents_named x ∙ ap fluents_from (sym (is_negative p x))
  fluents_named (Sum' p x q y) = map-append (words_at t.fluents) (fluents_of x) (fluents_of y) ∙ ap₂ (λ (v w : List Words). v ++ w) (fluents_named x) (fluents_named y) ∙ ap fluents_from (sym (is_sum p x q y))
  fluents_named (Difference' p x q y) = map-append (words_at t.fluents) (fluents_of x) (fluents_of y) ∙ ap₂ (λ (v w : List Words). v ++ w) (fluents_named x) (fluents_named y) ∙ ap fluents_from (sym (is_difference p x q y))
  fluents_named (Product' p x q y) = map-append (words_at t.fluents) (fluents_of x) (fluents_of y) ∙ ap₂ (λ (v w : List Words). v ++ w) (fluents_named x) (fluents_named y) ∙ ap fluents_from (sym (is_product p x q y))

  mutual
    pub atoms_named : (c : Cond) → map (words_at t.atoms) (atoms_in c) ≡ atoms_among (named_condition t c)
    atoms_named (Atom a) = ap atoms_among (sym (named_Atom t a))
    atoms_named (Compare how x y) = ap atoms_among (sym (named_Compare t how x y))
    atoms_named (Not' p c) = atoms_named c ∙ ap atoms_among (sym (is_negation p c))
    atoms_named (And' shape cs) = all_atoms_named cs ∙ ap atoms_among (sym (is_named t (And' shape cs)))
    atoms_named (Or' shape cs) = all_atoms_named cs ∙ ap atoms_among (sym (is_named t (Or' shape cs)))

    all_atoms_named : {m : _} (cs : Row_of-Cond m) → map (words_at t.atoms) (atoms_in_row cs) ≡ atoms_among_all (conditions_from (map (named_condition t) (items-the_row-Cond m cs)))
    all_atoms_named end_of-Cond = refl
    all_atoms_named (more_of-Cond c cs) = map-append (words_at t.atoms) (atoms_in c) (atoms_in_row cs) ∙ ap₂ (λ (v w : List Words). v ++ w) (atoms_named c) (all_atoms_named cs)

  mutual
    pub fluents_in_named : (c : Cond) → map (words_at t.fluents) (fluents_in c) ≡ fluents_among (named_condition t c)
    fluents_in_named (Atom a) = ap fluents_among (sym (named_Atom t a))
    fluents_in_named (Compare how x y) = map-append (words_at t.fluents) (fluents_of x.value) (fluents_of y.value) ∙ ap₂ (λ (v w : List Words). v ++ w) (fluents_named x.value) (fluents_named y.value) ∙ ap fluents_among (sym (named_Compare t how x y))
    fluents_in_named (Not' p c) = fluents_in_named c ∙ ap fluents_among (sym (is_negation p c))
    fluents_in_named (And' shape cs) = all_fluents_named cs ∙ ap fluents_among (sym (is_named t (And' shape cs)))
    fluents_in_named (Or' shape cs) = all_fluents_named cs ∙ ap fluents_among (sym (is_named t (Or' shape cs)))

    all_fluents_named : {m : _} (cs : Row_of-Cond m) → map (words_at t.fluents) (fluents_in_row cs) ≡ fluents_among_all (conditions_from (map (named_condition t) (items-the_row-Cond m cs)))
    all_fluents_named end_of-Cond = refl
    all_fluents_named (more_of-Cond c cs) = map-append (words_at t.fluents) (fluents_in c) (fluents_in_row cs) ∙ ap₂ (λ (v w : List Words). v ++ w) (fluents_in_named c) (all_fluents_named cs)

  module _ (reach : Words → Bool) where
    abbrev there : ℕ → Bool
    there a = reach (words_at t.atoms a)

    mutual
      pub met_named : (b : Bool) (c : Cond) → by_number.met there b c ≡ met reach b (named_condition t c)
      met_named true (Atom a) = ap (met reach true) (sym (named_Atom t a))
      met_named false (Atom a) = ap (met reach false) (sym (named_Atom t a))
      met_named b (Compare how x y) = ap (met reach b) (sym (named_Compare t how x y))
      met_named b (Not' p c) = met_named (not b) c ∙ ap (met reach b) (sym (is_negation p c))
      met_named true (And' shape cs) = each_met_named true cs ∙ ap (met reach true) (sym (is_named t (And' shape cs)))
      met_named false (And' shape cs) = some_met_named false cs ∙ ap (met reach false) (sym (is_named t (And' shape cs)))
      met_named true (Or' shape cs) = some_met_named true cs ∙ ap (met reach true) (sym (is_named t (Or' shape cs)))
      met_named false (Or' shape cs) = each_met_named false cs ∙ ap (met reach false) (sym (is_named t (Or' shape cs)))

      each_met_named : {m : _} (b : Bool) (cs : Row_of-Cond m) → by_number.each_met there b cs ≡ each_met reach b (conditions_from (map (named_condition t) (items-the_row-Cond m cs)))
      each_met_named b end_of-Cond = refl
      each_met_named b (more_of-Cond c cs) = ap₂ (λ x y. x && y) (met_named b c) (each_met_named b cs)

      some_met_named : {m : _} (b : Bool) (cs : Row_of-Cond m) → by_number.some_met there b cs ≡ some_met reach b (conditions_from (map (named_condition t) (items-the_row-Cond m cs)))
      some_met_named b end_of-Cond = refl
      some_met_named b (more_of-Cond c cs) = ap₂ (λ x y. x || y) (met_named b c) (some_met_named b cs)

-- a state of words, as the tables number them
abbrev pub seen : Tables → WordState → State
seen t s = record { atom = λ a. s.is_true (words_at t.atoms a); number = λ f. s.number_of (words_at t.fluents f) }

module _ (t : Tables) (s : WordState) where
  pub value_named : (d : Option ℤ) (x : Expr) → value (seen t s) d x ≡ value_in s d (named_expression t x)
  value_named d (Number n) = ap (value_in s d) (sym (named_Number t n))
  value_named d (Fluent f) = ap (value_in s d) (sym (named_Fluent t f))
  value_named d Duration = ap (value_in s d) (sym (named_Duration t))
  value_named d (Negated' p x) = ap negated (value_named d x) ∙ ap (value_in s d) (sym (is_negative t p x))
  value_named d (Sum' p x q y) = ap₂ (both ◌+ℤ◌) (value_named d x) (value_named d y) ∙ ap (value_in s d) (sym (is_sum t p x q y))
  value_named d (Difference' p x q y) = ap₂ (both ◌-ℤ◌) (value_named d x) (value_named d y) ∙ ap (value_in s d) (sym (is_difference t p x q y))
  value_named d (Product' p x q y) = ap₂ (both ◌*ℤ◌) (value_named d x) (value_named d y) ∙ ap (value_in s d) (sym (is_product t p x q y))

  mutual
    pub truth_named : (c : Cond) → truth (seen t s) c ≡ truth_in s (named_condition t c)
    truth_named (Atom a) = ap (truth_in s) (sym (named_Atom t a))
    truth_named (Compare how x y) = ap₂ (compares_values how) (value_named None x.value) (value_named None y.value) ∙ ap (truth_in s) (sym (named_Compare t how x y))
    truth_named (Not' p c) = ap not (truth_named c) ∙ ap (truth_in s) (sym (is_negation t p c))
    truth_named (And' shape cs) = all_truths_named cs ∙ ap (truth_in s) (sym (is_named t (And' shape cs)))
    truth_named (Or' shape cs) = some_truths_named cs ∙ ap (truth_in s) (sym (is_named t (Or' shape cs)))

    all_truths_named : {m : _} (cs : Row_of-Cond m) → all_true (seen t s) cs ≡ all_true_in s (conditions_from (map (named_condition t) (items-the_row-Cond m cs)))
    all_truths_named end_of-Cond = refl
    all_truths_named (more_of-Cond c cs) = ap₂ (λ x y. x && y) (truth_named c) (all_truths_named cs)

    some_truths_named : {m : _} (cs : Row_of-Cond m) → some_true (seen t s) cs ≡ some_true_in s (conditions_from (map (named_condition t) (items-the_row-Cond m cs)))
    some_truths_named end_of-Cond = refl
    some_truths_named (more_of-Cond c cs) = ap₂ (λ x y. x || y) (truth_named c) (some_truths_named cs)

  mutual
    has_values_named : (c : Cond) → has_values (seen t s) c ≡ has_values_in s (named_condition t c)
    has_values_named (Atom a) = ap (has_values_in s) (sym (named_Atom t a))
    has_values_named (Compare how x y) = ap₂ (λ (v w : Option ℤ). is_some v && is_some w) (value_named None x.value) (value_named None y.value) ∙ ap (has_values_in s) (sym (named_Compare t how x y))
    has_values_named (Not' p c) = has_values_named c ∙ ap (has_values_in s) (sym (is_negation t p c))
    has_values_named (And' shape cs) = have_values_named cs ∙ ap (has_values_in s) (sym (is_named t (And' shape cs)))
    has_values_named (Or' shape cs) = have_values_named cs ∙ ap (has_values_in s) (sym (is_named t (Or' shape cs)))

    have_values_named : {m : _} (cs : Row_of-Cond m) → have_values (seen t s) cs ≡ have_values_in s (conditions_from (map (named_condition t) (items-the_row-Cond m cs)))
    have_values_named end_of-Cond = refl
    have_values_named (more_of-Cond c cs) = ap₂ (λ x y. x && y) (has_values_named c) (have_values_named cs)

  pub holds_named : (c : Cond) → holds (seen t s) c ≡ holds_in s (named_condition t c)
  holds_named c = ap₂ (λ x y. x && y) (has_values_named c) (truth_named c)
