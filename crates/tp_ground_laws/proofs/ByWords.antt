-- Values, truths, effects and interference by words, as tp_task has them by numbers.
use Rattle.std.proofs.Common.{◌≡◌, ℕ, zero, suc, ◌+◌, ◌≤◌, ◌<◌, Bool, true, false, not, ◌&&◌, ◌||◌, if◌then◌else◌, List, [], ◌∷◌, ◌++◌, map, filter, Option, Some, None, ℤ, pos, ◌+ℤ◌, ◌-ℤ◌, ◌*ℤ◌, is_some, ◌==◌}
use Rattle.std.specs.List.{list_any, list_all, flat_map, AllByRecursion}
use Rattle.tp_task.specs.declared.events.Change.{Change}
use Rattle.tp_task.specs.declared.events.Change.TheVariants.{Assign, ScaleUp, Increase, Decrease}
use Rattle.tp_task.specs.State.{both, negated, units, compares_values}
use Rattle.tp_task.specs.Event.{is_additive}
use Rattle.tp_task.specs.Happens.{amount, plus, is_assign}
use Rattle.tp_task.specs.Words.{Words, same_words}
use Rattle.tp_ground.specs.Written.{GroundExpression, number, fluent, the_duration, negative, sum, difference, product, GroundCondition, GroundConditions, atom, compared, negation, all_of, any_of, no_conditions, condition, GroundWrite, GroundLimit, GroundHappening, GroundBody, instant, durative}

-- which atoms are true, and the number of each fluent that has one
pub record WordState : Type 0 where
  pub is_true : Words → Bool
  pub number_of : Words → Option ℤ

abbrev pub value_in : WordState → Option ℤ → GroundExpression → Option ℤ
value_in s d (number n) = Some n
value_in s d (fluent w) = s.number_of w
value_in s d the_duration = d
value_in s d (negative x) = negated (value_in s d x)
value_in s d (sum x y) = both ◌+ℤ◌ (value_in s d x) (value_in s d y)
value_in s d (difference x y) = both ◌-ℤ◌ (value_in s d x) (value_in s d y)
value_in s d (product x y) = both ◌*ℤ◌ (value_in s d x) (value_in s d y)

abbrev mutual
  pub truth_in : WordState → GroundCondition → Bool
  truth_in s (atom w) = s.is_true w
  truth_in s (compared how x y) = compares_values how (value_in s None x) (value_in s None y)
  truth_in s (negation c) = not (truth_in s c)
  truth_in s (all_of cs) = all_true_in s cs
  truth_in s (any_of cs) = some_true_in s cs

  pub all_true_in : WordState → GroundConditions → Bool
  all_true_in s no_conditions = true
  all_true_in s (condition c cs) = truth_in s c && all_true_in s cs

  pub some_true_in : WordState → GroundConditions → Bool
  some_true_in s no_conditions = false
  some_true_in s (condition c cs) = truth_in s c || some_true_in s cs

abbrev mutual
  pub has_values_in : WordState → GroundCondition → Bool
  has_values_in s (atom w) = true
  has_values_in s (compared how x y) = is_some (value_in s None x) && is_some (value_in s None y)
  has_values_in s (negation c) = has_values_in s c
  has_values_in s (all_of cs) = have_values_in s cs
  has_values_in s (any_of cs) = have_values_in s cs

  pub have_values_in : WordState → GroundConditions → Bool
  have_values_in s no_conditions = true
  have_values_in s (condition c cs) = has_values_in s c && have_values_in s cs

abbrev pub holds_in : WordState → GroundCondition → Bool
holds_in s c = has_values_in s c && truth_in s c

-- ---- what is mentioned

abbrev pub fluents_from : GroundExpression → List Words
fluents_from (number n) = []
fluents_from (fluent w) = w ∷ []
fluents_from the_duration = []
fluents_from (negative x) = fluents_from x
fluents_from (sum x y) = fluents_from x ++ fluents_from y
fluents_from (difference x y) = fluents_from x ++ fluents_from y
fluents_from (product x y) = fluents_from x ++ fluents_from y

abbrev mutual
  pub atoms_among : GroundCondition → List Words
  atoms_among (atom w) = w ∷ []
  atoms_among (compared how x y) = []
  atoms_among (negation c) = atoms_among c
  atoms_among (all_of cs) = atoms_among_all cs
  atoms_among (any_of cs) = atoms_among_all cs

  pub atoms_among_all : GroundConditions → List Words
  atoms_among_all no_conditions = []
  atoms_among_all (condition c cs) = atoms_among c ++ atoms_among_all cs

abbrev mutual
  pub fluents_among : GroundCondition → List Words
  fluents_among (atom w) = []
  fluents_among (compared how x y) = fluents_from x ++ fluents_from y
  fluents_among (negation c) = fluents_among c
  fluents_among (all_of cs) = fluents_among_all cs
  fluents_among (any_of cs) = fluents_among_all cs

  pub fluents_among_all : GroundConditions → List Words
  fluents_among_all no_conditions = []
  fluents_among_all (condition c cs) = fluents_among c ++ fluents_among_all cs

-- ---- interference

abbrev pub stands_in : List Words → Words → Bool
stands_in vs w = list_any (λ v. same_words v w) vs

abbrev pub share : List Words → List Words → Bool
share vs ws = list_any (λ v. stands_in ws v) vs

abbrev pub reads : GroundHappening → List Words
reads h =
    fluents_among h.condition ++ flat_map (λ w. fluents_from w.value) h.writes
    ++ flat_map (λ l. fluents_from l.value) h.constraint

abbrev pub written_by : List GroundWrite → List Words
written_by ws = map (λ w. w.fluent) ws

abbrev pub set_by_writes : List GroundWrite → List Words
set_by_writes ws = map (λ w. w.fluent) (filter (λ w. not (is_additive w.change)) ws)

abbrev pub disturbs_by : GroundHappening → GroundHappening → Bool
disturbs_by a b =
    share (a.adds ++ a.deletes) (atoms_among b.condition)
    || (share a.adds b.deletes
    || (share (written_by a.writes) (reads b)
    || share (set_by_writes a.writes) (written_by b.writes)))

abbrev pub interfere : GroundHappening → GroundHappening → Bool
interfere a b = disturbs_by a b || disturbs_by b a

abbrev pub mix_with : GroundWrite → List GroundWrite → Bool
mix_with w ws = list_any (λ v. same_words v.fluent w.fluent && not (is_additive v.change && is_additive w.change)) ws

abbrev pub mix : List GroundWrite → Bool
mix [] = false
mix (w ∷ ws) = mix_with w ws || mix ws

-- ---- effects

pub record Timed : Type 0 where
  pub happening : GroundHappening
  pub ticks : ℕ

abbrev pub value_set_in : WordState → Option ℤ → GroundWrite → Change → Option ℤ
value_set_in s d w Assign = value_in s d w.value
value_set_in s d w ScaleUp = both ◌*ℤ◌ (s.number_of w.fluent) (value_in s d w.value)
value_set_in s d w Increase = None
value_set_in s d w Decrease = None

abbrev pub set_among : WordState → Option ℤ → List GroundWrite → Words → Option ℤ → Option ℤ
set_among s d [] f other = other
set_among s d (w ∷ ws) f other =
    if same_words w.fluent f && not (is_additive w.change) then value_set_in s d w w.change
    else set_among s d ws f other

abbrev pub added_among : WordState → Option ℤ → List GroundWrite → Words → ℤ
added_among s d [] f = pos 0
added_among s d (w ∷ ws) f =
    (if same_words w.fluent f then amount w.change (value_in s d w.value) else pos 0)
    +ℤ added_among s d ws f

abbrev pub set_at : ℕ → WordState → List Timed → Words → Option ℤ → Option ℤ
set_at scale s [] f other = other
set_at scale s (t ∷ ts) f other =
    if stands_in (set_by_writes t.happening.writes) f then set_among s (units scale t.ticks) t.happening.writes f other
    else set_at scale s ts f other

abbrev pub added_at : ℕ → WordState → List Timed → Words → ℤ
added_at scale s [] f = pos 0
added_at scale s (t ∷ ts) f =
    added_among s (units scale t.ticks) t.happening.writes f +ℤ added_at scale s ts f

abbrev pub after : ℕ → WordState → List Timed → WordState
after scale s ts = record {
  is_true = λ a. list_any (λ t. stands_in t.happening.adds a) ts || (s.is_true a && not (list_any (λ t. stands_in t.happening.deletes a) ts));
  number_of = λ f. set_at scale s ts f (plus (added_at scale s ts f) (s.number_of f));
}

abbrev pub defined_in : ℕ → WordState → Timed → Bool
defined_in scale s t =
    list_all (λ w. is_some (value_in s (units scale t.ticks) w.value)
    && (is_assign w.change || is_some (s.number_of w.fluent))) t.happening.writes
    && list_all (λ l. is_some (value_in s None l.value)) t.happening.constraint

abbrev pub do_not_interfere : List Timed → Bool
do_not_interfere [] = true
do_not_interfere (t ∷ ts) = list_all (λ u. not (interfere t.happening u.happening)) ts && do_not_interfere ts

-- ---- plans

pub record Part : Type 0 where
  pub moment : ℕ
  pub timed : Timed

pub record Acted : Type 0 where
  pub moment : ℕ
  pub duration : ℕ
  pub body : GroundBody

abbrev pub parts_of : Acted → GroundBody → List Part
parts_of p (instant h) = record { moment = p.moment; timed = record { happening = h; ticks = 0 } } ∷ []
parts_of p (durative start end invariant) =
    record { moment = p.moment; timed = record { happening = start; ticks = p.duration } }
    ∷ record { moment = p.moment + p.duration; timed = record { happening = end; ticks = p.duration } } ∷ []

abbrev pub parts : List Acted → List Part
parts [] = []
parts (p ∷ ps) = parts_of p p.body ++ parts ps

abbrev pub parts_at : ℕ → List Part → List Timed
parts_at m es = map (λ e. e.timed) (filter (λ e. e.moment == m) es)

-- the states before each moment
abbrev pub run : ℕ → WordState → List Part → ℕ → WordState
run scale s es zero = s
run scale s es (suc m) = after scale (run scale s es m) (parts_at m es)

pub record CanHappen (scale : ℕ) (s : WordState) (ts : List Timed) : Type 0 where
  pub conditions : AllByRecursion (λ t. holds_in s t.happening.condition ≡ true) ts
  pub definedness : AllByRecursion (λ t. defined_in scale s t ≡ true) ts
  pub unmixed : AllByRecursion (λ t. mix t.happening.writes ≡ false) ts
  pub separate : do_not_interfere ts ≡ true

abbrev pub Allows : ℕ → WordState → ℕ → GroundLimit → Type 0
Allows scale s ticks l = compares_values l.how (Some (pos ticks)) (both ◌*ℤ◌ (Some (pos scale)) (value_in s None l.value)) ≡ true

pub record Lasts (scale : ℕ) (trace : ℕ → WordState) (moment duration : ℕ) (start : GroundHappening) (invariant : GroundCondition) : Type 0 where
  pub tick : 1 ≤ duration
  pub constraint_holds : AllByRecursion (Allows scale (trace moment) duration) start.constraint
  pub invariant_holds : (m : ℕ) → moment ≤ m → m < moment + duration → holds_in (trace (m + 1)) invariant ≡ true

abbrev pub BodyLasts : ℕ → (ℕ → WordState) → ℕ → ℕ → GroundBody → Type 0
BodyLasts scale trace moment duration (instant h) = Unit {0}
BodyLasts scale trace moment duration (durative start end invariant) = Lasts scale trace moment duration start invariant

-- of a plan with these events
pub record IsValidOver (scale : ℕ) (s : WordState) (goal : GroundCondition) (es : List Part) (plan : List Acted) : Type 0 where
  pub can_happen : (m : ℕ) → CanHappen scale (run scale s es m) (parts_at m es)
  pub lasts : AllByRecursion (λ p. BodyLasts scale (run scale s es) p.moment p.duration p.body) plan
  pub last : (m : ℕ) → AllByRecursion (λ e. e.moment < m) es → holds_in (run scale s es m) goal ≡ true

abbrev pub IsValidByWords : ℕ → WordState → GroundCondition → List Acted → Type 0
IsValidByWords scale s goal plan = IsValidOver scale s goal (parts plan) plan
