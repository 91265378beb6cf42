-- What two events do to each other, as the sets of one of them tell it.
use Rattle.std.proofs.Common.{◌≡◌, ℕ, Bool, true, false, ◌||◌, ◌==◌, inl, inr, ⊎_elim, List, [], ◌∷◌, ◌++◌, Option, Some, None, MatchOption, refl, sym, ap, ap₂, subst, ◌∙◌}
use Rattle.std.specs.List.{list_any}
use Rattle.std.proofs.lemmas.Bool.{or_cases, or_left, or_right, eq-eqb, eqb-true}
use Rattle.tp_task.specs.declared.events.GroundEvent.{GroundEvent}
use Rattle.tp_task.specs.declared.task.Task.{Task}
use Rattle.tp_task.specs.Event.{has, meets}
use Rattle.tp_task.specs.Bounds.{In}
use Rattle.tp_happen.specs.declared.meetings.Meeting.{Meeting}
use Rattle.tp_happen.specs.declared.meetings.Meeting.TheVariants.{ChangedAndAsked, AddedAndDeleted, WrittenAndRead, SetAndWritten}
use Rattle.tp_happen.specs.Meetings.{done, met, meet}
use Rattle.tp_happen.specs.Sets.{has_number}
use Rattle.tp_search.specs.declared.sides.Side.{Side}
use Rattle.tp_search.specs.Possible.{both_interfere, interfere, only_event}
use Rattle.tp_search.specs.Sides.{IsSide, AreSides, AreSidesOf, all_ways, ways_of, meet_with}

in_of_any : (p : ℕ → Bool) (xs : List ℕ) → list_any p xs ≡ true → (x : ℕ) × In x xs × (p x ≡ true)
in_of_any p [] e = absurd (cc)
in_of_any p (x ∷ xs) e =
    ⊎_elim
    (λ h. (x, inl refl, h))
    (λ h. let found = in_of_any p xs h in (found.0, inr found.1, found.2))
    (or_cases (p x) (list_any p xs) e)

any_of_in : (p : ℕ → Bool) (xs : List ℕ) (x : ℕ) → In x xs → p x ≡ true → list_any p xs ≡ true
any_of_in p [] x i h = absurd i
any_of_in p (y ∷ ys) x (inl e) h = or_left (p y) (list_any p ys) (subst (λ z. p z ≡ true) e h)
any_of_in p (y ∷ ys) x (inr i) h = or_right (p y) (list_any p ys) (any_of_in p ys x i h)

in_of_has : (xs : List ℕ) (x : ℕ) → has xs x ≡ true → In x xs
in_of_has xs x h = let found = in_of_any (λ y. y == x) xs h in subst (λ z. In z xs) (eqb-true found.0 x found.2) found.1

pub has_of_in : (xs : List ℕ) (x : ℕ) → In x xs → has xs x ≡ true
has_of_in xs x i = any_of_in (λ y. y == x) xs x i (eq-eqb x x refl)

-- lists that have a number in common, whichever is looked up in the other
meets_back : (xs ys : List ℕ) → meets xs ys ≡ true → meets ys xs ≡ true
meets_back xs ys h = let found = in_of_any (has ys) xs h in any_of_in (has xs) ys found.0 (in_of_has ys found.0 found.2) (has_of_in xs found.0 found.1)

same_if : (a b : Bool) → (a ≡ true → b ≡ true) → (b ≡ true → a ≡ true) → a ≡ b
same_if true b f g = sym (f refl)
same_if false true f g = g refl
same_if false false f g = refl

meets_either : (xs ys : List ℕ) → meets xs ys ≡ meets ys xs
meets_either xs ys = same_if (meets xs ys) (meets ys xs) (meets_back xs ys) (meets_back ys xs)

any_same : (p q : ℕ → Bool) → ((n : ℕ) → p n ≡ q n) → (xs : List ℕ) → list_any p xs ≡ list_any q xs
any_same p q h [] = refl
any_same p q h (x ∷ xs) = ap₂ ◌||◌ (h x) (any_same p q h xs)

module _ (e other : GroundEvent) (s : Side) (is : IsSide e s) where
  done_is : list_any (has_number s.done) (met s.way other) ≡ meets (done s.way e) (met s.way other)
  done_is = any_same (has_number s.done) (has (done s.way e)) is.done (met s.way other) ∙ meets_either (met s.way other) (done s.way e)

  met_is : list_any (has_number s.met) (done s.way other) ≡ meets (done s.way other) (met s.way e)
  met_is = any_same (has_number s.met) (has (met s.way e)) is.met (done s.way other)

  -- the other one mentions something to which the event does something
  pub met_by_other : list_any (has_number s.done) (met s.way other) ≡ true → true ≡ meet s.way e other
  met_by_other h = sym (or_left (meets (done s.way e) (met s.way other)) (meets (done s.way other) (met s.way e)) (sym done_is ∙ h))

  -- or else the other way round
  pub done_by_other : list_any (has_number s.done) (met s.way other) ≡ false → list_any (has_number s.met) (done s.way other) ≡ meet s.way e other
  done_by_other h = met_is ∙ sym (ap (λ b. b || meets (done s.way other) (met s.way e)) (sym done_is ∙ h))

or_none : (h : Bool) → (h || false) ≡ h
or_none true = refl
or_none false = refl

regroup : (a b c d e f g h : Bool) → ((a || e) || ((b || f) || ((c || g) || ((d || h) || false)))) ≡ ((a || (b || (c || d))) || (e || (f || (g || h))))
regroup true b c d e f g h = refl
regroup false true c d true f g h = refl
regroup false true c d false f g h = refl
regroup false false true d true f g h = refl
regroup false false true d false true g h = refl
regroup false false true d false false g h = refl
regroup false false false true true f g h = refl
regroup false false false true false true g h = refl
regroup false false false true false false true h = refl
regroup false false false true false false false h = refl
regroup false false false false true f g h = refl
regroup false false false false false true g h = refl
regroup false false false false false false true h = refl
regroup false false false false false false false h = or_none h

-- two events interfere where they meet in some way
by_ways : (e : GroundEvent) (o : Option GroundEvent) → list_any (λ way. meet_with way e o) all_ways ≡ both_interfere (Some e) o
by_ways e None = refl
by_ways e (Some x) =
    regroup
    (meets (done ChangedAndAsked e) (met ChangedAndAsked x)) (meets (done AddedAndDeleted e) (met AddedAndDeleted x)) (meets (done WrittenAndRead e) (met WrittenAndRead x)) (meets (done SetAndWritten e) (met SetAndWritten x))
    (meets (done ChangedAndAsked x) (met ChangedAndAsked e)) (meets (done AddedAndDeleted x) (met AddedAndDeleted e)) (meets (done WrittenAndRead x) (met WrittenAndRead e)) (meets (done SetAndWritten x) (met SetAndWritten e))

any_way : (test : Meeting → Bool) (sides : List Side) → list_any (λ (s : Side). test s.way) sides ≡ list_any test (ways_of sides)
any_way test [] = refl
any_way test (s ∷ sides) = ap (λ b. test s.way || b) (any_way test sides)

pub ways_more : (sides : List Side) (s : Side) → ways_of (sides ++ s ∷ []) ≡ ways_of sides ++ s.way ∷ []
ways_more [] s = refl
ways_more (x ∷ sides) s = ap (λ ways. x.way ∷ ways) (ways_more sides s)

-- an event meets another by one of its sides
abbrev pub meets_by : GroundEvent → Option GroundEvent → List Side → Bool
meets_by e o sides = list_any (λ (s : Side). meet_with s.way e o) sides

by_sides : (e : GroundEvent) (o : Option GroundEvent) (sides : List Side) → AreSides e sides → meets_by e o sides ≡ both_interfere (Some e) o
by_sides e o sides are = any_way (λ way. meet_with way e o) sides ∙ (ap (list_any (λ way. meet_with way e o)) are.ways ∙ by_ways e o)

told_by : (one other : Option GroundEvent) (sides : List Side) (r : Bool) → MatchOption one (sides ≡ []) (λ e. AreSides e sides) → (sides ≡ [] → r ≡ false) → ((e : GroundEvent) → AreSides e sides → r ≡ meets_by e other sides) → r ≡ both_interfere one other
told_by None other sides r are none some = none are
told_by (Some e) other sides r are none some = some e are ∙ by_sides e other sides are

-- whether an action interferes with another one is told by its sides
pub told_by_sides : (t : Task) (a b : ℕ) (sides : List Side) (r : Bool) → AreSidesOf t a sides → (sides ≡ [] → r ≡ false) → ((e : GroundEvent) → AreSides e sides → r ≡ meets_by e (only_event t b) sides) → r ≡ interfere t a b
told_by_sides t a b sides r are none some = told_by (only_event t a) (only_event t b) sides r are none some

-- sides of the event that an action is
pub sides_of_action : (t : Task) (a : ℕ) (e : GroundEvent) (sides : List Side) → Some e ≡ only_event t a → AreSides e sides → AreSidesOf t a sides
sides_of_action t a e sides is h = subst (λ o. MatchOption o (sides ≡ []) (λ x. AreSides x sides)) is h

pub no_sides : (t : Task) (a : ℕ) (sides : List Side) → None ≡ only_event t a → sides ≡ [] → AreSidesOf t a sides
no_sides t a sides is h = subst (λ o. MatchOption o (sides ≡ []) (λ x. AreSides x sides)) is h
