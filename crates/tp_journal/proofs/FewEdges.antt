-- A reason has no more edges than there are points: its bounds begin at different ones.
use Rattle.std.proofs.Common.{◌≡◌, ◌≢◌, ◌⊎◌, inl, inr, ℕ, zero, suc, ◌+◌, ◌<◌, ◌≤◌, Bool, true, false, ◌||◌, List, [], ◌∷◌, length, Option, Some, None, refl, ap, subst, arith}
use Rattle.std.specs.Prelude.{nat_eq, slice_index_or}
use Rattle.std.specs.List.{AllByRecursion, IsDistinct, list_any}
use Rattle.std.proofs.lemmas.Bool.{ne_eqb}
use Rattle.std.proofs.lemmas.Bool.Decides.{nat_tests}
use Rattle.std.proofs.lemmas.Map.Steps.{length-le_from_distinct_below}
use Rattle.tp_bounds.specs.declared.Bound.{Bound}
use Rattle.tp_bounds.specs.declared.Point.{Point}
use Rattle.tp_bounds.specs.declared.Point.TheVariants.{Origin, Event}
use Rattle.tp_bounds.specs.declared.Edge.{Edge}
use Rattle.tp_bounds.specs.declared.Edge.TheVariants.{Own, New, PastHigh, PastLow, Now, End}
use Rattle.tp_bounds.specs.Setting.{Setting, event_count, fixed_at, floor_of, HasPoint}
use Rattle.tp_bounds.specs.Lawful.{IsLawful}
use Rattle.tp_bounds.specs.Reasons.{IsReason, AreBounds, BeginApart, bound_of, at_most, at_least, is_open}
use Rattle.tp_bounds.proofs.Chains.{from_map, from_cond, opened}
use Rattle.tp_bounds.proofs.LawfulChanges.{lawful_asking, lawful_taken}
use Rattle.tp_exec_machine.specs.declared.command.Command.{Command}
use Rattle.tp_exec_machine.specs.declared.command.Command.TheVariants.{Advance, Add, Withdraw, Window, Dispatch, Happened, Report as Tell}
use Rattle.tp_exec_machine.specs.Machine.{Machine}
use Rattle.tp_exec_machine.specs.Step.{first_refusal, asked}
use Rattle.tp_net.specs.Arcs.{number_of}
use Rattle.tp_journal.specs.Laws.{IsWithin}
use Rattle.tp_journal.proofs.PairForms.{suits_there, advanced, dispatched, happened}

-- ---- different points have different places

same_place : (p q : Point) → number_of p ≡ number_of q → p ≡ q
same_place Origin Origin h = refl
same_place Origin (Event e) h = absurd (let f : ⊥ = omega arith in f)
same_place (Event e) Origin h = absurd (let f : ⊥ = omega arith in f)
same_place (Event e) (Event k) h = let f : e ≡ k = omega arith in ap (λ n. Event n) f

abbrev places : List Bound → List ℕ
places [] = []
places (b ∷ bs) = number_of b.from ∷ places bs

as_many : (bs : List Bound) → length (places bs) ≡ length bs
as_many [] = refl
as_many (b ∷ bs) = ap suc (as_many bs)

other_places : (p : Point) (bs : List Bound) → AllByRecursion (λ c. p ≢ c.from) bs → AllByRecursion (λ n. nat_eq (number_of p) n ≡ false) (places bs)
other_places p [] h = tt
other_places p (b ∷ bs) h = (ne_eqb (number_of p) (number_of b.from) (λ same. h.0 (same_place p b.from same)), other_places p bs h.1)

distinct : (bs : List Bound) → BeginApart bs → IsDistinct nat_eq (places bs)
unfolding IsDistinct
distinct [] h = tt
distinct (b ∷ bs) h = (other_places b.from bs h.0, distinct bs h.1)

-- ---- there are as many places as points

place_below : (s : Setting) (p : Point) → HasPoint s p → number_of p < event_count s + 1
place_below s Origin h = omega arith
place_below s (Event e) h = let lt : e < event_count s = h in omega arith

abbrev Begin : Setting → List Bound → Type 0
Begin s [] = Unit {0}
Begin s (b ∷ bs) = HasPoint s b.from × Begin s bs

either : (a b : Bool) → (a || b) ≡ true → (a ≡ true) ⊎ (b ≡ true)
either true b h = inl refl
either false b h = inr h

all_below : (s : Setting) (bs : List Bound) → Begin s bs → (q : ℕ) → list_any (nat_eq q) (places bs) ≡ true → q < event_count s + 1
all_below s [] h q is = absurd (let f : ⊥ = cc in f)
all_below s (b ∷ bs) h q is =
    elim (either (nat_eq q (number_of b.from)) (list_any (nat_eq q) (places bs)) is) [
      | inl here ↦ let same : q ≡ number_of b.from = grind (arith, nat_tests, here) in omega (arith, same, place_below s b.from h.0)
      | inr there ↦ all_below s bs h.1 q there
    ]

few_bounds : (s : Setting) (bs : List Bound) → Begin s bs → BeginApart bs → length bs ≤ event_count s + 1
few_bounds s bs there apart =
    let n : length (places bs) ≤ event_count s + 1 = length-le_from_distinct_below (places bs) (event_count s + 1) (distinct bs apart) (all_below s bs there) in
    omega (arith, n, as_many bs)

-- ---- each bound of a reason begins at a point of the setting

below : (xs : List (Option ℕ)) (k x : ℕ) → slice_index_or xs k None ≡ Some x → k < length xs
below [] k x h = absurd (let f : ⊥ = cc in f)
below (y ∷ ys) zero x h = omega arith
below (y ∷ ys) (suc k) x h = let r : k < length ys = below ys k x h in omega arith

edge_begins : (s : Setting) (e : Edge) (b : Bound) → IsLawful s → bound_of s e ≡ Some b → HasPoint s b.from
edge_begins s (Own id) b lawful is = (lawful.in_force id.0 b is).from
edge_begins s New b lawful is = (lawful.proposed b is).from
edge_begins s (PastHigh e) b lawful is =
    let p = from_map (at_most e) (fixed_at s e) b is in subst (λ c. HasPoint s c.from) p.2 tt
edge_begins s (PastLow e) b lawful is =
    let p = from_map (at_least e) (fixed_at s e) b is in
    subst (λ c. HasPoint s c.from) p.2 (below s.fixed e p.0 p.1)
edge_begins s (Now e) b lawful is =
    let p = from_cond (is_open s e) (at_least e (floor_of s e)) b is in
    subst (λ c. HasPoint s c.from) p.1 (opened s e p.0).0
edge_begins s (End e) b lawful is =
    let p = from_cond (is_open s e) (at_most e s.horizon) b is in subst (λ c. HasPoint s c.from) p.1 tt

edges_begin : (s : Setting) (es : List Edge) (bs : List Bound) → IsLawful s → AreBounds s es bs → Begin s bs × (length es ≡ length bs)
edges_begin s [] [] lawful are = (tt, refl)
edges_begin s [] (b ∷ bs) lawful are = absurd are
edges_begin s (e ∷ es) [] lawful are = absurd are
edges_begin s (e ∷ es) (b ∷ bs) lawful are =
    let r = edges_begin s es bs lawful are.1 in ((edge_begins s e b lawful are.0, r.0), ap suc r.1)

asked_lawful : (m : Machine) (c : Command) → IsWithin m → first_refusal m c ≡ None → IsLawful (asked m c)
asked_lawful m (Advance to) w none = advanced m to w none
asked_lawful m (Add b) w none = lawful_asking m.setting (Some b) w.lawful (suits_there m b none)
asked_lawful m (Withdraw id) w none = lawful_taken m.setting id.0 w.lawful
asked_lawful m (Window e) w none = w.lawful
asked_lawful m (Dispatch e) w none = dispatched m e w none
asked_lawful m (Happened e t) w none = happened m e t w none
asked_lawful m Tell w none = w.lawful

pub few_edges : (m : Machine) (c : Command) (edges : List Edge) → IsWithin m → first_refusal m c ≡ None → IsReason (asked m c) edges → length edges ≤ 1_025
few_edges m c edges w none reason =
    let lawful = asked_lawful m c w none in
    let b = edges_begin (asked m c) edges reason.bounds lawful reason.exist in
    let n : length reason.bounds ≤ event_count (asked m c) + 1 = few_bounds (asked m c) reason.bounds b.0 reason.apart in
    omega (arith, n, b.1, lawful.events)
