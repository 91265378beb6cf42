-- What writes into an invariant, by the sets of what it mentions.
use Rattle.std.proofs.Common.{◌≡◌, ℕ, suc, ◌+◌, ◌<◌, Bool, cond, not, ◌&&◌, ◌||◌, ◌==◌, List, [], ◌∷◌, length, get_or, drop, refl, sym, ap, ap₂, ◌∙◌, add-one, drop-cons}
use Rattle.std.specs.List.{list_any}
use Rattle.tp_task.specs.declared.events.Cond.{Cond}
use Rattle.tp_task.specs.State.{atoms_in, fluents_in}
use Rattle.tp_task.specs.Event.{has}
use Rattle.tp_task.specs.Valid.{Placed}
use Rattle.tp_happen.specs.declared.meetings.Meeting.TheVariants.{ChangedAndAsked, WrittenAndRead}
use Rattle.tp_happen.specs.Meetings.{done}
use Rattle.tp_happen.specs.declared.sets.NumberSet.{NumberSet}
use Rattle.tp_happen.specs.Sets.{has_number}
use Rattle.tp_deorder.specs.Inequalities.{touches, touching}

any_same : (p q : ℕ → Bool) → ((x : ℕ) → p x ≡ q x) → (xs : List ℕ) → list_any p xs ≡ list_any q xs
any_same p q h [] = refl
any_same p q h (x ∷ xs) = ap₂ ◌||◌ (h x) (any_same p q h xs)

pub touches_is : (first : ℕ) (c : Cond) (atoms fluents : NumberSet) (e : Placed) → ((x : ℕ) → has_number atoms x ≡ has (atoms_in c) x) → ((x : ℕ) → has_number fluents x ≡ has (fluents_in c) x)
    → ((not (e.number == first) && not (e.number == first + 1)) && (list_any (has_number atoms) (done ChangedAndAsked e.timed.event) || list_any (has_number fluents) (done WrittenAndRead e.timed.event))) ≡ touches first c e
touches_is first c atoms fluents e a f =
    ap (λ b. (not (e.number == first) && not (e.number == first + 1)) && b)
    (ap₂ ◌||◌ (any_same (has_number atoms) (has (atoms_in c)) a (done ChangedAndAsked e.timed.event)) (any_same (has_number fluents) (has (fluents_in c)) f (done WrittenAndRead e.timed.event)))

-- what is left from a place on, by whether the event there writes into the invariant
pub left : (first : ℕ) (c : Cond) (es : List Placed) (i : ℕ) (e : Placed) → i < length es → e ≡ get_or es i e → (b : Bool) → touches first c e ≡ b
    → touching first c (drop i es) ≡ cond b (e ∷ touching first c (drop (i + 1) es)) (touching first c (drop (i + 1) es))
left first c es i e l at b is =
    let a : drop i es ≡ e ∷ drop (i + 1) es = rw (add-one, drop-cons es i e) (ap (λ x. x ∷ drop (suc i) es) (sym at)) in
    ap (touching first c) a ∙ ap (λ k. cond k (e ∷ touching first c (drop (i + 1) es)) (touching first c (drop (i + 1) es))) is
