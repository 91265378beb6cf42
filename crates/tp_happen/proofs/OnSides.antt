-- Whether an event disturbs another, by their sides.
use Rattle.std.proofs.Common.{◌≡◌, ℕ, Bool, ◌||◌, List, [], ◌∷◌, refl, ap, ap₂, ◌∙◌}
use Rattle.std.specs.List.{list_any}
use Rattle.tp_task.specs.declared.events.GroundEvent.{GroundEvent}
use Rattle.tp_task.specs.Event.{has, meets, disturbs}
use Rattle.tp_happen.specs.declared.meetings.Meeting.{Meeting}
use Rattle.tp_happen.specs.Meetings.{done, met}
use Rattle.tp_happen.specs.Sets.{has_number}
use Rattle.tp_happen.specs.declared.sides.Side.{Side}
use Rattle.tp_happen.specs.declared.sides.Sides.{Sides}
use Rattle.tp_happen.specs.Sides.{IsSide, AreSides, meets_by, disturbs_by}

any_same : (p q : ℕ → Bool) → ((x : ℕ) → p x ≡ q x) → (xs : List ℕ) → list_any p xs ≡ list_any q xs
any_same p q h [] = refl
any_same p q h (x ∷ xs) = ap₂ ◌||◌ (h x) (any_same p q h xs)

meets_is : (way : Meeting) (e f : GroundEvent) (a b : Side) → IsSide way e a → IsSide way f b → meets_by a b ≡ meets (done way e) (met way f)
meets_is way e f a b is other = any_same (has_number b.met) (has (met way f)) other.met a.done.items ∙ ap (λ xs. meets xs (met way f)) is.done

pub disturbs_is : (e f : GroundEvent) (a b : Sides) → AreSides e a → AreSides f b → disturbs_by a b ≡ disturbs e f
disturbs_is e f a b is other =
    ap₂ ◌||◌ (meets_is _ e f a.changed b.changed is.changed other.changed)
    (ap₂ ◌||◌ (meets_is _ e f a.added b.added is.added other.added)
    (ap₂ ◌||◌ (meets_is _ e f a.written b.written is.written other.written) (meets_is _ e f a.set b.set is.set other.set)))
