-- A valid plan's own moments meet its bounds.
use Rattle.std.proofs.Common.{◌≡◌, ℕ, ◌+◌, Bool, true, false, ◌||◌, List, [], ◌∷◌, inl, inr, refl, arith}
use Rattle.std.specs.List.{AllByRecursion}
use Rattle.std.specs.Bool.{MatchBool}
use Rattle.tp_task.specs.declared.events.Cond.{Cond}
use Rattle.tp_task.specs.declared.events.Body.{Body}
use Rattle.tp_task.specs.declared.events.Body.TheVariants.{Instant, Durative}
use Rattle.tp_task.specs.State.{State}
use Rattle.tp_task.specs.Valid.{Planned, Placed, events, events_of, events_from, count_of, BodyHolds, IsValidRun}
use Rattle.tp_task.specs.Bounds.{In, uses_duration, BodyKeeps, StepsKeep, MeetsBounds}
use Rattle.tp_task.proofs.Numbered.{in_left, in_right}

either : (b : Bool) (P Q : Type 0) → P → Q → MatchBool b P Q
either true P Q p q = p
either false P Q p q = q

module _ (scale : ℕ) (initial : State) (goal : Cond) (plan : List Planned) (trace : ℕ → State) (v : IsValidRun scale initial goal plan trace) (t : ℕ → ℕ) (own : (e : Placed) → In e (events plan) → t e.number ≡ e.moment) where
  own_body : (k : ℕ) (p : Planned) (b : Body) → BodyHolds scale trace p.moment p.duration b → ((e : Placed) → In e (events_of k p b) → In e (events plan)) → BodyKeeps scale trace (events plan) t k p b
  own_body k p (Instant x) h s = tt
  own_body k p (Durative x y c) h s =
      let f : t k ≡ p.moment = own (record { number = k; first = k; last = k + 1; moment = p.moment; timed = record { event = x; ticks = p.duration } }) (s _ (inl refl)) in
      let l : t (k + 1) ≡ p.moment + p.duration = own (record { number = k + 1; first = k; last = k + 1; moment = p.moment + p.duration; timed = record { event = y; ticks = p.duration } }) (s _ (inr (inl refl))) in
      record {
        duration = record { ticks = p.duration; apart = omega arith; lawful = either (uses_duration x || uses_duration y) _ _ refl h.lawful };
        invariant_kept =
            record {
              before = λ e i w m. omega (arith, own e i);
              behind = λ e i w m. omega (arith, own e i);
              between = λ e i w m n. (omega (arith, own e i), omega (arith, own e i));
              in_order = λ e g i j w z m n o. omega (arith, own e i, own g j);
            };
      }

  own_steps : (k : ℕ) (ps : List Planned) → AllByRecursion (λ (p : Planned). BodyHolds scale trace p.moment p.duration p.body) ps → ((e : Placed) → In e (events_from k ps) → In e (events plan)) → StepsKeep scale trace (events plan) t k ps
  own_steps k [] h s = tt
  own_steps k (p ∷ ps) h s = (own_body k p p.body h.0 (λ e i. s e (in_left e (events_of k p p.body) _ i)), own_steps (k + count_of p.body) ps h.1 (λ e i. s e (in_right e (events_of k p p.body) _ i)))

  pub own_bounds : MeetsBounds scale trace plan t
  own_bounds = record { order = λ a b i j h l. omega (arith, own a i, own b j); steps = own_steps 0 plan v.steps (λ e i. i) }
