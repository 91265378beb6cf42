-- Steps of two tasks whose actions do the same by words: their plans, the texts of their events, and their runs.
use Rattle.std.proofs.Common.{◌≡◌, ℕ, suc, ◌+◌, Bool, List, [], ◌∷◌, ◌++◌, Option, Some, None, slice_get, option_map, refl, ap₂}
use Rattle.std.specs.List.{AllZip, AllByRecursion}
use Rattle.std.specs.Option.{option_to_list}
use Rattle.tp_task.specs.declared.events.Body.{Body}
use Rattle.tp_task.specs.declared.events.Body.TheVariants.{Instant, Durative}
use Rattle.tp_task.specs.declared.task.Task.{Task}
use Rattle.tp_task.specs.Tables.{Tables}
use Rattle.tp_task.specs.Words.{Words}
use Rattle.tp_happen.specs.tp_plan_text.declared.plans.Step.{Step}
use Rattle.tp_validate.specs.OfTask.{step_of, plan_of}
use Rattle.tp_deorder.specs.EventTexts.{has_two, step_lines, lines_from}
use Rattle.tp_deorder.specs.RunPlans.{moved_step, count_or_none, moved_from}
use Rattle.tp_ground.specs.ReadBack.{named_body}
use Rattle.tp_ground.specs.Reached.{happenings_of}
use Rattle.tp_ground_laws.specs.SamePlans.{IsSameStep, AreSameSteps}
use Rattle.tp_ground_laws.proofs.OnEffects.{IsWorded}
use Rattle.tp_exec_laws.proofs.OnPlans.{AreSameBodies, IsSamePlanned, same_bodies}

-- the same of what an action does, if there is one
abbrev pub MayBeSame : Tables → Tables → Option Body → Option Body → Type 0
MayBeSame t u None None = Unit {0}
MayBeSame t u None (Some c) = ⊥
MayBeSame t u (Some b) None = ⊥
MayBeSame t u (Some b) (Some c) = AreSameBodies t u b c

pub same_found : (t u : Tables) (o v : Option Body) → option_map (named_body t) o ≡ option_map (named_body u) v → ((b : Body) → o ≡ Some b → AllByRecursion IsWorded (happenings_of (named_body t b))) → MayBeSame t u o v
same_found t u None None e w = tt
same_found t u None (Some c) e w = absurd (cc)
same_found t u (Some b) None e w = absurd (cc)
same_found t u (Some b) (Some c) e w = same_bodies t u b c (let is : named_body t b ≡ named_body u c = cc in is) (w b refl)

-- steps that are the same by words, whose actions do the same
pub record IsAlike (t u : Task) (m n : Step) : Type 0 where
  pub same : IsSameStep t u m n
  pub bodies : MayBeSame t.numbering u.numbering (slice_get t.actions.items m.action.0) (slice_get u.actions.items n.action.0)

module _ (t u : Task) where
  abbrev AreAlike : List Step → List Step → Type 0
  AreAlike ms ns = AllZip (IsAlike t u) ms ns

  -- ---- plans

  pub same_plan : (ms ns : List Step) → AreAlike ms ns → AllZip (IsSamePlanned t.numbering u.numbering) (plan_of t ms) (plan_of u ns)
  same_plan [] [] h = tt
  same_plan [] (n ∷ ns) h = absurd h
  same_plan (m ∷ ms) [] h = absurd h
  same_plan (m ∷ ms) (n ∷ ns) h = by (slice_get t.actions.items m.action.0) (slice_get u.actions.items n.action.0) h.0.bodies (same_plan ms ns h.1)
    where
      by : (o v : Option Body) → MayBeSame t.numbering u.numbering o v → AllZip (IsSamePlanned t.numbering u.numbering) (plan_of t ms) (plan_of u ns) → AllZip (IsSamePlanned t.numbering u.numbering) (option_to_list (option_map (step_of m) o) ++ plan_of t ms) (option_to_list (option_map (step_of n) v) ++ plan_of u ns)
      by None None k rest = rest
      by None (Some c) k rest = absurd k
      by (Some b) None k rest = absurd k
      by (Some b) (Some c) k rest = (record { moment = h.0.same.tick; duration = h.0.same.duration; body = k }, rest)

  -- ---- texts of events

  same_two : (o v : Option Body) → MayBeSame t.numbering u.numbering o v → option_map has_two o ≡ option_map has_two v
  same_two None None h = refl
  same_two None (Some c) h = absurd h
  same_two (Some b) None h = absurd h
  same_two (Some (Instant e)) (Some (Instant f)) h = refl
  same_two (Some (Instant e)) (Some (Durative start end invariant)) h = absurd h
  same_two (Some (Durative start end invariant)) (Some (Instant e)) h = absurd h
  same_two (Some (Durative start end invariant)) (Some (Durative first last kept)) h = refl

  pub same_lines : (k : ℕ) (ms ns : List Step) → AreAlike ms ns → lines_from t k ms ≡ lines_from u k ns
  same_lines k [] [] h = refl
  same_lines k [] (n ∷ ns) h = absurd h
  same_lines k (m ∷ ms) [] h = absurd h
  same_lines k (m ∷ ms) (n ∷ ns) h =
      ap₂ (λ (x y : List (List ℕ)). x ++ y)
      (ap₂ (λ (w : Words) (b : Option Bool). step_lines k w b) h.0.same.action (same_two (slice_get t.actions.items m.action.0) (slice_get u.actions.items n.action.0) h.0.bodies))
      (same_lines (suc k) ms ns h.1)

  -- ---- runs

  module _ (moments : ℕ → ℕ) where
    pub same_runs : (k : ℕ) (ms ns : List Step) → AreAlike ms ns → AreSameSteps t u (moved_from t.actions.items moments k ms) (moved_from u.actions.items moments k ns)
    same_runs k [] [] h = tt
    same_runs k [] (n ∷ ns) h = absurd h
    same_runs k (m ∷ ms) [] h = absurd h
    same_runs k (m ∷ ms) (n ∷ ns) h = by (slice_get t.actions.items m.action.0) (slice_get u.actions.items n.action.0) h.0.bodies (λ j. same_runs j ms ns h.1)
      where
        by : (o v : Option Body) → MayBeSame t.numbering u.numbering o v
            → ((j : ℕ) → AreSameSteps t u (moved_from t.actions.items moments j ms) (moved_from u.actions.items moments j ns))
            → AreSameSteps t u (option_to_list (option_map (moved_step moments k m) o) ++ moved_from t.actions.items moments (k + count_or_none o) ms) (option_to_list (option_map (moved_step moments k n) v) ++ moved_from u.actions.items moments (k + count_or_none v) ns)
        by None None b rest = rest (k + 0)
        by None (Some c) b rest = absurd b
        by (Some c) None b rest = absurd b
        by (Some (Instant e)) (Some (Instant f)) b rest = (record { tick = refl; duration = refl; action = h.0.same.action }, rest (k + 1))
        by (Some (Instant e)) (Some (Durative start end invariant)) b rest = absurd b
        by (Some (Durative start end invariant)) (Some (Instant e)) b rest = absurd b
        by (Some (Durative start end invariant)) (Some (Durative first last kept)) b rest = (record { tick = refl; duration = refl; action = h.0.same.action }, rest (k + 2))
