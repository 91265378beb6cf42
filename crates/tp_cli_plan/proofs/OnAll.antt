-- What is found of the actions in reach holds of the task of all actions, too.
use Rattle.std.proofs.Common.{◌≡◌, ℕ, zero, suc, ◌+◌, ◌≤◌, ◌<◌, Bool, true, false, ◌&&◌, ◌||◌, ◌==◌, List, [], ◌∷◌, length, slice_get, Option, Some, None, refl, sym, ap, ap₂, ◌∙◌, subst, arith, ◌↔◌}
use Rattle.std.specs.Prelude.{nat_lt, nat_le}
use Rattle.std.specs.List.{AllByRecursion, list_all, position_from}
use Rattle.std.proofs.lemmas.Bool.{and_from, and_parts, ltb-true, lt-ltb}
use Rattle.tp_task.specs.declared.task.Task.{Task}
use Rattle.tp_task.specs.declared.events.Body.{Body}
use Rattle.tp_task.specs.declared.events.Body.TheVariants.{Instant, Durative}
use Rattle.tp_task.specs.declared.events.GroundEvent.{GroundEvent}
use Rattle.tp_task.specs.Readable.{AreReadable}
use Rattle.tp_task.specs.Tables.{words_at}
use Rattle.tp_task.specs.Words.{same_words}
use Rattle.tp_happen.specs.tp_plan_text.Steps.{ends_in_time}
use Rattle.tp_happen.specs.tp_plan_text.TaskWords.{is_durative}
use Rattle.tp_happen.specs.tp_plan_text.declared.plans.Step.{Step}
use Rattle.tp_validate.specs.OfTask.{IsOfTask, IsValidPlan, is_step_of}
use Rattle.tp_task.specs.TaskReach.{GoalIs}
use Rattle.tp_search.specs.Plans.{HasNoPlan, IsInstantStep, IsPlanAtOnce, DifferFrom, OfDistinctActions, ends_by}
use Rattle.tp_search.specs.Promised.{IsExhausted, IsSpent, IsUnreachable}
use Rattle.tp_ground_laws.specs.SamePlans.{IsSameStep, AreSameSteps, HaveSamePlans}

module _ (t u : Task) where
  -- ---- the same steps are as many, and end as late

  pub as_long : (ms ns : List Step) → AreSameSteps t u ms ns → length ms ≡ length ns
  as_long [] [] e = refl
  as_long [] (n ∷ ns) e = absurd e
  as_long (m ∷ ms) [] e = absurd e
  as_long (m ∷ ms) (n ∷ ns) e = ap suc (as_long ms ns e.1)

  pub ends_same : (horizon : ℕ) (ms ns : List Step) → AreSameSteps t u ms ns → list_all (ends_by horizon) ms ≡ list_all (ends_by horizon) ns
  ends_same horizon [] [] e = refl
  ends_same horizon [] (n ∷ ns) e = absurd e
  ends_same horizon (m ∷ ms) [] e = absurd e
  ends_same horizon (m ∷ ms) (n ∷ ns) e =
      ap₂ (λ a b. a && b) (ap₂ (λ a b. nat_le (a + b) horizon) e.0.tick e.0.duration) (ends_same horizon ms ns e.1)

  pub in_time_same : (ms ns : List Step) → AreSameSteps t u ms ns → list_all ends_in_time ms ≡ list_all ends_in_time ns
  in_time_same [] [] e = refl
  in_time_same [] (n ∷ ns) e = absurd e
  in_time_same (m ∷ ms) [] e = absurd e
  in_time_same (m ∷ ms) (n ∷ ns) e =
      ap₂ (λ a b. a && b) (ap₂ (λ a b. nat_le (a + b) 1000000000) e.0.tick e.0.duration) (in_time_same ms ns e.1)

  -- ---- steps that are instantaneous, and of distinct actions

  got_below : (bs : List Body) (i : ℕ) (b : Body) → slice_get bs i ≡ Some b → i < length bs
  got_below [] i b h = absurd (cc)
  got_below (x ∷ bs) zero b h = omega arith
  got_below (x ∷ bs) (suc i) b h = let k : i < length bs = got_below bs i b h in omega arith

  instant_of : (s : Step) → IsInstantStep t s → is_step_of t s ≡ true
  instant_of s h =
      and_from (nat_lt s.action.0 (length t.actions.items)) _ (lt-ltb s.action.0 (length t.actions.items) (got_below t.actions.items s.action.0 (Instant h.event) h.action))
      (ap (λ (o : Option Body). is_durative o || s.duration == 0) h.action ∙ ap (λ (k : ℕ). k == 0) h.duration)

  pub instants_of : (steps : List Step) → AllByRecursion (IsInstantStep t) steps → IsOfTask t steps
  instants_of [] h = refl
  instants_of (s ∷ steps) h = and_from (is_step_of t s) _ (instant_of s h.0) (instants_of steps h.1)

module _ (t u : Task) (same : HaveSamePlans t u) (can : AreReadable t.numbering.actions) (many : length t.actions.items ≡ length t.numbering.actions) where
  instant_event : (b : Option Body) → is_durative b ≡ false → (i : ℕ) → i < length u.actions.items → slice_get u.actions.items i ≡ b → (e : GroundEvent) × (slice_get u.actions.items i ≡ Some (Instant e))
  instant_event None h i lt is = absurd (none u.actions.items i lt is)
    where
      none : (bs : List Body) (k : ℕ) → k < length bs → slice_get bs k ≡ None → ⊥
      none [] k l q = omega arith
      none (x ∷ bs) zero l q = cc
      none (x ∷ bs) (suc k) l q = none bs k (omega arith) q
  instant_event (Some (Instant e)) h i lt is = (e, is)
  instant_event (Some (Durative start end invariant)) h i lt is = absurd (cc)

  instant_too : (m n : Step) → is_step_of u n ≡ true → IsSameStep t u m n → IsInstantStep t m → IsInstantStep u n
  instant_too m n g e h =
      let lt = ltb-true n.action.0 (length u.actions.items) (and_parts (nat_lt n.action.0 (length u.actions.items)) _ g).0 in
      let short = sym (same.lasting m n (instant_of t u m h) g e) ∙ ap is_durative h.action in
      let (event, is) = instant_event (slice_get u.actions.items n.action.0) short n.action.0 lt refl in
      record { event = event; action = is; tick = sym e.tick ∙ h.tick; duration = sym e.duration ∙ h.duration }

  instants_too : (ms ns : List Step) → IsOfTask u ns → AreSameSteps t u ms ns → AllByRecursion (IsInstantStep t) ms → AllByRecursion (IsInstantStep u) ns
  instants_too [] [] g e h = tt
  instants_too [] (n ∷ ns) g e h = absurd e
  instants_too (m ∷ ms) [] g e h = absurd e
  instants_too (m ∷ ms) (n ∷ ns) g e h =
      let q = and_parts (is_step_of u n) (list_all (is_step_of u) ns) g in
      (instant_too m n q.0 e.0 h.0, instants_too ms ns q.1 e.1 h.1)

  -- actions of other words have other numbers
  same_action : (m k : Step) → is_step_of t m ≡ true → is_step_of t k ≡ true → words_at t.numbering.actions m.action.0 ≡ words_at t.numbering.actions k.action.0 → m.action.0 ≡ k.action.0
  same_action m k h g e =
      let a = ltb-true m.action.0 (length t.actions.items) (and_parts (nat_lt m.action.0 (length t.actions.items)) _ h).0 in
      let b = ltb-true k.action.0 (length t.actions.items) (and_parts (nat_lt k.action.0 (length t.actions.items)) _ g).0 in
      let found : Some m.action.0 ≡ Some k.action.0 =
      sym (can.found m.action.0 (subst (λ x. m.action.0 < x) many a))
      ∙ ap (λ ws. position_from (same_words ws) 0 t.numbering.actions) e
      ∙ can.found k.action.0 (subst (λ x. k.action.0 < x) many b) in
      let r : m.action.0 ≡ k.action.0 = cc in r

  differ_too : (m n : Step) (ms ns : List Step) → is_step_of t m ≡ true → IsOfTask t ms → IsSameStep t u m n → AreSameSteps t u ms ns → DifferFrom m ms → DifferFrom n ns
  differ_too m n [] [] h hs e es d = tt
  differ_too m n [] (k ∷ ns) h hs e es d = absurd es
  differ_too m n (k ∷ ms) [] h hs e es d = absurd es
  differ_too m n (k ∷ ms) (l ∷ ns) h hs e es d =
      let q = and_parts (is_step_of t k) (list_all (is_step_of t) ms) hs in
      (λ is. d.0 (same_action m k h q.0 (e.action ∙ ap (words_at u.numbering.actions) is ∙ sym es.0.action)), differ_too m n ms ns h q.1 e es.1 d.1)

  distinct_too : (ms ns : List Step) → IsOfTask t ms → AreSameSteps t u ms ns → OfDistinctActions ms → OfDistinctActions ns
  distinct_too [] [] h e d = tt
  distinct_too [] (n ∷ ns) h e d = absurd e
  distinct_too (m ∷ ms) [] h e d = absurd e
  distinct_too (m ∷ ms) (n ∷ ns) h e d =
      let q = and_parts (is_step_of t m) (list_all (is_step_of t) ms) h in
      (differ_too m n ms ns q.0 q.1 e.0 e.1 d.0, distinct_too ms ns q.1 e.1 d.1)

  at_once_too : (ms : List Step) → IsPlanAtOnce t ms → (ns : List Step) × IsPlanAtOnce u ns
  at_once_too ms h =
      let own = instants_of t u ms h.instant in
      let (ns, of_u, e) = same.kept ms own h.valid in (
        ns,
        record {
          plan = record { few = subst (λ k. k ≤ 512) (as_long t u ms ns e) h.plan.few; ends = sym (in_time_same t u ms ns e) ∙ h.plan.ends };
          instant = instants_too ms ns of_u e h.instant;
          distinct = distinct_too ms ns own e h.distinct;
          valid = (same.same ms ns own of_u e).0 h.valid;
        },
      )

  -- ---- why no plan was found

  none_of_all : HasNoPlan u → HasNoPlan t
  none_of_all h ms own valid =
      let (ns, of_u, e) = same.kept ms own valid in
      h ns of_u ((same.same ms ns own of_u e).0 valid)

  empty_of_all : ¬ IsValidPlan u [] → ¬ IsValidPlan t []
  empty_of_all h valid = h ((same.same [] [] refl refl tt).0 valid)

  module _ (goal : (b : Bool) → GoalIs t b ↔ GoalIs u b) where
    pub unreachable_of_all : IsUnreachable u → IsUnreachable t
    unreachable_of_all h = record { goal = (goal false).1 h.goal; no_plan = none_of_all h.no_plan }

    pub exhausted_of_all : IsExhausted u → IsExhausted t
    exhausted_of_all h = record {
      in_reach = (goal true).1 h.in_reach;
      not_empty = empty_of_all h.not_empty;
      not_at_once = λ ms once. let (ns, other) = at_once_too ms once in h.not_at_once ns other;
    }

    pub spent_of_all : (budget expanded : ℕ) → IsSpent u budget expanded → IsSpent t budget expanded
    spent_of_all budget expanded h = record { in_reach = (goal true).1 h.in_reach; not_empty = empty_of_all h.not_empty; all_of_it = h.all_of_it }
