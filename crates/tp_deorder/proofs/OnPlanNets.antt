-- The texts of a plan's events are as many as its events, and with its bounds they are its network.
use Rattle.std.proofs.Common.{◌≡◌, ℕ, suc, ◌+◌, ◌*◌, ◌≤◌, List, [], ◌∷◌, ◌++◌, length, map, Option, Some, None, slice_get, option_map, String, Global, string_bytes, refl, sym, ap, subst, ◌∙◌, arith, length-append}
use Rattle.std.proofs.lemmas.List.{length-map}
use Rattle.tp_bounds.specs.declared.Bound.{Bound}
use Rattle.tp_bounds.specs.declared.plan_nets.PlanNet.{PlanNet}
use Rattle.tp_bounds.specs.RunLimits.{RunLimits}
use Rattle.tp_bounds.specs.Nets.{IsNet}
use Rattle.std.specs.Option.{option_to_list}
use Rattle.tp_task.specs.declared.events.Body.{Body}
use Rattle.tp_task.specs.declared.events.Body.TheVariants.{Instant, Durative}
use Rattle.tp_task.specs.declared.task.Task.{Task}
use Rattle.tp_task.specs.Words.{Words}
use Rattle.tp_task.specs.Tables.{words_at}
use Rattle.tp_task.specs.Valid.{Planned, count_of}
use Rattle.tp_happen.specs.tp_plan_text.declared.plans.Step.{Step}
use Rattle.tp_validate.specs.OfTask.{step_of, planned, plan_of}
use Rattle.tp_validate.proofs.Planning.{planned_few}
use Rattle.tp_deorder.specs.Answers.{IsNetOf, IsPlanNetOf, own_ticks, bounds_in}
use Rattle.tp_deorder.specs.Inequalities.{event_count_of}
use Rattle.tp_deorder.specs.EventTexts.{has_two, step_lines, lines_from, event_lines}

step_count : (k : ℕ) (ws : Words) (s : Step) (o : Option Body) (rest : List Planned) → length (step_lines k ws (option_map has_two o)) + event_count_of rest ≡ event_count_of (option_to_list (option_map (step_of s) o) ++ rest)
step_count k ws s None rest = omega arith
step_count k ws s (Some (Instant e)) rest = omega arith
step_count k ws s (Some (Durative x y c)) rest = omega arith

pub lines_count : (t : Task) (k : ℕ) (ss : List Step) → length (lines_from t k ss) ≡ event_count_of (planned t.actions.items ss)
lines_count t k [] = refl
lines_count t k (s ∷ ss) =
    let ws = words_at t.numbering.actions s.action.0 in
    let o = slice_get t.actions.items s.action.0 in
    omega (arith, length-append (step_lines k ws (option_map has_two o)) (lines_from t (suc k) ss), step_count k ws s o (planned t.actions.items ss), lines_count t (suc k) ss)

pub texts_count : (t : Task) (ss : List Step) (texts : List (String Global)) → map string_bytes texts ≡ event_lines t ss → length texts ≡ event_count_of (plan_of t ss)
texts_count t ss texts h = sym (length-map texts string_bytes) ∙ (ap length h ∙ lines_count t 0 ss)

-- a plan has at most two events for each step
body_few : (b : Body) → count_of b ≤ 2
body_few (Instant e) = omega arith
body_few (Durative x y c) = omega arith

count_few : (ps : List Planned) → event_count_of ps ≤ 2 * length ps
count_few [] = omega arith
count_few (p ∷ ps) = omega (arith, body_few p.body, count_few ps)

pub plan_is_net : (t : Task) (steps : List Step) (horizon h k : ℕ) (bs : List Bound) → IsNetOf t steps horizon bs → length steps ≤ 512 → h ≡ horizon → h ≤ 1_000_000_000 → k ≡ event_count_of (plan_of t steps) → IsNet k h bs
plan_is_net t steps horizon h k bs n few is in_time count =
    subst (λ (m : ℕ). IsNet m h bs) (sym count) (subst (λ (m : ℕ). IsNet (event_count_of (plan_of t steps)) m bs) (sym is) (record {
      few = omega (arith, count_few (plan_of t steps), planned_few t.actions.items steps);
      in_time = omega arith;
      suit = n.suit (omega arith);
      possible = ∣ (own_ticks (plan_of t steps), n.own) ∣₁;
    }))

pub is_plan_net : (t : Task) (steps : List Step) (l : RunLimits) (n : PlanNet) → n.horizon ≡ l.horizon → map string_bytes n.events.items ≡ event_lines t steps → length n.events.items ≡ event_count_of (plan_of t steps)
    → event_count_of (plan_of t steps) ≤ l.events → length n.bounds.items ≤ l.bounds → n.bounds.items ≡ bounds_in t steps l.horizon → IsNetOf t steps l.horizon n.bounds.items → IsPlanNetOf t steps l n
is_plan_net t steps l n h x k e b bs net = record { horizon = h; texts = x; events = k; few_events = omega arith; few_bounds = b; bounds = bs; net = net }
