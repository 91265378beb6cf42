-- Steps of a task whose actions are told by their words are readable, and so what is written for them spells them.
use Rattle.std.proofs.Common.{◌≡◌, ℕ, ◌+◌, ◌<◌, ◌≤◌, Bool, true, false, ◌&&◌, ◌||◌, List, [], ◌∷◌, length, min, refl, ap, arith, Some, option_map}
use Rattle.std.specs.Prelude.{nat_lt, ◌==◌}
use Rattle.std.specs.List.{AllByRecursion, list_all, position_from}
use Rattle.std.proofs.lemmas.Bool.Decides.{nat_tests}
use Rattle.tp_task.specs.Words.{Words, same_words}
use Rattle.tp_task.specs.Tables.{words_at}
use Rattle.tp_task.specs.Readable.{are_names, AreReadable}
use Rattle.tp_task.specs.declared.task.ActionId.{ActionId}
use Rattle.tp_task.specs.declared.task.Task.{Task}
use Rattle.tp_plan_text.specs.declared.plans.Step.{Step}
use Rattle.tp_plan_text.specs.PlanTexts.{ReadableTask, SpellsPlan, is_known, AreKnown}
use Rattle.tp_plan_text.specs.PlanPrints.{plan_text, IsReadable, PlansAreRead}
use Rattle.tp_plan_text.specs.TaskWords.{action_of, readable}
use Rattle.tp_plan_text.specs.TaskPlans.{EndInTime}

-- an action that is found by its words is the one of these words
action_is : (actions : List Words) (ws : Words) (a : ActionId) → are_names ws ≡ true → position_from (same_words ws) 0 actions ≡ Some a.0 → action_of actions ws ≡ Some a
action_is actions [] a named found = absurd (let no : ⊥ = cc in no)
action_is actions (w ∷ ws) a named found = ap (option_map (λ n. let i : ActionId = record { 0 = n } in i)) found

record Known (t : ReadableTask) (s : Step) : Type 0 where
  pub below : s.action.0 < t.count
  pub instant : t.is_durative s.action ≡ false → s.duration ≡ 0

below_from : (a b c : Bool) (m n d : ℕ) → nat_lt m n ≡ a → (d == 0) ≡ c → a && (b || c) ≡ true → (m < n) × (b ≡ false → d ≡ 0)
below_from true true c m n d lt is all = (grind (arith, nat_tests), λ no. absurd (let wrong : ⊥ = cc in wrong))
below_from true false true m n d lt is all = (grind (arith, nat_tests), λ no. grind (arith, nat_tests))
below_from true false false m n d lt is all = absurd (let wrong : ⊥ = cc in wrong)
below_from false b c m n d lt is all = absurd (let wrong : ⊥ = cc in wrong)

known_from : (t : ReadableTask) (s : Step) → is_known t s ≡ true → Known t s
known_from t s h =
    let both = below_from (nat_lt s.action.0 t.count) (t.is_durative s.action) (s.duration == 0) s.action.0 t.count s.duration refl refl h in
    record { below = both.0; instant = both.1 }

and_parts : (a b : Bool) → a && b ≡ true → (a ≡ true) × (b ≡ true)
and_parts true b h = (refl, h)
and_parts false b h = absurd (let no : ⊥ = cc in no)

min_below : (a b : ℕ) → min a b ≤ b
min_below a b = omega arith

module _ (t : Task) (told : AreReadable t.numbering.actions) (all : length t.actions.items ≡ length t.numbering.actions) where
  readable_step : (s : Step) → is_known (readable t) s ≡ true → s.tick + s.duration ≤ (readable t).horizon → IsReadable (readable t) s
  readable_step s h ends =
      let known : Known (readable t) s = known_from (readable t) s h in
      let below : s.action.0 < length t.numbering.actions = omega (arith, known.below, all) in
      record {
        names = told.names s.action.0 below;
        lower = told.lower s.action.0 below;
        action = action_is t.numbering.actions (words_at t.numbering.actions s.action.0) s.action (told.names s.action.0 below) (told.found s.action.0 below);
        instant = known.instant;
        ends = ends;
      }

  readable_steps : (steps : List Step) → AreKnown (readable t) steps → EndInTime t steps → AllByRecursion (IsReadable (readable t)) steps
  readable_steps [] h ends = tt
  readable_steps (s ∷ steps) h ends =
      let both = and_parts (is_known (readable t) s) (list_all (is_known (readable t)) steps) h in
      (readable_step s both.0 ends.0, readable_steps steps both.1 ends.1)

  pub task_plans_read : PlansAreRead → (steps : List Step) → AreKnown (readable t) steps → EndInTime t steps → SpellsPlan (readable t) (plan_text (readable t) steps) steps
  task_plans_read read steps h ends = read (readable t) steps (min_below t.limits.horizon 1000000000) (readable_steps steps h ends)
