-- What is written of a plan of a task that texts spell is read as that plan.
use Rattle.std.proofs.Common.{◌≡◌, ℕ, ◌+◌, ◌<◌, ◌≤◌, Bool, true, false, ◌||◌, ◌==◌, List, [], ◌∷◌, cond, map, length, Some, None, refl, sym, ap, subst, ◌∙◌, arith}
use Rattle.std.specs.Prelude.{Ok, nat_le, nat_lt, option_map}
use Rattle.std.specs.List.{AllByRecursion, list_all, position_from}
use Rattle.std.proofs.lemmas.Bool.{and_parts}
use Rattle.std.proofs.lemmas.Bool.Decides.{nat_tests}
use Rattle.std.proofs.lemmas.List.{length-map}
use Rattle.tp_bounds.specs.RunLimits.{RunLimits}
use Rattle.tp_text.specs.declared.number.Scale.{Scale}
use Rattle.tp_syntax.specs.Domains.{Domain, SpellsDomain}
use Rattle.tp_syntax.specs.Problems.{Problem, SpellsProblem}
use Rattle.tp_ground.specs.Bindings.{universe_of}
use Rattle.tp_ground.specs.Grounding.{IsTask, ground_actions}
use Rattle.tp_ground.specs.Reached.{Instance, IsReachedTask, IsTaskOf, action_of as reached_action}
use Rattle.tp_ground.specs.ReadBack.{named_body}
use Rattle.tp_task.specs.Readable.{AreReadable, are_names}
use Rattle.tp_task.specs.Tables.{words_at}
use Rattle.tp_task.specs.Words.{Words, same_words}
use Rattle.tp_task.specs.declared.task.Task.{Task}
use Rattle.tp_happen.specs.tp_plan_text.PlanPrints.{IsReadable, PlansAreRead, plan_text}
use Rattle.tp_happen.specs.tp_plan_text.PlanLexemes.{is_bare, lexemes}
use Rattle.tp_happen.specs.tp_plan_text.PlanTexts.{IsAccepted, ReadableTask, LinesSpell, SpellsPlan, fault_or, full_lines, lines_in, refusal_from, step_of}
use Rattle.tp_happen.specs.tp_plan_text.declared.reading.PlanFault.TheVariants.{TooMany}
use Rattle.tp_happen.specs.tp_plan_text.TaskWords.{action_of, readable}
use Rattle.tp_happen.specs.tp_plan_text.declared.plans.Step.{Step}
use Rattle.tp_validate.specs.OfTask.{IsOfTask, is_step_of}
use Rattle.tp_search.specs.Plans.{EndsBy, ends_by}

-- the words of each action of a task that texts spell are names, by which it is found again: of the actions in reach, and of all
abbrev pub ActionsAreReadable : Type 0
ActionsAreReadable =
    (text other : List ℕ) (d : Domain) (p : Problem) (limits : RunLimits) (scale : Scale) (t : Task) → SpellsDomain text d → SpellsProblem d other p → IsReachedTask limits scale d p t → AreReadable t.numbering.actions

abbrev pub AllAreReadable : Type 0
AllAreReadable =
    (text other : List ℕ) (d : Domain) (p : Problem) (limits : RunLimits) (scale : Scale) (t : Task) → SpellsDomain text d → SpellsProblem d other p → IsTask limits scale d p t → AreReadable t.numbering.actions

action_is : (actions : List Words) (w : Words) (i : ℕ) → are_names w ≡ true → position_from (same_words w) 0 actions ≡ Some i → action_of actions w ≡ Some (record { 0 = i })
action_is actions [] i names found = absurd (let no : ⊥ = cc in no)
action_is actions (w ∷ ws) i names found = ap (option_map (λ n. record { 0 = n })) found

lasts_none : (durative : Bool) (n : ℕ) → (durative || n == 0) ≡ true → durative ≡ false → n ≡ 0
lasts_none true n h short = absurd (let no : ⊥ = cc in no)
lasts_none false n h short = grind (arith, nat_tests)

below : (a b : ℕ) → nat_lt a b ≡ true → a < b
below a b h = grind (arith, nat_tests)

at_most : (a b : ℕ) → nat_le a b ≡ true → a ≤ b
at_most a b h = grind (arith, nat_tests)

module _ (task : Task) (horizon : ℕ) (can_be_read : AreReadable task.numbering.actions) (same : length task.actions.items ≡ length task.numbering.actions) (limit : task.limits.horizon ≡ horizon) (within : horizon ≤ 1000000000) where
  step_read : (s : Step) → is_step_of task s ≡ true → ends_by horizon s ≡ true → IsReadable (readable task) s
  step_read s is ends =
      let parts = and_parts (nat_lt s.action.0 (length task.actions.items)) _ is in
      let here : s.action.0 < length task.numbering.actions = subst (λ n. s.action.0 < n) same (below s.action.0 (length task.actions.items) parts.0) in
      let by : s.tick + s.duration ≤ horizon = at_most (s.tick + s.duration) horizon ends in
      let names = can_be_read.names s.action.0 here in
      record {
        names = names;
        lower = can_be_read.lower s.action.0 here;
        action = action_is task.numbering.actions (words_at task.numbering.actions s.action.0) s.action.0 names (can_be_read.found s.action.0 here);
        instant = λ short. lasts_none _ s.duration parts.1 short;
        ends = omega arith;
      }

  steps_read : (steps : List Step) → IsOfTask task steps → EndsBy horizon steps → AllByRecursion (IsReadable (readable task)) steps
  steps_read [] are ends = tt
  steps_read (s ∷ steps) are ends =
      let a = and_parts (is_step_of task s) (list_all (is_step_of task) steps) are in
      let e = and_parts (ends_by horizon s) (list_all (ends_by horizon) steps) ends in
      (step_read s a.0 e.0, steps_read steps a.1 e.1)

module _ (limits : RunLimits) (scale : Scale) (d : Domain) (p : Problem) (task : Task) where
  pub as_many_of_some : (some : List Instance) → IsTaskOf limits scale d p some task → length task.actions.items ≡ length task.numbering.actions
  as_many_of_some some is =
      let u = universe_of d p in
      sym (length-map task.actions.items (named_body task.numbering))
      ∙ ap length is.bodies
      ∙ length-map some (λ i. (reached_action u i).body)
      ∙ sym (length-map some (λ i. (reached_action u i).words))
      ∙ sym (ap length is.names)

  pub as_many : IsReachedTask limits scale d p task → length task.actions.items ≡ length task.numbering.actions
  as_many is = as_many_of_some is.kept is.task

  pub as_many_of_all : IsTask limits scale d p task → length task.actions.items ≡ length task.numbering.actions
  as_many_of_all is =
      let all = ground_actions (universe_of d p) d.actions in
      sym (length-map task.actions.items (named_body task.numbering))
      ∙ ap length is.bodies
      ∙ length-map all (λ a. a.body)
      ∙ sym (length-map all (λ a. a.words))
      ∙ sym (ap length is.names)

-- ---- lines that spell steps, at most 512, are not refused

module _ (task : ReadableTask) (line : List ℕ) (lines : List (List ℕ)) (later : (n count : ℕ) (steps : List Step) → LinesSpell task lines steps → count + length steps ≤ 512 → refusal_from task n count lines ≡ None) where
  full_line : (n count : ℕ) (steps : List Step) → step_of task line ∷ map (step_of task) (full_lines lines) ≡ map Ok steps → count + length steps ≤ 512 → cond (nat_le 512 count) (Some TooMany) (fault_or n (step_of task line) (refusal_from task (n + 1) (count + 1) lines)) ≡ None
  full_line n count [] spells few = absurd (let no : ⊥ = cc in no)
  full_line n count (s ∷ steps) spells few =
      let first : step_of task line ≡ Ok s = cc in
      let rest : map (step_of task) (full_lines lines) ≡ map Ok steps = cc in
      let room : nat_le 512 count ≡ false = grind (arith, nat_tests) in
      ap (λ b. cond b (Some TooMany) (fault_or n (step_of task line) (refusal_from task (n + 1) (count + 1) lines))) room
      ∙ ap (λ r. fault_or n r (refusal_from task (n + 1) (count + 1) lines)) first
      ∙ later (n + 1) (count + 1) steps rest (omega arith)

  one_line : (bare : Bool) (n count : ℕ) (steps : List Step) → map (step_of task) (cond bare (full_lines lines) (line ∷ full_lines lines)) ≡ map Ok steps → count + length steps ≤ 512 → cond bare (refusal_from task (n + 1) count lines) (cond (nat_le 512 count) (Some TooMany) (fault_or n (step_of task line) (refusal_from task (n + 1) (count + 1) lines))) ≡ None
  one_line true n count steps spells few = later (n + 1) count steps spells few
  one_line false n count steps spells few = full_line n count steps spells few

none_refused : (task : ReadableTask) (lines : List (List ℕ)) (n count : ℕ) (steps : List Step) → LinesSpell task lines steps → count + length steps ≤ 512 → refusal_from task n count lines ≡ None
none_refused task [] n count steps spells few = refl
none_refused task (l ∷ ls) n count steps spells few = one_line task l ls (none_refused task ls) (is_bare (lexemes l)) n count steps spells few

pub plan_accepted : (task : ReadableTask) (text : List ℕ) (steps : List Step) → SpellsPlan task text steps → length steps ≤ 512 → IsAccepted task text
plan_accepted task text steps spells few = none_refused task (lines_in text) 1 0 steps spells (omega arith)

-- the plan of a task whose actions are told by their words, which ends by its horizon
pub plan_read : PlansAreRead → (task : Task) (horizon : ℕ) → AreReadable task.numbering.actions → length task.actions.items ≡ length task.numbering.actions → task.limits.horizon ≡ horizon → horizon ≤ 1000000000 → (steps : List Step) → IsOfTask task steps → EndsBy horizon steps → SpellsPlan (readable task) (plan_text (readable task) steps) steps
plan_read read task horizon can_be_read same limit within steps are ends =
    read (readable task) steps (omega arith) (steps_read task horizon can_be_read same limit within steps are ends)
