-- What is written of an answer of the search.
use Rattle.std.proofs.Common.{◌≡◌, ℕ, ◌≤◌, List, Option, Bool, true, false, ◌↔◌, length, inl, inr, refl, sym, ap, subst, ◌∙◌}
use Rattle.tp_bounds.specs.RunLimits.{RunLimits, greatest_limits}
use Rattle.tp_text.specs.declared.number.Scale.{Scale}
use Rattle.tp_syntax.specs.Domains.{Domain, SpellsDomain}
use Rattle.tp_syntax.specs.Problems.{Problem, SpellsProblem}
use Rattle.tp_ground.specs.Grounding.{IsTask}
use Rattle.tp_ground.specs.Reached.{IsReachedTask}
use Rattle.tp_task.specs.Readable.{AreReadable}
use Rattle.tp_task.specs.declared.task.Task.{Task}
use Rattle.tp_happen.specs.tp_plan_text.PlanPrints.{PlansAreRead, plan_text}
use Rattle.tp_happen.specs.tp_plan_text.PlanTexts.{SpellsPlan}
use Rattle.tp_happen.specs.tp_plan_text.TaskWords.{readable}
use Rattle.tp_validate.specs.OfTask.{IsOfTask, IsValidPlan}
use Rattle.tp_validate.specs.Validated.{Validated}
use Rattle.tp_task.specs.TaskReach.{GoalIs}
use Rattle.tp_search.specs.Answers.{IsAnswer}
use Rattle.tp_search.specs.Plans.{EndsBy}
use Rattle.tp_search.specs.declared.found.Found.{Found}
use Rattle.tp_search.specs.declared.found.Found.TheVariants.{Plan, Unreachable, Exhausted, Spent}
use Rattle.tp_ground_laws.specs.SamePlans.{HaveSamePlans, HoldsPlans}
use Rattle.tp_cli_plan.specs.SearchTasks.{IsSearchTask}
use Rattle.tp_cli_plan.specs.FoundText.{IsFoundOfTask, IsNoPlanLine, IsPlanText, found_text, is_plan, spent_line}
use Rattle.tp_cli_inputs.specs.Named.{AreNamed}
use Rattle.tp_cli_plan.specs.Searches.{IsPlanTask, IsSearched, IsSearchText, Searches, task_words}
use Rattle.tp_cli_plan.specs.SearchStops.{StopsSearch}
use Rattle.tp_cli_plan.specs.Telling.{StopsTelling, TellsFound}
use Rattle.tp_cli_plan.specs.declared.search_words.Order.{Order}
use Rattle.tp_cli_plan.specs.declared.search_words.Order.TheVariants.{Lacking, Guided}
use Rattle.tp_cli_plan.specs.declared.search_words.SearchWords.{SearchWords}
use Rattle.tp_cli_plan.specs.declared.stops.SearchStop.{SearchStop}
use Rattle.tp_cli_plan.proofs.ReadBack.{ActionsAreReadable, AllAreReadable, as_many, as_many_of_all, plan_accepted, plan_read}
use Rattle.tp_cli_plan.proofs.OnAll.{as_long, ends_same, exhausted_of_all, spent_of_all, unreachable_of_all}

-- the task of all actions and that of those in reach have the same plans, and their goals are in reach alike
abbrev pub PlansAreTheSame : Type 0
PlansAreTheSame =
    (text other : List ℕ) (d : Domain) (p : Problem) (limits small : RunLimits) (scale : Scale) (t u : Task) → SpellsDomain text d → SpellsProblem d other p → IsTask limits scale d p t → IsReachedTask small scale d p u → HaveSamePlans t u

abbrev pub GoalsAreTheSame : Type 0
GoalsAreTheSame =
    (d : Domain) (p : Problem) (limits small : RunLimits) (scale : Scale) (t u : Task) → IsTask limits scale d p t → IsReachedTask small scale d p u → (b : Bool) → GoalIs t b ↔ GoalIs u b

-- the text of a plan that was found, or the line that says why there is none
abbrev pub Says : Task → ℕ → ℕ → Found → Bool → Type 0
Says task budget horizon found true = IsPlanText task horizon (found_text found)
Says task budget horizon found false = IsNoPlanLine task budget (found_text found)

-- the line that says why there is none
pub none_said : (task : Task) (budget horizon : ℕ) (found : Found) → IsAnswer task budget horizon found → is_plan found ≡ false → IsNoPlanLine task budget (found_text found)
none_said task budget horizon (Plan plan) answer none_found = absurd (let none : ⊥ = cc in none)
none_said task budget horizon Unreachable answer none_found = inl (answer, refl)
none_said task budget horizon Exhausted answer none_found = inr (inl (answer, refl))
none_said task budget horizon (Spent n) answer none_found =
    inr (inr (record { in_reach = answer.in_reach; not_empty = answer.not_empty; all_of_it = refl }, ap spent_line answer.all_of_it))

-- ---- the text of a plan

module _ (read : PlansAreRead) (task : Task) (horizon : ℕ) (within : horizon ≤ 1000000000) (readable_here : AreReadable task.numbering.actions) (many : length task.actions.items ≡ length task.numbering.actions) (limit : task.limits.horizon ≡ horizon) where
  pub plan_said : (plan : Validated) → plan.task ≡ task → EndsBy horizon plan.steps → IsValidPlan task plan.steps → IsFoundOfTask (Plan plan) → IsPlanText task horizon (plan_text (readable plan.task) plan.steps)
  plan_said plan of_it ends valid of_task =
      let are : IsOfTask task plan.steps = subst (λ (t : Task). IsOfTask t plan.steps) of_it of_task.1 in
      let is : plan_text (readable plan.task) plan.steps ≡ plan_text (readable task) plan.steps = ap (λ (t : Task). plan_text (readable t) plan.steps) of_it in
      let spells : SpellsPlan (readable task) (plan_text (readable plan.task) plan.steps) plan.steps =
      subst (λ (text : List ℕ). SpellsPlan (readable task) text plan.steps) (sym is)
      (plan_read read task horizon readable_here many limit within plan.steps are ends) in
      record {
        steps = plan.steps;
        of_task = are;
        valid = valid;
        within = ends;
        is = is;
        spells = spells;
        accepted = plan_accepted (readable task) (plan_text (readable plan.task) plan.steps) plan.steps spells of_task.0.few;
      }

  -- the same of a task that holds it
  module _ (all : Task) (readable_all : AreReadable all.numbering.actions) (many_all : length all.actions.items ≡ length all.numbering.actions) (limit_all : all.limits.horizon ≡ horizon) (holds : HoldsPlans all task) where
    pub plan_said_of_all : (plan : Validated) → plan.task ≡ task → EndsBy horizon plan.steps → IsValidPlan task plan.steps → IsFoundOfTask (Plan plan) → IsPlanText all horizon (plan_text (readable plan.task) plan.steps)
    plan_said_of_all plan of_it in_time valid of_task =
        let are : IsOfTask task plan.steps = subst (λ (t : Task). IsOfTask t plan.steps) of_it of_task.1 in
        let (steps, own, e) = holds.wide plan.steps are in
        let ends = ends_same all task horizon steps plan.steps e ∙ in_time in
        let is : plan_text (readable plan.task) plan.steps ≡ plan_text (readable all) steps = ap (λ (t : Task). plan_text (readable t) plan.steps) of_it ∙ sym (holds.told steps plan.steps own are e) in
        let spells : SpellsPlan (readable all) (plan_text (readable plan.task) plan.steps) steps =
        subst (λ (text : List ℕ). SpellsPlan (readable all) text steps) (sym is)
        (plan_read read all horizon readable_all many_all limit_all within steps own ends) in
        record {
          steps = steps;
          of_task = own;
          valid = (holds.same steps plan.steps own are e).1 valid;
          within = ends;
          is = is;
          spells = spells;
          accepted = plan_accepted (readable all) (plan_text (readable plan.task) plan.steps) steps spells (subst (λ (n : ℕ). n ≤ 512) (sym (as_long all task steps plan.steps e)) of_task.0.few);
        }

-- ---- the task of the actions in reach

holds_of : (t u : Task) → HaveSamePlans t u → HoldsPlans t u
holds_of t u h = record { same = h.same; wide = h.wide; told = h.told }

in_order : (order : Order) (limits : RunLimits) (scale : Scale) (d : Domain) (p : Problem) (task : Task) → IsReachedTask limits scale d p task → IsPlanTask order limits scale d p task
in_order (Lacking progress) limits scale d p task h = h
in_order (Guided wishes) limits scale d p task h = inl h

pub searched_in : (order : Order) (limits : RunLimits) (scale : Scale) (d : Domain) (p : Problem) (task : Task) → IsReachedTask limits scale d p task → IsSearched order limits scale d p task
searched_in (Lacking progress) limits scale d p task h = h
searched_in (Guided wishes) limits scale d p task h = inl h

module _ (read : PlansAreRead) (can_be_read : ActionsAreReadable) (all_readable : AllAreReadable) (same_plans : PlansAreTheSame) (same_goals : GoalsAreTheSame) (held : List ℕ → Option (List ℕ)) (w : SearchWords) (task : Task) (within : w.horizon ≤ 1000000000) (named : IsSearchTask held (task_words w) task) where
  abbrev limits : RunLimits
  limits = greatest_limits w.horizon

  readable_here : AreReadable task.numbering.actions
  readable_here = can_be_read named.domain_in.0 named.problem_in.0 named.domain named.problem limits w.scale task named.domain_in.2 named.problem_in.2 named.task_of

  many_here : length task.actions.items ≡ length task.numbering.actions
  many_here = as_many limits w.scale named.domain named.problem task named.task_of

  limit_here : task.limits.horizon ≡ w.horizon
  limit_here = ap (λ (l : RunLimits). l.horizon) named.task_of.task.same_limits

  says : (found : Found) → IsAnswer task w.budget w.horizon found → IsFoundOfTask found → Says task w.budget w.horizon found (is_plan found)
  says (Plan plan) answer of_task = plan_said read task w.horizon within readable_here many_here limit_here plan answer.task answer.within answer.valid of_task
  says Unreachable answer of_task = none_said task w.budget w.horizon Unreachable answer refl
  says Exhausted answer of_task = none_said task w.budget w.horizon Exhausted answer refl
  says (Spent n) answer of_task = none_said task w.budget w.horizon (Spent n) answer refl

  module _ (all : Task) (is_all : IsTask limits w.scale named.domain named.problem all) where
    same : HaveSamePlans all task
    same = same_plans named.domain_in.0 named.problem_in.0 named.domain named.problem limits limits w.scale all task named.domain_in.2 named.problem_in.2 is_all named.task_of

    goals : (b : Bool) → GoalIs all b ↔ GoalIs task b
    goals = same_goals named.domain named.problem limits limits w.scale all task is_all named.task_of

    readable_all : AreReadable all.numbering.actions
    readable_all = all_readable named.domain_in.0 named.problem_in.0 named.domain named.problem limits w.scale all named.domain_in.2 named.problem_in.2 is_all

    many_all : length all.actions.items ≡ length all.numbering.actions
    many_all = as_many_of_all limits w.scale named.domain named.problem all is_all

    says_all : (found : Found) → IsAnswer task w.budget w.horizon found → IsFoundOfTask found → Says all w.budget w.horizon found (is_plan found)
    says_all (Plan plan) answer of_task =
        plan_said_of_all read task w.horizon within readable_here many_here limit_here all readable_all many_all (ap (λ (l : RunLimits). l.horizon) is_all.same_limits) (holds_of all task same) plan answer.task answer.within answer.valid of_task
    says_all Unreachable answer of_task = inl (unreachable_of_all all task same readable_all many_all goals answer, refl)
    says_all Exhausted answer of_task = inr (inl (exhausted_of_all all task same readable_all many_all goals answer, refl))
    says_all (Spent n) answer of_task =
        inr (inr (spent_of_all all task same readable_all many_all goals w.budget w.budget (record { in_reach = answer.in_reach; not_empty = answer.not_empty; all_of_it = refl }), ap spent_line answer.all_of_it))

  are_named : AreNamed held (task_words w) named.domain named.problem
  are_named = (named.domain_in, named.problem_in)

  task_in : IsPlanTask w.order limits w.scale named.domain named.problem task
  task_in = in_order w.order limits w.scale named.domain named.problem task named.task_of

  text_is : (found : Found) (planned : Bool) → Says task w.budget w.horizon found planned → IsSearchText w named.domain named.problem task (found_text found)
  text_is found true h = inl (task_in, h)
  text_is found false h = inr (searched_in w.order limits w.scale named.domain named.problem task named.task_of, h)

  written : (found : Found) (before now : Option (List ℕ)) (planned : Bool) → Says task w.budget w.horizon found planned → ((all : Task) → IsTask limits w.scale named.domain named.problem all → Says all w.budget w.horizon found planned) → TellsFound found before now planned → Searches held w before now planned
  written found before now true h k told =
      record {
        task = task;
        text = found_text found;
        domain = named.domain;
        problem = named.problem;
        are_named = are_named;
        task_of = task_in;
        plan = h;
        of_all = k;
        written = told.1;
      }
  written found before now false h k told = inl (record { task = task; line = found_text found; named = named; why = h; of_all = k; written = told.1 })

  pub searches : (found : Found) (before now : Option (List ℕ)) (planned : Bool) → IsAnswer task w.budget w.horizon found → IsFoundOfTask found → TellsFound found before now planned → Searches held w before now planned
  searches found before now planned answer of_task told =
      written found before now planned (subst (Says task w.budget w.horizon found) (sym told.0) (says found answer of_task))
      (λ all is. subst (Says all w.budget w.horizon found) (sym told.0) (says_all all is found answer of_task)) told

  pub stops : (found : Found) (before now : Option (List ℕ)) (stop : SearchStop) → IsAnswer task w.budget w.horizon found → IsFoundOfTask found → StopsTelling found before now stop → StopsSearch held w before now stop
  stops found before now stop answer of_task told =
      subst (StopsSearch held w before now) (sym told.0)
      (record {
        task = task;
        text = found_text found;
        domain = named.domain;
        problem = named.problem;
        are_named = are_named;
        is = text_is found (is_plan found) (says found answer of_task);
        part = told.1;
      })
