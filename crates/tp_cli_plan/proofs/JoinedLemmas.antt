-- A plan that is proposed of the task that joins leave; and what is found of it where it is whole.
use Rattle.std.proofs.Common.{◌≡◌, ◌∙◌, ℕ, ◌≤◌, List, Option, Bool, false, length, inl, inr, refl, sym, ap, subst}
use Rattle.tp_bounds.specs.RunLimits.{RunLimits, greatest_limits}
use Rattle.tp_text.specs.declared.number.Scale.{Scale}
use Rattle.tp_syntax.specs.Domains.{Domain, SpellsDomain}
use Rattle.tp_syntax.specs.Problems.{Problem, SpellsProblem}
use Rattle.tp_ground.specs.Grounding.{IsTask}
use Rattle.tp_ground.specs.Reached.{Instance, IsTaskOf}
use Rattle.tp_ground_named.specs.Named.{chosen, words_of}
use Rattle.tp_ground_joins.specs.Joined.{IsJoinedTask}
use Rattle.tp_ground_laws.specs.SamePlans.{HaveSamePlans, HoldsPlans, some_of}
use Rattle.tp_ground_laws.specs.WholeTasks.{IsWholeTask}
use Rattle.tp_task.specs.Readable.{AreReadable}
use Rattle.tp_task.specs.Words.{Words, has_words}
use Rattle.tp_task.specs.declared.task.Task.{Task}
use Rattle.tp_happen.specs.tp_plan_text.PlanPrints.{PlansAreRead}
use Rattle.tp_validate.specs.Validated.{Validated}
use Rattle.tp_search.specs.Answers.{IsAnswer}
use Rattle.tp_search.specs.declared.found.Found.{Found}
use Rattle.tp_search.specs.declared.found.Found.TheVariants.{Plan, Unreachable, Exhausted, Spent}
use Rattle.tp_search.specs.tp_search_frontier.declared.fault.SearchFault.{SearchFault}
use Rattle.tp_solve.specs.Sought.{IsSought}
use Rattle.tp_solve.specs.declared.solving.Wishes.{Wishes}
use Rattle.tp_cli_inputs.specs.Named.{AreNamed}
use Rattle.tp_cli_plan.specs.FoundText.{IsFoundOfTask, IsPlanText, found_text, is_plan}
use Rattle.tp_cli_plan.specs.Searches.{IsPlanTask, IsSearched, Searches, WritesPlan, task_words}
use Rattle.tp_cli_plan.specs.SearchStops.{StopsSearch}
use Rattle.tp_cli_plan.specs.Telling.{StopsTelling, TellsFound}
use Rattle.tp_cli_plan.specs.declared.search_words.Order.{Order}
use Rattle.tp_cli_plan.specs.declared.search_words.Order.TheVariants.{Guided}
use Rattle.tp_cli_plan.specs.declared.search_words.SearchWords.{SearchWords}
use Rattle.tp_cli_plan.specs.declared.stops.SearchStop.{SearchStop}
use Rattle.tp_cli_plan.specs.declared.stops.SearchStop.TheVariants.{Searching}
use Rattle.tp_cli_plan.proofs.AnswerLemmas.{none_said, plan_said, plan_said_of_all}
use Rattle.tp_cli_plan.proofs.ReadBack.{AllAreReadable, as_many_of_all, as_many_of_some}

-- the words of chosen actions are names, by which each is found again; and the steps of some
-- actions are steps of all
abbrev pub ChosenAreReadable : Type 0
ChosenAreReadable =
    (text other : List ℕ) (d : Domain) (p : Problem) (limits : RunLimits) (scale : Scale) (asked : List Words) (t : Task) → SpellsDomain text d → SpellsProblem d other p → IsTaskOf limits scale d p (chosen d p asked) t → AreReadable t.numbering.actions

abbrev pub PlansOfSome : Type 0
PlansOfSome =
    (text other : List ℕ) (d : Domain) (p : Problem) (limits small : RunLimits) (scale : Scale) (those : Instance → Bool) (t u : Task) → SpellsDomain text d → SpellsProblem d other p → IsTask limits scale d p t → IsTaskOf small scale d p (some_of d p those) u → HoldsPlans t u

-- a task that has each action that a valid plan may have has the plans of all
abbrev pub PlansOfWhole : Type 0
PlansOfWhole =
    (text other : List ℕ) (d : Domain) (p : Problem) (limits small : RunLimits) (scale : Scale) (t u : Task) → SpellsDomain text d → SpellsProblem d other p → IsTask limits scale d p t → IsWholeTask small scale d p u → HaveSamePlans t u

module _ (read : PlansAreRead) (all_readable : AllAreReadable) (chosen_readable : ChosenAreReadable) (some_plans : PlansOfSome) (held : List ℕ → Option (List ℕ)) (w : SearchWords) (wishes : Wishes) (task : Task) (within : w.horizon ≤ 1000000000) (order : w.order ≡ Guided wishes) (d : Domain) (p : Problem) (are : AreNamed held (task_words w) d p) (joined : IsJoinedTask (greatest_limits w.horizon) w.scale d p task) where
  abbrev limits : RunLimits
  limits = greatest_limits w.horizon

  readable_here : AreReadable task.numbering.actions
  readable_here = chosen_readable are.0.0 are.1.0 d p limits w.scale joined.asked task are.0.2 are.1.2 joined.task

  many_here : length task.actions.items ≡ length task.numbering.actions
  many_here = as_many_of_some limits w.scale d p task (chosen d p joined.asked) joined.task

  limit_here : task.limits.horizon ≡ w.horizon
  limit_here = ap (λ (l : RunLimits). l.horizon) joined.task.same_limits

  said : (plan : Validated) → IsSought task w.horizon plan → IsFoundOfTask (Plan plan) → IsPlanText task w.horizon (found_text (Plan plan))
  said plan sought of_task = plan_said read task w.horizon within readable_here many_here limit_here plan sought.0 sought.1 sought.2 of_task

  said_of_all : (all : Task) → IsTask limits w.scale d p all → (plan : Validated) → IsSought task w.horizon plan → IsFoundOfTask (Plan plan) → IsPlanText all w.horizon (found_text (Plan plan))
  said_of_all all is_all plan sought of_task =
      plan_said_of_all read task w.horizon within readable_here many_here limit_here all
      (all_readable are.0.0 are.1.0 d p limits w.scale all are.0.2 are.1.2 is_all)
      (as_many_of_all limits w.scale d p all is_all)
      (ap (λ (l : RunLimits). l.horizon) is_all.same_limits)
      (some_plans are.0.0 are.1.0 d p limits limits w.scale (λ (i : Instance). has_words joined.asked (words_of i)) all task are.0.2 are.1.2 is_all joined.task)
      plan sought.0 sought.1 sought.2 of_task

  task_in : IsPlanTask w.order limits w.scale d p task
  task_in = subst (λ (o : Order). IsPlanTask o limits w.scale d p task) (sym order) (inr joined)

  pub proposed : (plan : Validated) (before now : Option (List ℕ)) (planned : Bool) → IsSought task w.horizon plan → IsFoundOfTask (Plan plan) → TellsFound (Plan plan) before now planned → WritesPlan held w before now
  proposed plan before now planned sought of_task told =
      record {
        task = task;
        text = found_text (Plan plan);
        domain = d;
        problem = p;
        are_named = are;
        task_of = task_in;
        plan = said plan sought of_task;
        of_all = λ all is. said_of_all all is plan sought of_task;
        written = told.1;
      }

  pub proposal_stops : (plan : Validated) (before now : Option (List ℕ)) (stop : SearchStop) → IsSought task w.horizon plan → IsFoundOfTask (Plan plan) → StopsTelling (Plan plan) before now stop → StopsSearch held w before now stop
  proposal_stops plan before now stop sought of_task told =
      subst (StopsSearch held w before now) (sym told.0)
      (record {
        task = task;
        text = found_text (Plan plan);
        domain = d;
        problem = p;
        are_named = are;
        is = inl (task_in, said plan sought of_task);
        part = told.1;
      })

  module _ (whole_plans : PlansOfWhole) (whole : IsWholeTask (greatest_limits w.horizon) w.scale d p task) where
    searched : IsSearched w.order limits w.scale d p task
    searched = subst (λ (o : Order). IsSearched o limits w.scale d p task) (sym order) (inr whole)

    none : (found : Found) (before now : Option (List ℕ)) (planned : Bool) → is_plan found ≡ false → IsAnswer task w.budget w.horizon found → TellsFound found before now planned → Searches held w before now planned
    none found before now planned is_none answer told =
        subst (Searches held w before now) (sym (told.0 ∙ is_none))
        (inr (record {
          wishes = wishes;
          order = order;
          task = task;
          line = found_text found;
          domain = d;
          problem = p;
          are_named = are;
          task_of = whole;
          why = none_said task w.budget w.horizon found answer is_none;
          of_all = λ all is. whole_plans are.0.0 are.1.0 d p limits limits w.scale all task are.0.2 are.1.2 is whole;
          written = told.1;
        }))

    pub searches : (found : Found) (before now : Option (List ℕ)) (planned : Bool) → IsAnswer task w.budget w.horizon found → IsFoundOfTask found → TellsFound found before now planned → Searches held w before now planned
    searches (Plan plan) before now planned answer of_task told =
        subst (Searches held w before now) (sym told.0) (proposed plan before now planned (answer.task, answer.within, answer.valid) of_task told)
    searches Unreachable before now planned answer of_task told = none Unreachable before now planned refl answer told
    searches Exhausted before now planned answer of_task told = none Exhausted before now planned refl answer told
    searches (Spent n) before now planned answer of_task told = none (Spent n) before now planned refl answer told

    none_stops : (found : Found) (before now : Option (List ℕ)) (stop : SearchStop) → is_plan found ≡ false → IsAnswer task w.budget w.horizon found → StopsTelling found before now stop → StopsSearch held w before now stop
    none_stops found before now stop is_none answer told =
        subst (StopsSearch held w before now) (sym told.0)
        (record {
          task = task;
          text = found_text found;
          domain = d;
          problem = p;
          are_named = are;
          is = inr (searched, none_said task w.budget w.horizon found answer is_none);
          part = told.1;
        })

    pub stops : (found : Found) (before now : Option (List ℕ)) (stop : SearchStop) → IsAnswer task w.budget w.horizon found → IsFoundOfTask found → StopsTelling found before now stop → StopsSearch held w before now stop
    stops (Plan plan) before now stop answer of_task told = proposal_stops plan before now stop (answer.task, answer.within, answer.valid) of_task told
    stops Unreachable before now stop answer of_task told = none_stops Unreachable before now stop refl answer told
    stops Exhausted before now stop answer of_task told = none_stops Exhausted before now stop refl answer told
    stops (Spent n) before now stop answer of_task told = none_stops (Spent n) before now stop refl answer told

    pub no_answer : (before : Option (List ℕ)) (fault : SearchFault) → StopsSearch held w before before (Searching fault)
    no_answer before fault = ((task, d, p, are, searched), refl)
