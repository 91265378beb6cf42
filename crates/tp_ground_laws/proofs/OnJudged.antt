-- Two tasks of one problem judge the same steps alike.
use Rattle.std.proofs.Common.{◌≡◌, ℕ, List, [], map, ◌↔◌, sym, ap, ◌∙◌, subst}
use Rattle.tp_text.specs.declared.number.Scale.{Scale}
use Rattle.tp_text.specs.Scales.{scale_ticks}
use Rattle.tp_syntax_ast.specs.Domains.{Domain}
use Rattle.tp_syntax_ast.specs.Problems.{Problem}
use Rattle.tp_task.specs.Bounds.{In}
use Rattle.tp_task.specs.State.{State, holds}
use Rattle.tp_task.specs.Valid.{events}
use Rattle.tp_task.specs.Verdict.{states, fault_at, last_moment}
use Rattle.tp_task.specs.declared.task.Task.{Task}
use Rattle.tp_happen.specs.tp_plan_text.declared.plans.Step.{Step}
use Rattle.tp_validate.specs.Answers.{IsFirst}
use Rattle.tp_validate.specs.Found.{told}
use Rattle.tp_validate.specs.OfTask.{IsOfTask, IsValidPlan, scale_of, begin, plan_of}
use Rattle.tp_validate.specs.declared.ticks.Fault as code
use Rattle.tp_ground.specs.Bindings.{universe_of}
use Rattle.tp_ground.specs.Initially.{initial_in}
use Rattle.tp_ground.specs.Reached.{Instance, instances}
use Rattle.tp_ground.specs.Written.{GroundCondition, condition_in}
use Rattle.tp_ground_laws.specs.SamePlans.{AreSameSteps}
use Rattle.tp_ground_laws.proofs.ByWords.{WordState, Acted, holds_in, parts, run, IsValidByWords}
use Rattle.tp_ground_laws.proofs.FaultsByWords.{fault_by_words, last_part}
use Rattle.tp_ground_laws.proofs.OnEffects.{IsWorded}
use Rattle.tp_ground_laws.proofs.OnFaults.{fault_worded, goal_worded, last_worded, first_same}
use Rattle.tp_ground_laws.proofs.OnRuns.{named_planned, named_placed, AreWorded, parts_named}
use Rattle.tp_ground_laws.proofs.OnSame.{AreTold, same_acts}
use Rattle.tp_ground_laws.proofs.OnSteps.{acts_of, all_parts, bodies_of, bodies_worded, initially, IsTaskFor, begins, steps_named, valid_by_words}

module _ (scale : Scale) (d : Domain) (p : Problem) (is : List Instance) (t : Task) (k : IsTaskFor scale d p is t) (ms : List Step) where
  abbrev first : WordState
  first = initially (map initial_in p.initial)

  abbrev acts : List Acted
  acts = acts_of (bodies_of (universe_of d p) is) ms

  pub named_worded : AreWorded (map (named_placed t.numbering) (events (plan_of t ms)))
  named_worded =
      subst AreWorded (sym (parts_named t.numbering 0 (plan_of t ms)))
      (subst (λ (ps : List Acted). AreWorded (parts ps)) (sym (steps_named scale d p is t k ms)) (all_parts IsWorded (bodies_of (universe_of d p) is) (bodies_worded (universe_of d p) is) ms))

  fault_said : (m : ℕ) → fault_at (scale_of t) (begin t) (plan_of t ms) m ≡ fault_by_words (scale_ticks scale) first acts m
  fault_said m =
      ap (λ (z : State). fault_at (scale_of t) z (plan_of t ms) m) (begins scale d p is t k)
      ∙ fault_worded t.numbering k.distinct (scale_of t) (plan_of t ms) named_worded first m
      ∙ ap (λ (ps : List Acted). fault_by_words (scale_of t) first ps m) (steps_named scale d p is t k ms)
      ∙ ap (λ (x : Scale). fault_by_words (scale_ticks x) first acts m) k.same_scale

  goal_said : (m : ℕ) → holds (states (scale_of t) (begin t) (events (plan_of t ms)) m) t.goal ≡ holds_in (run (scale_ticks scale) first (parts acts) m) (condition_in (universe_of d p) [] p.goal)
  goal_said m =
      ap (λ (z : State). holds (states (scale_of t) z (events (plan_of t ms)) m) t.goal) (begins scale d p is t k)
      ∙ goal_worded t.numbering k.distinct (scale_of t) (plan_of t ms) named_worded first t.goal m
      ∙ ap (λ (g : GroundCondition). holds_in (run (scale_of t) first (parts (map (named_planned t.numbering) (plan_of t ms))) m) g) k.goal
      ∙ ap (λ (ps : List Acted). holds_in (run (scale_of t) first (parts ps) m) (condition_in (universe_of d p) [] p.goal)) (steps_named scale d p is t k ms)
      ∙ ap (λ (x : Scale). holds_in (run (scale_ticks x) first (parts acts) m) (condition_in (universe_of d p) [] p.goal)) k.same_scale

  last_said : last_moment (events (plan_of t ms)) ≡ last_part (parts acts)
  last_said = last_worded t.numbering (plan_of t ms) ∙ ap (λ (ps : List Acted). last_part (parts ps)) (steps_named scale d p is t k ms)

module _ (scale : Scale) (d : Domain) (p : Problem) (told' : AreTold scale d p) (is js : List Instance) (in_is : (x : Instance) → In x is → In x (instances (universe_of d p) d.actions)) (in_js : (x : Instance) → In x js → In x (instances (universe_of d p) d.actions)) (t v : Task) (k : IsTaskFor scale d p is t) (l : IsTaskFor scale d p js v) (ms ns : List Step) (h : IsOfTask t ms) (g : IsOfTask v ns) (e : AreSameSteps t v ms ns) where
  same : acts_of (bodies_of (universe_of d p) is) ms ≡ acts_of (bodies_of (universe_of d p) js) ns
  same = same_acts scale d p told' is js in_is in_js t v k l ms ns h g e

  pub same_validity : IsValidPlan t ms ↔ IsValidPlan v ns
  same_validity =
      let a = valid_by_words scale d p is t k ms in
      let b = valid_by_words scale d p js v l ns in
      let valid : List Acted → Type 0 = λ ps. IsValidByWords (scale_ticks scale) (initially (map initial_in p.initial)) (condition_in (universe_of d p) [] p.goal) ps in
      (λ w. b.1 (subst valid same (a.0 w)), λ w. a.1 (subst valid (sym same) (b.0 w)))

  pub same_first : (tick : ℕ) (why : code.Fault) → IsFirst t ms tick why → IsFirst v ns tick why
  same_first tick why first_is =
      let s = initially (map initial_in p.initial) in
      first_same (scale_of t) (scale_of v) (begin t) (begin v) t.goal v.goal (plan_of t ms) (plan_of v ns)
      (λ m. fault_said scale d p is t k ms m ∙ ap (λ (ps : List Acted). fault_by_words (scale_ticks scale) s ps m) same ∙ sym (fault_said scale d p js v l ns m))
      (last_said scale d p is t k ms ∙ ap (λ (ps : List Acted). last_part (parts ps)) same ∙ sym (last_said scale d p js v l ns))
      (λ m. goal_said scale d p is t k ms m ∙ ap (λ (ps : List Acted). holds_in (run (scale_ticks scale) s (parts ps) m) (condition_in (universe_of d p) [] p.goal)) same ∙ sym (goal_said scale d p js v l ns m))
      tick (told why) first_is
