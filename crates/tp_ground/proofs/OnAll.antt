-- All ground actions of a problem as instances.
use Rattle.std.proofs.Common.{◌≡◌, ℕ, ◌≤◌, List, [], ◌∷◌, ◌++◌, length, map, Result, Ok, Err, IfOk, IfErr, OnOk, refl, sym, ap, ap₂, subst, ◌∙◌}
use Rattle.std.proofs.lemmas.List.{map-append, length-map}
use Rattle.std.proofs.lemmas.Simd.{map-map}
use Rattle.tp_syntax_ast.specs.Symbols.{Name}
use Rattle.tp_syntax_ast.specs.Actions as actions
use Rattle.tp_syntax_ast.specs.Domains.{Domain}
use Rattle.tp_syntax_ast.specs.Problems.{Problem}
use Rattle.tp_bounds.specs.RunLimits.{RunLimits}
use Rattle.tp_text.specs.declared.number.Scale.{Scale}
use Rattle.tp_task.specs.Words.{Words, firsts}
use Rattle.tp_task.specs.Tables.{CannotNumber}
use Rattle.tp_task.specs.declared.task.Task.{Task}
use Rattle.tp_task.specs.declared.fault.GroundFault.{GroundFault}
use Rattle.tp_task.specs.declared.fault.GroundFault.TheVariants as faults
use Rattle.tp_task.specs.declared.fault.TooManyKind.TheVariants as kinds
use Rattle.tp_ground_bindings.specs.Bindings.{Universe, bindings, universe_of}
use Rattle.tp_ground_bodies.specs.Written.{GroundAction, condition_in}
use Rattle.tp_ground_bodies.specs.Mentions.{Mentions, ◌then◌, of_condition, of_each}
use Rattle.tp_ground_bodies.proofs.OnLowered.{of_each-append}
use Rattle.tp_ground.specs.Initially.{initial_in, of_initial}
use Rattle.tp_ground.specs.Grounding.{ground_action, ground_actions, of_action, mentioned, IsTask, HasNoTask}
use Rattle.tp_ground.specs.Reached.{Instance, instances, action_of, of_instance, mentioned_of, IsTaskOf}
use Rattle.tp_ground.proofs.OnInstances.{bound_to, each_view}

module _ (u : Universe) where
  one_action : (a : actions.Action) (bs : List (List Name)) → map (action_of u) (map (bound_to a) bs) ≡ map (ground_action u a) bs
  one_action a [] = refl
  one_action a (b ∷ bs) = ap (λ (gs : List GroundAction). ground_action u a b ∷ gs) (one_action a bs)

  pub all_actions : (all : List actions.Action) → map (action_of u) (instances u all) ≡ ground_actions u all
  all_actions [] = refl
  all_actions (a ∷ all) =
      map-append (action_of u) (map (bound_to a) (bindings u a.parameters)) (instances u all)
      ∙ ap₂ (λ (xs ys : List GroundAction). xs ++ ys) (one_action a (bindings u a.parameters)) (all_actions all)

  all_mentions : (all : List actions.Action) → of_each (of_instance u) (instances u all) ≡ of_each (of_action u) all
  all_mentions [] = refl
  all_mentions (a ∷ all) =
      of_each-append (of_instance u) (map (bound_to a) (bindings u a.parameters)) (instances u all)
      ∙ ap₂ (λ (m n : Mentions). m then n) (sym (each_view (of_instance u) (bound_to a) (bindings u a.parameters))) (all_mentions all)

module _ (d : Domain) (p : Problem) (is : List Instance) (all : is ≡ instances (universe_of d p) d.actions) where
  abbrev u : Universe
  u = universe_of d p

  actions_are : map (action_of u) is ≡ ground_actions u d.actions
  actions_are = ap (map (action_of u)) all ∙ all_actions u d.actions

  same_mentions : mentioned_of d p is ≡ mentioned d p
  same_mentions =
      ap (λ (m : Mentions). of_each of_initial (map initial_in p.initial) then of_condition (condition_in u [] p.goal) then m)
      (ap (of_each (of_instance u)) all ∙ all_mentions u d.actions)

  pub as_many : length is ≡ length (ground_actions u d.actions)
  as_many = sym (length-map is (action_of u)) ∙ ap length actions_are

  pub is_task : (limits : RunLimits) (scale : Scale) (t : Task) → IsTaskOf limits scale d p is t → IsTask limits scale d p t
  is_task limits scale t h = record {
    same_limits = h.same_limits;
    same_scale = h.same_scale;
    atoms = h.atoms ∙ ap (λ (m : Mentions). firsts m.atoms) same_mentions;
    fluents = h.fluents ∙ ap (λ (m : Mentions). firsts m.fluents) same_mentions;
    names = h.names ∙ sym (map-map (λ (g : GroundAction). g.words) (action_of u) is) ∙ ap (map (λ (g : GroundAction). g.words)) actions_are;
    bodies = h.bodies ∙ sym (map-map (λ (g : GroundAction). g.body) (action_of u) is) ∙ ap (map (λ (g : GroundAction). g.body)) actions_are;
    goal = h.goal;
    initial_atoms = h.initial_atoms;
    initial_numbers = h.initial_numbers;
  }

  pub few_atoms : (limits : RunLimits) (scale : Scale) (t : Task) (n : ℕ) → IsTaskOf limits scale d p is t → length t.numbering.atoms ≤ n → length (firsts (mentioned d p).atoms) ≤ n
  few_atoms limits scale t n h le = subst (λ (ws : List Words). length ws ≤ n) (is_task limits scale t h).atoms le

  pub few_fluents : (limits : RunLimits) (scale : Scale) (t : Task) (n : ℕ) → IsTaskOf limits scale d p is t → length t.numbering.fluents ≤ n → length (firsts (mentioned d p).fluents) ≤ n
  few_fluents limits scale t n h le = subst (λ (ws : List Words). length ws ≤ n) (is_task limits scale t h).fluents le

  pub no_task : (limits : RunLimits) (e : GroundFault) → CannotNumber limits.atoms (firsts (mentioned_of d p is).atoms) (firsts (mentioned_of d p is).fluents) e → HasNoTask limits d p e
  no_task limits e h = by e (subst (λ (m : Mentions). CannotNumber limits.atoms (firsts m.atoms) (firsts m.fluents) e) same_mentions h)
    where
      by : (f : GroundFault) → CannotNumber limits.atoms (firsts (mentioned d p).atoms) (firsts (mentioned d p).fluents) f → HasNoTask limits d p f
      by faults.Memory k = tt
      by (faults.TooMany kinds.Atoms) k = k
      by (faults.TooMany kinds.Fluents) k = k
      by (faults.TooMany kinds.Objects) k = absurd k
      by (faults.TooMany kinds.Actions) k = absurd k
      by faults.Range k = absurd k

-- the instances of a problem's actions
pub all_of_problem : (d : Domain) (p : Problem) (u : Universe) (all : List actions.Action) (is : List Instance) → u ≡ universe_of d p → all ≡ d.actions → is ≡ instances u all → is ≡ instances (universe_of d p) d.actions
all_of_problem d p u all is same acts h = h ∙ ap₂ (λ (v : Universe) (as_ : List actions.Action). instances v as_) same acts

-- what follows from two facts of what was answered
pub both_ok : {A E : Type 0} (P Q : A → Type 0) (R : Type 0) (r : Result A E) → ((x : A) → P x → Q x → R) → IfOk r P → IfOk r Q → OnOk r R
both_ok P Q R (Ok x) f p q = f x p q
both_ok P Q R (Err e) f p q = tt

pub weaker_err : {A E : Type 0} (P Q : E → Type 0) (r : Result A E) → ((e : E) → P e → Q e) → IfErr r P → IfErr r Q
weaker_err P Q (Ok x) f h = tt
weaker_err P Q (Err e) f h = f e h
