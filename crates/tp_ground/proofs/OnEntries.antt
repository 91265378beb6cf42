-- Entries of ':init' that cannot be numbered.
use Rattle.tp_task.specs.Tables.{Tables}
use Rattle.std.proofs.Common.{◌≡◌, ℤ, sym, subst}
use Rattle.tp_syntax_ast.specs.Terms.{atom_view}
use Rattle.tp_syntax_ast.specs.DomainViews.{initial_view}
use Rattle.tp_syntax_ast.specs.declared.term.Atom.{Atom}
use Rattle.tp_syntax_ast.specs.declared.problem.Initial.{Initial}
use Rattle.tp_syntax_ast.specs.declared.problem.Initial.TheVariants.{Holds, Fails, HasValue}
use Rattle.tp_ground_bindings.specs.Bindings.{Env, words_in}
use Rattle.tp_ground_bindings.specs.Views.{env_view}
use Rattle.tp_ground_bodies.specs.Mentions.{an_atom, a_fluent}
use Rattle.tp_ground.specs.Initially.{initial_in, of_initial}
use Rattle.tp_ground_bodies.specs.Lowered.{Overflows}
use Rattle.tp_ground_bindings.specs.declared.environment.Env.{Empty}
use Rattle.tp_ground_bindings.proofs.OnEnvironments.{empty_env}
use Rattle.tp_task.specs.declared.fault.GroundFault.{GroundFault}

module _ (a : Tables) (i : Initial) (f : Atom) where
  pub holds_stopped : (e : GroundFault) → i ≡ Holds f → Overflows a (an_atom (words_in (env_view Empty) (atom_view f))) e → Overflows a (of_initial (initial_in (initial_view i))) e
  holds_stopped e is h = subst (λ j. Overflows a (of_initial (initial_in (initial_view j))) e) (sym is) (subst (λ (env : Env). Overflows a (an_atom (words_in env (atom_view f))) e) empty_env h)

  pub fails_stopped : (e : GroundFault) → i ≡ Fails f → Overflows a (an_atom (words_in (env_view Empty) (atom_view f))) e → Overflows a (of_initial (initial_in (initial_view i))) e
  fails_stopped e is h = subst (λ j. Overflows a (of_initial (initial_in (initial_view j))) e) (sym is) (subst (λ (env : Env). Overflows a (an_atom (words_in env (atom_view f))) e) empty_env h)

  pub value_stopped : (n : ℤ) (e : GroundFault) → i ≡ HasValue f n → Overflows a (a_fluent (words_in (env_view Empty) (atom_view f))) e → Overflows a (of_initial (initial_in (initial_view i))) e
  value_stopped n e is h = subst (λ j. Overflows a (of_initial (initial_in (initial_view j))) e) (sym is) (subst (λ (env : Env). Overflows a (a_fluent (words_in env (atom_view f))) e) empty_env h)
