use Rattle.std.proofs.Common.{ℕ, [], ap, subst, ◌∙◌}
use Rattle.tp_syntax_ast.specs.DomainViews.{domain_view, problem_view}
use Rattle.tp_ground_bindings.specs.Bindings.{Universe}
use Rattle.tp_ground_bindings.specs.Views.{universe_view}
use Rattle.tp_ground_bodies.specs.Lowered.{IsLowered}
use Rattle.tp_ground.proofs.OnTasks.{not_made}
use Rattle.tp_ground_named.specs.Named.{named_ends, written_ends, of_ends, HasNoTaskOf}
use Rattle.tp_ground_named.proofs.OnEnds.{no_beginning}
use Rattle.tp_ground_named.proofs.named.begun_over.Goals as goal

pub returns-clause-ok : goal.returns-clause-ok
returns-clause-ok c =
    let p = problem_view c.args.problem.now in
    record {
      of_universe = c.requires;
      none = c.new-numbering.result;
      empty = c.new-numbering.ensures ∙ ap (λ (n : ℕ). record { atoms = []; fluents = []; actions = []; most = n }) c.atoms.ensures;
      lowered = subst (λ (v : Universe). IsLowered named_ends c.new-numbering.result c.lower_problem.new.numbering c.in_ok-ends.ends (written_ends v p.initial p.goal) (of_ends v p.initial p.goal)) c.requires c.in_ok-ends.ensures;
    }

pub returns-in_err-ends-clause-err : goal.returns-in_err-ends-clause-err
returns-in_err-ends-clause-err c =
    let d = domain_view c.args.domain.now in
    let p = problem_view c.args.problem.now in
    not_made (HasNoTaskOf c.args.limits.now d p []) _ _ c.from_residual.ensures.1
    (no_beginning c.args.limits.now d p c.new-numbering.result (universe_view c.args.universe) _ c.requires
    (c.new-numbering.ensures ∙ ap (λ (n : ℕ). record { atoms = []; fluents = []; actions = []; most = n }) c.atoms.ensures)
    c.in_err-ends.ensures)
