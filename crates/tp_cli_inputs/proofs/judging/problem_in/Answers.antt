use Rattle.std.proofs.Common.{ℕ, List, subst, string_bytes}
use Rattle.tp_syntax_ast.specs.Problems.{IsRefusedProblem}
use Rattle.tp_syntax.specs.DomainViews.{domain_view}
use Rattle.tp_cli_inputs.proofs.judging.problem_in.Goals as goal

pub returns-in-Ok-clause-cause : goal.returns-in-Ok-clause-cause
returns-in-Ok-clause-cause g c =
    λ spelled. (
      domain_view c.args.domain.now,
      spelled,
      (
        string_bytes c.in-Ok.text,
        c.in-Ok.ensures.text,
        subst (λ (t : List ℕ). IsRefusedProblem (domain_view c.args.domain.now) t c.in-Err-read_problem.fault) c.as_str.ensures.value c.in-Err-read_problem.ensures.refused,
      ),
    )
