use Rattle.std.proofs.Common.{◌≡◌, length, nat_eq, true, rules, refl, sym, ap, ◌∙◌}
use Rattle.tp_syntax_ast.specs.Terms.{shapes}
use Rattle.tp_syntax_ast.specs.DomainViews.{domain_view}
use Rattle.tp_syntax_ast.specs.Domains.{objects_in}
use Rattle.tp_syntax.proofs.OnProblems.{beside_no_constants}
use Rattle.tp_syntax.proofs.problem.new_objects.Goals as goal

pub returns-then-is_empty : goal.returns-then-is_empty
returns-then-is_empty c =
    let none : nat_eq (length c.args.domain.now.constants.items) 0 ≡ true = search rules in
    beside_no_constants (domain_view c.args.domain.now) c.args.domain.now.constants.items (shapes c.args.trees.now) _ none refl (ap (λ ts. objects_in ts (shapes c.args.trees.now)) (sym c.requires) ∙ c.in_ok-objects.ensures)
