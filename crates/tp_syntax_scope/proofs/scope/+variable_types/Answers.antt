use Rattle.std.proofs.Common.{sym, ◌∙◌}
use Rattle.tp_syntax_scope.proofs.OnScope.{in_levels}
use Rattle.tp_syntax_scope.proofs.scope.+variable_types.Goals as goal

pub returns-in-Some : goal.returns-in-Some
returns-in-Some t c = sym (in_levels c.args.name.now c.args.levels.now c.in-Inner.variables c.in-Inner.outer _ c.in-Inner.is c.in-Some.ensures)

pub returns-in-None : goal.returns-in-None
returns-in-None t c = c.variable_types.ensures ∙ sym (in_levels c.args.name.now c.args.levels.now c.in-Inner.variables c.in-Inner.outer _ c.in-Inner.is c.in-None.ensures)
