use Rattle.tp_syntax_scope.specs.ScopeViews.{symbols_of}
use Rattle.tp_syntax_scope.proofs.OnScope.{over_inside}
use Rattle.tp_syntax_scope.proofs.levels.Scope.inside.Goals as goal

pub invariant_of-result : goal.invariant_of-result
invariant_of-result c = record { over = over_inside (symbols_of c.args.self.now) c.args.variables _ c.requires c.args.self.now.over }
