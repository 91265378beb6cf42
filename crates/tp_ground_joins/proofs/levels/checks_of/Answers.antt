use Rattle.std.proofs.Common.{map, sym, subst}
use Rattle.tp_syntax_ast.specs.Symbols.{typed_view}
use Rattle.tp_ground_joins.specs.Levels.{AreFair}
use Rattle.tp_ground_joins.proofs.OnLevels.{more_fair}
use Rattle.tp_ground_joins.proofs.levels.checks_of.Goals as goal

pub loop-one-preserved : goal.loop-one-preserved
loop-one-preserved c =
    let ps = map typed_view c.args.parameters.now in
    let p = c.in_ok-push_check.ensures in
    subst (AreFair ps c.args.statics.now c.args.many) (sym p.1)
    (more_fair ps c.args.statics.now c.args.many c.loop-one.checks.items p.0 c.loop-one.one-index c.one-item.result c.loop-one.invariant c.loop-one-test.true c.one-item.is p.2)
