use Rattle.std.proofs.Common.{sym, subst}
use Rattle.tp_search.specs.Sides.{AreSidesOf}
use Rattle.tp_search.proofs.rows.free_after.Goals as goal

pub returns : goal.returns
returns c = c.free_of.ensures (subst (AreSidesOf c.args.task.now c.args.action) (sym c.deref.ensures.value) c.in_ok-sides.ensures)
