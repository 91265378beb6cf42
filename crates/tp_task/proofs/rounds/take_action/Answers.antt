use Rattle.std.proofs.Common.{sym, subst}
use Rattle.tp_task.specs.Adding.{Adds}
use Rattle.tp_task.specs.Rounds.{acts_of_bodies}
use Rattle.tp_task.proofs.Adding.{action_adds, read_at}
use Rattle.tp_task.proofs.rounds.take_action.Goals as goal

pub returns-in-Some : goal.returns-in-Some
returns-in-Some c =
    subst (λ ys. Adds (acts_of_bodies c.args.actions.now) c.args.reach.now ys) (sym c.take_body.ensures)
    (action_adds c.args.reach.now c.args.actions.now c.args.action c.in-Some.body.now (read_at c.args.actions.now c.args.action c.in-Some.body.now c.in-Some.ensures.lookup.3.0 c.in-Some.ensures.lookup.1))
