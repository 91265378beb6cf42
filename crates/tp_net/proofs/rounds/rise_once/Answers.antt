use Rattle.std.proofs.Common.{subst, arith}
use Rattle.std.proofs.lemmas.List.{get_or_default}
use Rattle.tp_net.specs.Graph.{MeetsArc, arc_at, no_arc, moment}
use Rattle.tp_net.proofs.Settling.{known_small}
use Rattle.tp_net.proofs.rounds.rise_once.Goals as goal

pub lift-requires-clause-small : goal.lift-requires-clause-small
lift-requires-clause-small c =
    let joins = c.requires.known.among c.loop-arc.arc-index no_arc c.loop-arc-test.true in
    known_small c.args.arcs.now c.args.known.now c.loop-arc.low (omega arith) c.requires.known c.loop-arc.invariant.near (arc_at c.args.arcs.now c.loop-arc.arc-index).to (omega (arith, joins.1))

pub returns-clause-met : goal.returns-clause-met
returns-clause-met c = λ not k d within.
    subst (λ e. MeetsArc (moment c.loop-arc.low) e) (get_or_default c.args.arcs.now k no_arc d within) (c.loop-arc.invariant.met not k (omega (arith, within)))
