use Rattle.std.proofs.Common.{length, subst, arith}
use Rattle.std.proofs.lemmas.List.{get_or_default}
use Rattle.tp_net.specs.Graph.{MeetsArc, arc_at, no_arc, moment}
use Rattle.tp_net.specs.Slacks.{JoinsPoints}
use Rattle.tp_net.proofs.Settling.{known_room}
use Rattle.tp_net.proofs.rounds.fall_once.Goals as goal

pub cut-requires-clause-some : goal.cut-requires-clause-some
cut-requires-clause-some c =
    let arc = arc_at c.args.arcs.now c.loop-arc.arc-index in
    let known = c.requires.known.among c.loop-arc.arc-index no_arc c.loop-arc-test.true in
    let joins : JoinsPoints (length c.loop-arc.high) arc = (omega (arith, known.0), omega (arith, known.1)) in
    known_room c.args.arcs.now c.args.known.now c.loop-arc.high arc (omega arith) c.requires.known c.loop-arc.invariant.near joins (c.requires.known.solution.1 c.loop-arc.arc-index no_arc c.loop-arc-test.true)

pub returns-clause-met : goal.returns-clause-met
returns-clause-met c = λ not k d within.
    subst (λ e. MeetsArc (moment c.loop-arc.high) e) (get_or_default c.args.arcs.now k no_arc d within) (c.loop-arc.invariant.met not k (omega (arith, within)))
