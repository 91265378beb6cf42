use Rattle.std.proofs.Common.{refl, get_or, subst, length, rules, w64}
use Rattle.std.proofs.lemmas.Int.{to_z-of_z}
use mir.Val.{SFits}
use Rattle.tp_net.specs.Graph.{MeetsArc, moment}
use Rattle.tp_net.specs.Moments.{IsRaised}
use Rattle.tp_net.proofs.Additions.{least_stays, greatest_stays}
use Rattle.tp_net.proofs.moments.add.Goals as goal

pub returns-then-is_met-2 : goal.returns-then-is_met-2
returns-then-is_met-2 c =
    let f : SFits w64 c.args.new.weight = search rules in
    let met_low : MeetsArc (moment c.args.low.now) c.args.new = search (rules, to_z-of_z) in
    let met_high : MeetsArc (moment c.args.high.now) c.args.new = search (rules, to_z-of_z) in
    rw (c.in_ok-same_low.ensures.items, c.in_ok-same_high.ensures.items)
    ((
      refl,
      record {
        len = c.requires.exact.len;
        least = least_stays c.args.arcs.now c.args.new c.args.low.now met_low c.requires.exact.least;
        greatest = greatest_stays c.args.arcs.now c.args.new c.args.high.now met_high c.requires.exact.greatest;
      },
    ))

pub lower-requires-clause-solution : goal.lower-requires-clause-solution
lower-requires-clause-solution c = ((λ x. get_or c.in-Consistent.new_low.items x 0), (subst (λ r. IsRaised c.args.arcs.now c.args.new (length c.args.low.now) r) c.in-Consistent.is c.in_ok-cycle.ensures).1.solution)
