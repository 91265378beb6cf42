use Rattle.std.proofs.Common.{◌≤◌, Bool, sym, subst, arith}
use Rattle.std.specs.List.{count_by}
use Rattle.tp_task.specs.Rounds.{after_round, acts_of_bodies, set_of}
use Rattle.tp_task.specs.Adding.{Adds, HasAdded}
use Rattle.tp_task.proofs.Adding.{round_adds, adds_trans, settles}
use Rattle.tp_task.proofs.rounds.settle.Goals as goal

pub returns-then-now-many-clause-adds : goal.returns-then-now-many-clause-adds
returns-then-now-many-clause-adds c = subst (λ ys. Adds (acts_of_bodies c.args.actions.now) c.args.reach.now ys) (sym c.round.ensures) (adds_trans _ c.args.reach.now c.loop-many.reach _ c.loop-many.invariant.adds (round_adds c.loop-many.reach c.args.actions.now))

pub returns-then-now-many-clause-settled : goal.returns-then-now-many-clause-settled
returns-then-now-many-clause-settled c =
    let few : count_by (λ (b : Bool). b) (after_round c.loop-many.reach c.args.actions.now) ≤ count_by (λ (b : Bool). b) c.loop-many.reach = subst (λ ys. count_by (λ (b : Bool). b) ys ≤ count_by (λ (b : Bool). b) c.loop-many.reach) c.round.ensures (omega (arith, c.count-now.ensures, c.loop-many.invariant.many)) in
    subst (λ ys. HasAdded (acts_of_bodies c.args.actions.now) (set_of ys)) (sym c.round.ensures) (settles c.args.reach.now c.loop-many.reach c.args.actions.now c.requires c.loop-many.auto.reach few)

pub loop-many-preserved : goal.loop-many-preserved
loop-many-preserved c = record {
  adds = subst (λ ys. Adds (acts_of_bodies c.args.actions.now) c.args.reach.now ys) (sym c.round.ensures) (adds_trans _ c.args.reach.now c.loop-many.reach _ c.loop-many.invariant.adds (round_adds c.loop-many.reach c.args.actions.now));
  many = c.count-now.ensures;
}
