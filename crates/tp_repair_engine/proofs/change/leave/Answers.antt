use Rattle.std.proofs.Common.{◌≡◌, ◌≢◌, ℕ, List, length, refl, sym, ap, subst, ◌∙◌, ◌⊎◌}
use Rattle.std.specs.Prelude.{All, Some, None, slice_index_or, ◌+ℤ◌, ◌<ℤ◌}
use Rattle.std.proofs.lemmas.Option.{none-some}
use Rattle.tp_net.specs.Graph.{moment}
use Rattle.tp_net.specs.Sizes.{IsSmall}
use Rattle.tp_net.specs.Slacks.{JoinsPoints}
use Rattle.tp_repair_engine.specs.declared.engine.Engine.{Engine}
use Rattle.tp_repair_engine.specs.declared.store.Node.{Node}
use Rattle.tp_repair_engine.specs.Potential.{IsMetBy}
use Rattle.tp_repair_engine.proofs.Wires.{wired_removed, wired_looks, high_small, leaving_met}
use Rattle.tp_repair_engine.proofs.Held.{loose_exact}
use Rattle.tp_repair_engine.proofs.change.leave.Goals as goal

pub holds_low-requires-clause-met : goal.holds_low-requires-clause-met
holds_low-requires-clause-met c =
    let g : Engine = c.args.engine.now in
    let n : Node = c.index-node.result.now in
    subst (λ (xs : List ℕ). IsMetBy xs n.arc) (sym c.deref.ensures.value)
    (leaving_met c.args.key c.args.amount g c.requires.may n c.index-node.ensures g.low.items refl c.requires.solved.exact.least.solution)

pub holds_high-requires-clause-small : goal.holds_high-requires-clause-small
holds_high-requires-clause-small c =
    let g : Engine = c.args.engine.now in
    subst (λ (xs : List ℕ). All IsSmall xs) (sym c.deref-else-holds_low.ensures.value) (high_small g c.requires.solved)

pub holds_high-requires-clause-met : goal.holds_high-requires-clause-met
holds_high-requires-clause-met c =
    let g : Engine = c.args.engine.now in
    let n : Node = c.index-node.result.now in
    subst (λ (xs : List ℕ). IsMetBy xs n.arc) (sym c.deref-else-holds_low.ensures.value)
    (leaving_met c.args.key c.args.amount g c.requires.may n c.index-node.ensures g.high.items c.requires.solved.exact.len c.requires.solved.exact.greatest.solution)

pub returns-clause-ok : goal.returns-clause-ok
returns-clause-ok c =
    let g : Engine = c.args.engine.now in
    let p = length g.low.items in
    let old = g.store.nodes.slots in
    let new = c.remove.new.store.nodes.slots in
    let key = c.args.key in
    let f = c.remove.ensures in
    let n : Node = c.index-node.result.now in
    let at = c.index-node.ensures in
    let both : Some c.requires.may.node ≡ Some n = sym c.requires.may.here ∙ at in
    let it : c.requires.may.node ≡ n = cc in
    let joins : JoinsPoints p n.arc = subst (λ (x : Node). JoinsPoints p x.arc) it c.requires.may.joins in
    let low : (n.arc.from ≡ 0) ⊎ (moment g.low.items n.arc.to <ℤ (moment g.low.items n.arc.from +ℤ n.arc.weight)) =
    subst (λ (xs : List ℕ). (n.arc.from ≡ 0) ⊎ (moment xs n.arc.to <ℤ (moment xs n.arc.from +ℤ n.arc.weight))) c.deref.ensures.value (c.holds_low.ensures.loose c.if-holds_low.false) in
    let high : (n.arc.to ≡ 0) ⊎ (moment g.high.items n.arc.to <ℤ (moment g.high.items n.arc.from +ℤ n.arc.weight)) =
    subst (λ (xs : List ℕ). (n.arc.to ≡ 0) ⊎ (moment xs n.arc.to <ℤ (moment xs n.arc.from +ℤ n.arc.weight))) c.deref-else-holds_low.ensures.value (c.holds_high.ensures.loose c.if-holds_high.false) in
    let same : (x : Node) → slice_index_or old key None ≡ Some x → n ≡ x = λ x is. (let h : Some n ≡ Some x = sym at ∙ is in let e : n ≡ x = cc in e) in
    record {
      wired = λ edges w. wired_looks p edges 1 g c.remove.new.store (wired_removed p edges g c.remove.new.store n.arc joins w f.points f.halves_in f.halves_out (f.degrees n at));
      gone = f.gone;
      keeps = f.others;
      fewer = f.degrees;
      exact = loose_exact old new key g.low.items g.high.items c.requires.solved.exact
          (λ k x ne is. (let h = f.others.forth k x ne is in (h.0, h.1, h.3)))
          (λ k m is.
          (let ne : k ≢ key = λ e. none-some m (sym f.gone ∙ (ap (λ j. slice_index_or new j None) (sym e) ∙ is)) in
          let h = f.others.back k m ne is in
          (h.0, h.1, h.3)))
          (λ x is. subst (λ (y : Node). (y.arc.from ≡ 0) ⊎ (moment g.low.items y.arc.to <ℤ (moment g.low.items y.arc.from +ℤ y.arc.weight))) (same x is) low)
          (λ x is. subst (λ (y : Node). (y.arc.to ≡ 0) ⊎ (moment g.high.items y.arc.to <ℤ (moment g.high.items y.arc.from +ℤ y.arc.weight))) (same x is) high);
    }
