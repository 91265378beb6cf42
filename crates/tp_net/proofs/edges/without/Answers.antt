use Rattle.std.proofs.Common.{◌≡◌, ◌≢◌, ◌<◌, ◌++◌, ◌∷◌, [], length, arith, rules}
use Rattle.std.proofs.lemmas.List.{get_or_default}
use Rattle.tp_bounds.specs.declared.Edge.TheVariants.{Own}
use Rattle.tp_net.specs.Graph.{arc_at}
use Rattle.tp_net.specs.Arcs.{name_at}
use Rattle.tp_net.proofs.Removals.{without_kept, without_gone, without_done}
use Rattle.tp_net.proofs.edges.without.Goals.{then-ne+in_ok-push+in_ok-push-2, else-ne}
use Rattle.tp_net.proofs.edges.without.Goals as goal

pub loop-k-preserved : goal.loop-k-preserved
loop-k-preserved c s a =
    let within : c.loop-k.k < length c.args.arcs.now = omega (arith, c.requires, c.loop-k-test.true) in
    let inside : c.loop-k.k < length c.args.names.now = c.loop-k-test.true in
    let before = c.loop-k.invariant s a in
    elim c.if-ne.branch [
      | then-ne+in_ok-push+in_ok-push-2 w ↦
          (let names : c.if-ne.left_names.items ≡ c.loop-k.left_names.items ++ name_at c.args.names.now c.loop-k.k ∷ [] = search (rules, get_or_default) in
          let arcs : c.if-ne.left_arcs.items ≡ c.loop-k.left_arcs.items ++ arc_at c.args.arcs.now c.loop-k.k ∷ [] = search (rules, get_or_default) in
          let ne : name_at c.args.names.now c.loop-k.k ≢ Own c.args.id = search (rules, get_or_default) in
          rw (names, arcs) (without_kept s c.args.names.now c.args.arcs.now c.args.id c.loop-k.k c.loop-k.left_names.items c.loop-k.left_arcs.items a within ne before))
      | else-ne w ↦
          (let gone : name_at c.args.names.now c.loop-k.k ≡ Own c.args.id = search (rules, get_or_default) in
          rw (w.left_names-is, w.left_arcs-is) (without_gone s c.args.names.now c.args.id c.loop-k.k c.loop-k.left_names.items c.loop-k.left_arcs.items gone before))
    ]

pub returns : goal.returns
returns c s a = without_done s c.args.names.now c.args.arcs.now c.args.id c.loop-k.k c.loop-k.left_names.items c.loop-k.left_arcs.items a (omega (arith, c.requires, c.loop-k-test.false, c.loop-k.auto.k-end)) (c.loop-k.invariant s a)
