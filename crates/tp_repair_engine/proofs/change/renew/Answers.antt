use Rattle.std.proofs.Common.{◌≡◌, ◌≢◌, ℕ, ◌+◌, length, refl, sym, ap, subst, ◌∙◌, arith, rules, w64}
use Rattle.std.proofs.lemmas.Int.{to_z-of_z}
use mir.Val.{SFits}
use Rattle.std.specs.Prelude.{Some, None, slice_index_or, pos}
use Rattle.tp_net.specs.Slacks.{JoinsPoints}
use Rattle.tp_repair_engine.specs.declared.engine.Engine.{Engine}
use Rattle.tp_repair_engine.specs.declared.store.Node.{Node}
use Rattle.tp_repair_engine.specs.declared.store.Store.{Store}
use Rattle.tp_repair_engine.specs.declared.store.Direction.{Direction}
use Rattle.tp_repair_engine.specs.declared.store.Direction.TheVariants.{Up, Down}
use Rattle.tp_repair_engine.specs.Store.{weighed, KeepsOthers, keys_of, near, one_at}
use Rattle.tp_repair_engine.proofs.Wires.{wired_store, wired_removed, leaving_met}
use Rattle.tp_repair_engine.proofs.Settled.{put_back}
use Rattle.tp_repair_engine.proofs.Changes.{heavy_start, heavy_exact}
use Rattle.tp_repair_engine.proofs.Held.{renewed_exact}
use Rattle.tp_repair_engine.proofs.change.renew.Goals as goal

pub solve-requires-clause-wired : goal.solve-requires-clause-wired
solve-requires-clause-wired c =
    let g : Engine = c.args.engine.now in
    let e = c.set_edge.ensures in
    (c.requires.solved.edges, wired_store (length g.low.items) c.requires.solved.edges g c.set_edge.new.store c.requires.solved.wired e.points e.halves_in e.halves_out e.degrees)

pub solve-requires-clause-lost_low : goal.solve-requires-clause-lost_low
solve-requires-clause-lost_low c =
    let g : Engine = c.args.engine.now in
    let old = g.store.nodes.slots in
    let mid = c.set_edge.new.store.nodes.slots in
    let may = c.requires.may in
    let n : Node = c.index-node.result.now in
    let m : Node = weighed n.name (pos 1_000_000_000_000) n in
    let met = leaving_met c.args.key c.args.amount g may n c.index-node.ensures g.low.items refl c.requires.solved.exact.least.solution in
    record {
      start = heavy_start old mid mid c.args.key m g.low.items c.args.amount (c.set_edge.ensures.here n c.index-node.ensures) c.set_edge.ensures.others met.0 refl c.requires.solved.low_fits may.positive may.amount_fits may.low;
      met = met;
      positive = may.positive;
      fits = omega (arith, may.amount_fits);
    }

pub solve-requires-clause-lost_high : goal.solve-requires-clause-lost_high
solve-requires-clause-lost_high c =
    let g : Engine = c.args.engine.now in
    let old = g.store.nodes.slots in
    let mid = c.set_edge.new.store.nodes.slots in
    let may = c.requires.may in
    let n : Node = c.index-node.result.now in
    let m : Node = weighed n.name (pos 1_000_000_000_000) n in
    let met = leaving_met c.args.key c.args.amount g may n c.index-node.ensures g.high.items c.requires.solved.exact.len c.requires.solved.exact.greatest.solution in
    record {
      start = heavy_start old mid mid c.args.key m g.high.items c.args.amount (c.set_edge.ensures.here n c.index-node.ensures) c.set_edge.ensures.others met.0 refl c.requires.solved.high_fits may.positive may.amount_fits may.high;
      met = met;
      positive = may.positive;
      fits = omega (arith, may.amount_fits);
    }

pub returns-in-Err-clause-err : goal.returns-in-Err-clause-err
returns-in-Err-clause-err c =
    let g : Engine = c.args.engine.now in
    let h : Engine = c.solve.new.engine in
    let e = c.set_edge.ensures in
    let f = c.set_edge-in-Err.ensures in
    let p = length g.low.items in
    let n : Node = c.index-node.result.now in
    let m : Node = weighed n.name (pos 1_000_000_000_000) n in
    let there : slice_index_or h.store.nodes.slots c.args.key None ≡ Some m = ap (λ (s : Store). slice_index_or s.nodes.slots c.args.key None) c.solve.ensures.store ∙ e.here n c.index-node.ensures in
    let stay : (k : ℕ) → k ≢ c.args.key → slice_index_or h.store.nodes.slots k None ≡ slice_index_or g.store.nodes.slots k None = λ k ne. (ap (λ (s : Store). slice_index_or s.nodes.slots k None) c.solve.ensures.store ∙ e.others k ne) in
    let fits : SFits w64 n.arc.weight = search rules in
    let again : slice_index_or c.set_edge-in-Err.new.store.nodes.slots c.args.key None ≡ Some (weighed n.name n.arc.weight m) = simp to_z-of_z at (f.here m there) in
    record {
      wired = λ edges w.
          (let w1 = wired_store p edges g c.set_edge.new.store w e.points e.halves_in e.halves_out e.degrees in
          wired_store p edges h c.set_edge-in-Err.new.store (c.solve.ensures.wired edges w1) f.points f.halves_in f.halves_out f.degrees);
      degrees = λ d y. f.degrees d y ∙ (ap (λ (s : Store). length (keys_of d s y)) c.solve.ensures.store ∙ e.degrees d y);
      edges = put_back c.args.key c.args.key g.store.nodes.slots c.set_edge-in-Err.new.store.nodes.slots n n (weighed n.name n.arc.weight m) (weighed n.name n.arc.weight m) c.index-node.ensures c.index-node.ensures again again refl refl refl refl
          (λ k ne _. f.others k ne ∙ stay k ne);
      low = c.in-Err.ensures.err_low;
      high = c.in-Err.ensures.err_high;
    }

weighed_near : (d : Direction) (n : Node) → near d (weighed n.name (pos 1_000_000_000_000) n).arc ≡ near d n.arc
weighed_near Up n = refl
weighed_near Down n = refl

pub returns-clause-ok : goal.returns-clause-ok
returns-clause-ok c =
    let g : Engine = c.args.engine.now in
    let h : Engine = c.solve.new.engine in
    let e = c.set_edge.ensures in
    let f = c.remove.ensures in
    let p = length g.low.items in
    let old = g.store.nodes.slots in
    let mid = c.set_edge.new.store.nodes.slots in
    let new = c.remove.new.store.nodes.slots in
    let n : Node = c.index-node.result.now in
    let m : Node = weighed n.name (pos 1_000_000_000_000) n in
    let both : Some c.requires.may.node ≡ Some n = sym c.requires.may.here ∙ c.index-node.ensures in
    let it : c.requires.may.node ≡ n = cc in
    let joins : JoinsPoints p n.arc = subst (λ (x : Node). JoinsPoints p x.arc) it c.requires.may.joins in
    let here = e.here n c.index-node.ensures in
    let there : slice_index_or h.store.nodes.slots c.args.key None ≡ Some m = ap (λ (s : Store). slice_index_or s.nodes.slots c.args.key None) c.solve.ensures.store ∙ here in
    let stay : (k : ℕ) → k ≢ c.args.key → slice_index_or h.store.nodes.slots k None ≡ slice_index_or old k None = λ k ne. (ap (λ (s : Store). slice_index_or s.nodes.slots k None) c.solve.ensures.store ∙ e.others k ne) in
    let keeps : KeepsOthers c.args.key mid new = subst (λ (s : Store). KeepsOthers c.args.key s.nodes.slots new) c.solve.ensures.store f.others in
    record {
      wired = λ edges w.
          (let w1 = wired_store p (edges + 1) g c.set_edge.new.store w e.points e.halves_in e.halves_out e.degrees in
          wired_removed p edges h c.remove.new.store m.arc joins (c.solve.ensures.wired (edges + 1) w1) f.points f.halves_in f.halves_out (f.degrees m there));
      gone = f.gone;
      fewer = λ x x_is d y.
          (let it : Some x ≡ Some n = sym x_is ∙ c.index-node.ensures in
          let x_n : x ≡ n = cc in
          subst (λ (z : Node). length (keys_of d c.remove.new.store y) + one_at (near d z.arc) y ≡ length (keys_of d g.store y)) (sym x_n)
          (subst (λ q. length (keys_of d c.remove.new.store y) + one_at q y ≡ length (keys_of d h.store y)) (weighed_near d n) (f.degrees m there d y) ∙ (ap (λ (s : Store). length (keys_of d s y)) c.solve.ensures.store ∙ e.degrees d y)));
      keeps = record {
        forth = λ k x ne is. f.others.forth k x ne (stay k ne ∙ is);
        back = λ k x ne is. (let y = f.others.back k x ne is in (y.0, sym (stay k ne) ∙ y.1, y.2, y.3));
      };
      exact = heavy_exact old mid new c.args.key m g.low.items c.args.amount here e.others joins refl c.requires.solved.low_fits c.requires.may.positive c.requires.may.amount_fits c.requires.may.low keeps f.gone h.low.items h.high.items
          (renewed_exact old mid c.args.key n g.low.items g.high.items h.low.items h.high.items c.requires.solved.exact c.index-node.ensures e.others c.in_default.ensures.lowered c.in_default.ensures.heightened);
    }

pub returns-clause-looks : goal.returns-clause-looks
returns-clause-looks c = λ edges w.
    let g : Engine = c.args.engine.now in
    let e = c.set_edge.ensures in
    c.in_default.ensures.looks edges (wired_store (length g.low.items) edges g c.set_edge.new.store w e.points e.halves_in e.halves_out e.degrees)
