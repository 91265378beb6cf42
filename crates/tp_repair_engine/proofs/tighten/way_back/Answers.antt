use Rattle.std.proofs.Common.{◌≡◌, ℕ, ◌<◌, List, length, get_or, subst, sym, arith, [], ◌∷◌, ◌++◌, ◌∙◌, ap}
use Rattle.tp_net.specs.declared.spread.Link.{Link}
use Rattle.std.proofs.lemmas.List.{get_or_default}
use Rattle.tp_repair_engine.specs.declared.store.Direction.TheVariants.{Up}
use Rattle.tp_repair_engine.specs.Flow.{links_of}
use Rattle.std.specs.Prelude.{All}
use Rattle.std.proofs.lemmas.List.Elements.{All-push}
use Rattle.tp_repair_engine.specs.Store.{arcs_of, HasNode}
use Rattle.tp_net.specs.Links.{link_at}
use Rattle.tp_repair_engine.proofs.Repairs.{links_at, links_len}
use Rattle.tp_net.proofs.Spreads.{something_within}
use Rattle.tp_net.proofs.Traces.{IsTracing, traced_more, parent, falls}
use Rattle.tp_repair_engine.proofs.tighten.way_back.Goals as goal

pub loop-point-preserved : goal.loop-point-preserved
loop-point-preserved c =
    let arcs = arcs_of c.args.potential.now.store.now.nodes.slots in
    let m : ℕ → ℕ = λ x. get_or c.args.potential.now.moments.now x 0 in
    let links = links_of Up m arcs in
    let w = c.args.work.now in
    let amounts = w.amounts.items in
    let ranks = w.ranks.items in
    let parents = w.parents.items in
    let point = c.loop-point.point in
    let path = c.loop-point.path.items in
    let key = c.index-key.result.now in
    let within : point < length parents = (let n = something_within amounts point c.loop-point.invariant.tracing.positive in let l : length parents ≡ length amounts = c.requires.spread.parents_len in omega arith) in
    let e : key ≡ get_or parents point 0 = c.index-key.ensures ∙ get_or_default parents point key 0 within in
    let more = traced_more links c.args.seed (get_or amounts c.args.seed 0) c.args.target point amounts ranks parents path c.requires.spread c.loop-point.invariant.tracing c.loop-point-test.true in
    let more' = subst (λ k. IsTracing links c.args.seed c.args.target (link_at links k).to amounts ranks (path ++ k ∷ [])) (sym e) more in
    let par = parent links c.args.seed (get_or amounts c.args.seed 0) c.args.target point amounts ranks parents path c.requires.spread c.loop-point.invariant.tracing c.loop-point-test.true in
    let inside : key < length arcs = omega (arith, e, par.within, links_len Up m arcs) in
    let ends = ap (λ (l : Link). l.to) (links_at Up m arcs key inside) ∙ sym c.end_of-point.ensures in
    let node : HasNode c.args.potential.now.store.now.nodes.slots key = subst (λ k. HasNode c.args.potential.now.store.now.nodes.slots k) (sym e) (c.requires.parents point c.loop-point-test.true c.loop-point.invariant.tracing.positive) in
    record {
      tracing = subst (λ z. IsTracing links c.args.seed c.args.target z amounts ranks c.push.new.self.items) ends
          (subst (λ p. IsTracing links c.args.seed c.args.target (link_at links key).to amounts ranks p) (sym c.in_ok-push.ensures.items) more');
      there = subst (λ (ks : List ℕ). All (HasNode c.args.potential.now.store.now.nodes.slots) ks) (sym c.in_ok-push.ensures.items) (All-push (HasNode c.args.potential.now.store.now.nodes.slots) path key c.loop-point.invariant.there node);
    }

pub loop-point-smaller : goal.loop-point-smaller
loop-point-smaller c =
    let arcs = arcs_of c.args.potential.now.store.now.nodes.slots in
    let m : ℕ → ℕ = λ x. get_or c.args.potential.now.moments.now x 0 in
    let links = links_of Up m arcs in
    let w = c.args.work.now in
    let amounts = w.amounts.items in
    let ranks = w.ranks.items in
    let parents = w.parents.items in
    let point = c.loop-point.point in
    let path = c.loop-point.path.items in
    let key = c.index-key.result.now in
    let within : point < length parents = (let n = something_within amounts point c.loop-point.invariant.tracing.positive in let l : length parents ≡ length amounts = c.requires.spread.parents_len in omega arith) in
    let e : key ≡ get_or parents point 0 = c.index-key.ensures ∙ get_or_default parents point key 0 within in
    let par = parent links c.args.seed (get_or amounts c.args.seed 0) c.args.target point amounts ranks parents path c.requires.spread c.loop-point.invariant.tracing c.loop-point-test.true in
    let less = falls links c.args.seed (get_or amounts c.args.seed 0) c.args.target point amounts ranks parents path c.requires.spread c.loop-point.invariant.tracing c.loop-point-test.true in
    let inside : key < length arcs = omega (arith, e, par.within, links_len Up m arcs) in
    let ends : (link_at links key).to ≡ c.end_of-point.result = ap (λ (l : Link). l.to) (links_at Up m arcs key inside) ∙ sym c.end_of-point.ensures in
    let at : get_or ranks c.end_of-point.result 0 ≡ get_or ranks (link_at links (get_or parents point 0)).to 0 = ap (λ z. get_or ranks z 0) (sym ends ∙ ap (λ k. (link_at links k).to) e) in
    omega (arith, at, less)
