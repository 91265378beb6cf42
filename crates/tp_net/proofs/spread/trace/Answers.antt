use Rattle.std.proofs.Common.{◌≡◌, ◌<◌, length, get_or, subst, sym, arith, [], ◌∷◌, ◌++◌, ◌∙◌}
use Rattle.std.proofs.lemmas.List.{get_or_default}
use Rattle.tp_net.specs.Links.{link_at}
use Rattle.tp_net.proofs.Spreads.{something_within}
use Rattle.tp_net.proofs.Traces.{IsTracing, traced_more}
use Rattle.tp_net.proofs.spread.trace.Goals as goal

pub loop-point-preserved : goal.loop-point-preserved
loop-point-preserved c =
    let links = c.args.links.now in
    let s = c.args.spreads.now in
    let amounts = s.amounts.items in
    let ranks = s.ranks.items in
    let parents = s.parents.items in
    let point = c.loop-point.point in
    let path = c.loop-point.path.items in
    let index = c.index-index.result.now in
    let within : point < length parents = (let n = something_within amounts point c.loop-point.invariant.positive in let l : length parents ≡ length amounts = c.requires.spread.parents_len in omega arith) in
    let e : index ≡ get_or parents point 0 = c.index-index.ensures ∙ get_or_default parents point index 0 within in
    let more = traced_more links c.args.seed (get_or amounts c.args.seed 0) c.args.target point amounts ranks parents path c.requires.spread c.loop-point.invariant c.loop-point-test.true in
    let more' = subst (λ k. IsTracing links c.args.seed c.args.target (link_at links k).to amounts ranks (path ++ k ∷ [])) (sym e) more in
    subst (λ p. IsTracing links c.args.seed c.args.target (link_at links index).to amounts ranks p) (sym c.in_ok-push.ensures.items) more'
