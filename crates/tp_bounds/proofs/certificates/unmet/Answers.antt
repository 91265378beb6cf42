use Rattle.std.proofs.Common.{◌≡◌, map, rules, IsTrue, Some}
use Rattle.std.specs.FinMap.{get}
use Rattle.std.specs.Map.Iter.{deref_pair}
use Rattle.std.proofs.lemmas.Map.Iter.{iter_end}
use Rattle.std.proofs.lemmas.List.Elements.{All-push}
use Rattle.tp_bounds.specs.Schedule.{Meets}
use Rattle.tp_bounds.specs.Held.{held}
use Rattle.tp_bounds.specs.Certificates.{moments_of}
use Rattle.tp_bounds.proofs.HeldMaps.{item_held, each_held}
use Rattle.tp_bounds.proofs.certificates.unmet.Goals as goal

pub meets-requires : goal.meets-requires
meets-requires c =
    c.requires c.in-Some.id.now c.in-Some.bound.now
    (item_held c.args.bounds.now c.loop-id.yielded c.into_iter-id-iterator.result c.loop-id.id-iterator c.next.new.self c.next.result (c.in-Some.id, c.in-Some.bound) c.loop-id.yielded_by c.in-Some.is c.next.ensures.steps (cc) c.iter-id-items.ensures.ordered)

pub returns-then-not-meets : goal.returns-then-not-meets
returns-then-not-meets c =
    let in_map : get (held c.args.bounds.now.entries) c.in-Some.id.now ≡ Some c.in-Some.bound.now = item_held c.args.bounds.now c.loop-id.yielded c.into_iter-id-iterator.result c.loop-id.id-iterator c.next.new.self c.next.result (c.in-Some.id, c.in-Some.bound) c.loop-id.yielded_by c.in-Some.is c.next.ensures.steps (cc) c.iter-id-items.ensures.ordered in
    (c.in-Some.bound.now, in_map, λ met. (let yes = c.meets.ensures.1 met in let f : ⊥ = search rules in f))

pub loop-id-preserved : goal.loop-id-preserved
loop-id-preserved c =
    let yes : IsTrue c.meets.result = search rules in
    All-push (λ p. Meets (moments_of c.args.moments.now) p.1.now) c.loop-id.yielded (c.in-Some.id, c.in-Some.bound) c.loop-id.invariant (c.meets.ensures.0 yes)

pub returns : goal.returns
returns c =
    let all : map deref_pair c.loop-id.yielded ≡ c.args.bounds.now.entries = search (rules, iter_end) in
    each_held (Meets (moments_of c.args.moments.now)) c.args.bounds.now c.loop-id.yielded all c.loop-id.invariant
