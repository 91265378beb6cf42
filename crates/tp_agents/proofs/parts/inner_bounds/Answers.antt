use Rattle.std.proofs.Common.{◌≡◌, ℕ, List, length, map, Some, None, sym, ap, subst, ◌∙◌}
use Rattle.std.specs.List.{filter_map}
use Rattle.std.specs.Map.{values_of}
use Rattle.std.specs.Map.Iter.{deref}
use Rattle.std.specs.FinMap.{values}
use Rattle.tp_bounds.specs.declared.Bound.{Bound}
use Rattle.tp_bounds.specs.Nets.{IsPointOf}
use Rattle.tp_bounds.specs.Lawful.{Suits}
use Rattle.tp_agents.specs.Parts.{inner_of}
use Rattle.tp_agents.proofs.Inner.{item_among, items_all, item_suits, point_of, given_some, given_none}
use Rattle.tp_agents.proofs.parts.inner_bounds.Goals as goal

pub inner-requires-clause-from : goal.inner-requires-clause-from
inner-requires-clause-from c =
    let s = c.args.split.now.setting in
    let start : c.into_iter-bound-iterator.result ≡ values s.bounds = c.into_iter-bound-iterator.ensures.into_iter_gives ∙ (c.values-bound-items.ensures.rest ∙ ap (λ (es : List (ℕ × Bound)). values_of es) (sym c.in_force.ensures.entries)) in
    let suits : Suits s c.in-Some.bound.now = item_suits s c.events-events.ensures.lawful c.in-Some.bound.now (item_among (values s.bounds) c.loop-bound.yielded c.into_iter-bound-iterator.result c.loop-bound.bound-iterator c.next.new.self c.next.result c.in-Some.bound start c.loop-bound.yielded_by c.in-Some.is c.next.ensures.steps) in
    subst (λ (l : List ℕ). IsPointOf (length l) c.in-Some.bound.now.from) (sym c.deref-in-loop-bound.ensures.value) (point_of s (length c.args.split.now.owners.items) c.in-Some.bound.now.from c.args.split.now.split.owned.count suits.from)

pub inner-requires-clause-to : goal.inner-requires-clause-to
inner-requires-clause-to c =
    let s = c.args.split.now.setting in
    let start : c.into_iter-bound-iterator.result ≡ values s.bounds = c.into_iter-bound-iterator.ensures.into_iter_gives ∙ (c.values-bound-items.ensures.rest ∙ ap (λ (es : List (ℕ × Bound)). values_of es) (sym c.in_force.ensures.entries)) in
    let suits : Suits s c.in-Some.bound.now = item_suits s c.events-events.ensures.lawful c.in-Some.bound.now (item_among (values s.bounds) c.loop-bound.yielded c.into_iter-bound-iterator.result c.loop-bound.bound-iterator c.next.new.self c.next.result c.in-Some.bound start c.loop-bound.yielded_by c.in-Some.is c.next.ensures.steps) in
    subst (λ (l : List ℕ). IsPointOf (length l) c.in-Some.bound.now.to) (sym c.deref-in-loop-bound.ensures.value) (point_of s (length c.args.split.now.owners.items) c.in-Some.bound.now.to c.args.split.now.split.owned.count suits.to)

pub loop-bound-preserved-in-Continue-branch-2 : goal.loop-bound-preserved-in-Continue-branch-2
loop-bound-preserved-in-Continue-branch-2 c =
    let gives : inner_of c.args.split.now.owners.items c.args.agent c.in-Some.bound.now ≡ Some c.in-Some-inner.own = ap (λ (l : List ℕ). inner_of l c.args.agent c.in-Some.bound.now) (sym c.deref-in-loop-bound.ensures.value) ∙ (sym c.inner.ensures ∙ c.in-Some-inner.is) in
    given_some (inner_of c.args.split.now.owners.items c.args.agent) (λ b. b.now) c.loop-bound.yielded c.in-Some.bound c.loop-bound.bounds.items c.push.new.self.items c.in-Some-inner.own gives c.loop-bound.invariant c.in_ok-push.ensures.items

pub loop-bound-preserved : goal.loop-bound-preserved
loop-bound-preserved c =
    let gives : inner_of c.args.split.now.owners.items c.args.agent c.in-Some.bound.now ≡ None = ap (λ (l : List ℕ). inner_of l c.args.agent c.in-Some.bound.now) (sym c.deref-in-loop-bound.ensures.value) ∙ (sym c.inner.ensures ∙ c.in_default.is) in
    given_none (inner_of c.args.split.now.owners.items c.args.agent) (λ b. b.now) c.loop-bound.yielded c.in-Some.bound c.loop-bound.bounds.items gives c.loop-bound.invariant

pub returns : goal.returns
returns c =
    let s = c.args.split.now.setting in
    let start : c.into_iter-bound-iterator.result ≡ values s.bounds = c.into_iter-bound-iterator.ensures.into_iter_gives ∙ (c.values-bound-items.ensures.rest ∙ ap (λ (es : List (ℕ × Bound)). values_of es) (sym c.in_force.ensures.entries)) in
    let all : map deref c.loop-bound.yielded ≡ values s.bounds = items_all (values s.bounds) c.loop-bound.yielded c.into_iter-bound-iterator.result c.loop-bound.bound-iterator c.next.new.self c.next.result start c.loop-bound.yielded_by c.in-None.is c.next.ensures.steps in
    c.loop-bound.invariant ∙ ap (filter_map (inner_of c.args.split.now.owners.items c.args.agent)) all
