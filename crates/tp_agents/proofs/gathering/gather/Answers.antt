use Rattle.std.proofs.Common.{◌≡◌, map, sym, ap, subst, ◌∙◌, rules}
use Rattle.std.specs.FinMap.{get}
use Rattle.std.specs.Map.Iter.{deref_pair}
use Rattle.std.proofs.lemmas.List.{map_push}
use Rattle.tp_bounds.specs.Setting.{Setting, event_count}
use Rattle.tp_bounds.specs.Changes.{fresh}
use Rattle.tp_exec_machine.specs.Partly.{IsPartly}
use Rattle.tp_exec_machine.proofs.InTurn.{joined, none_partly}
use Rattle.tp_agents.proofs.Gathered.{AreThere, ahead_is, all_are, more_there, all_of, none_fresh}
use Rattle.tp_agents.proofs.gathering.gather.Goals as goal

pub loop-early-init : goal.loop-early-init
loop-early-init g c =
    subst (λ (r : Setting). IsPartly (fresh (event_count c.args.setting.now) c.args.setting.now.horizon) r (get c.args.setting.now.bounds)) (sym c.requires.new)
    (none_partly (fresh (event_count c.args.setting.now) c.args.setting.now.horizon) (get c.args.setting.now.bounds) (none_fresh (event_count c.args.setting.now) c.args.setting.now.horizon))

pub loop-early-preserved : goal.loop-early-preserved
loop-early-preserved g c =
    joined (fresh (event_count c.args.setting.now) c.args.setting.now.horizon) (g.N.Net.seen c.loop-early.net) _ (get c.args.setting.now.bounds) _ c.loop-early.invariant c.in_ok-gather_at.ensures.ok

pub loop-id-init : goal.loop-id-init
loop-id-init g c = record { partly = c.loop-early.invariant; there = λ p a. absurd a }

pub loop-id-preserved : goal.loop-id-preserved
loop-id-preserved g c =
    let s = c.args.setting.now in
    let r = g.N.Net.seen c.loop-id.net in
    let t = g.N.Net.seen c.gather_at-in-loop-id.new.net in
    let start : c.into_iter-id-iterator.result ≡ c.in_force-id-items.result.now.entries = first_of (cc, search rules) in
    let ahead = ahead_is s.bounds c.in_force-id-items.result.now.entries c.loop-id.yielded c.into_iter-id-iterator.result c.loop-id.id-iterator c.next.new.self c.next.result (c.in-Some.id, c.in-Some._bound) c.in_force-id-items.ensures.entries start c.loop-id.yielded_by c.in-Some.is c.next.ensures.steps in
    record {
      partly = joined (fresh (event_count s) s.horizon) r t (get s.bounds) _ c.loop-id.invariant.partly c.in_ok-gather_at-2.ensures.ok;
      there = subst (AreThere t) (sym (map_push deref_pair c.loop-id.yielded (c.in-Some.id, c.in-Some._bound)))
          (more_there s r t (map deref_pair c.loop-id.yielded) c.next.new.self (c.in-Some.id.now, c.in-Some._bound.now) ahead c.loop-id.invariant.there c.in_ok-gather_at-2.ensures.ok);
    }

pub returns-clause-ok : goal.returns-clause-ok
returns-clause-ok g c =
    let s = c.args.setting.now in
    let start : c.into_iter-id-iterator.result ≡ c.in_force-id-items.result.now.entries = first_of (cc, search rules) in
    let all = all_are s.bounds c.in_force-id-items.result.now.entries c.loop-id.yielded c.into_iter-id-iterator.result c.loop-id.id-iterator c.in_force-id-items.ensures.entries start c.loop-id.yielded_by c.in-None.ensures.steps.0 in
    all_of s (g.N.Net.seen c.loop-id.net) (map deref_pair c.loop-id.yielded) c.loop-id.invariant.partly all c.loop-id.invariant.there
    ∙ ap (λ (z : Setting). record z { bounds = s.bounds }) (sym c.requires.new)
