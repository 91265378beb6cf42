use Rattle.std.proofs.Common.{◌≡◌, Some, sym, ap, ◌∙◌}
use Rattle.std.specs.FinMap.{get}
use Rattle.std.proofs.lemmas.Result.{on_ok_weaker, IfErr-weaker}
use Rattle.tp_bounds.proofs.HeldMaps.{get_held}
use Rattle.tp_exec_machine.proofs.InTurn.{joins_with}
use Rattle.tp_agents.proofs.Gathered.{joins_none, next_from, next_to, next_weight, next_contradicted}
use Rattle.tp_agents.proofs.gathering.gather_at.Goals as goal

pub returns-in_default-clause-ok : goal.returns-in_default-clause-ok
returns-in_default-clause-ok g c =
    joins_none (g.N.Net.seen c.args.net.now) (get c.args.setting.now.bounds) c.args.id
    (ap (λ m. get m c.args.id) (sym c.in_force.ensures.bounds) ∙ (get_held c.in_force.result.now c.args.id ∙ (sym c.get.ensures.value ∙ (sym c.copied.ensures ∙ c.in_default.is))))

pub bring-requires-clause-from : goal.bring-requires-clause-from
bring-requires-clause-from g c =
    let there : get c.args.setting.now.bounds c.args.id ≡ Some c.in-Some.bound =
    ap (λ m. get m c.args.id) (sym c.in_force.ensures.bounds) ∙ (get_held c.in_force.result.now c.args.id ∙ (sym c.get.ensures.value ∙ (sym c.copied.ensures ∙ c.in-Some.is))) in
    next_from c.args.setting.now (g.N.Net.seen c.args.net.now) c.requires.partly c.args.id c.in-Some.bound there c.events-events.ensures.lawful

pub bring-requires-clause-to : goal.bring-requires-clause-to
bring-requires-clause-to g c =
    let there : get c.args.setting.now.bounds c.args.id ≡ Some c.in-Some.bound =
    ap (λ m. get m c.args.id) (sym c.in_force.ensures.bounds) ∙ (get_held c.in_force.result.now c.args.id ∙ (sym c.get.ensures.value ∙ (sym c.copied.ensures ∙ c.in-Some.is))) in
    next_to c.args.setting.now (g.N.Net.seen c.args.net.now) c.requires.partly c.args.id c.in-Some.bound there c.events-events.ensures.lawful

pub bring-requires-clause-weight : goal.bring-requires-clause-weight
bring-requires-clause-weight g c =
    let there : get c.args.setting.now.bounds c.args.id ≡ Some c.in-Some.bound =
    ap (λ m. get m c.args.id) (sym c.in_force.ensures.bounds) ∙ (get_held c.in_force.result.now c.args.id ∙ (sym c.get.ensures.value ∙ (sym c.copied.ensures ∙ c.in-Some.is))) in
    next_weight c.args.setting.now (g.N.Net.seen c.args.net.now) c.requires.partly c.args.id c.in-Some.bound there c.events-events.ensures.lawful

pub returns-clause-ok : goal.returns-clause-ok
returns-clause-ok g c =
    let there : get c.args.setting.now.bounds c.args.id ≡ Some c.in-Some.bound =
    ap (λ m. get m c.args.id) (sym c.in_force.ensures.bounds) ∙ (get_held c.in_force.result.now c.args.id ∙ (sym c.get.ensures.value ∙ (sym c.copied.ensures ∙ c.in-Some.is))) in
    on_ok_weaker c.bring.result (λ is. joins_with (g.N.Net.seen c.args.net.now) (g.N.Net.seen c.bring.new.net) (get c.args.setting.now.bounds) c.args.id c.in-Some.bound is there) c.bring.ensures.ok

pub returns-clause-err : goal.returns-clause-err
returns-clause-err g c =
    let there : get c.args.setting.now.bounds c.args.id ≡ Some c.in-Some.bound =
    ap (λ m. get m c.args.id) (sym c.in_force.ensures.bounds) ∙ (get_held c.in_force.result.now c.args.id ∙ (sym c.get.ensures.value ∙ (sym c.copied.ensures ∙ c.in-Some.is))) in
    IfErr-weaker c.bring.result _ _ (λ f h. next_contradicted c.args.setting.now (g.N.Net.seen c.args.net.now) c.requires.partly c.args.id c.in-Some.bound there c.requires.unbegun f h) c.bring.ensures.err
