use Rattle.std.proofs.Common.{◌≢◌, None, sym, ap, ◌∙◌, rules}
use Rattle.std.specs.FinMap.{get}
use Rattle.tp_bounds.specs.Setting.{Setting}
use Rattle.tp_exec_machine.specs.declared.command.Command.TheVariants.{Withdraw}
use Rattle.tp_exec_machine.specs.Machine.{Machine}
use Rattle.tp_exec_machine.specs.Step.{accepted}
use Rattle.tp_exec_machine.proofs.Ready.{unused_removed, kept_removed}
use Rattle.tp_exec_machine.proofs.Steps.{withdraw_step, some_is}
use Rattle.tp_exec_machine.proofs.executive.Executive.withdraw.Goals as goal

pub invariant_of-self-2 : goal.invariant_of-self-2
invariant_of-self-2 g c =
    record {
      between = c.self.invariant.between;
      unused = λ id le. ap (λ (s : Setting). get s.bounds id) c.in_ok-remove.ensures.ok ∙ unused_removed (g.N.Net.seen c.self.inside.net).bounds c.self.inside.next c.args.id.0 c.self.invariant.unused id le;
      ids = c.self.invariant.ids;
      asks_nothing = ap (λ (s : Setting). s.proposed) c.in_ok-remove.ensures.ok ∙ c.self.invariant.asks_nothing;
      first = c.self.invariant.first;
      kept = λ is id lt none. kept_removed c.self.inside.kind (g.N.Net.seen c.self.inside.net).bounds c.self.inside.own c.args.id.0 c.self.invariant.kept (sym c.kind_without-kind.ensures ∙ is) id lt
          (sym (ap (λ (s : Setting). get s.bounds id) c.in_ok-remove.ensures.ok) ∙ none);
    }

pub returns : goal.returns
returns g c =
    let s = g.N.Net.seen c.self.inside.net in
    let known : get (g.N.Net.seen c.self.inside.net).bounds c.args.id.0 ≢ None = search rules in
    withdraw_step c.args.self.now _ s c.args.id (ap (λ (m : Machine). m.setting) c.self.view_is) (some_is (get s.bounds c.args.id.0) known) c.in_ok-remove.ensures.possible
    (rw (c.in_ok-remove.ensures.ok, c.kind_without-kind.ensures) (ap (λ m. accepted m (Withdraw c.args.id)) c.self.view_is))
