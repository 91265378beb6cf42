use Rattle.std.proofs.Common.{◌≡◌, ◌∙◌, ap, arith, inl, subst, sym}
use Rattle.std.specs.List.{All}
use Rattle.tp_bounds.specs.RunLimits.{RunLimits}
use Rattle.tp_bounds.specs.Setting.{Setting, event_count}
use Rattle.tp_exec_machine.specs.Machine.{IsFresh, Machine, new_machine}
use Rattle.tp_exec_machine.proofs.Ready.{fresh_new}
use Rattle.tp_cli_audit.specs.Bare.{LagFits}
use Rattle.tp_cli_audit.proofs.AuditLemmas.{events_new}
use Rattle.tp_cli_audit.proofs.bare.bare_start.Goals as goal

pub set_lags-requires-clause-fit : goal.set_lags-requires-clause-fit
set_lags-requires-clause-fit c =
    let count : event_count c.in_ok-net.net.setting ≡ c.args.head.now.events = ap event_count c.in_ok-net.ensures.setting ∙ events_new c.args.head.now.events c.args.head.now.horizon in
    subst (λ n. All (LagFits n) c.as_slice.result.now) (sym count) (subst (λ xs. All (LagFits c.args.head.now.events) xs) (sym c.as_slice.ensures.value) c.requires.lags)

pub bare-requires-clause-horizon : goal.bare-requires-clause-horizon
bare-requires-clause-horizon c =
    c.set_lags.ensures.horizon ∙ (ap (λ (s : Setting). s.horizon) c.in_ok-net.ensures.setting ∙ sym (ap (λ (l : RunLimits). l.horizon) c.greatest.ensures))

pub bare-requires-clause-events : goal.bare-requires-clause-events
bare-requires-clause-events c =
    let count : event_count c.in_ok-net.net.setting ≡ c.args.head.now.events = ap event_count c.in_ok-net.ensures.setting ∙ events_new c.args.head.now.events c.args.head.now.horizon in
    omega (arith, c.set_lags.ensures.events, c.requires.events, ap (λ (l : RunLimits). l.events) c.greatest.ensures)

pub returns-clause-new : goal.returns-clause-new
returns-clause-new c =
    inl (
      c.set_lags.new.net.setting,
      c.set_lags.ensures.new (subst IsFresh (sym c.in_ok-net.ensures.setting) (fresh_new _ _)),
      c.bare.ensures ∙ ap (new_machine c.set_lags.new.net.setting) (sym (ap (λ (m : Machine). m.limits) c.bare.ensures)),
    )
