use Rattle.std.proofs.Common.{◌≡◌, ◌∙◌, ap, arith, length, subst, sym}
use Rattle.std.proofs.lemmas.Result.{IfOk-weaker}
use Rattle.std.specs.List.{All}
use Rattle.tp_bounds.specs.Setting.{Setting, event_count}
use Rattle.tp_net.specs.NewNet.{new_setting}
use Rattle.tp_exec_machine.specs.Machine.{IsFresh, plan_machine}
use Rattle.tp_exec_machine.proofs.Ready.{fresh_new}
use Rattle.tp_journal_pairs.proofs.SoundLemmas.{plan_is_new}
use Rattle.tp_cli_bare.specs.Bare.{first_setting}
use Rattle.tp_cli_audit.specs.Bare.{LagFits, lagged}
use Rattle.tp_cli_audit.proofs.AuditLemmas.{events_new}
use Rattle.tp_bounds.specs.RunLimits.{greatest_limits}
use Rattle.tp_exec.specs.FromPlan.{CameFrom}
use Rattle.tp_exec.proofs.FromPlans.{start_came}
use Rattle.tp_cli_run.specs.Starts.{net_head}
use Rattle.tp_cli_audit.proofs.starting.plan_start.Goals as goal

pub set_lags-requires-clause-fit : goal.set_lags-requires-clause-fit
set_lags-requires-clause-fit c =
    let same : c.len.result ≡ length c.args.network.now.events.items = omega (arith, c.args.network.now.events.ok, c.len.ensures) in
    let count : event_count c.in_ok-net.net.setting ≡ length c.args.network.now.events.items = ap event_count c.in_ok-net.ensures.setting ∙ (events_new c.len.result c.args.network.now.horizon ∙ same) in
    subst (λ n. All (LagFits n) c.as_slice.result.now) (sym count) (subst (λ xs. All (LagFits (length c.args.network.now.events.items)) xs) (sym c.as_slice.ensures.value) c.requires.lags)

pub from_plan-requires-clause-fresh : goal.from_plan-requires-clause-fresh
from_plan-requires-clause-fresh c = c.set_lags.ensures.new (subst IsFresh (sym c.in_ok-net.ensures.setting) (fresh_new _ _))

pub from_plan-requires-clause-events : goal.from_plan-requires-clause-events
from_plan-requires-clause-events c =
    let same : c.len.result ≡ length c.args.network.now.events.items = omega (arith, c.args.network.now.events.ok, c.len.ensures) in
    c.set_lags.ensures.events ∙ (ap event_count c.in_ok-net.ensures.setting ∙ (events_new c.len.result c.args.network.now.horizon ∙ same))

pub from_plan-requires-clause-horizon : goal.from_plan-requires-clause-horizon
from_plan-requires-clause-horizon c = c.set_lags.ensures.horizon ∙ ap (λ (s : Setting). s.horizon) c.in_ok-net.ensures.setting

pub returns-clause-machine : goal.returns-clause-machine
returns-clause-machine c =
    let same : c.len.result ≡ length c.args.network.now.events.items = omega (arith, c.args.network.now.events.ok, c.len.ensures) in
    let first = first_setting (net_head c.args.network.now) in
    let at : c.set_lags.new.net.setting ≡ lagged first c.args.head.now.lags.items =
    c.set_lags.ensures.set ∙
    (ap (λ s. lagged s c.as_slice.result.now) (c.in_ok-net.ensures.setting ∙ ap (λ n. new_setting n c.args.network.now.horizon) same) ∙ ap (lagged first) c.as_slice.ensures.value) in
    IfOk-weaker c.from_plan.result _ _ (λ e is. is ∙
    (ap (λ s. plan_machine s c.args.network.now.bounds.items c.greatest.result) at ∙ ap (plan_machine (lagged first c.args.head.now.lags.items) c.args.network.now.bounds.items) c.greatest.ensures)) c.from_plan.ensures

pub returns-clause-new : goal.returns-clause-new
returns-clause-new c =
    let fresh : IsFresh c.set_lags.new.net.setting = c.set_lags.ensures.new (subst IsFresh (sym c.in_ok-net.ensures.setting) (fresh_new _ _)) in
    IfOk-weaker c.from_plan.result _ _ (λ e is. plan_is_new e c.set_lags.new.net.setting c.args.network.now.bounds.items c.greatest.result fresh is) c.from_plan.ensures

pub returns-clause-came : goal.returns-clause-came
returns-clause-came c =
    let same : c.len.result ≡ length c.args.network.now.events.items = omega (arith, c.args.network.now.events.ok, c.len.ensures) in
    let fresh : IsFresh c.set_lags.new.net.setting = c.set_lags.ensures.new (subst IsFresh (sym c.in_ok-net.ensures.setting) (fresh_new _ _)) in
    let events : event_count c.set_lags.new.net.setting ≡ length c.args.network.now.events.items =
    c.set_lags.ensures.events ∙ (ap event_count c.in_ok-net.ensures.setting ∙ (events_new c.len.result c.args.network.now.horizon ∙ same)) in
    let until = c.set_lags.ensures.horizon ∙ ap (λ (s : Setting). s.horizon) c.in_ok-net.ensures.setting in
    IfOk-weaker c.from_plan.result _ _ (λ e is. λ t steps net. subst (CameFrom t steps) (sym is)
    (start_came t steps (greatest_limits c.args.network.now.horizon) c.greatest.result c.args.network.now c.set_lags.new.net.setting net fresh events until)) c.from_plan.ensures
