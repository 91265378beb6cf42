use Rattle.std.proofs.Common.{◌≡◌, ◌∙◌, ap, arith, length, subst, sym}
use Rattle.std.specs.Prelude.{Ok, Err}
use Rattle.tp_net.specs.NewNet.{new_setting}
use Rattle.tp_exec_machine.specs.Machine.{IsFresh, Machine}
use Rattle.tp_exec_machine.proofs.Ready.{fresh_new}
use Rattle.tp_script.specs.Lags.{ReadsLags}
use Rattle.tp_cli_bare.proofs.BareLemmas.{lag_reads}
use Rattle.tp_cli_run.proofs.starting.start.Goals as goal

pub over-requires-clause-fresh : goal.over-requires-clause-fresh
over-requires-clause-fresh g c = c.in-Ok-read_lags.ensures.new (subst IsFresh (sym c.in-Ok.ensures.setting) (fresh_new _ _))

pub returns-in-Ok-over-clause-begins : goal.returns-in-Ok-over-clause-begins
returns-in-Ok-over-clause-begins g c =
    let same : c.len.result ≡ length c.args.network.now.events.items = omega (arith, c.args.network.now.events.ok, c.len.ensures) in (
      c.read_lags.new.net.setting,
      record {
        lags = subst (λ s. ReadsLags c.args.lines.now c.read_lags.new.lines s c.read_lags.new.net.setting (Ok tt)) (c.in-Ok.ensures.setting ∙ ap (λ n. new_setting n c.args.network.now.horizon) same) c.in-Ok-read_lags.ensures.lags;
        most = c.in-Ok-read_lags.ensures.most;
      },
      c.in-Ok-over.ensures.machine,
    )

pub returns-in-Err-read_lags-clause-begins : goal.returns-in-Err-read_lags-clause-begins
returns-in-Err-read_lags-clause-begins g c =
    let same : c.len.result ≡ length c.args.network.now.events.items = omega (arith, c.args.network.now.events.ok, c.len.ensures) in (
      c.read_lags.new.net.setting,
      subst (λ s. ReadsLags c.args.lines.now c.read_lags.new.lines s c.read_lags.new.net.setting (Err c.in-Err-read_lags.fault)) (c.in-Ok.ensures.setting ∙ ap (λ n. new_setting n c.args.network.now.horizon) same) c.in-Err-read_lags.ensures.lags,
    )

pub returns-in-Ok-over-clause-new : goal.returns-in-Ok-over-clause-new
returns-in-Ok-over-clause-new g c =
    (c.read_lags.new.net.setting, c.in-Ok-read_lags.ensures.new (subst IsFresh (sym c.in-Ok.ensures.setting) (fresh_new _ _)), c.in-Ok-over.ensures.machine)

pub returns-in-Err-read_lags-clause-read : goal.returns-in-Err-read_lags-clause-read
returns-in-Err-read_lags-clause-read g c = c.in-Err-read_lags.ensures.read ∙ lag_reads (Unit {0}) Machine c.in-Err-read_lags.fault _
