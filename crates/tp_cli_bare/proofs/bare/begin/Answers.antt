use Rattle.std.proofs.Common.{sym, subst, ap, ◌∙◌}
use Rattle.std.specs.Prelude.{Ok, Err}
use Rattle.tp_exec_machine.specs.Machine.{Machine}
use Rattle.tp_script.specs.Machine.{IsFresh, new_machine}
use Rattle.tp_script.proofs.Ready.{fresh_new}
use Rattle.tp_script.specs.Lags.{ReadsLags}
use Rattle.tp_cli_bare.proofs.BareLemmas.{lag_reads}
use Rattle.tp_cli_bare.proofs.bare.begin.Goals as goal

pub bare-requires-clause-fresh : goal.bare-requires-clause-fresh
bare-requires-clause-fresh g c = c.in-Ok-read_lags.ensures.new (subst IsFresh (sym c.in-Ok.ensures.setting) (fresh_new _ _))

pub returns-in-Ok-read_lags-clause-begins : goal.returns-in-Ok-read_lags-clause-begins
returns-in-Ok-read_lags-clause-begins g c = (
  c.read_lags.new.net.setting,
  record {
    lags = subst (λ s. ReadsLags c.args.lines.now c.read_lags.new.lines s c.read_lags.new.net.setting (Ok tt)) c.in-Ok.ensures.setting c.in-Ok-read_lags.ensures.lags;
    most = c.in-Ok-read_lags.ensures.most;
  },
  c.bare.ensures ∙ ap (new_machine c.read_lags.new.net.setting) c.greatest.ensures,
)

pub returns-in-Err-read_lags-clause-begins : goal.returns-in-Err-read_lags-clause-begins
returns-in-Err-read_lags-clause-begins g c = (
  c.read_lags.new.net.setting,
  subst (λ s. ReadsLags c.args.lines.now c.read_lags.new.lines s c.read_lags.new.net.setting (Err c.in-Err-read_lags.fault)) c.in-Ok.ensures.setting c.in-Err-read_lags.ensures.lags,
)

pub returns-in-Ok-read_lags-clause-fresh : goal.returns-in-Ok-read_lags-clause-fresh
returns-in-Ok-read_lags-clause-fresh g c =
    subst (λ m. IsFresh m.setting) (sym c.bare.ensures)
    (c.in-Ok-read_lags.ensures.new (subst IsFresh (sym c.in-Ok.ensures.setting) (fresh_new _ _)))

pub returns-in-Err-read_lags-clause-read : goal.returns-in-Err-read_lags-clause-read
returns-in-Err-read_lags-clause-read g c = c.in-Err-read_lags.ensures.read ∙ lag_reads (Unit {0}) Machine c.in-Err-read_lags.fault _
