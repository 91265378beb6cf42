use Rattle.std.proofs.Common.{[], ◌∷◌, ◌++◌, refl, sym, subst, ap, ◌∙◌, rules, IsTrue}
use Rattle.tp_bounds.specs.Setting.{Setting, event_count}
use Rattle.tp_exec_machine.specs.Machine.{IsFresh}
use Rattle.tp_exec_machine.proofs.Ready.{fresh_lagged}
use Rattle.tp_script.specs.Lags.{MaySet}
use Rattle.tp_script.proofs.LagLemmas.{lags_none, lags_keep, lags_more}
use Rattle.tp_script.proofs.lags.read_lags.Goals as goal

pub loop-e-init : goal.loop-e-init
loop-e-init g c =
    record {
      lags = ([], lags_none c.args.lines.now (g.N.Net.seen c.args.net.now));
      start = c.requires.start;
      new = λ h. h;
      events = refl;
      horizon = refl;
      longest = refl;
      most = refl;
      source = refl;
      failures = refl;
    }

pub returns-in-Err-clause-lags : goal.returns-in-Err-clause-lags
returns-in-Err-clause-lags g c =
    let lags = c.loop-e.invariant.lags in
    (lags.0, lags_keep _ c.loop-e.lines _ _ _ lags.0 lags.1 c.in-Err.ensures.lag.0 c.in-Err.ensures.lag.1)

pub returns-in-Ok-None-clause-lags : goal.returns-in-Ok-None-clause-lags
returns-in-Ok-None-clause-lags g c =
    let lags = c.loop-e.invariant.lags in
    let left = rw c.in-Ok-None.field-0-is at c.in-Ok-None.ensures.lag in
    (lags.0, lags_keep _ c.loop-e.lines _ _ _ lags.0 lags.1 left.0 left.1, left.2)

pub loop-e-preserved : goal.loop-e-preserved
loop-e-preserved g c =
    let lags = c.loop-e.invariant.lags in
    let turn = rw c.in-Ok-Some.field-0-is at c.in-Ok-Some.ensures.lag in
    let yes : IsTrue c.may_set.result = search rules in
    let may : MaySet (g.N.Net.seen c.loop-e.net) (c.in-Ok-Some.e, c.in-Ok-Some.lag) = c.may_set.ensures.0 yes in
    record {
      lags = (lags.0 ++ turn.0 ∷ [], lags_more _ c.loop-e.lines _ _ (g.N.Net.seen c.loop-e.net) _ lags.0 turn.0 (c.in-Ok-Some.e, c.in-Ok-Some.lag) lags.1 turn.1 turn.2 may c.set_lag.ensures);
      start = ap (λ (s : Setting). s.clock) c.set_lag.ensures ∙ c.loop-e.invariant.start;
      new = λ h. subst IsFresh (sym c.set_lag.ensures) (fresh_lagged (g.N.Net.seen c.loop-e.net) c.in-Ok-Some.e c.in-Ok-Some.lag (c.loop-e.invariant.new h));
      events = ap event_count c.set_lag.ensures ∙ c.loop-e.invariant.events;
      horizon = ap (λ (s : Setting). s.horizon) c.set_lag.ensures ∙ c.loop-e.invariant.horizon;
      longest = c.in-Ok-Some.ensures.limits.longest ∙ c.loop-e.invariant.longest;
      most = c.in-Ok-Some.ensures.limits.most ∙ c.loop-e.invariant.most;
      source = c.in-Ok-Some.ensures.limits.source ∙ c.loop-e.invariant.source;
      failures = c.in-Ok-Some.ensures.cause ∙ c.loop-e.invariant.failures;
    }
