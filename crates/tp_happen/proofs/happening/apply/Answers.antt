use Rattle.std.proofs.Common.{not, sym, ◌∙◌, inl}
use Rattle.std.proofs.lemmas.Result.{MatchResult-from_err, err_from_is_err_and}
use Rattle.tp_task.specs.State.{holds}
use Rattle.tp_task.specs.Event.{mixes}
use Rattle.tp_task.specs.Happens.{EventOfStep, is_defined}
use Rattle.tp_happen.specs.Stored.{state_of}
use Rattle.tp_happen.specs.Bounded.{Passes}
use Rattle.tp_happen.specs.Fault.{OnRange}
use Rattle.tp_happen.proofs.Limits.{terms_pass, conditions_pass, passes_from_writes, all_expressions}
use Rattle.tp_happen.proofs.Answered.{on_range, on_range_weaker, if_none}
use Rattle.tp_happen.proofs.NoFault.{none_passes, each_passes, no_pair}
use Rattle.tp_happen.proofs.happening.apply.Goals as goal

pub next-requires-clause-apart : goal.next-requires-clause-apart
next-requires-clause-apart c = no_pair 0 c.args.events.now (sym c.in_default-4.is ∙ c.in_ok-i-4.ensures)

pub next-requires-clause-unmixed : goal.next-requires-clause-unmixed
next-requires-clause-unmixed c = none_passes (λ (t : EventOfStep). mixes t.event) 0 c.args.events.now (sym c.in_default-3.is ∙ c.in_ok-i-3.ensures)

pub next-requires-clause-defined : goal.next-requires-clause-defined
next-requires-clause-defined c =
    each_passes (λ t. is_defined c.args.state.now.scale (state_of c.args.state.now) t) c.args.events.now
    (none_passes (λ t. not (is_defined c.args.state.now.scale (state_of c.args.state.now) t)) 0 c.args.events.now (sym c.in_default.is ∙ c.in_ok-i.ensures.ok))

pub returns-in_err-i-clause-range : goal.returns-in_err-i-clause-range
returns-in_err-i-clause-range c =
    let s = c.args.state.now in
    MatchResult-from_err c.from_residual.result (λ _. Unit {0}) (λ e. OnRange e (Passes s.scale (state_of s) c.args.events.now)) c.from_residual.ensures.0
    (λ e. on_range e _ (inl (terms_pass s.scale (state_of s) c.args.events.now c.in_err-i.ensures.err)))

pub returns-in_err-i-2-clause-range : goal.returns-in_err-i-2-clause-range
returns-in_err-i-2-clause-range c =
    let s = c.args.state.now in
    MatchResult-from_err c.from_residual-in_err-i-2.result (λ _. Unit {0}) (λ e. OnRange e (Passes s.scale (state_of s) c.args.events.now)) c.from_residual-in_err-i-2.ensures.0
    (λ e. on_range e _ (inl (conditions_pass s.scale (state_of s) c.args.events.now c.in_err-i-2.ensures.err)))

pub returns-in_err-next-clause-range : goal.returns-in_err-next-clause-range
returns-in_err-next-clause-range c =
    let s = c.args.state.now in
    let p = err_from_is_err_and c.from_residual-in_err-next.result c.from_residual-in_err-next.ensures.1 in
    rw (p.1, p.2) (on_range_weaker c.in_err-next.field-0.0 _ _ (passes_from_writes s.scale (state_of s) c.args.events.now) c.in_err-next.ensures.range)

pub returns-clause-ok : goal.returns-clause-ok
returns-clause-ok c =
    record {
      conditions = each_passes (λ (t : EventOfStep). holds (state_of c.args.state.now) t.event.condition) c.args.events.now
          (none_passes (λ (t : EventOfStep). not (holds (state_of c.args.state.now) t.event.condition)) 0 c.args.events.now (sym c.in_default-2.is ∙ c.in_ok-i-2.ensures.ok));
      definedness = each_passes (λ t. is_defined c.args.state.now.scale (state_of c.args.state.now) t) c.args.events.now
          (none_passes (λ t. not (is_defined c.args.state.now.scale (state_of c.args.state.now) t)) 0 c.args.events.now (sym c.in_default.is ∙ c.in_ok-i.ensures.ok));
      unmixed = none_passes (λ (t : EventOfStep). mixes t.event) 0 c.args.events.now (sym c.in_default-3.is ∙ c.in_ok-i-3.ensures);
      separate = no_pair 0 c.args.events.now (sym c.in_default-4.is ∙ c.in_ok-i-4.ensures);
      atoms = c.in_ok-next.ensures.atoms;
      numbers = c.in_ok-next.ensures.numbers;
    }

pub returns-clause-small : goal.returns-clause-small
returns-clause-small c =
    let s = c.args.state.now in
    record {
      expressions = all_expressions s.scale (state_of s) c.args.events.now
          (if_none c.in_ok-i.field-0 _ c.in_default.is c.in_ok-i.ensures.small)
          (if_none c.in_ok-i-2.field-0 _ c.in_default-2.is c.in_ok-i-2.ensures.small)
          c.in_ok-next.ensures.expressions;
      sums = c.in_ok-next.ensures.sums;
    }
