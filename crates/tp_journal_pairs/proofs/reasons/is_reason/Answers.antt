use Rattle.std.proofs.Common.{IsTrue, arith, rules, sym, subst}
use Rattle.std.specs.Prelude.{pos, ◌<ℤ◌}
use Rattle.std.proofs.lemmas.Int.{ints}
use Rattle.tp_exec_machine.specs.Step.{asked}
use Rattle.tp_bounds.proofs.ReasonChecks.{reason_from, reason_apart, reason_below}
use Rattle.tp_journal_pairs.proofs.reasons.is_reason.Goals as goal

pub returns-then-not-begin_apart : goal.returns-then-not-begin_apart
returns-then-not-begin_apart g c = (
  λ yes. absurd (let f : ⊥ = search rules in f),
  λ r. (let apart : IsTrue c.begin_apart.result = c.begin_apart.ensures.1 (reason_apart (asked c.args.executive.now c.args.command) c.args.edges.now r) in absurd (let f : ⊥ = search rules in f)),
)

pub returns : goal.returns
returns g c =
    let closed : IsTrue c.is_closed.result = search rules in
    let apart : IsTrue c.begin_apart.result = search rules in
    let s = asked c.args.executive.now c.args.command in (
      λ yes. (let below : c.weight.result <ℤ pos 0 = grind (arith, ints) in
          reason_from s c.args.edges.now (c.is_closed.ensures.0 closed) (c.begin_apart.ensures.0 apart) (subst (λ z. z <ℤ pos 0) c.weight.ensures below)),
      λ r. (let below : c.weight.result <ℤ pos 0 = subst (λ z. z <ℤ pos 0) (sym c.weight.ensures) (reason_below s c.args.edges.now r) in grind (arith, ints)),
    )
