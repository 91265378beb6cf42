use Rattle.std.proofs.Common.{IsTrue, List, arith, rules, sym, subst}
use Rattle.std.specs.Prelude.{pos, ◌<ℤ◌}
use Rattle.std.specs.List.{filter_map}
use Rattle.std.proofs.lemmas.Int.{ints}
use Rattle.tp_bounds.specs.declared.Bound.{Bound}
use Rattle.tp_bounds.specs.declared.Edge.{Edge}
use Rattle.tp_bounds.specs.Setting.{Setting}
use Rattle.tp_bounds.specs.Reasons.{bound_of, AreBounds, IsClosed, BeginApart, IsReason}
use Rattle.tp_bounds.proofs.Chains.{none_remains}
use Rattle.tp_bounds.proofs.ReasonChecks.{reason_from, reason_apart, reason_below}
use Rattle.tp_bounds.proofs.certificates.check_reason.Goals as goal
use Rattle.tp_bounds.proofs.certificates.check_reason.Goals.{then-is_closed, else-is_closed}

-- the edges are a closed chain, and begin apart
Passed : Setting → List Edge → Type 0
Passed s es = ((bs : List Bound) × AreBounds s es bs × IsClosed bs) × BeginApart (filter_map (bound_of s) es)

passed : (c : goal.After-weight) → Passed c.args.setting.now c.as_slice-edges.result.now
unfolding Passed
passed c =
    elim c.if-is_closed.branch [
      | then-is_closed w ↦
          let closed : IsTrue c.is_closed.result = search rules in
          let apart : IsTrue w.begin_apart.result = search rules in
          (c.is_closed.ensures.0 closed, w.begin_apart.ensures.0 apart)
      | else-is_closed w ↦ absurd (let f : ⊥ = search rules in f)
    ]

reason : (c : goal.After-weight) → c.weight.result <ℤ pos 0 → IsReason c.args.setting.now c.args.reason.now.edges.items
unfolding Passed
reason c below =
    let both = passed c in
    subst (IsReason c.args.setting.now) c.as_slice-edges.ensures.value
    (reason_from c.args.setting.now c.as_slice-edges.result.now both.0 both.1 (subst (λ z. z <ℤ pos 0) c.weight.ensures below))

pub returns-then-begin_apart-clause-exact : goal.returns-then-begin_apart-clause-exact
returns-then-begin_apart-clause-exact c = (
  λ yes. (let below : c.weight.result <ℤ pos 0 = grind (arith, ints) in reason c below),
  λ r. (
      let same : IsReason c.args.setting.now c.as_slice-edges.result.now = subst (IsReason c.args.setting.now) (sym c.as_slice-edges.ensures.value) r in
      let below : c.weight.result <ℤ pos 0 = subst (λ z. z <ℤ pos 0) (sym c.weight.ensures) (reason_below c.args.setting.now c.as_slice-edges.result.now same) in
      grind (arith, ints)),
)

pub returns-then-begin_apart-clause-refutes : goal.returns-then-begin_apart-clause-refutes
returns-then-begin_apart-clause-refutes c = λ yes schedule. (
    let below : c.weight.result <ℤ pos 0 = grind (arith, ints) in
    none_remains c.args.setting.now c.args.reason.now.edges.items schedule.0 (reason c below) schedule.1)

pub returns-else-begin_apart-clause-exact : goal.returns-else-begin_apart-clause-exact
returns-else-begin_apart-clause-exact c = (
  λ yes. absurd (let f : ⊥ = search rules in f),
  λ r. (
      let same : IsReason c.args.setting.now c.as_slice-edges.result.now = subst (IsReason c.args.setting.now) (sym c.as_slice-edges.ensures.value) r in
      elim c.if-is_closed.branch [
        | then-is_closed w ↦
            let apart : IsTrue w.begin_apart.result = w.begin_apart.ensures.1 (reason_apart c.args.setting.now c.as_slice-edges.result.now same) in
            let t : IsTrue c.if-is_closed.value = search rules in
            t
        | else-is_closed w ↦
            let closed : IsTrue c.is_closed.result = c.is_closed.ensures.1 (same.bounds, same.exist, same.closed) in
            absurd (let f : ⊥ = search rules in f)
      ]),
)
