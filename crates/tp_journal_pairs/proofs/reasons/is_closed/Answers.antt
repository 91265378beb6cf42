use Rattle.tp_exec_machine.specs.Step.{asked}
use Rattle.std.proofs.Common.{◌≡◌, ◌<◌, Some, length, get_or, IsTrue, subst, sym, ◌∙◌, rules}
use Rattle.tp_bounds.specs.declared.Point.{Point}
use Rattle.tp_bounds.specs.Reasons.{bound_of}
use Rattle.tp_bounds.specs.Certificates.{IsChain}
use Rattle.tp_bounds.proofs.ReasonChecks.{one_end, chain_closed, closed_chain}
use Rattle.tp_journal_pairs.proofs.reasons.is_closed.Goals as goal

pub returns-in-Some-chain_end : goal.returns-in-Some-chain_end
returns-in-Some-chain_end g c =
    let s = (asked c.args.executive.now c.args.command) in
    let es = c.args.edges.now in
    let e = c.in-Some.first.now in
    let b = c.in-Some-edge_then.bound in
    let some : 0 < length es = search rules in
    let first : get_or es 0 e ≡ e = search rules in
    let is : bound_of s e ≡ Some b = sym c.edge_then.ensures ∙ c.in-Some-edge_then.is in
    let chain : IsChain s b.from es c.in-Some-chain_end.end = c.in-Some-chain_end.ensures in (
      λ yes. (
          let same : c.in-Some-chain_end.end ≡ b.from = search rules in
          chain_closed s es b.from some (subst (λ (to : Point). IsChain s b.from es to) same chain)),
      λ h. (
          let same : c.in-Some-chain_end.end ≡ b.from = one_end s es b.from c.in-Some-chain_end.end b.from chain (closed_chain s es h.0 e b first is h.1 h.2) in
          let yes : IsTrue c.eq.result = search rules in
          yes),
    )

pub returns-in-None : goal.returns-in-None
returns-in-None g c =
    let s = (asked c.args.executive.now c.args.command) in
    let es = c.args.edges.now in
    let e = c.in-Some.first.now in
    let b = c.in-Some-edge_then.bound in
    let first : get_or es 0 e ≡ e = search rules in
    let is : bound_of s e ≡ Some b = sym c.edge_then.ensures ∙ c.in-Some-edge_then.is in
    (λ no. absurd (let f : ⊥ = cc in f), λ h. absurd (c.in-None.ensures b.from (closed_chain s es h.0 e b first is h.1 h.2)))
