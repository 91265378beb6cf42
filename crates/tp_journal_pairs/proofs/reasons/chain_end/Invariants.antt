use Rattle.tp_exec_machine.specs.Step.{asked}
use Rattle.std.proofs.Common.{drop}
use Rattle.tp_bounds.specs.declared.Point.{Point}
use Rattle.tp_bounds.specs.Certificates.{IsChain}
use Rattle.tp_journal_pairs.proofs.reasons.chain_end.Given as goal

abbrev pub invariant-loop-edge : goal.invariant-loop-edge
invariant-loop-edge g l = record {
  whole : (to : Point) → IsChain (asked l.executive l.command) l.point (drop l.edge-index l.edges) to → IsChain (asked l.executive l.command) l.fn.start l.edges to;
  rest : (to : Point) → IsChain (asked l.executive l.command) l.fn.start l.edges to → IsChain (asked l.executive l.command) l.point (drop l.edge-index l.edges) to;
}
