use Rattle.std.proofs.Common.{drop}
use Rattle.tp_bounds.specs.declared.Point.{Point}
use Rattle.tp_bounds.specs.Certificates.{IsChain}
use Rattle.tp_bounds.proofs.certificates.chain_end.Given as goal

abbrev pub invariant-loop-edge : goal.invariant-loop-edge
invariant-loop-edge l = record {
  whole : (to : Point) → IsChain l.setting l.point (drop l.edge-index l.edges) to → IsChain l.setting l.fn.start l.edges to;
  rest : (to : Point) → IsChain l.setting l.fn.start l.edges to → IsChain l.setting l.point (drop l.edge-index l.edges) to;
}
