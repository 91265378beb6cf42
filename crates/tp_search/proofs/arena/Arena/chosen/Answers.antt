use Rattle.std.proofs.Common.{[], length, get_or, ap, ◌∙◌, arith}
use Rattle.tp_search.specs.Chains.{chains}
use Rattle.tp_search.proofs.Chains.{chain_count}
use Rattle.tp_search.proofs.arena.Arena.chosen.Goals as goal

pub returns-then-node-len : goal.returns-then-node-len
returns-then-node-len c = omega (arith, ap length c.self.view_is, chain_count c.self.inside.nodes.items, c.len.ensures, c.self.inside.nodes.ok.0)

pub returns : goal.returns
returns c = (
  omega (arith, ap length c.self.view_is, chain_count c.self.inside.nodes.items, c.len.ensures, c.self.inside.nodes.ok.0),
  c.in_ok-chosen.ensures ∙ (ap (λ ns. get_or (chains ns) c.args.node []) c.deref.ensures.value ∙ ap (λ xs. get_or xs c.args.node []) c.self.view_is),
)
