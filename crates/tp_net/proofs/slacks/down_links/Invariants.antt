use Rattle.std.proofs.Common.{◌≡◌, ℕ, ◌<◌, length, get_or}
use Rattle.tp_net.specs.Links.{link_at}
use Rattle.tp_net.specs.Graph.{arc_at}
use Rattle.tp_net.specs.Slacks.{IsDownLink}
use Rattle.tp_net.proofs.slacks.down_links.Given as goal

abbrev pub invariant-loop-arc : goal.invariant-loop-arc
invariant-loop-arc l = record {
  len : length l.links.items ≡ l.arc-index;
  each : (k : ℕ) → k < l.arc-index → IsDownLink (λ x. get_or l.high x 0) (arc_at l.arcs k) (link_at l.links.items k);
}
