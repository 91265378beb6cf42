use Rattle.std.proofs.Common.{sym, ◌∙◌, ap, map, Bor, List, ℕ}
use Rattle.tp_ground_bindings.proofs.OnKnown.{known_here}
use Rattle.tp_ground_bindings.proofs.universe.find_known.Goals as goal

pub returns-then-are_same : goal.returns-then-are_same
returns-then-are_same c = λ u h.
    ap (map (λ (o : Bor (List ℕ)). o.now)) c.as_slice.ensures.value
    ∙ known_here u c.args.known.now c.loop-entry.entry-index c.entry-item.result _ c.loop-entry-test.true c.entry-item.is h (sym c.are_same.ensures ∙ c.if-are_same.true)
