use Rattle.std.proofs.Common.{◌≡◌, ℕ, map, take, drop, length}
use Rattle.std.specs.List.{flat_map}
use Rattle.tp_syntax_ast.specs.Symbols.{typed_view}
use Rattle.tp_ground_bindings.specs.Bindings.{bindings}
use Rattle.tp_ground_bindings.specs.Left.{rows_left}
use Rattle.tp_ground_bindings.specs.Views.{env_view, universe_view}
use Rattle.tp_ground_bodies.proofs.OnGathered.{AllGathered}
use Rattle.tp_ground_bodies.proofs.OnPartLists.{part_of, part_under}
use Rattle.tp_ground_bodies.proofs.parts.+push.Given as goal

abbrev pub invariant-push_parts-loop-part : goal.invariant-push_parts-loop-part
invariant-push_parts-loop-part g l =
    let u = universe_view l.universe in
    AllGathered g.P.Lowerable.shows g.P.Lowerable.mentions l.fn.numbering l.numbering l.fn.into l.into (flat_map (part_of u (g.P.Lowerable.written u l.specifier) g.P.Lowerable.seen (env_view l.env)) (take l.part-index l.parts))

abbrev pub invariant-push_under_each-rows : goal.invariant-push_under_each-rows
invariant-push_under_each-rows g l =
    let u = universe_view l.universe in
    let vs = map typed_view l.variables in
    (i : ℕ)
    × (rows_left l.rows ≡ drop i (bindings u vs))
    × AllGathered g.P.Lowerable.shows g.P.Lowerable.mentions l.fn.numbering l.numbering l.fn.into l.into (flat_map (part_under u (g.P.Lowerable.written u l.specifier) g.P.Lowerable.seen vs (env_view l.env) l.part) (take i (bindings u vs)))

abbrev pub decreases-push_under_each-rows : goal.decreases-push_under_each-rows
decreases-push_under_each-rows g l = length (rows_left l.rows)
