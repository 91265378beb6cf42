use Rattle.std.proofs.Common.{ap, ◌∙◌}
use Rattle.tp_syntax_ast.specs.Terms.{shapes}
use Rattle.tp_syntax.specs.KeyedParts.{or_nothing}
use Rattle.tp_syntax.proofs.OnKeyed.{part_found, or_else}
use Rattle.tp_syntax.proofs.keyed.find_or_empty.Goals as goal

pub returns : goal.returns
returns g c =
    ap (λ p. shapes p.body.now) c.unwrap_or.ensures
    ∙ or_else c.find.result _ c.no_trees.ensures
    ∙ ap or_nothing (part_found g.K.ItemKind.number c.args.kind c.args.parts.now c.find.result c.find.ensures)
