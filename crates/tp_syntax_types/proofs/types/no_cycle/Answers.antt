use Rattle.std.proofs.Common.{ℕ, List, map, length, ap, sym, ◌∙◌}
use Rattle.std.specs.List.{list_all}
use Rattle.std.proofs.lemmas.List.{length-map}
use Rattle.tp_syntax_ast.specs.Domains.{object}
use Rattle.tp_syntax_ast.specs.Symbols.{parent_view, at_or_below}
use Rattle.tp_syntax_ast.specs.declared.types.TypeName.{TypeName}
use Rattle.tp_syntax_types.specs.TypeViews.{types_view}
use Rattle.tp_syntax_types.proofs.types.no_cycle.Goals as goal

pub returns : goal.returns
returns c =
    let ds = types_view c.args.types.now in
    c.are_below_object.ensures
    ∙ ap (λ (ts : List TypeName). list_all (λ p. at_or_below ds (length c.args.types.now) p.name object) (map parent_view ts)) c.declared.ensures
    ∙ ap (λ (n : ℕ). list_all (λ p. at_or_below ds n p.name object) ds) (sym (length-map c.args.types.now parent_view))
