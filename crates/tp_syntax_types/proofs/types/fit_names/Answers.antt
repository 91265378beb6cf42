use Rattle.std.proofs.Common.{◌≡◌, ℕ, false, true, length, string_bytes, ap, sym, ◌∙◌}
use Rattle.std.specs.List.{list_any}
use Rattle.std.proofs.lemmas.List.{length-map}
use Rattle.tp_syntax_ast.specs.Symbols.{parent_view, at_or_below}
use Rattle.tp_syntax_types.specs.TypeViews.{types_view}
use Rattle.tp_syntax_types.proofs.OnClimbs.{rest_more}
use Rattle.tp_syntax_types.proofs.types.fit_names.Goals as goal

pub returns-then-not-climbs_to : goal.returns-then-not-climbs_to
returns-then-not-climbs_to c = λ ps are.
    let ds = types_view c.args.types.now in
    let fit : c.climbs_to.result ≡ list_any (λ p. at_or_below ds (length ds) (string_bytes c.below-item.result) p) ps =
    c.climbs_to.ensures ps are ∙ ap (λ (n : ℕ). list_any (λ p. at_or_below ds n (string_bytes c.below-item.result) p) ps) (c.len.ensures ∙ sym (length-map c.args.types.now parent_view)) in
    sym (rest_more ds ps c.args.argument.now c.loop-below.below-index c.below-item.result false c.loop-below-test.true c.below-item.is (sym c.if-not-climbs_to.true ∙ fit)) ∙ c.loop-below.invariant ps are

pub loop-below-preserved : goal.loop-below-preserved
loop-below-preserved c = λ ps are.
    let ds = types_view c.args.types.now in
    let fit : c.climbs_to.result ≡ list_any (λ p. at_or_below ds (length ds) (string_bytes c.below-item.result) p) ps =
    c.climbs_to.ensures ps are ∙ ap (λ (n : ℕ). list_any (λ p. at_or_below ds n (string_bytes c.below-item.result) p) ps) (c.len.ensures ∙ sym (length-map c.args.types.now parent_view)) in
    sym (rest_more ds ps c.args.argument.now c.loop-below.below-index c.below-item.result true c.loop-below-test.true c.below-item.is (sym c.if-not-climbs_to.false ∙ fit)) ∙ c.loop-below.invariant ps are
