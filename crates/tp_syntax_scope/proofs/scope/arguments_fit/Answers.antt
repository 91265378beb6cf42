use Rattle.std.proofs.Common.{◌≡◌, ℕ, List, map, length, drop, option_map, refl, sym, ap, ◌∙◌, add-one, arith}
use Rattle.std.specs.Prelude.{nat_le}
use Rattle.std.proofs.lemmas.List.{length-map}
use Rattle.tp_syntax_ast.specs.declared.symbols.Typed.{Typed}
use Rattle.std.proofs.lemmas.Option.{slice_get_read, slice_get-map}
use Rattle.tp_syntax_ast.specs.Terms.{term_view}
use Rattle.tp_syntax_ast.specs.Symbols.{typed_view, arguments_fit}
use Rattle.tp_syntax_scope.specs.ScopeViews.{scope_view, symbols_of}
use Rattle.tp_syntax_scope.proofs.OnArguments.{next, fails, too_many, ended}
use Rattle.tp_syntax_scope.proofs.scope.arguments_fit.Goals as goal

pub returns-in_default : goal.returns-in_default
returns-in_default c =
    let σ = symbols_of c.args.scope.now in
    let k = c.loop-place.place in
    let there = slice_get-map term_view c.args.arguments.now k ∙ ap (option_map term_view) (slice_get_read c.args.arguments.now (length c.args.arguments.now) k c.index-arguments-place.result refl c.loop-place-test.true c.index-arguments-place.is) in
    sym (too_many σ.types σ.objects (scope_view c.args.scope.now) (map term_view c.args.arguments.now) (map typed_view c.args.signature.now.parameters.items) k (term_view c.index-arguments-place.result) there (sym c.in_default.ensures)) ∙ c.loop-place.invariant.0

pub returns-then-not-branch : goal.returns-then-not-branch
returns-then-not-branch c =
    let σ = symbols_of c.args.scope.now in
    let k = c.loop-place.place in
    let there = slice_get-map term_view c.args.arguments.now k ∙ ap (option_map term_view) (slice_get_read c.args.arguments.now (length c.args.arguments.now) k c.index-arguments-place.result refl c.loop-place-test.true c.index-arguments-place.is) in
    sym (fails σ.types σ.objects (scope_view c.args.scope.now) (map term_view c.args.arguments.now) (map typed_view c.args.signature.now.parameters.items) k (term_view c.index-arguments-place.result) _ there (sym c.in-Some.ensures) (sym c.in_ok-argument_fits.ensures ∙ c.if-not-branch.true)) ∙ c.loop-place.invariant.0

pub loop-place-preserved : goal.loop-place-preserved
loop-place-preserved c =
    let σ = symbols_of c.args.scope.now in
    let k = c.loop-place.place in
    let xs = map term_view c.args.arguments.now in
    let ps = map typed_view c.args.signature.now.parameters.items in
    let there = slice_get-map term_view c.args.arguments.now k ∙ ap (option_map term_view) (slice_get_read c.args.arguments.now (length c.args.arguments.now) k c.index-arguments-place.result refl c.loop-place-test.true c.index-arguments-place.is) in (
      ap (λ (i : ℕ). arguments_fit σ.types σ.objects (scope_view c.args.scope.now) (drop i xs) (drop i ps)) (add-one k)
          ∙ next σ.types σ.objects (scope_view c.args.scope.now) xs ps k (term_view c.index-arguments-place.result) _ there (sym c.in-Some.ensures) (sym c.in_ok-argument_fits.ensures ∙ c.if-not-branch.false)
          ∙ c.loop-place.invariant.0,
      omega (c.loop-place-test.true, arith),
    )

pub returns : goal.returns
returns c =
    let σ = symbols_of c.args.scope.now in
    let k = c.loop-place.place in
    let own = c.args.arguments.now in
    let xs = map term_view own in
    let ps = map typed_view c.args.signature.now.parameters.items in
    let many : length xs ≡ length own = length-map own term_view in
    let asked : length c.as_slice.result.now ≡ length ps = ap (λ (ts : List Typed). length ts) c.as_slice.ensures ∙ sym (length-map c.args.signature.now.parameters.items typed_view) in
    ap (λ (n : ℕ). nat_le n (length own)) asked
    ∙ ap (nat_le (length ps)) (sym many)
    ∙ sym (ended σ.types σ.objects (scope_view c.args.scope.now) xs ps k (omega (c.loop-place-test.false, many, arith)) (omega (c.loop-place.invariant.1, many, arith)))
    ∙ c.loop-place.invariant.0
