use Rattle.std.proofs.Common.{◌≡◌, ℕ, ◌+◌, drop, List, [], ◌∷◌, ◌++◌, Bor, ap, ◌∙◌, map, string_bytes}
use Rattle.std.proofs.lemmas.List.{map-append}
use Rattle.tp_syntax_ast.specs.Symbols.{typed_view, types_fit}
use Rattle.tp_syntax_types.specs.TypeViews.{types_view}
use Rattle.tp_ground_bindings.specs.Bindings.{fitting}
use Rattle.tp_ground_bindings.specs.KnownChoices.{of_types}
use Rattle.tp_ground_bindings.proofs.OnFitting.{fit_step, pushed_on, kept_on}
use Rattle.tp_ground_bindings.proofs.universe.push_fitting.Goals as goal
use Rattle.tp_ground_bindings.proofs.universe.push_fitting.Goals.{then-types_fit+in_ok-push, else-types_fit}

pub loop-object-preserved : goal.loop-object-preserved
loop-object-preserved c =
    let fits : c.types_fit.result ≡ types_fit (types_view c.args.types.now) (map string_bytes c.object-item.result.types.value.items) (map string_bytes c.args.wanted.now) =
    c.types_fit.ensures
    ∙ ap (λ ts. types_fit (types_view c.args.types.now) (map string_bytes ts) (map string_bytes c.args.wanted.now)) c.type_names.ensures in
    let step = fit_step (types_view c.args.types.now) (map string_bytes c.args.wanted.now) c.args.objects.now c.loop-object.object-index c.object-item.result c.types_fit.result c.loop-object-test.true c.object-item.is fits in
    elim c.if-types_fit.branch [
      | then-types_fit+in_ok-push w ↦
          pushed_on _ _ (string_bytes c.object-item.result.name) _ _ _
          (ap (λ v. map (λ (o : Bor (List ℕ)). o.now) v.items) w.names-is ∙ ap (map (λ (o : Bor (List ℕ)). o.now)) w.in_ok-push.ensures.items ∙ map-append (λ (o : Bor (List ℕ)). o.now) c.loop-object.names.items (w.as_str.result ∷ []) ∙ ap (λ n. map (λ (o : Bor (List ℕ)). o.now) c.loop-object.names.items ++ n ∷ []) w.as_str.ensures.value)
          (rw w.if-types_fit.true at step) c.loop-object.invariant
      | else-types_fit w ↦ ap (λ v. map (λ (o : Bor (List ℕ)). o.now) v.items ++ fitting (types_view c.args.types.now) (map typed_view (drop (c.loop-object.object-index + 1) c.args.objects.now)) (of_types (map string_bytes c.args.wanted.now))) w.names-is ∙ kept_on _ _ _ _ (rw w.if-types_fit.false at step) c.loop-object.invariant
    ]
