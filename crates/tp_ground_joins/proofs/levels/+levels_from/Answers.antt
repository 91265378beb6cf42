use Rattle.std.proofs.Common.{◌≡◌, ◌-◌, List, [], ◌∷◌, ◌++◌, length, map, sym, ap, subst, ◌∙◌, arith}
use Rattle.std.proofs.lemmas.List.{length-map}
use Rattle.tp_syntax_ast.specs.Symbols.{typed_view}
use Rattle.tp_ground_bindings.specs.Rows.{Names, names_in, lists_of}
use Rattle.tp_ground_joins.specs.Walks.{IsAllowed}
use Rattle.tp_ground_joins.specs.declared.rows.Level.{Level}
use Rattle.tp_ground_joins.specs.Levels.{Picks}
use Rattle.std.specs.Borrow.{Bor}
use Rattle.std.proofs.Common.{ℕ}
use Rattle.tp_ground_joins.proofs.OnLevels.{more_allowed}
use Rattle.tp_ground_joins.proofs.levels.+levels_from.Goals as goal

pub returns : goal.returns
returns t c = λ row ns l pick all.
    let ps = map typed_view c.args.parameters.now in
    let rest = c.in-Some.rest.now in
    let level = c.in_ok-level.level in
    let others = c.in_ok-others.others.items in
    let long = length-map c.args.parameters.now typed_view in
    let wide = length-map rest names_in in
    let made = c.in_ok-append.ensures.items ∙ ap (λ (ls : List Level). ls ++ others) (c.in_ok-push.ensures.items ∙ ap (λ (ls : List Level). ls ++ level ∷ []) c.new-levels.ensures.items) in
    let count : c.saturating_sub-many.result ≡ length ps - length (lists_of rest) = let sub = c.saturating_sub-many.ensures in omega (arith, sub, long, wide) in
    subst (λ (ls : List Level). IsAllowed ls row ns) (sym made)
    (more_allowed ps c.args.statics.now level others (names_in c.in-Some.first.now) (lists_of rest) c.saturating_sub-many.result
    (c.in_ok-level.ensures.names ∙ ap (λ (os : List (Bor (List ℕ))). map (λ o. o.now) os) c.as_slice-names.ensures.value)
    c.in_ok-level.ensures.fair count
    (λ row ns l pick all. c.in_ok-others.ensures row ns (l ∙ long) pick all)
    row ns (l ∙ sym long) (subst (λ (ls : List Names). Picks (lists_of ls) ns) c.in-Some.ensures.cases.0 pick) all)
