use Rattle.std.proofs.Common.{◌≡◌, List, [], ◌∷◌, ◌++◌, Bor, map, sym, ap, ◌∙◌, append_assoc, append-nil}
use Rattle.std.proofs.lemmas.List.{map-append}
use Rattle.tp_syntax_ast.specs.Symbols.{Name}
use Rattle.tp_syntax_ast.specs.DomainViews.{action_view}
use Rattle.tp_ground_bindings.specs.Left.{rows_left}
use Rattle.tp_ground.specs.Reached.{Instance}
use Rattle.tp_ground.specs.Instances.{instance_view}
use Rattle.tp_ground.proofs.OnInstances.{bound_to}
use Rattle.tp_ground.proofs.instances.push_rows.Goals as goal

pub rows-preserved : goal.rows-preserved
rows-preserved c =
    let f = bound_to (action_view c.args.action.now) in
    let row : List Name = map (λ (o : Bor Name). o.now) c.advance.new.self.row.items in
    let left = rows_left c.advance.new.self in
    let before = map instance_view c.rows.into.items in
    let next : rows_left c.rows.rows ≡ row ∷ left = c.advance.ensures.some c.rows-test.true in
    let pushed : map instance_view c.push.new.self.items ≡ before ++ f row ∷ [] =
    ap (map instance_view) c.in_ok-push.ensures.items
    ∙ map-append instance_view c.rows.into.items _
    ∙ ap (λ (ns : List Name). before ++ f ns ∷ []) (c.in_ok-objects.ensures ∙ ap (map (λ (o : Bor Name). o.now)) c.deref.ensures.value) in
    ap (λ (is : List Instance). is ++ map f left) pushed
    ∙ append_assoc before (f row ∷ []) (map f left)
    ∙ ap (λ (rs : List (List Name)). before ++ map f rs) (sym next)
    ∙ c.rows.invariant

pub returns : goal.returns
returns c =
    let f = bound_to (action_view c.args.action.now) in
    let before = map instance_view c.rows.into.items in
    sym (append-nil before)
    ∙ ap (λ (rs : List (List Name)). before ++ map f rs) (sym (c.advance.ensures.none c.rows-test.false))
    ∙ c.rows.invariant
