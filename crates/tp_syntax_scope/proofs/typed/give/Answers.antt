use Rattle.std.proofs.Common.{◌≡◌, ◌++◌, map, String, Vec, Global, string_bytes, subst, ◌∙◌}
use Rattle.std.proofs.lemmas.Iterator.Adapters.{YieldsList-from_vec}
use Rattle.std.proofs.lemmas.Iterator.Consumers.{YieldsList-end}
use Rattle.tp_syntax_scope.proofs.OnRowViews.{rows_given, last_given, given_next, given_all}
use Rattle.tp_syntax_ast.specs.Symbols.{typed_view}
use Rattle.tp_syntax_ast.specs.TypedLists.{given}
use Rattle.tp_syntax_scope.proofs.typed.give.Goals as goal

pub loop-name-preserved : goal.loop-name-preserved
loop-name-preserved c = record {
  items = given_next _ _ _ _ c.loop-name.yielded _ c.loop-name.invariant.items c.in_ok-push_typed.ensures.items;
  rows = λ before. rows_given _ _ _ _ c.loop-name.mark _ _ c.in_ok-push_typed.ensures.rows c.in_ok-push_typed.ensures.items (c.loop-name.invariant.rows before) c.loop-name.invariant.last;
  last = λ mark. last_given _ _ _ _ c.loop-name.mark _ _ c.in_ok-push_typed.ensures.rows c.in_ok-push_typed.ensures.items;
}

pub returns-clause-items : goal.returns-clause-items
returns-clause-items c =
    let b = c.into_iter-name-iterator.ensures.into_iter_gives in
    let all = given_all _ _ _ c.loop-name.yielded _ (YieldsList-end (YieldsList-from_vec {s = c.into_iter-name-iterator.result} _ b.0 (b.1 ∙ c.args.names.ok.0)) c.loop-name.yielded c.loop-name.name-iterator c.loop-name.yielded_by c.next.result c.next.new.self c.in-None.is c.next.ensures.steps).0 c.loop-name.invariant.items in
    subst (λ (ts : Vec (String Global) Global). map typed_view c.loop-name.done.items ≡ map typed_view c.args.done.now.items ++ map (given (map string_bytes ts.items)) (map string_bytes c.args.names.items)) c.in_ok-shared.ensures.ok all
