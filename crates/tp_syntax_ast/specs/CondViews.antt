-- What a `Cond` shows.
use Rattle.std.specs.Prelude.{map}
use Rattle.tp_syntax_ast.specs.Terms.{term_view, atom_view}
use Rattle.tp_syntax_ast.specs.Symbols.{typed_view}
use Rattle.tp_syntax_ast.specs.ExprViews.{expr_view}
use Rattle.tp_syntax_ast.specs.Conditions.{Condition, conditions, all_of, any_of, negation, implies, for_all, for_some, fact, same, compared}
use Rattle.tp_syntax_ast.specs.declared.cond.Cond.{Cond, fold-Cond}
use Rattle.tp_syntax_ast.specs.declared.cond.Cond.TheOpen.{Cond-F}

abbrev pub cond_step : Cond-F Condition → Condition
cond_step (Cond-F.And v) = all_of (conditions v.items)
cond_step (Cond-F.Or v) = any_of (conditions v.items)
cond_step (Cond-F.Not b) = negation b.value
cond_step (Cond-F.Imply a b) = implies a.value b.value
cond_step (Cond-F.Forall vs b) = for_all (map typed_view vs.items) b.value
cond_step (Cond-F.Exists vs b) = for_some (map typed_view vs.items) b.value
cond_step (Cond-F.Atom a) = fact (atom_view a)
cond_step (Cond-F.Same a b) = same (term_view a) (term_view b)
cond_step (Cond-F.Compare op a b) = compared op (expr_view a) (expr_view b)

abbrev pub cond_view : Cond → Condition
cond_view = fold-Cond Condition cond_step
