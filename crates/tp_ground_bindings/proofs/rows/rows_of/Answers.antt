use Rattle.std.proofs.Common.{ap, ◌∙◌, map}
use Rattle.std.proofs.lemmas.Result.{IfOk-weaker}
use Rattle.tp_syntax_ast.specs.Symbols.{typed_view}
use Rattle.tp_ground_bindings.specs.Rows.{product}
use Rattle.tp_ground_bindings.specs.Views.{universe_view}
use Rattle.tp_ground_bindings.proofs.OnRows.{rows_bindings}
use Rattle.tp_ground_bindings.proofs.rows.rows_of.Goals as goal

pub returns : goal.returns
returns c =
    IfOk-weaker c.rows_over.result _ _ (λ r left. left ∙ ap product c.in_ok-lists.ensures ∙ rows_bindings (universe_view c.args.universe.now) (map typed_view c.args.variables.now)) c.rows_over.ensures
