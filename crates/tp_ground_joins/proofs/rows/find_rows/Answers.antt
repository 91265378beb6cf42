use Rattle.std.proofs.Common.{List, [], ◌++◌, map, sym, ap, subst, ◌∙◌}
use Rattle.std.proofs.lemmas.Result.{on_ok_weaker}
use Rattle.tp_ground_joins.specs.Views.{keyed_view, row_view}
use Rattle.tp_ground_joins.specs.Walks.{walked, IsIn}
use Rattle.tp_ground_joins.specs.declared.keyed.Keyed.{Keyed}
use Rattle.tp_ground_joins.proofs.OnWalks.{all_found, in_back}
use Rattle.tp_ground_joins.proofs.rows.find_rows.Goals as goal

pub returns-clause-complete : goal.returns-clause-complete
returns-clause-complete c =
    let levels = c.args.levels.now in
    let before = map row_view c.args.found.now.rows.items in
    on_ok_weaker c.walk.result (λ h ns a. subst (IsIn ns)
    (sym (h ∙ ap (λ (is : List Keyed). before ++ walked levels (map keyed_view is)) c.new-row.ensures.items))
    (in_back ns before (walked levels []) (all_found levels [] ns a))) c.walk.ensures.found
