use Rattle.std.proofs.Common.{◌≡◌, List, true, map, subst, ◌∙◌}
use Rattle.tp_ground_joins.specs.Views.{keyed_view}
use Rattle.tp_ground_joins.specs.Checks.{has_row}
use Rattle.tp_ground_joins.specs.declared.keyed.Keyed.{Keyed}
use Rattle.tp_ground_joins.proofs.OnLevels.{more_rows}
use Rattle.tp_ground_joins.proofs.levels.add_rows.Goals as goal

pub loop-row-preserved : goal.loop-row-preserved
loop-row-preserved c = record {
  columns = c.add.ensures.columns ∙ c.loop-row.invariant.columns;
  places = c.add.ensures.places ∙ c.loop-row.invariant.places;
  added = more_rows c.loop-row.check c.add.new.self c.args.rows.now c.loop-row.row-index c.row-item.result c.loop-row-test.true c.row-item.is c.loop-row.invariant.added c.in_ok-add.ensures.kept
      (subst (λ (ks : List Keyed). has_row c.add.new.self (map keyed_view ks) ≡ true) c.deref.ensures.value c.in_ok-add.ensures.added);
}
