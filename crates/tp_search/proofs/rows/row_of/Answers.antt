use Rattle.std.proofs.Common.{refl}
use Rattle.tp_search.proofs.Listed.{sorted_row}
use Rattle.tp_search.proofs.rows.row_of.Goals as goal

pub returns : goal.returns
returns c = record {
  known = refl;
  is = sorted_row c.args.task.now c.args.candidates.now c.args.action _ c.sort_unstable.new.self.items c.in_ok-apart.ensures c.sort_unstable.ensures.permutation c.sort_unstable.ensures.sorted;
}
