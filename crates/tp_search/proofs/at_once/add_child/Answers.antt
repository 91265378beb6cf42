use Rattle.std.proofs.Common.{nat_le, sym, ◌∙◌}
use Rattle.std.proofs.lemmas.Bool.{and_left, and_right, lt-leb}
use Rattle.tp_search.specs.Possible.{is_apart}
use Rattle.tp_search.proofs.Expanding.{none_joins}
use Rattle.tp_search.proofs.at_once.add_child.Goals as goal
use Rattle.tp_search.proofs.at_once.add_child.Goals.{then-action-first-via-then-action-first, then-action-first-via-else-action-first+then-not-is_apart}

pub returns-then-action-first : goal.returns-then-action-first
returns-then-action-first c among h i =
    let t = c.args.task.now in
    let first = c.args.first in
    let chosen = c.args.chosen.now in
    let a = c.args.action in
    none_joins t first chosen c.args.arena.now a
    (elim c.then-action-first.branch [
      | then-action-first-via-then-action-first w ↦ and_left (nat_le first a) (is_apart t chosen a) (lt-leb first a w.if-action-first.true)
      | then-action-first-via-else-action-first+then-not-is_apart w ↦ and_right (nat_le first a) (is_apart t chosen a) (sym (w.is_apart.ensures among h i) ∙ w.if-not-is_apart.true)
    ])
