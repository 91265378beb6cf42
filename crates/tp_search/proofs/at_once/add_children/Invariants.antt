use Rattle.std.proofs.Common.{◌≡◌, ◌++◌, take}
use Rattle.tp_search.specs.Children.{children}
use Rattle.tp_search.proofs.at_once.add_children.Given as goal

abbrev pub invariant-loop-action : goal.invariant-loop-action
invariant-loop-action l = l.arena ≡ l.initial.arena ++ children l.task l.first (take l.action-index l.candidates) l.chosen
