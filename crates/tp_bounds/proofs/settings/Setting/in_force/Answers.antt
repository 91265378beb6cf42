use Rattle.std.proofs.Common.{sym, ap, ◌∙◌}
use Rattle.std.specs.FinMap.{entries}
use Rattle.tp_bounds.specs.Setting.{Setting}
use Rattle.tp_bounds.proofs.InOrder.{entries_held}
use Rattle.tp_bounds.proofs.settings.Setting.in_force.Goals as goal

pub returns-clause-entries : goal.returns-clause-entries
returns-clause-entries c =
    sym (ap (λ (s : Setting). entries s.bounds) c.self.view_is)
    ∙ entries_held c.self.inside.bounds.entries c.len-count.ensures.ordered
