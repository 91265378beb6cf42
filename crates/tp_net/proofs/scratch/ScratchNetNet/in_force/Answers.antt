use Rattle.std.proofs.Common.{sym, ap, ◌∙◌}
use Rattle.std.specs.FinMap.{len}
use Rattle.tp_bounds.specs.Setting.{Setting}
use Rattle.tp_net.proofs.HeldLemmas.{held_len}
use Rattle.tp_net.proofs.scratch.ScratchNetNet.in_force.Goals as goal

pub returns : goal.returns
returns c =
    c.len.ensures.len
    ∙ (sym (held_len c.self.inside.bounds c.len.ensures.ordered) ∙ ap (λ (s : Setting). len s.bounds) c.self.view_is)
