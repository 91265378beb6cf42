use Rattle.std.proofs.Common.{sym, ap, ◌∙◌, arith}
use Rattle.std.specs.FinMap.{get}
use Rattle.tp_bounds.specs.Setting.{Setting}
use Rattle.tp_exec_machine.proofs.Ready.{unused_added, kept_added}
use Rattle.tp_exec_machine.proofs.executive.Executive.add.Goals as goal

pub invariant_of-self : goal.invariant_of-self
invariant_of-self g c =
    record {
      between = c.self.invariant.between;
      unused = λ id le. ap (λ (s : Setting). get s.bounds id) c.in-Ok.ensures.ok ∙ unused_added (g.N.Net.seen c.self.inside.net).bounds c.self.inside.next _ c.self.invariant.unused id le;
      ids = omega arith;
      asks_nothing = ap (λ (s : Setting). s.proposed) c.in-Ok.ensures.ok ∙ c.self.invariant.asks_nothing;
      first = let f = c.self.invariant.first in omega arith;
      kept = λ is id lt none. kept_added (g.N.Net.seen c.self.inside.net).bounds c.self.inside.next c.self.inside.own _ c.self.invariant.first (c.self.invariant.kept is) id lt (sym (ap (λ (s : Setting). get s.bounds id) c.in-Ok.ensures.ok) ∙ none);
    }
