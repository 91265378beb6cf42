use Rattle.std.proofs.Common.{ap, ◌∙◌}
use Rattle.std.specs.Ordering.{nat_cmp}
use Rattle.std.specs.FinMap.{get, get-empty}
use Rattle.tp_bounds.specs.Setting.{Setting}
use Rattle.tp_exec_tests.proofs.again.networks.two_apart.Goals as goal

pub put-requires-clause-unused : goal.put-requires-clause-unused
put-requires-clause-unused c = ap (λ (s : Setting). get s.bounds 0) c.in_ok-setting.ensures ∙ get-empty nat_cmp 0
