use Rattle.std.proofs.Common.{ap, ◌∙◌, arith}
use Rattle.std.specs.Ordering.{nat_cmp}
use Rattle.std.specs.FinMap.{get, get-empty}
use Rattle.tp_exec_machine.proofs.executive.Executive.bare.Goals as goal

pub invariant_of-result : goal.invariant_of-result
invariant_of-result g c =
    record {
      between = c.requires.between;
      unused = λ id le. ap (λ m. get m id) c.requires.fresh.no_bounds ∙ get-empty nat_cmp id;
      ids = omega arith;
      asks_nothing = c.requires.fresh.asks_nothing;
      first = omega arith;
      kept = λ is id lt none. omega arith;
    }
