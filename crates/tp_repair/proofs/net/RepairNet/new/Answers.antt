use Rattle.std.proofs.Common.{◌≡◌, ℕ, None, rules}
use Rattle.std.specs.Ordering.{nat_cmp}
use Rattle.std.specs.BTreeMap.{get}
use Rattle.tp_repair_engine.proofs.Stars.{begun}
use Rattle.tp_repair.proofs.net.RepairNet.new.Goals as goal

pub invariant_of-result : goal.invariant_of-result
invariant_of-result c =
    let none : (q : ℕ) → get nat_cmp c.new-2.result q ≡ None = λ q. search rules in
    rw (c.new.ensures.empty, c.in_ok-fixed.ensures.fixed, c.in_ok-fixed.ensures.lags)
    (begun c.args.events c.args.horizon c.in_ok-store.floors.items c.in_ok-store.ends.items c.new-2.result _ c.requires.events c.requires.horizon c.in_ok-store.ensures none c.in_ok-low.ensures.low c.in_ok-low.ensures.high c.in_ok-up.ensures.0 c.in_ok-up.ensures.1)
