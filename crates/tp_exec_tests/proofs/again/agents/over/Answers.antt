use Rattle.std.proofs.Common.{refl, arith}
use Rattle.std.proofs.lemmas.Result.{IfOk-weaker}
use Rattle.tp_exec_tests.proofs.Parts.{begins_new}
use Rattle.tp_exec_tests.proofs.again.agents.over.Goals as goal

pub returns : goal.returns
returns c =
    IfOk-weaker c.from_plan.result _ _
    (λ m is. begins_new _ _ _ _ c.args.network.now c.in_ok-net.net.setting _ _ c.greatest-limits.result m c.requires.part c.in_ok-net.ensures.setting (omega (arith, c.len.ensures)) refl is)
    c.from_plan.ensures
