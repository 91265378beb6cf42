use Rattle.std.proofs.Common.{◌≡◌, subst, ◌∙◌, arith}
use Rattle.std.proofs.lemmas.List.{take_all}
use Rattle.tp_search.specs.Rows.{free_after}
use Rattle.tp_search.proofs.Listed.{free_more}
use Rattle.tp_search.proofs.rows.free_of.Goals as goal

pub loop-candidate-preserved : goal.loop-candidate-preserved
loop-candidate-preserved c are =
    c.in_ok-push_if.ensures
    ∙ free_more c.args.task.now c.args.candidates.now c.args.action c.loop-candidate.candidate-index c.loop-candidate.free.items c.in_ok-wanted.wanted (omega arith) (c.loop-candidate.invariant are) (c.in_ok-wanted.ensures are)

pub returns : goal.returns
returns c are =
    let among = c.args.candidates.now in
    subst (λ xs. c.loop-candidate.free.items ≡ free_after c.args.task.now xs c.args.action) (take_all c.loop-candidate.candidate-index among (omega (arith, c.loop-candidate-test.false))) (c.loop-candidate.invariant are)
