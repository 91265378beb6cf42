use Rattle.tp_exec_tests.proofs.again.agents.is_empty.Goals as goal

pub join_runs-requires : goal.join_runs-requires
join_runs-requires c = λ agent r lt h. absurd (let f : ⊥ = cc in f)
