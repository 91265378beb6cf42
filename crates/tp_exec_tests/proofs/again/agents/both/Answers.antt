use Rattle.tp_exec_laws.specs.PartRuns.{IsPartReport}
use Rattle.tp_exec_tests.proofs.Parts.{each_of_two}
use Rattle.tp_exec_tests.proofs.again.agents.both.Goals as goal

pub joined-requires : goal.joined-requires
joined-requires c =
    each_of_two (λ agent r. IsPartReport c.args.split.now.setting c.args.split.now.owners.items c.args.split.now.intervals.items agent r) c.in-Some-Some.one c.in-Some-Some.other
    (rw c.in-Some-Some.is-0 at c.in_ok-one.ensures) (rw c.in-Some-Some.is-1 at c.in_ok-other.ensures)
