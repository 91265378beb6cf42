use Rattle.tp_agents.proofs.OnParts.{parts_possible}
use Rattle.tp_agents.proofs.PartNets.{part_is_net}
use Rattle.tp_exec_laws.proofs.PartReports.{report_fits, kept_tells, complete_at}
use Rattle.tp_exec_laws.proofs.joined.part_runs_keep_parts.Goals as goal

pub returns-clause-fit : goal.returns-clause-fit
returns-clause-fit c = λ reports are agent r lt there. report_fits _ _ _ agent r (are agent r there)

pub returns-clause-schedules : goal.returns-clause-schedules
returns-clause-schedules c = λ agent r h kept.
    let sp = c.args.split.now.split in
    let lawful = c.events-events.ensures.lawful in
    kept_tells _ _ _ agent r h (part_is_net _ _ _ _ sp lawful agent).suit (parts_possible _ _ _ _ sp lawful agent) kept

pub returns-clause-keep : goal.returns-clause-keep
returns-clause-keep c = λ reports are complete agent r there.
    let sp = c.args.split.now.split in
    let lawful = c.events-events.ensures.lawful in
    kept_tells _ _ _ agent r (are agent r there) (part_is_net _ _ _ _ sp lawful agent).suit (parts_possible _ _ _ _ sp lawful agent)
    (complete_at reports agent r complete.1 there).1
