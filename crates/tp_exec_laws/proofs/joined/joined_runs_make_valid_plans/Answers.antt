use Rattle.tp_agents.proofs.OnParts.{joined_schedule}
use Rattle.tp_exec_laws.proofs.joined.joined_runs_make_valid_plans.Goals as goal

pub returns-clause-schedule : goal.returns-clause-schedule
returns-clause-schedule c = λ reports moments are joined.
    joined_schedule _ _ _ _ c.args.split.now.split c.events-events.ensures.lawful reports moments joined.0.0 joined.1
    (c.part_runs_keep_parts.ensures.keep reports are joined.0)

pub returns-clause-valid : goal.returns-clause-valid
returns-clause-valid c = λ t steps l n reports moments net there are joined.
    c.schedules_make_valid_plans.ensures t steps l n _ net there (returns-clause-schedule c reports moments are joined).schedule
