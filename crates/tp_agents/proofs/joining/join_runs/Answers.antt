use Rattle.std.proofs.Common.{◌≡◌, ℕ, List, length, subst, arith}
use Rattle.tp_agents.specs.Owners.{agent_count}
use Rattle.tp_agents.specs.Joined.{AreJoined}
use Rattle.tp_agents.proofs.Joins.{all_complete}
use Rattle.tp_agents.proofs.OnParts.{joined_schedule}
use Rattle.tp_agents.proofs.joining.join_runs.Goals as goal

pub returns-clause-joined : goal.returns-clause-joined
returns-clause-joined c =
    let count : length c.args.reports.now ≡ agent_count c.args.split.now.owners.items = omega (arith, c.if-reports-agents.false, c.agents.ensures) in (
      all_complete c.args.split.now.owners.items c.args.reports.now c.loop-report.report-index count c.loop-report-test.false c.loop-report.invariant,
      subst (λ (o : List ℕ). AreJoined o c.args.reports.now c.in_ok-joined.field-0.items) c.deref.ensures.value c.in_ok-joined.ensures,
    )

pub returns-clause-schedule : goal.returns-clause-schedule
returns-clause-schedule c keep =
    let count : length c.args.reports.now ≡ agent_count c.args.split.now.owners.items = omega (arith, c.if-reports-agents.false, c.agents.ensures) in
    joined_schedule _ _ _ _ c.args.split.now.split c.events-events.ensures.lawful c.args.reports.now c.in_ok-joined.field-0.items count
    (subst (λ (o : List ℕ). AreJoined o c.args.reports.now c.in_ok-joined.field-0.items) c.deref.ensures.value c.in_ok-joined.ensures) keep
