use Rattle.std.proofs.Common.{leb, rules}
use Rattle.std.proofs.lemmas.List.Sorted.{IsPartitionPoint-from_clause, IsPartitionedBy-leb}
use Rattle.tp_task.specs.Valid.{Placed}
use Rattle.tp_validate.proofs.Ordered.{until, after}
use Rattle.tp_validate.proofs.agenda.count_until.Goals as goal

pub returns-clause-until : goal.returns-clause-until
returns-clause-until c =
    until (λ (e : Placed). e.moment) c.args.agenda.now c.partition_point.result c.args.moment
    (IsPartitionPoint-from_clause (λ (e : Placed). leb e.moment c.args.moment) _ _ c.partition_point.ensures.partitioned
    (IsPartitionedBy-leb (λ (e : Placed). e.moment) c.args.agenda.now c.args.moment c.requires) (λ a r q k. search rules))

pub returns-clause-after : goal.returns-clause-after
returns-clause-after c =
    after (λ (e : Placed). e.moment) c.args.agenda.now c.partition_point.result c.args.moment
    (IsPartitionPoint-from_clause (λ (e : Placed). leb e.moment c.args.moment) _ _ c.partition_point.ensures.partitioned
    (IsPartitionedBy-leb (λ (e : Placed). e.moment) c.args.agenda.now c.args.moment c.requires) (λ a r q k. search rules))
