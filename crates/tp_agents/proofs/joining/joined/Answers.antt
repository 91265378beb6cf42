use Rattle.std.proofs.Common.{◌≡◌, ℕ, ◌<◌, length, slice_get, Some, arith}
use Rattle.std.proofs.lemmas.Option.{slice_get_read}
use Rattle.tp_exec_machine.specs.declared.command.Report.{Report}
use Rattle.tp_agents.specs.Owners.{owner_of, events_of, place_of}
use Rattle.tp_agents.proofs.Places.{owner_counted, stands_at_place}
use Rattle.tp_agents.proofs.Lists.{count_more}
use Rattle.tp_agents.proofs.Told.{told_more}
use Rattle.tp_agents.proofs.joining.joined.Goals as goal

pub bounds-reports-agent : goal.bounds-reports-agent
bounds-reports-agent c = omega (arith, c.requires.all, owner_counted c.args.owners.now c.loop-e.e c.loop-e-test.true)

pub index-requires : goal.index-requires
index-requires c =
    let r : Report = c.index-reports-agent.result in
    let agent : ℕ = owner_of c.args.owners.now c.loop-e.e in
    let counted = owner_counted c.args.owners.now c.loop-e.e c.loop-e-test.true in
    let there : slice_get c.args.reports.now agent ≡ Some r = slice_get_read c.args.reports.now (length c.args.reports.now) agent r (omega arith) (omega (arith, c.requires.all, counted)) c.index-reports-agent.is in
    let fit : length r.moments.items ≡ length (events_of c.args.owners.now agent) = c.requires.fit agent r counted there in
    let within : place_of c.args.owners.now c.loop-e.e < length (events_of c.args.owners.now agent) = (stands_at_place c.args.owners.now c.loop-e.e c.loop-e-test.true).within in
    omega (arith, c.place.ensures, r.moments.ok.0)

pub loop-e-preserved : goal.loop-e-preserved
loop-e-preserved c =
    let r : Report = c.index-reports-agent.result in
    let agent : ℕ = owner_of c.args.owners.now c.loop-e.e in
    let counted = owner_counted c.args.owners.now c.loop-e.e c.loop-e-test.true in
    let there : slice_get c.args.reports.now agent ≡ Some r = slice_get_read c.args.reports.now (length c.args.reports.now) agent r (omega arith) (omega (arith, c.requires.all, counted)) c.index-reports-agent.is in
    let fit : length r.moments.items ≡ length (events_of c.args.owners.now agent) = c.requires.fit agent r counted there in
    let within : place_of c.args.owners.now c.loop-e.e < length (events_of c.args.owners.now agent) = (stands_at_place c.args.owners.now c.loop-e.e c.loop-e-test.true).within in
    record {
      count = count_more c.loop-e.moments.items c.push.new.self.items c.index.result.now.0 c.loop-e.e c.loop-e.invariant.count c.in_ok-push.ensures.items;
      each = told_more c.args.owners.now c.args.reports.now c.loop-e.moments.items c.push.new.self.items c.loop-e.e r c.place.result c.index.result.now c.loop-e.invariant.count c.loop-e.invariant.each c.in_ok-push.ensures.items there c.place.ensures (omega (arith, c.place.ensures)) c.index.ensures;
    }
