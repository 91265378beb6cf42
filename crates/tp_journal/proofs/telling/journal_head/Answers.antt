use Rattle.std.proofs.Common.{◌≡◌, Some, ◌++◌, ap, arith, sym, subst, ◌∙◌}
use Rattle.std.specs.Prelude.{is_some}
use Rattle.std.specs.Option.{option_to_list}
use Rattle.tp_journal.specs.declared.form.Place.TheVariants.{Network}
use Rattle.tp_journal.specs.Auditing.{head_version}
use Rattle.tp_journal.specs.Telling.{nothing_told, tell, new_lag}
use Rattle.tp_journal.proofs.Heads.{version_long}
use Rattle.tp_journal.proofs.Told.{ToldSoFar, told_first, told_more, told_done, told_is_head, stays_in, stays_told, version_stays}
use Rattle.tp_journal.proofs.telling.journal_head.Goals as goal

pub returns-in-Err-clause-head : goal.returns-in-Err-clause-head
returns-in-Err-clause-head g c = stays_told c.args.lines.now c.take_version.new.lines c.in-Err.fault (version_stays c.args.lines.now c.take_version.new.lines c.in-Err.fault c.in-Err.ensures.version)

pub returns-in-Err-clause-alone : goal.returns-in-Err-clause-alone
returns-in-Err-clause-alone g c = version_stays c.args.lines.now c.take_version.new.lines c.in-Err.fault c.in-Err.ensures.version

pub head-init : goal.head-init
head-init g c =
    let taken = c.in-Ok.ensures.version in
    record {
      so_far = subst (ToldSoFar c.args.lines.now c.take_version.new.lines c.in-Ok.version 1 (Network c.in-Ok.version) nothing_told) (sym c.new-lags.ensures.items) (told_first c.args.lines.now c.take_version.new.lines c.in-Ok.version c.in-Ok.ensures.version);
      longest = c.in-Ok.ensures.limits.longest;
      most = c.in-Ok.ensures.limits.most;
      source = c.in-Ok.ensures.limits.source;
      few = omega (arith, taken.1.counted, version_long taken.0 c.in-Ok.version taken.2);
      reader = c.in-Ok.ensures.read;
    }

pub returns-in-Err-take_any-clause-head : goal.returns-in-Err-take_any-clause-head
returns-in-Err-take_any-clause-head g c =
    stays_told c.args.lines.now c.take_any.new.lines c.in-Err-take_any.fault
    (stays_in c.args.lines.now c.head.lines c.take_any.new.lines c.in-Ok.version c.head.count c.head.place c.head.told c.head.lags.items c.in-Err-take_any.fault c.head.invariant.so_far c.in-Err-take_any.ensures.turns)

pub returns-in-Err-take_any-clause-alone : goal.returns-in-Err-take_any-clause-alone
returns-in-Err-take_any-clause-alone g c =
    stays_in c.args.lines.now c.head.lines c.take_any.new.lines c.in-Ok.version c.head.count c.head.place c.head.told c.head.lags.items c.in-Err-take_any.fault c.head.invariant.so_far c.in-Err-take_any.ensures.turns

pub returns-in-Ok-Done-clause-head : goal.returns-in-Ok-Done-clause-head
returns-in-Ok-Done-clause-head g c =
    told_done c.args.lines.now c.head.lines c.take_any.new.lines c.head_told.result c.in-Ok.version c.head.count c.head.place c.head.told c.head.lags.items c.head.invariant.so_far
    (rw c.in-Ok-Done.field-0-is at c.in-Ok-Done.ensures.turns)
    c.head_told.ensures.version (told_is_head c.head_told.result c.head.told c.head_told.ensures.events c.head_told.ensures.horizon c.head_told.ensures.own) (ap (λ ls. ls.items) c.head_told.ensures.lags)

pub take_any-requires-clause-names : goal.take_any-requires-clause-names
take_any-requires-clause-names g c = ap is_some c.head.invariant.so_far.names

pub head-preserved : goal.head-preserved
head-preserved g c =
    let turn = rw c.in-Ok-On.field-0-is at c.in-Ok-On.ensures.turns in
    let names : head_version c.in-Ok-On.next ≡ Some c.in-Ok.version = turn.2 ∙ c.head.invariant.so_far.names in
    record {
      so_far =
          told_more c.args.lines.now c.head.lines c.take_any.new.lines c.in-Ok.version c.head.count c.head.place c.in-Ok-On.next c.head.told c.tell-told.result c.head.lags.items c.put_lag.new.lags.items c.take_any.new.lines.line c.head.invariant.so_far turn.0 turn.1 names
          (c.tell-told.ensures ∙ ap (λ l. tell c.head.place l c.head.told) c.line.ensures)
          (c.in-Ok-put_lag.ensures ∙ ap (λ o. c.head.lags.items ++ option_to_list o) (c.new_lag.ensures ∙ ap (new_lag c.head.place) c.line-in-Ok-On.ensures));
      longest = c.in-Ok-On.ensures.limits.longest ∙ c.head.invariant.longest;
      most = c.in-Ok-On.ensures.limits.most ∙ c.head.invariant.most;
      source = c.in-Ok-On.ensures.limits.source ∙ c.head.invariant.source;
      few = omega (arith, c.head.invariant.few, turn.0.counted);
      reader = c.in-Ok-On.ensures.read ∙ c.head.invariant.reader;
    }
