use Rattle.std.proofs.Common.{◌≡◌, ◌+◌, ap, ◌∙◌, cond, is_some, None}
use Rattle.std.specs.BTreeMap.{btree_map_len}
use Rattle.tp_bounds.proofs.HeldMaps.{held_inserted}
use Rattle.tp_repair_engine.proofs.engine.record.Goals as goal

pub returns-clause-ok : goal.returns-clause-ok
returns-clause-ok c =
    let none : c.in_default.field-0 ≡ None = c.in_default.ensures.old ∙ c.requires.free.0 in
    record {
      holds = held_inserted c.args.bounds.now c.insert-2.new.self c.args.id.0 c.args.bound c.in_default.ensures.updates.0;
      len = c.in_default.ensures.len ∙ ap (λ o. btree_map_len c.args.bounds.now + cond (is_some o) 0 1) none;
      finds = c.in_ok-insert.ensures.updates.0;
    }
