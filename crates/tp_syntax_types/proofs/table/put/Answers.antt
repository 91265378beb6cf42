use Rattle.std.proofs.Common.{sym, ◌∙◌}
use Rattle.std.proofs.lemmas.Map.Text.{btree_map_updates_str}
use Rattle.tp_syntax_types.specs.Tables.{found}
use Rattle.tp_syntax_types.proofs.OnTables.{after_put}
use Rattle.tp_syntax_types.proofs.table.put.Goals as goal

pub returns : goal.returns
returns c = λ n.
    btree_map_updates_str c.args.name.now c.args.places.now c.insert.new.self _ c.in_ok-insert.ensures.updates n
    ∙ after_put (found c.args.places.now) c.args.name.now n c.args.place (sym c.contains_key.ensures ∙ c.if-contains_key.false)
