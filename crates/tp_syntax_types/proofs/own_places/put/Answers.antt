use Rattle.std.proofs.Common.{ℕ, List, Some, cond, string_bytes, ap, sym, ◌∙◌}
use Rattle.std.proofs.lemmas.Map.Text.{btree_map_updates_text}
use Rattle.std.specs.BTreeMap.{get_by_text}
use Rattle.std.specs.Str.{bytes_eq}
use Rattle.tp_syntax_types.proofs.OnTables.{after_put}
use Rattle.tp_syntax_types.proofs.own_places.put.Goals as goal

pub returns : goal.returns
returns c = λ n.
    btree_map_updates_text (string_bytes c.in_ok-own.own) c.args.places.now c.insert.new.self _ c.in_ok-insert.ensures.updates n
    ∙ ap (λ (bs : List ℕ). cond (bytes_eq bs n) (Some c.args.place) (get_by_text c.args.places.now n)) c.in_ok-own.ensures.ok
    ∙ after_put (get_by_text c.args.places.now) c.args.name.now n c.args.place (sym c.contains_key.ensures ∙ c.if-contains_key.false)
