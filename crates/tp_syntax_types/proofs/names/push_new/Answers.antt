use Rattle.std.proofs.Common.{◌≡◌, ℕ, List, length, Some, cond, map, Bor, sym, ap, ◌∙◌, arith}
use Rattle.std.proofs.lemmas.Map.Text.{btree_map_updates_str}
use Rattle.std.specs.Str.{bytes_eq}
use Rattle.tp_syntax_types.specs.Tables.{found, place_of}
use Rattle.tp_syntax_types.proofs.OnNames.{table_more}
use Rattle.tp_syntax_types.proofs.names.push_new.Goals as goal

pub returns-in-Ok-clause-table : goal.returns-in-Ok-clause-table
returns-in-Ok-clause-table c = λ n.
    let place : c.len-place.result ≡ length c.args.names.now.items = omega (arith, c.len-place.ensures, c.args.names.now.ok) in
    table_more c.args.places.now c.args.names.now.items c.args.name c.insert.new.self c.requires.table c.requires.new
    (λ m. btree_map_updates_str c.args.name.now c.args.places.now c.insert.new.self _ c.in-Ok.ensures.updates m ∙ ap (λ p. cond (bytes_eq c.args.name.now m) (Some p) (found c.args.places.now m)) place) n
    ∙ ap (λ (ks : List (Bor (List ℕ))). place_of n (map (λ k. k.now) ks)) (sym c.in_ok-push.ensures.items)
