use Rattle.std.proofs.Common.{string_bytes, sym, ◌∙◌}
use Rattle.std.specs.Str.{bytes_eq}
use Rattle.tp_task.proofs.OnKeys.{list_any_map, position_map, found_name}
use Rattle.tp_task.proofs.lookup.known_number.Goals as goal

pub returns-clause-index : goal.returns-clause-index
returns-clause-index c = found_name _ _ _ (c.get_index_of.ensures.index ∙ sym (position_map string_bytes (bytes_eq c.args.name.now) c.args.names.now.keys))

pub returns-clause-found : goal.returns-clause-found
returns-clause-found c = c.get_index_of.ensures.found ∙ sym (list_any_map string_bytes (bytes_eq c.args.name.now) c.args.names.now.keys)
