use Rattle.std.proofs.Common.{ap, ◌∙◌, map, Some, string_bytes}
use Rattle.std.specs.Str.{bytes_eq}
use Rattle.std.specs.String.{string_eq}
use Rattle.tp_task.proofs.OnKeys.{stored_name, key_grows, distinct_map}
use Rattle.tp_task.proofs.numbering.name_number.Goals as goal

pub returns-clause-number : goal.returns-clause-number
returns-clause-number c =
    stored_name string_bytes c.insert_full.new.self.keys c.in_ok-number.number (string_bytes c.in_ok-owned.owned) c.in_ok-number.ensures.stored
    ∙ ap Some c.in_ok-owned.ensures.ok

pub returns-clause-grows : goal.returns-clause-grows
returns-clause-grows c =
    let g = key_grows string_bytes string_eq c.args.names.now.keys c.in_ok-owned.owned in
    (g.0, ap (map string_bytes) c.in_ok-number.ensures.keys ∙ g.1)

pub returns-clause-distinct : goal.returns-clause-distinct
returns-clause-distinct c = distinct_map string_bytes bytes_eq c.insert_full.new.self.keys c.in_ok-number.ensures.unique
