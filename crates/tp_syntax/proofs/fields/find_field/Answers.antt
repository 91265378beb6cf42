use Rattle.tp_syntax.proofs.OnFields.{field_found}
use Rattle.tp_syntax.proofs.fields.find_field.Goals as goal

pub returns : goal.returns
returns c = field_found c.args.key c.args.fields.now c.find.result c.find.ensures
