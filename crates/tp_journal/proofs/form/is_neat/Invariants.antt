use Rattle.std.proofs.Common.{◌≡◌, drop}
use Rattle.tp_journal.specs.declared.form.LastByte.TheVariants.{Gap}
use Rattle.tp_journal.specs.Form.{last_byte_of}
use Rattle.tp_journal.proofs.form.is_neat.Given as goal

abbrev pub invariant-loop-b : goal.invariant-loop-b
invariant-loop-b l = last_byte_of Gap l.text ≡ last_byte_of l.last (drop l.b-index l.text)
