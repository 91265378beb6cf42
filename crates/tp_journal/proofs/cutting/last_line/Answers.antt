use Rattle.std.proofs.Common.{◌∙◌, ap, arith, inl, inr, refl, drop, ◌∷◌}
use Rattle.tp_journal.proofs.Cuts.{drop_one, free_all, free_one}
use Rattle.tp_journal.proofs.cutting.last_line.Goals as goal

pub loop-at-init : goal.loop-at-init
loop-at-init c = record { within = omega arith; free = free_all c.args.bytes.now }
