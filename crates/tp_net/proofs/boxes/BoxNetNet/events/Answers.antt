use Rattle.std.proofs.Common.{subst}
use Rattle.tp_bounds.specs.Lawful.{IsLawful}
use Rattle.tp_net.proofs.BoxSound.{sound_lawful}
use Rattle.tp_net.proofs.boxes.BoxNetNet.events.Goals as goal

pub returns-clause-lawful : goal.returns-clause-lawful
returns-clause-lawful c = subst IsLawful c.self.view_is (sound_lawful _ c.self.invariant)
