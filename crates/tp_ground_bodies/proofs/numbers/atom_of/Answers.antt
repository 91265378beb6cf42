use Rattle.std.proofs.Common.{map}
use Rattle.tp_ground_bodies.proofs.OnLowered.{atom_numbered}
use Rattle.tp_ground_bodies.proofs.numbers.atom_of.Goals as goal

pub returns : goal.returns
returns c = atom_numbered _ _ (map (λ x. x.now) c.args.words.now) c.atom.result c.atom.ensures.atoms c.atom.ensures.place c.atom.ensures.fluents c.atom.ensures.actions c.atom.ensures.most c.atom.ensures.err
