use Rattle.std.proofs.Common.{map}
use Rattle.tp_ground_bodies.proofs.OnLowered.{fluent_numbered}
use Rattle.tp_ground_bodies.proofs.numbers.fluent_of.Goals as goal

pub returns : goal.returns
returns c = fluent_numbered _ _ (map (λ x. x.now) c.args.words.now) c.fluent.result c.fluent.ensures.fluents c.fluent.ensures.place c.fluent.ensures.atoms c.fluent.ensures.actions c.fluent.ensures.most c.fluent.ensures.err
