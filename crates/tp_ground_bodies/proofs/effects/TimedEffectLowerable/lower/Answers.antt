use Rattle.std.proofs.Common.{refl, sym, ◌∙◌}
use Rattle.tp_ground_bodies.specs.Mentions.{of_simple_effect}
use Rattle.tp_ground_bodies.specs.Changes.{shows_changes}
use Rattle.tp_ground_bodies.proofs.OnPartLists.{specified}
use Rattle.tp_ground_bodies.proofs.OnGathered.{none_gathered, gathers_as, unspecified}
use Rattle.tp_ground_bodies.proofs.effects.TimedEffectLowerable.lower.Goals as goal

pub returns-then-not-is_specifier : goal.returns-then-not-is_specifier
returns-then-not-is_specifier c = none_gathered shows_changes of_simple_effect _ _ _ _ (unspecified _ _ (sym c.is_specifier.ensures ∙ c.if-not-is_specifier.true)) refl

pub returns : goal.returns
returns c = gathers_as shows_changes of_simple_effect _ _ _ _ _ _ _ (specified _ _ (sym c.is_specifier.ensures ∙ c.if-not-is_specifier.false)) c.push_part.ensures
