use Rattle.std.proofs.Common.{refl, sym, ◌∙◌}
use Rattle.tp_ground_bodies.specs.Mentions.{of_condition}
use Rattle.tp_ground_bodies.specs.ReadBack.{named_condition}
use Rattle.tp_ground_bodies.specs.Gathered.{list_shows}
use Rattle.tp_ground_bodies.proofs.OnPartLists.{specified}
use Rattle.tp_ground_bodies.proofs.OnGathered.{one_more, none_gathered, unspecified}
use Rattle.tp_ground_bodies.proofs.effects.TimedTp_syntax_astCondLowerable.lower.Goals as goal

pub returns-then-not-is_specifier : goal.returns-then-not-is_specifier
returns-then-not-is_specifier c = none_gathered (list_shows named_condition) of_condition _ _ _ _ (unspecified _ _ (sym c.is_specifier.ensures ∙ c.if-not-is_specifier.true)) refl

pub returns : goal.returns
returns c = one_more named_condition of_condition _ _ _ _ _ _ _ (specified _ _ (sym c.is_specifier.ensures ∙ c.if-not-is_specifier.false)) c.in_ok-push.ensures.items c.in_ok-condition.ensures
