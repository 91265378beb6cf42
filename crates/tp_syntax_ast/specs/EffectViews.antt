-- What the parts of an effect and of a timed condition or effect show.
use Rattle.tp_syntax_ast.specs.Terms.{atom_view}
use Rattle.tp_syntax_ast.specs.ExprViews.{expr_view}
use Rattle.tp_syntax_ast.specs.CondViews.{cond_view}
use Rattle.tp_syntax_ast.specs.PartViews.{joined_view}
use Rattle.tp_syntax_ast.specs.Conditions.{Condition}
use Rattle.tp_syntax_ast.specs.Parts as parts
use Rattle.tp_syntax_ast.specs.Effects as effects
use Rattle.tp_syntax_ast.specs.Effects.{adds, deletes, writes}
use Rattle.tp_syntax_ast.specs.declared.effect.SimpleEffect.{SimpleEffect}
use Rattle.tp_syntax_ast.specs.declared.effect.SimpleEffect.TheVariants as simple_effects
use Rattle.tp_syntax_ast.specs.declared.joined.Joined.{Joined}
use Rattle.tp_syntax_ast.specs.declared.timed.Timed.{Timed}
use Rattle.tp_syntax_ast.specs.declared.cond.Cond.{Cond}

abbrev pub simple_effect_view : SimpleEffect → effects.SimpleEffect
simple_effect_view (simple_effects.Add a) = adds (atom_view a)
simple_effect_view (simple_effects.Delete a) = deletes (atom_view a)
simple_effect_view (simple_effects.Write op a x) = writes op (atom_view a) (expr_view x)

abbrev pub effect_view : Joined SimpleEffect → effects.Effect
effect_view = joined_view simple_effect_view

abbrev pub timed_view : {A B : Type 0} → (A → B) → Timed A → effects.Timed B
timed_view f t = record { specifier = t.specifier; what = f t.what }

abbrev pub timed_condition_view : Joined (Timed Cond) → parts.Joined (effects.Timed Condition)
timed_condition_view = joined_view (timed_view cond_view)

abbrev pub timed_effect_view :
    Joined (Timed (Joined SimpleEffect)) → parts.Joined (effects.Timed effects.Effect)
timed_effect_view = joined_view (timed_view effect_view)
