use Rattle.std.proofs.Common.{[], ◌∷◌, refl, sym, subst}
use Rattle.tp_syntax_ast.specs.Terms.{atom_view}
use Rattle.tp_syntax_ast.specs.ExprViews.{expr_view}
use Rattle.tp_syntax_ast.specs.EffectViews.{simple_effect_view}
use Rattle.tp_syntax_ast.specs.declared.effect.SimpleEffect.{SimpleEffect}
use Rattle.tp_ground_bindings.specs.Bindings.{words_in}
use Rattle.tp_ground_bindings.specs.Views.{env_view}
use Rattle.tp_ground_bodies.specs.Written.{simple_effect_in, expression_in, change_of}
use Rattle.tp_ground_bodies.specs.Mentions.{of_simple_effect, of_each}
use Rattle.tp_ground_bodies.specs.Changes.{shows_changes}
use Rattle.tp_ground_bodies.specs.Gathered.{Gathers}
use Rattle.tp_ground_bodies.proofs.OnEvents.{one_add, one_delete, one_write}
use Rattle.tp_ground_bodies.proofs.effects.SimpleEffectLowerable.lower.Goals as goal

pub returns-in-Add : goal.returns-in-Add
returns-in-Add c =
    let env = env_view c.args.env.now in
    subst (λ (o : SimpleEffect). Gathers shows_changes c.args.numbering.now c.push_atom.result c.push_atom.new.numbering c.args.into.now record { adds = c.push_atom.new.into; deletes = c.args.into.now.deletes; writes = c.args.into.now.writes } (simple_effect_in env (simple_effect_view o) ∷ []) (of_each of_simple_effect (simple_effect_in env (simple_effect_view o) ∷ []))) (sym c.in-Add.is)
    (one_add _ _ _ _ (words_in env (atom_view c.in-Add.added)) refl refl c.push_atom.result c.push_atom.ensures)

pub returns-in-Delete : goal.returns-in-Delete
returns-in-Delete c =
    let env = env_view c.args.env.now in
    subst (λ (o : SimpleEffect). Gathers shows_changes c.args.numbering.now c.push_atom-in-Delete.result c.push_atom-in-Delete.new.numbering c.args.into.now record { adds = c.args.into.now.adds; deletes = c.push_atom-in-Delete.new.into; writes = c.args.into.now.writes } (simple_effect_in env (simple_effect_view o) ∷ []) (of_each of_simple_effect (simple_effect_in env (simple_effect_view o) ∷ []))) (sym c.in-Delete.is)
    (one_delete _ _ _ _ (words_in env (atom_view c.in-Delete.deleted)) refl refl c.push_atom-in-Delete.result c.push_atom-in-Delete.ensures)

pub returns-in-Write : goal.returns-in-Write
returns-in-Write c =
    let env = env_view c.args.env.now in
    subst (λ (o : SimpleEffect). Gathers shows_changes c.args.numbering.now c.push_write.result c.push_write.new.numbering c.args.into.now record { adds = c.args.into.now.adds; deletes = c.args.into.now.deletes; writes = c.push_write.new.into } (simple_effect_in env (simple_effect_view o) ∷ []) (of_each of_simple_effect (simple_effect_in env (simple_effect_view o) ∷ []))) (sym c.in-Write.is)
    (one_write _ _ _ _ (record { change = change_of c.in-Write.writing; fluent = words_in env (atom_view c.in-Write.fluent); value = expression_in env (expr_view c.in-Write.value) }) refl refl c.push_write.result c.push_write.ensures)
