use Rattle.std.proofs.Common.{◌≡◌, List, [], ◌∷◌, ◌++◌, map, refl, sym, ap, ap₂, ◌∙◌, subst}
use Rattle.std.specs.List.{flat_map}
use Rattle.std.proofs.lemmas.List.{map-append}
use Rattle.tp_syntax_ast.specs.Symbols.{Name}
use Rattle.tp_syntax_ast.specs.Actions.{Action}
use Rattle.tp_task.specs.Words.{Words}
use Rattle.tp_ground_bindings.specs.Bindings.{Universe, bindings, universe_of}
use Rattle.tp_ground.specs.Grounding.{ground_action, ground_actions}
use Rattle.tp_task.specs.Readable.{AreReadable}
use Rattle.tp_ground.proofs.OnSpelled.{spelled_names}
use Rattle.tp_ground.proofs.OnReadable.{labels_readable}
use Rattle.tp_ground.proofs.laws.actions_are_readable.Goals as goal

module _ (u : Universe) where
  words_one : (a : Action) (bs : List (List Name)) → map (λ g. g.words) (map (ground_action u a) bs) ≡ map (λ os. a.name ∷ os) bs
  words_one a [] = refl
  words_one a (b ∷ bs) = ap (λ (ws : List Words). (a.name ∷ b) ∷ ws) (words_one a bs)

  words_all : (as_ : List Action) → map (λ g. g.words) (ground_actions u as_) ≡ flat_map (λ a. map (λ os. a.name ∷ os) (bindings u a.parameters)) as_
  words_all [] = refl
  words_all (a ∷ as_) =
      map-append (λ g. g.words) (map (ground_action u a) (bindings u a.parameters)) (ground_actions u as_)
      ∙ ap₂ (λ (xs ys : List Words). xs ++ ys) (words_one a (bindings u a.parameters)) (words_all as_)

pub returns : goal.returns
returns c = λ text other d p limits scale t h k is.
    let own = spelled_names d p h.0 k.0 h.2 k.2 in
    subst AreReadable (sym (is.names ∙ words_all (universe_of d p) d.actions))
    (labels_readable (universe_of d p) own.objects own.objects_once (λ a. a.name) (λ a. a.parameters) d.actions own.actions own.actions_once)
