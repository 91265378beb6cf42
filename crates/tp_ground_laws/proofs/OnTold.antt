-- The words of ground actions tell them apart, where domain and problem are spelled by texts.
use Rattle.std.proofs.Common.{◌≡◌, ℕ, List, [], ◌∷◌, ◌++◌, map, refl, sym, ap, ap₂, ◌∙◌, subst}
use Rattle.std.specs.List.{flat_map}
use Rattle.std.proofs.lemmas.List.{map-append}
use Rattle.tp_text.specs.declared.number.Scale.{Scale}
use Rattle.tp_syntax_ast.specs.Symbols.{Name}
use Rattle.tp_syntax_ast.specs.Actions.{Action}
use Rattle.tp_syntax_ast.specs.Domains.{Domain, SpellsDomain}
use Rattle.tp_syntax_ast.specs.Problems.{Problem, SpellsProblem}
use Rattle.tp_task.specs.Readable.{AreReadable}
use Rattle.tp_task.specs.Words.{Words}
use Rattle.tp_ground.specs.Bindings.{Universe, bindings, universe_of}
use Rattle.tp_ground.specs.Reached.{Instance, instances, action_of}
use Rattle.tp_ground.proofs.OnReadable.{labels_readable}
use Rattle.tp_ground.proofs.OnSpelled.{spelled_names}
use Rattle.tp_ground_laws.proofs.OnSame.{AreTold}

module _ (u : Universe) where
  abbrev words_of : Instance → Words
  words_of i = (action_of u i).words

  words_one : (a : Action) (bs : List (List Name)) → map words_of (map (λ os. record { action = a; objects = os }) bs) ≡ map (λ os. a.name ∷ os) bs
  words_one a [] = refl
  words_one a (b ∷ bs) = ap (λ (ws : List Words). (a.name ∷ b) ∷ ws) (words_one a bs)

  words_all : (as_ : List Action) → map words_of (instances u as_) ≡ flat_map (λ a. map (λ os. a.name ∷ os) (bindings u a.parameters)) as_
  words_all [] = refl
  words_all (a ∷ as_) =
      map-append words_of (map (λ os. record { action = a; objects = os }) (bindings u a.parameters)) (instances u as_)
      ∙ ap₂ (λ (xs ys : List Words). xs ++ ys) (words_one a (bindings u a.parameters)) (words_all as_)

pub all_told : (text other : List ℕ) (d : Domain) (p : Problem) (scale : Scale) → SpellsDomain text d → SpellsProblem d other p → AreTold scale d p
all_told text other d p scale h k =
    let own = spelled_names d p h.0 k.0 h.2 k.2 in
    subst AreReadable (sym (words_all (universe_of d p) d.actions))
    (labels_readable (universe_of d p) own.objects own.objects_once (λ a. a.name) (λ a. a.parameters) d.actions own.actions own.actions_once)
