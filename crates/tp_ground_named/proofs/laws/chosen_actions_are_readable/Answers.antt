use Rattle.std.proofs.Common.{◌≡◌, List, [], ◌∷◌, ◌++◌, map, refl, sym, ap, ap₂, ◌∙◌, subst}
use Rattle.std.specs.List.{flat_map}
use Rattle.std.proofs.lemmas.List.{map-append}
use Rattle.tp_syntax_ast.specs.Symbols.{Name}
use Rattle.tp_syntax_ast.specs.Actions.{Action}
use Rattle.tp_task.specs.Readable.{AreReadable}
use Rattle.tp_task.specs.Words.{Words, has_words}
use Rattle.tp_ground_bindings.specs.Bindings.{Universe, bindings, universe_of}
use Rattle.tp_ground.specs.Reached.{Instance, instances}
use Rattle.tp_ground.proofs.OnReadable.{kept_readable}
use Rattle.tp_ground.proofs.OnSpelled.{spelled_names}
use Rattle.tp_ground_named.specs.Named.{words_of}
use Rattle.tp_ground_named.proofs.laws.chosen_actions_are_readable.Goals as goal

words_one : (a : Action) (bs : List (List Name)) → map words_of (map (λ os. record { action = a; objects = os }) bs) ≡ map (λ os. a.name ∷ os) bs
words_one a [] = refl
words_one a (b ∷ bs) = ap (λ (ws : List Words). (a.name ∷ b) ∷ ws) (words_one a bs)

words_all : (u : Universe) (as_ : List Action) → map words_of (instances u as_) ≡ flat_map (λ a. map (λ os. a.name ∷ os) (bindings u a.parameters)) as_
words_all u [] = refl
words_all u (a ∷ as_) =
    map-append words_of (map (λ os. record { action = a; objects = os }) (bindings u a.parameters)) (instances u as_)
    ∙ ap₂ (λ (xs ys : List Words). xs ++ ys) (words_one a (bindings u a.parameters)) (words_all u as_)

pub returns : goal.returns
returns c = λ text other d p limits scale asked t h k is.
    let own = spelled_names d p h.0 k.0 h.2 k.2 in
    let u = universe_of d p in
    subst AreReadable (sym is.names)
    (kept_readable u own.objects own.objects_once (λ a. a.name) (λ a. a.parameters) d.actions own.actions own.actions_once words_of (λ (i : Instance). has_words asked (words_of i)) (instances u d.actions) (words_all u d.actions))
