-- The type-correct bindings for which names and objects ask, action after action.
use Rattle.std.proofs.Common.{◌≡◌, List, [], ◌∷◌, ◌++◌, map, filter, refl, sym, ap, ap₂, ◌∙◌}
use Rattle.std.specs.List.{flat_map}
use Rattle.std.proofs.lemmas.List.Elements.{filter-append}
use Rattle.tp_syntax_ast.specs.Symbols.{Name}
use Rattle.tp_syntax_ast.specs.Actions.{Action}
use Rattle.tp_syntax_ast.specs.DomainViews.{action_view}
use Rattle.tp_syntax_ast.specs.declared.action.Action as syntax
use Rattle.tp_task.specs.Words.{Words, has_words}
use Rattle.tp_ground_bindings.specs.Bindings.{Universe, bindings}
use Rattle.tp_ground.specs.Reached.{Instance, instances}
use Rattle.tp_ground_named.specs.Picks.{tails}
use Rattle.tp_ground_named.specs.Named.{words_of, chosen_of}
use Rattle.tp_ground_named.proofs.OnPicks.{has_tails, filter_same, filter_through}

abbrev pub bound_to : Action → List Name → Instance
bound_to a ns = record { action = a; objects = ns }

-- of one action
abbrev pub chosen_for : Universe → List Words → syntax.Action → List Instance
chosen_for u asked x =
    map (bound_to (action_view x)) (filter (has_words (tails (action_view x).name asked)) (bindings u (action_view x).parameters))

module _ (u : Universe) (asked : List Words) where
  one_action : (a : Action) (bs : List (List Name)) → map (bound_to a) (filter (has_words (tails a.name asked)) bs) ≡ filter (λ i. has_words asked (words_of i)) (map (bound_to a) bs)
  one_action a bs =
      sym (
      filter_through (λ (i : Instance). has_words asked (words_of i)) (bound_to a) bs
      ∙ ap (map (bound_to a)) (filter_same (λ (os : List Name). has_words asked (a.name ∷ os)) (has_words (tails a.name asked)) (λ os. has_tails a.name os asked) bs)
      )

  pub chosen_all : (xs : List syntax.Action) → flat_map (chosen_for u asked) xs ≡ chosen_of u (map action_view xs) asked
  chosen_all [] = refl
  chosen_all (x ∷ xs) =
      ap₂ (λ (is js : List Instance). is ++ js) (one_action (action_view x) (bindings u (action_view x).parameters)) (chosen_all xs)
      ∙ sym (filter-append (λ (i : Instance). has_words asked (words_of i)) (map (bound_to (action_view x)) (bindings u (action_view x).parameters)) (instances u (map action_view xs)))
