-- Whether the types of items are declared, run by run.
use Rattle.std.proofs.Common.{◌≡◌, List, [], ◌∷◌, ◌++◌, length, map, Bool, true, false, ◌&&◌, ◌||◌, codes, ap, sym, refl, ◌∙◌}
use Rattle.std.specs.List.{list_all}
use Rattle.std.proofs.lemmas.List.Folds.{list_all-append}
use Rattle.std.specs.Option.{is_some}
use Rattle.std.specs.Cmp.Lexicographic.{bytes_decides}
use Rattle.tp_syntax_ast.specs.Symbols.{Name, Parent, Declared, parent_of}
use Rattle.tp_syntax_ast.specs.TypedLists.{given, is_type}

abbrev pub all_declared : List Parent → List Declared → Bool
all_declared types ds = list_all (λ (d : Declared). list_all (is_type types) d.types) ds

and_same : (a b : Bool) → b ≡ a → (a && b) ≡ a
and_same true b h = h
and_same false b h = refl

and_true : (a b : Bool) → b ≡ true → (a && b) ≡ a
and_true true b h = h
and_true false b h = refl

and_both : (a b : Bool) → a ≡ true → b ≡ true → (a && b) ≡ true
and_both a b first second = ap (λ x. x && b) first ∙ second

module _ (types : List Parent) where
  abbrev has_declared : Declared → Bool
  has_declared d = list_all (is_type types) d.types

  module _ (ks : List Name) where
    shared_more : (n : Name) (ns : List Name) → all_declared types (map (given ks) (n ∷ ns)) ≡ list_all (is_type types) ks
    shared_more n [] = and_true (list_all (is_type types) ks) true refl
    shared_more n (m ∷ ms) = and_same (list_all (is_type types) ks) (all_declared types (map (given ks) (m ∷ ms))) (shared_more m ms)

    -- of items that share their types
    shared : (ns : List Name) → (length ns ≡ 0 → ⊥) → all_declared types (map (given ks) ns) ≡ list_all (is_type types) ks
    shared [] some = absurd (some refl)
    shared (n ∷ ns) some = shared_more n ns

    -- one more run
    pub run_declared : (ds new : List Declared) (ns : List Name) (so_far now : Bool) → (length ns ≡ 0 → ⊥) → so_far ≡ all_declared types ds → now ≡ (so_far && list_all (is_type types) ks) → new ≡ ds ++ map (given ks) ns → now ≡ all_declared types new
    run_declared ds new ns so_far now some before is grown =
        is
        ∙ ap (λ b. b && list_all (is_type types) ks) before
        ∙ ap (λ b. all_declared types ds && b) (sym (shared ns some))
        ∙ sym (ap (all_declared types) grown ∙ list_all-append has_declared ds (map (given ks) ns))

  is_object : is_type types (codes "object") ≡ true
  is_object = ap (λ b. b || is_some (parent_of (codes "object") types)) ((bytes_decides (codes "object") (codes "object")).1 refl)

  objects_declared : (ns : List Name) → all_declared types (map (given (codes "object" ∷ [])) ns) ≡ true
  objects_declared [] = refl
  objects_declared (n ∷ ns) = and_both (is_type types (codes "object") && true) (all_declared types (map (given (codes "object" ∷ [])) ns)) (and_true (is_type types (codes "object")) true refl ∙ is_object) (objects_declared ns)

  -- items behind the last run are of the type 'object'
  pub last_declared : (ds new : List Declared) (ns : List Name) (so_far : Bool) → so_far ≡ all_declared types ds → new ≡ ds ++ map (given (codes "object" ∷ [])) ns → so_far ≡ all_declared types new
  last_declared ds new ns so_far before grown =
      before
      ∙ sym (ap (all_declared types) grown ∙ list_all-append has_declared ds (map (given (codes "object" ∷ [])) ns) ∙ and_true (all_declared types ds) (all_declared types (map (given (codes "object" ∷ [])) ns)) (objects_declared ns))
