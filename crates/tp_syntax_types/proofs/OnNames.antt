-- Names that are found by a table.
use Rattle.std.proofs.Common.{◌≡◌, ℕ, ◌+◌, List, [], ◌∷◌, ◌++◌, length, map, Bool, true, false, cond, ◌||◌, Option, Some, None, option_map, Bor, refl, sym, ap, ◌∙◌}
use Rattle.std.proofs.lemmas.List.{map-append, length-map}
use Rattle.std.specs.Option.{is_some}
use Rattle.std.specs.Str.{bytes_eq}
use Rattle.tp_syntax_types.specs.Tables.{Name, Table, place_of, or_place, found, IsTable}
use Rattle.tp_syntax_types.specs.Among.{has_mark}
use Rattle.tp_syntax_types.proofs.OnPairs.{same_turned}
use Rattle.tp_syntax_types.proofs.OnTables.{place_of-push, after_put}

abbrev texts : List (Bor (List ℕ)) → List Name
texts ks = map (λ k. k.now) ks

behind_or : (b : Bool) (o : Option ℕ) → is_some (cond b (Some 0) (option_map (λ k. k + 1) o)) ≡ (b || is_some o)
behind_or true o = refl
behind_or false None = refl
behind_or false (Some k) = refl

-- a name has a place exactly if it is among them
pub has_place : (n : Name) (ks : List (Bor (List ℕ))) → is_some (place_of n (texts ks)) ≡ has_mark ks n
has_place n [] = refl
has_place n (k ∷ ks) =
    behind_or (bytes_eq k.now n) (place_of n (texts ks))
    ∙ ap (λ b. b || is_some (place_of n (texts ks))) (same_turned k.now n)
    ∙ ap (λ b. bytes_eq n k.now || b) (has_place n ks)

pub is_among : (t : Table) (ks : List (Bor (List ℕ))) → IsTable t (texts ks) → (n : Name) → is_some (found t n) ≡ has_mark ks n
is_among t ks table n = ap is_some (table n) ∙ has_place n ks

-- one more name in the table, and behind the others
pub table_more : (t : Table) (ks : List (Bor (List ℕ))) (k : Bor (List ℕ)) (u : Table) → IsTable t (texts ks) → has_mark ks k.now ≡ false → ((n : Name) → found u n ≡ cond (bytes_eq k.now n) (Some (length ks)) (found t n)) → IsTable u (texts (ks ++ k ∷ []))
table_more t ks k u table new put = λ n.
    put n
    ∙ after_put (found t) k.now n (length ks) (is_among t ks table k.now ∙ new)
    ∙ ap (λ o. or_place o k.now (length ks) n) (table n)
    ∙ ap (λ l. or_place (place_of n (texts ks)) k.now l n) (sym (length-map ks (λ (j : Bor (List ℕ)). j.now)))
    ∙ sym (place_of-push n (texts ks) k.now)
    ∙ ap (place_of n) (sym (map-append (λ (j : Bor (List ℕ)). j.now) ks (k ∷ [])))
