-- A walk finds each row that the checks allow.
use Rattle.std.proofs.Common.{◌≡◌, ℕ, ◌+◌, ◌<◌, cond, List, [], ◌∷◌, ◌++◌, length, take, get_or, map, inl, inr, sym, ap, subst, ◌∙◌, append_assoc, append-nil}
use Rattle.std.specs.List.{flat_map}
use Rattle.std.proofs.lemmas.Bool.{cond-true}
use Rattle.std.proofs.lemmas.Grind.{flat_map-append}
use Rattle.std.proofs.lemmas.List.{take_more}
use Rattle.std.proofs.lemmas.List.Concat.{flat_map-cons}
use Rattle.tp_ground_joins.specs.Views.{keyed_view}
use Rattle.tp_ground_joins.specs.Checks.{all_allow}
use Rattle.tp_ground_joins.specs.Walks.{walked, walked_with, IsIn, IsAllowed}
use Rattle.tp_ground_joins.specs.declared.keyed.Keyed.{Keyed}
use Rattle.tp_ground_joins.specs.declared.rows.Level.{Level}

pub next : {X Y : Type 0} (f : X → List Y) (xs : List X) (i : ℕ) (x : X) → i < length xs → x ≡ get_or xs i x → flat_map f (take (i + 1) xs) ≡ flat_map f (take i xs) ++ f x
next f xs i x lt item =
    ap (flat_map f) (take_more xs i x lt) ∙ flat_map-append f (take i xs) (get_or xs i x ∷ [])
    ∙ ap (λ ys. flat_map f (take i xs) ++ ys) (flat_map-cons f (get_or xs i x) [] ∙ append-nil (f (get_or xs i x)) ∙ ap f (sym item))

-- one more name: the rows that go on with it stand behind those of the names before it
pub one_more : {Y : Type 0} (f : Keyed → List Y) (start before now : List Y) (xs : List Keyed) (i : ℕ) (x : Keyed) → i < length xs → x ≡ get_or xs i x → before ≡ start ++ flat_map f (take i xs) → now ≡ before ++ f x → now ≡ start ++ flat_map f (take (i + 1) xs)
one_more f start before now xs i x lt item h k =
    k ∙ ap (λ ys. ys ++ f x) h ∙ append_assoc start (flat_map f (take i xs)) (f x) ∙ ap (λ ys. start ++ ys) (sym (next f xs i x lt item))

in_front : {Y : Type 0} (y : Y) (xs ys : List Y) → IsIn y xs → IsIn y (xs ++ ys)
in_front y [] ys h = absurd h
in_front y (x ∷ xs) ys (inl e) = inl e
in_front y (x ∷ xs) ys (inr h) = inr (in_front y xs ys h)

pub in_back : {Y : Type 0} (y : Y) (xs ys : List Y) → IsIn y ys → IsIn y (xs ++ ys)
in_back y [] ys h = h
in_back y (x ∷ xs) ys h = inr (in_back y xs ys h)

among : {Y : Type 0} (f : Keyed → List Y) (xs : List Keyed) (n : List ℕ) (y : Y) → ((x : Keyed) → keyed_view x ≡ n → IsIn y (f x)) → IsIn n (map keyed_view xs) → IsIn y (flat_map f xs)
among f [] n y here h = absurd h
among f (x ∷ xs) n y here (inl e) = in_front y (f x) (flat_map f xs) (here x (sym e))
among f (x ∷ xs) n y here (inr h) = in_back y (f x) (flat_map f xs) (among f xs n y here h)

pub all_found : (ls : List Level) (row ns : List (List ℕ)) → IsAllowed ls row ns → IsIn (row ++ ns) (walked ls row)
all_found [] row [] h = inl (append-nil row)
all_found [] row (n ∷ ns) h = absurd h
all_found (l ∷ ls) row [] h = absurd h
all_found (l ∷ ls) row (n ∷ ns) h =
    let longer : IsIn (row ++ n ∷ ns) (walked ls (row ++ n ∷ [])) = subst (λ r. IsIn r (walked ls (row ++ n ∷ []))) (append_assoc row (n ∷ []) ns) (all_found ls (row ++ n ∷ []) ns h.2) in
    among (walked_with l.checks.items ls row) l.names.items n (row ++ n ∷ ns)
    (λ x e. subst (λ m. IsIn (row ++ n ∷ ns) (cond (all_allow l.checks.items (row ++ m ∷ [])) (walked ls (row ++ m ∷ [])) [])) (sym e)
    (subst (IsIn (row ++ n ∷ ns)) (sym (cond-true (all_allow l.checks.items (row ++ n ∷ [])) (walked ls (row ++ n ∷ [])) [] h.1)) longer))
    h.0
