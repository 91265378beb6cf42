-- What lists of numbers have, by the list that they are made of.
use Rattle.std.proofs.Common.{◌≡◌, ℕ, Bool, true, false, cond, ◌&&◌, ◌||◌, ◌==◌, List, [], ◌∷◌, ◌++◌, map, filter, refl, ap, ◌∙◌, Vec, Global}
use Rattle.std.specs.List.{list_any, flat_map}
use Rattle.std.proofs.lemmas.List.Folds.{list_any-append}
use Rattle.tp_task.specs.declared.events.Cond.{Cond, And, Or, Row_of-Cond, end_of-Cond, more_of-Cond, items-the_row-Cond, items_hidden-the_row-Cond-0}
use Rattle.tp_task.specs.declared.events.GroundEvent.{GroundEvent}
use Rattle.tp_task.specs.State.{atoms_in, atoms_in_row, fluents_in, fluents_in_row}
use Rattle.tp_task.specs.Event.{has, meets, fluents_written}
use Rattle.tp_happen.proofs.Rows.{row_of}

has_map : {X : Type 0} (g : X → ℕ) (xs : List X) (n : ℕ) → has (map g xs) n ≡ list_any (λ x. g x == n) xs
has_map g [] n = refl
has_map g (x ∷ xs) n = ap (λ b. (g x == n) || b) (has_map g xs n)

pub has_flat_map : {X : Type 0} (g : X → List ℕ) (xs : List X) (n : ℕ) → has (flat_map g xs) n ≡ list_any (λ x. has (g x) n) xs
has_flat_map g [] n = refl
has_flat_map g (x ∷ xs) n = list_any-append _ (g x) (flat_map g xs) ∙ ap (λ b. has (g x) n || b) (has_flat_map g xs n)

pub meets_map : {X : Type 0} (g : X → ℕ) (xs : List X) (ys : List ℕ) → meets (map g xs) ys ≡ list_any (λ x. has ys (g x)) xs
meets_map g [] ys = refl
meets_map g (x ∷ xs) ys = ap (λ b. has ys (g x) || b) (meets_map g xs ys)

pub meets_filter : {X : Type 0} (g : X → ℕ) (p : X → Bool) (xs : List X) (ys : List ℕ) → meets (map g (filter p xs)) ys ≡ list_any (λ x. p x && has ys (g x)) xs
meets_filter g p [] ys = refl
meets_filter g p (x ∷ xs) ys = go (p x) (meets_filter g p xs ys)
  where
    go : (b : Bool) → meets (map g (filter p xs)) ys ≡ list_any (λ x. p x && has ys (g x)) xs → meets (map g (cond b (x ∷ filter p xs) (filter p xs))) ys ≡ ((b && has ys (g x)) || list_any (λ x. p x && has ys (g x)) xs)
    go true h = ap (λ b. has ys (g x) || b) h
    go false h = h

pub written_is : (e : GroundEvent) (f : ℕ) → has (fluents_written e) f ≡ list_any (λ w. w.fluent == f) e.writes.items
written_is e f = has_map (λ w. w.fluent) e.writes.items f

pub touches_is : (a b : GroundEvent) → meets (a.adds.items ++ a.deletes.items) (atoms_in b.condition) ≡ (list_any (λ x. has (atoms_in b.condition) x) a.adds.items || list_any (λ x. has (atoms_in b.condition) x) a.deletes.items)
touches_is a b = list_any-append _ a.adds.items a.deletes.items

pub has_append : (xs ys : List ℕ) (n : ℕ) → has (xs ++ ys) n ≡ (has xs n || has ys n)
has_append xs ys n = list_any-append _ xs ys

-- rows
atoms_row : (n : _) (row : Row_of-Cond n) (a : ℕ) → has (atoms_in_row row) a ≡ list_any (λ c. has (atoms_in c) a) (items-the_row-Cond n row)
atoms_row n end_of-Cond a = refl
atoms_row n (more_of-Cond c cs) a = list_any-append _ (atoms_in c) (atoms_in_row cs) ∙ ap (λ b. has (atoms_in c) a || b) (atoms_row _ cs a)

fluents_row : (n : _) (row : Row_of-Cond n) (f : ℕ) → has (fluents_in_row row) f ≡ list_any (λ c. has (fluents_in c) f) (items-the_row-Cond n row)
fluents_row n end_of-Cond f = refl
fluents_row n (more_of-Cond c cs) f = list_any-append _ (fluents_in c) (fluents_in_row cs) ∙ ap (λ b. has (fluents_in c) f || b) (fluents_row _ cs f)

pub atoms_And : (cs : Vec Cond Global) (a : ℕ) → has (atoms_in (And cs)) a ≡ list_any (λ c. has (atoms_in c) a) cs.items
atoms_And cs a = let row = row_of (And cs) in atoms_row row.0 row.1 a ∙ ap (list_any (λ c. has (atoms_in c) a)) (items_hidden-the_row-Cond-0 cs)

pub atoms_Or : (cs : Vec Cond Global) (a : ℕ) → has (atoms_in (Or cs)) a ≡ list_any (λ c. has (atoms_in c) a) cs.items
atoms_Or cs a = atoms_And cs a

pub fluents_And : (cs : Vec Cond Global) (f : ℕ) → has (fluents_in (And cs)) f ≡ list_any (λ c. has (fluents_in c) f) cs.items
fluents_And cs f = let row = row_of (And cs) in fluents_row row.0 row.1 f ∙ ap (list_any (λ c. has (fluents_in c) f)) (items_hidden-the_row-Cond-0 cs)

pub fluents_Or : (cs : Vec Cond Global) (f : ℕ) → has (fluents_in (Or cs)) f ≡ list_any (λ c. has (fluents_in c) f) cs.items
fluents_Or cs f = fluents_And cs f
