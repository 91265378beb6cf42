-- A loop that reads one thing after another.
use Rattle.std.proofs.Common.{◌≡◌, ℕ, ◌+◌, ◌<◌, ◌≤◌, List, [], ◌∷◌, ◌++◌, length, drop, get_or, Option, Some, None, option_map, refl, sym, ap, ◌∙◌, append_assoc, append-nil}
use Rattle.std.proofs.lemmas.List.{at_drop_more, at_drop_all}
use Rattle.tp_syntax_ast.specs.Gives.{◌>>=◌, with_front, Fails}
use Rattle.tp_syntax_ast.specs.declared.fault.SyntaxFault.{SyntaxFault}
use Rattle.tp_syntax_ast.specs.declared.fault.SyntaxFault.TheVariants as faults

-- all reads each of a list by one
pub record IsEach {X Y : Type 0} (one : X → Option Y) (all : List X → Option (List Y)) : Type 0 where
  pub none : all [] ≡ Some []
  pub more : (x : X) (xs : List X) → all (x ∷ xs) ≡ (one x >>= λ y. option_map (λ ys. y ∷ ys) (all xs))

regroup : {Y : Type 0} (front : List Y) (y : Y) (rest : Option (List Y)) → with_front front (Some y >>= λ z. option_map (λ ys. z ∷ ys) rest) ≡ with_front (front ++ y ∷ []) rest
regroup front y None = refl
regroup front y (Some ys) = ap Some (sym (append_assoc front (y ∷ []) ys))

module _ {X Y : Type 0} {one : X → Option Y} {all : List X → Option (List Y)} (each : IsEach one all) where
  here : (front : List Y) (xs : List X) (i : ℕ) (x : X) (total : Option (List Y)) → i < length xs → x ≡ get_or xs i x → with_front front (all (drop i xs)) ≡ total → with_front front (one x >>= λ y. option_map (λ ys. y ∷ ys) (all (drop (i + 1) xs))) ≡ total
  here front xs i x total lt item so_far =
      ap (with_front front) (ap (λ (z : X). one z >>= λ y. option_map (λ ys. y ∷ ys) (all (drop (i + 1) xs))) item ∙ sym (at_drop_more all xs i x lt ∙ each.more (get_or xs i x) (drop (i + 1) xs))) ∙ so_far

  pub goes_on : (front new : List Y) (xs : List X) (i : ℕ) (x : X) (y : Y) (total : Option (List Y)) → i < length xs → x ≡ get_or xs i x → one x ≡ Some y → new ≡ front ++ y ∷ [] → with_front front (all (drop i xs)) ≡ total → with_front new (all (drop (i + 1) xs)) ≡ total
  goes_on front new xs i x y total lt item is pushed so_far =
      ap (λ (f : List Y). with_front f (all (drop (i + 1) xs))) pushed
      ∙ sym (regroup front y (all (drop (i + 1) xs)))
      ∙ ap (λ (o : Option Y). with_front front (o >>= λ z. option_map (λ ys. z ∷ ys) (all (drop (i + 1) xs)))) (sym is)
      ∙ here front xs i x total lt item so_far

  stops : (front : List Y) (xs : List X) (i : ℕ) (x : X) (total : Option (List Y)) → i < length xs → x ≡ get_or xs i x → one x ≡ None → with_front front (all (drop i xs)) ≡ total → total ≡ None
  stops front xs i x total lt item is so_far =
      sym (here front xs i x total lt item so_far)
      ∙ ap (λ (o : Option Y). with_front front (o >>= λ z. option_map (λ ys. z ∷ ys) (all (drop (i + 1) xs)))) is

  -- the refusal of one is that of all
  pub fails : (e : SyntaxFault) (front : List Y) (xs : List X) (i : ℕ) (x : X) (total : Option (List Y)) → i < length xs → x ≡ get_or xs i x → Fails e (one x) → with_front front (all (drop i xs)) ≡ total → Fails e total
  fails faults.Memory front xs i x total lt item h so_far = tt
  fails (faults.Text t) front xs i x total lt item h so_far = stops front xs i x total lt item h so_far
  fails (faults.Shape at) front xs i x total lt item h so_far = stops front xs i x total lt item h so_far
  fails (faults.Unknown at) front xs i x total lt item h so_far = stops front xs i x total lt item h so_far
  fails (faults.Twice at) front xs i x total lt item h so_far = stops front xs i x total lt item h so_far
  fails (faults.Types at) front xs i x total lt item h so_far = stops front xs i x total lt item h so_far
  fails (faults.LeftOut at part) front xs i x total lt item h so_far = stops front xs i x total lt item h so_far

  pub ends : (front : List Y) (xs : List X) (i : ℕ) (total : Option (List Y)) → length xs ≤ i → with_front front (all (drop i xs)) ≡ total → total ≡ Some front
  ends front xs i total le so_far =
      sym so_far ∙ ap (with_front front) (at_drop_all all xs i le ∙ each.none) ∙ ap Some (append-nil front)
