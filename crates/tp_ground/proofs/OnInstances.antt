-- Instances of actions, one after another.
use Rattle.std.proofs.Common.{◌≡◌, ℕ, zero, suc, arith, ◌+◌, ◌<◌, Bool, true, false, cond, List, [], ◌∷◌, ◌++◌, map, filter, length, take, get_or, refl, sym, ap, ◌∙◌, append-nil}
use Rattle.std.specs.List.{flat_map}
use Rattle.std.proofs.lemmas.Simd.{map-map}
use Rattle.std.proofs.lemmas.List.{map-append, get_or-map}
use Rattle.std.proofs.lemmas.List.Folds.{flat_map-map}
use Rattle.std.proofs.lemmas.List.Elements.{filter-append}
use Rattle.tp_syntax_ast.specs.Symbols.{Name}
use Rattle.tp_syntax_ast.specs.Actions as actions
use Rattle.tp_ground_bindings.specs.Bindings.{Universe, bindings}
use Rattle.tp_ground.specs.Reached.{Instance, instances}
use Rattle.tp_syntax_ast.specs.DomainViews.{action_view}
use Rattle.tp_ground_bodies.specs.Mentions.{Mentions, ◌then◌, of_each}
use Rattle.tp_syntax_ast.specs.declared.action.Action.{Action}
use Rattle.tp_ground_bindings.proofs.Along.{map_next}

-- the instances of an action
abbrev pub bound_to : actions.Action → List Name → Instance
bound_to a ns = record { action = a; objects = ns }

abbrev pub instances_of : Universe → Action → List Instance
instances_of u a = map (bound_to (action_view a)) (bindings u (action_view a).parameters)

pub all_of : (u : Universe) (xs : List Action) → flat_map (instances_of u) xs ≡ instances u (map action_view xs)
all_of u xs = sym (flat_map-map (λ (a : actions.Action). map (bound_to a) (bindings u a.parameters)) action_view xs)

-- mentions of what is told in other words
pub each_view : {X Y : Type 0} (of : Y → Mentions) (f : X → Y) (xs : List X) → of_each (λ x. of (f x)) xs ≡ of_each of (map f xs)
each_view of f [] = refl
each_view of f (x ∷ xs) = ap (λ m. of (f x) then m) (each_view of f xs)

-- ---- those that are flagged

pub item_at : {X : Type 0} (xs : List X) (i : ℕ) → i < length xs → (x : X) × (x ≡ get_or xs i x)
item_at [] i lt = absurd (omega arith)
item_at (y ∷ ys) zero lt = (y, refl)
item_at (y ∷ ys) (suc i) lt = item_at ys i (omega arith)

module _ {X Y : Type 0} (f : X → Y) (test : Y → Bool) (flags : List Bool) (xs : List X) (same : flags ≡ map test (map f xs)) (i : ℕ) (lt : i < length xs) (kept : List X) (so_far : map f kept ≡ filter test (map f (take i xs))) where
  step : (x : X) → x ≡ get_or xs i x → filter test (map f (take (i + 1) xs)) ≡ filter test (map f (take i xs)) ++ filter test (f x ∷ [])
  step x is =
      ap (filter test) (map_next f xs i x lt is)
      ∙ filter-append test (map f (take i xs)) (f x ∷ [])

  flag_is : (x : X) → x ≡ get_or xs i x → (b z : Bool) → b ≡ get_or flags i z → test (f x) ≡ b
  flag_is x is b z q =
      ap (λ y. test (f y)) is
      ∙ sym (get_or-map (λ y. test (f y)) xs i x z lt)
      ∙ ap (λ bs. get_or bs i z) (sym (map-map test f xs) ∙ sym same)
      ∙ sym q

  pub taken : (x : X) → x ≡ get_or xs i x → (b z : Bool) → b ≡ get_or flags i z → b ≡ true → (new : List X) (y : X) → new ≡ kept ++ y ∷ [] → f y ≡ f x → map f new ≡ filter test (map f (take (i + 1) xs))
  taken x is b z q t new y pushed copy =
      ap (map f) pushed ∙ map-append f kept (y ∷ [])
      ∙ ap (λ ys. ys ++ f y ∷ []) so_far
      ∙ ap (λ w. filter test (map f (take i xs)) ++ w ∷ []) copy
      ∙ sym (ap (λ c. filter test (map f (take i xs)) ++ cond c (f x ∷ []) []) (flag_is x is b z q ∙ t))
      ∙ sym (step x is)

  pub passed : (x : X) → x ≡ get_or xs i x → (b z : Bool) → b ≡ get_or flags i z → b ≡ false → map f kept ≡ filter test (map f (take (i + 1) xs))
  passed x is b z q t =
      so_far
      ∙ sym (append-nil (filter test (map f (take i xs))))
      ∙ sym (ap (λ c. filter test (map f (take i xs)) ++ cond c (f x ∷ []) []) (flag_is x is b z q ∙ t))
      ∙ sym (step x is)
