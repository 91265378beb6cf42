-- Parents by the places of types.
use Rattle.std.proofs.Common.{◌≡◌, ℕ, ◌+◌, ◌<◌, zero, suc, List, [], ◌∷◌, map, length, get_or, Bool, true, false, ◌||◌, not, cond, Option, Some, None, option_map, refl, sym, ap, ◌∙◌, arith, add-one, string_bytes}
use Rattle.std.specs.Prelude.{slice_get}
use Rattle.std.specs.Str.{bytes_eq}
use Rattle.tp_syntax_ast.specs.Gives.{◌>>=◌}
use Rattle.tp_syntax_ast.specs.Symbols.{Name, Parent, parent_view, parent_of, climbs, at_or_below}
use Rattle.tp_syntax_types.specs.Tables.{place_of}
use Rattle.tp_syntax_types.specs.TypeNames.{type_name}
use Rattle.tp_syntax_ast.specs.declared.types.TypeName.{TypeName}

-- ---- one step up

pub goes_up : (ps : List Parent) (left k : ℕ) (t p q : Name) → left ≡ k + 1 → bytes_eq t p ≡ false → parent_of t ps ≡ Some q → at_or_below ps left t p ≡ at_or_below ps k q p
goes_up ps left k t p q e apart up =
    ap (λ (n : ℕ). at_or_below ps n t p) (e ∙ add-one k)
    ∙ ap (λ b. b || climbs (parent_of t ps) (λ r. at_or_below ps k r p)) apart
    ∙ ap (λ o. climbs o (λ r. at_or_below ps k r p)) up

pub is_there : (ps : List Parent) (left : ℕ) (t p : Name) → bytes_eq t p ≡ true → at_or_below ps left t p ≡ true
is_there ps zero t p is = is
is_there ps (suc k) t p is = ap (λ b. b || climbs (parent_of t ps) (λ r. at_or_below ps k r p)) is

pub is_highest : (ps : List Parent) (left : ℕ) (t p : Name) → bytes_eq t p ≡ false → parent_of t ps ≡ None → at_or_below ps left t p ≡ false
is_highest ps zero t p apart none = apart
is_highest ps (suc k) t p apart none =
    ap (λ b. b || climbs (parent_of t ps) (λ r. at_or_below ps k r p)) apart
    ∙ ap (λ o. climbs o (λ r. at_or_below ps k r p)) none

-- ---- parents by their places

module _ (d : TypeName) (ts : List TypeName) where
  shifted : (b : Bool) (o : Option ℕ) (r : Option Name) → r ≡ (o >>= λ k. option_map (λ (u : TypeName). string_bytes u.parent.value) (slice_get ts k)) → cond b (Some (string_bytes d.parent.value)) r ≡ (cond b (Some 0) (option_map (λ k. k + 1) o) >>= λ k. option_map (λ (u : TypeName). string_bytes u.parent.value) (slice_get (d ∷ ts) k))
  shifted true o r h = refl
  shifted false None r h = h
  shifted false (Some k) r h = h ∙ ap (λ (i : ℕ). option_map (λ (u : TypeName). string_bytes u.parent.value) (slice_get (d ∷ ts) i)) (sym (add-one k))

pub parent_by_place : (ts : List TypeName) (t : Name) → parent_of t (map parent_view ts) ≡ (place_of t (map type_name ts) >>= λ k. option_map (λ (u : TypeName). string_bytes u.parent.value) (slice_get ts k))
parent_by_place [] t = refl
parent_by_place (d ∷ ts) t = shifted d ts (bytes_eq (string_bytes d.name) t) (place_of t (map type_name ts)) (parent_of t (map parent_view ts)) (parent_by_place ts t)

pub no_place : (ts : List TypeName) (t : Name) → place_of t (map type_name ts) ≡ None → parent_of t (map parent_view ts) ≡ None
no_place ts t none = parent_by_place ts t ∙ ap (λ (o : Option ℕ). o >>= λ k. option_map (λ (u : TypeName). string_bytes u.parent.value) (slice_get ts k)) none

pub at_the_place : (ts : List TypeName) (t : Name) (k : ℕ) (o : Option TypeName) → place_of t (map type_name ts) ≡ Some k → slice_get ts k ≡ o → parent_of t (map parent_view ts) ≡ option_map (λ (u : TypeName). string_bytes u.parent.value) o
at_the_place ts t k o is at =
    parent_by_place ts t
    ∙ ap (λ (p : Option ℕ). p >>= λ i. option_map (λ (u : TypeName). string_bytes u.parent.value) (slice_get ts i)) is
    ∙ ap (option_map (λ (u : TypeName). string_bytes u.parent.value)) at

pub slice_at : (ts : List TypeName) (k : ℕ) (d : TypeName) → k < length ts → d ≡ get_or ts k d → slice_get ts k ≡ Some d
slice_at [] k d lt is = absurd (omega arith)
slice_at (t ∷ ts) zero d lt is = ap Some (sym is)
slice_at (t ∷ ts) (suc k) d lt is = let inside : k < length ts = omega arith in slice_at ts k d inside is

pub not_true : (b : Bool) → not b ≡ true → b ≡ false
not_true false h = refl
not_true true h = cc
