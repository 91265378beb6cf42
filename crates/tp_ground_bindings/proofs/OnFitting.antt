-- Objects that fit, one after another.
use Rattle.std.proofs.Common.{◌≡◌, ℕ, ◌+◌, ◌<◌, Bool, true, false, cond, List, [], ◌∷◌, ◌++◌, map, filter, length, get_or, drop, string_bytes, refl, sym, ap, ◌∙◌, append_assoc}
use Rattle.std.proofs.lemmas.List.{at_drop_more, map-append}
use Rattle.std.proofs.lemmas.List.Elements.{filter-append}
use Rattle.tp_syntax_ast.specs.Symbols.{Name, Declared, Parent, typed_view, types_fit}
use Rattle.tp_syntax_ast.specs.declared.symbols.Typed.{Typed}
use Rattle.tp_ground_bindings.specs.Bindings.{choices, fitting}
use Rattle.tp_ground_bindings.specs.KnownChoices.{of_types}

chosen : (b : Bool) (d : Declared) (ds : List Declared) → map (λ o. o.name) (cond b (d ∷ ds) ds) ≡ cond b (d.name ∷ map (λ o. o.name) ds) (map (λ o. o.name) ds)
chosen true d ds = refl
chosen false d ds = refl

-- an object that fits stands before those that are left
pub fit_step : (types : List Parent) (ws : List Name) (objects : List Typed) (i : ℕ) (x : Typed) (b : Bool) → i < length objects → x ≡ get_or objects i x → b ≡ types_fit types (map string_bytes x.types.value.items) ws → fitting types (map typed_view (drop i objects)) (of_types ws) ≡ cond b (string_bytes x.name ∷ fitting types (map typed_view (drop (i + 1) objects)) (of_types ws)) (fitting types (map typed_view (drop (i + 1) objects)) (of_types ws))
fit_step types ws objects i x b lt item is =
    at_drop_more (λ ys. fitting types (map typed_view ys) (of_types ws)) objects i x lt
    ∙ ap (λ (y : Typed). fitting types (map typed_view (y ∷ drop (i + 1) objects)) (of_types ws)) (sym item)
    ∙ ap (λ t. map (λ o. o.name) (cond t (typed_view x ∷ filter (λ o. types_fit types o.types ws) (map typed_view (drop (i + 1) objects))) (filter (λ o. types_fit types o.types ws) (map typed_view (drop (i + 1) objects))))) (sym is)
    ∙ chosen b (typed_view x) (filter (λ o. types_fit types o.types ws) (map typed_view (drop (i + 1) objects)))

pub pushed_on : (front new : List Name) (n : Name) (now rest total : List Name) → new ≡ front ++ n ∷ [] → now ≡ n ∷ rest → front ++ now ≡ total → new ++ rest ≡ total
pushed_on front new n now rest total pushed is so_far =
    ap (λ xs. xs ++ rest) pushed ∙ append_assoc front (n ∷ []) rest ∙ ap (λ xs. front ++ xs) (sym is) ∙ so_far

pub kept_on : (front now rest total : List Name) → now ≡ rest → front ++ now ≡ total → front ++ rest ≡ total
kept_on front now rest total is so_far = ap (λ xs. front ++ xs) (sym is) ∙ so_far

-- the constants' and the problem's together
pub all_fitting : (types : List Parent) (cs os : List Declared) (d : Declared) → fitting types cs d ++ fitting types os d ≡ choices (record { types = types; objects = cs ++ os }) d
all_fitting types cs os d =
    sym (ap (map (λ o. o.name)) (filter-append (λ o. types_fit types o.types d.types) cs os)
    ∙ map-append (λ o. o.name) (filter (λ o. types_fit types o.types d.types) cs) (filter (λ o. types_fit types o.types d.types) os))
