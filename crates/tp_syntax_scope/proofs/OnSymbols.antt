use Rattle.std.proofs.Common.{◌≡◌, List, [], ◌∷◌, ◌++◌, map, Bool, true, false, cond, Option, Some, None, option_map, string_bytes, refl, sym, ap, ◌∙◌}
use Rattle.std.specs.Str.{bytes_eq}
use Rattle.tp_syntax_ast.specs.Symbols.{Name, Declared, typed_view, signature_view, types_of, signature_of}
use Rattle.tp_syntax_types.specs.Tables.{item_of}
use Rattle.tp_syntax_ast.specs.declared.symbols.Signature.{Signature}
use Rattle.tp_syntax_types.proofs.OnTables.{seen}
use Rattle.tp_syntax_ast.specs.declared.symbols.Typed.{Typed}

abbrev pub or_else : Option (List Name) → Option (List Name) → Option (List Name)
or_else (Some ts) o = Some ts
or_else None o = o

chosen : (b : Bool) (ts : List Name) (x o : Option (List Name)) → cond b (Some ts) (or_else x o) ≡ or_else (cond b (Some ts) x) o
chosen true ts x o = refl
chosen false ts x o = refl

pub types_of-append : (n : Name) (ds es : List Declared) → types_of n (ds ++ es) ≡ or_else (types_of n ds) (types_of n es)
types_of-append n [] es = refl
types_of-append n (d ∷ ds) es = ap (cond (bytes_eq d.name n) (Some d.types)) (types_of-append n ds es) ∙ chosen (bytes_eq d.name n) d.types (types_of n ds) (types_of n es)

-- ---- what is found by a name

pub types_of_found : (n : Name) (ds : List Typed) → types_of n (map typed_view ds) ≡ option_map (λ (d : Typed). map string_bytes d.types.value.items) (item_of (λ (d : Typed). string_bytes d.name) n ds)
types_of_found n [] = refl
types_of_found n (d ∷ ds) =
    let view : Typed → List Name = λ e. map string_bytes e.types.value.items in
    let found = item_of (λ (e : Typed). string_bytes e.name) n ds in
    ap (cond (bytes_eq (string_bytes d.name) n) (Some (view d))) (types_of_found n ds) ∙ sym (seen view (bytes_eq (string_bytes d.name) n) d found)

pub signature_found : (n : Name) (fs : List Signature) → signature_of n (map signature_view fs) ≡ option_map signature_view (item_of (λ (f : Signature). string_bytes f.name) n fs)
signature_found n [] = refl
signature_found n (f ∷ fs) =
    let found = item_of (λ (g : Signature). string_bytes g.name) n fs in
    ap (cond (bytes_eq (string_bytes f.name) n) (Some (signature_view f))) (signature_found n fs) ∙ sym (seen signature_view (bytes_eq (string_bytes f.name) n) f found)
