-- What a domain declares, and which arguments an atom may have.
use Rattle.std.specs.Prelude.{ℕ, zero, suc, List, [], ◌∷◌, map, length, Bool, true, false, ◌&&◌, ◌||◌, if◌then◌else◌, Option, Some, None, string_bytes}
use Rattle.std.specs.List.{list_all, list_any}
use Rattle.std.specs.Str.{bytes_eq}
use Rattle.tp_text.specs.Shapes.{Shapes}
use Rattle.tp_syntax_ast.specs.Gives.{◌>>=◌, provided}
use Rattle.tp_syntax_ast.specs.Terms.{Argument, object, variable, Fact, name_of, terms_of}
use Rattle.tp_syntax_ast.specs.declared.symbols.Typed.{Typed}
use Rattle.tp_syntax_ast.specs.declared.symbols.Signature.{Signature}
use Rattle.tp_syntax_ast.specs.declared.types.TypeName.{TypeName}

abbrev pub Name : Type 0
Name = List ℕ

-- a name with its types: one of them is enough
pub record Declared : Type 0 where
  pub name : Name
  pub types : List Name

pub record Parent : Type 0 where
  pub name : Name
  pub parent : Name

pub record SignatureView : Type 0 where
  pub name : Name
  pub parameters : List Declared

abbrev pub typed_view : Typed → Declared
typed_view t = record { name = string_bytes t.name; types = map string_bytes t.types.value.items }

abbrev pub parent_view : TypeName → Parent
parent_view t = record { name = string_bytes t.name; parent = string_bytes t.parent.value }

abbrev pub signature_view : Signature → SignatureView
signature_view s = record { name = string_bytes s.name; parameters = map typed_view s.parameters.items }

-- the types under a name, from the first declaration that has it
abbrev pub types_of : Name → List Declared → Option (List Name)
types_of n [] = None
types_of n (d ∷ ds) = if bytes_eq d.name n then Some d.types else types_of n ds

abbrev pub parent_of : Name → List Parent → Option Name
parent_of n [] = None
parent_of n (d ∷ ds) = if bytes_eq d.name n then Some d.parent else parent_of n ds

abbrev pub climbs : Option Name → (Name → Bool) → Bool
climbs None below = false
climbs (Some q) below = below q

-- The type t is p, or stands below it in at most so many steps.
abbrev pub at_or_below : List Parent → ℕ → Name → Name → Bool
at_or_below ds zero t p = bytes_eq t p
at_or_below ds (suc n) t p = bytes_eq t p || climbs (parent_of t ds) (λ q. at_or_below ds n q p)

-- each type of an argument is at or below one of the parameter
abbrev pub types_fit : List Parent → List Name → List Name → Bool
types_fit ds ts ps = list_all (λ t. list_any (λ p. at_or_below ds (length ds) t p) ps) ts

-- the types of an argument: those of an object that is declared, or of a variable in scope
abbrev pub argument_types : List Declared → List Declared → Argument → Option (List Name)
argument_types objects scope (object n) = types_of n objects
argument_types objects scope (variable n) = types_of n scope

abbrev pub argument_fits : List Parent → List Declared → List Declared → Argument → List Name → Bool
argument_fits ds objects scope a ps = fits_in (argument_types objects scope a) where
  fits_in : Option (List Name) → Bool
  fits_in None = false
  fits_in (Some ts) = types_fit ds ts ps

-- as many arguments as parameters, each of which fits
abbrev pub arguments_fit :
    List Parent → List Declared → List Declared → List Argument → List Declared → Bool
arguments_fit ds objects scope [] [] = true
arguments_fit ds objects scope (a ∷ more) (p ∷ ps) =
    argument_fits ds objects scope a p.types && arguments_fit ds objects scope more ps
arguments_fit ds objects scope [] (p ∷ ps) = false
arguments_fit ds objects scope (a ∷ more) [] = false

-- what may be named: objects are constants, and in a problem its objects too
pub record Symbols : Type 0 where
  pub types : List Parent
  pub objects : List Declared
  pub predicates : List SignatureView
  pub functions : List SignatureView

abbrev pub signature_of : Name → List SignatureView → Option SignatureView
signature_of n [] = None
signature_of n (f ∷ fs) = if bytes_eq f.name n then Some f else signature_of n fs

-- (NAME TERM ..), the name one of these, with arguments that fit
unfoldable pub atom_in : Symbols → List SignatureView → List Declared → List ℕ → Shapes → Option Fact
atom_in σ signatures scope w rest =
    name_of w >>= λ n. signature_of n signatures >>= λ f. terms_of rest >>= λ ts.
    provided (arguments_fit σ.types σ.objects scope ts f.parameters)
    (record { name = n; arguments = ts })
