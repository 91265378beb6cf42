-- What variables stand for.
use Rattle.std.specs.Prelude.{List, [], ◌∷◌, ◌++◌, map, filter, if◌then◌else◌, Option, Some, None, unwrap_or}
use Rattle.std.specs.List.{flat_map}
use Rattle.std.specs.Str.{bytes_eq}
use Rattle.tp_syntax_ast.specs.Terms.{Argument, object, variable, Fact}
use Rattle.tp_syntax_ast.specs.Symbols.{Name, Declared, Parent, types_fit}
use Rattle.tp_syntax_ast.specs.Domains.{Domain}
use Rattle.tp_syntax_ast.specs.Problems.{Problem}
use Rattle.tp_task.specs.Words.{Words}

-- the types, and all objects: the domain's constants, then the problem's objects
pub record Universe : Type 0 where
  pub types : List Parent
  pub objects : List Declared

-- objects: the domain's constants, then the problem's
abbrev pub universe_of : Domain → Problem → Universe
universe_of d p = record { types = d.types; objects = d.constants ++ p.objects }

-- the objects among these whose types fit a variable's, in order of declaration
abbrev pub fitting : List Parent → List Declared → Declared → List Name
fitting types objects p = map (λ o. o.name) (filter (λ o. types_fit types o.types p.types) objects)

abbrev pub choices : Universe → Declared → List Name
choices u p = fitting u.types u.objects p

-- All type-correct bindings: lists of objects, one for each variable. The first variable varies slowest.
abbrev pub bindings : Universe → List Declared → List (List Name)
bindings u [] = [] ∷ []
bindings u (p ∷ ps) = flat_map (λ n. map (λ rest. n ∷ rest) (bindings u ps)) (choices u p)

pub record Bound : Type 0 where
  pub variable : Name
  pub object : Name

-- what variables stand for, the innermost first
abbrev pub Env : Type 0
Env = List Bound

abbrev pub bound : List Declared → List Name → Env
bound [] ns = []
bound (p ∷ ps) [] = []
bound (p ∷ ps) (n ∷ ns) = record { variable = p.name; object = n } ∷ bound ps ns

-- the object that a variable stands for
abbrev pub object_among : Env → Name → Option Name
object_among [] v = None
object_among (b ∷ env) v = if bytes_eq b.variable v then Some b.object else object_among env v

-- the object for an argument: a variable that stands for none is left as it is
abbrev pub object_for : Env → Argument → Name
object_for env (object n) = n
object_for env (variable v) = unwrap_or (object_among env v) v

abbrev pub words_in : Env → Fact → Words
words_in env f = f.name ∷ map (object_for env) f.arguments
