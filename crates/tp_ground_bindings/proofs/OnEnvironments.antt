-- What variables stand for, from the inside out.
use Rattle.std.proofs.Common.{◌≡◌, ℕ, List, [], ◌∷◌, ◌++◌, map, Bool, true, false, cond, Option, Some, None, Bor, refl, sym, ap, ◌∙◌, rules}
use Rattle.std.specs.Str.{bytes_eq}
use Rattle.tp_syntax_ast.specs.Symbols.{Name, typed_view}
use Rattle.tp_syntax_ast.specs.declared.symbols.Typed.{Typed}
use Rattle.tp_ground_bindings.specs.Bindings.{Env, bound, object_among}
use Rattle.tp_ground_bindings.specs.Views.{env_view}
use Rattle.tp_ground_bindings.specs.declared.environment.Env as code
use Rattle.tp_ground_bindings.specs.declared.environment.Env.{Empty, Inner, the_lemmas}

abbrev pub or_else : Option Name → Option Name → Option Name
or_else (Some n) o = Some n
or_else None o = o

chosen : (b : Bool) (n : Name) (x o : Option Name) → cond b (Some n) (or_else x o) ≡ or_else (cond b (Some n) x) o
chosen true n x o = refl
chosen false n x o = refl

pub object_among-append : (v : Name) (inner outer : Env) → object_among (inner ++ outer) v ≡ or_else (object_among inner v) (object_among outer v)
object_among-append v [] outer = refl
object_among-append v (b ∷ bs) outer = ap (cond (bytes_eq b.variable v) (Some b.object)) (object_among-append v bs outer) ∙ chosen (bytes_eq b.variable v) b.object (object_among bs v) (object_among outer v)

pub empty_env : env_view Empty ≡ []
empty_env = search (rules, the_lemmas)

pub env_Inner : (vars : Bor (List Typed)) (names : Bor (List (Bor (List ℕ)))) (outer : Bor code.Env) → env_view (Inner vars names outer) ≡ bound (map typed_view vars.now) (map (λ n. n.now) names.now) ++ env_view outer.now
env_Inner vars names outer = search (rules, the_lemmas)

pub in_env : (v : Name) (env : code.Env) (vars : Bor (List Typed)) (names : Bor (List (Bor (List ℕ)))) (outer : Bor code.Env) (o : Option Name) → env ≡ Inner vars names outer → o ≡ object_among (bound (map typed_view vars.now) (map (λ n. n.now) names.now)) v → object_among (env_view env) v ≡ or_else o (object_among (env_view outer.now) v)
in_env v env vars names outer o is found =
    ap (λ (e : code.Env). object_among (env_view e) v) is
    ∙ ap (λ (e : Env). object_among e v) (env_Inner vars names outer)
    ∙ object_among-append v (bound (map typed_view vars.now) (map (λ n. n.now) names.now)) (env_view outer.now)
    ∙ ap (λ p. or_else p (object_among (env_view outer.now) v)) (sym found)
