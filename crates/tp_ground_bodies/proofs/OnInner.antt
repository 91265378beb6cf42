-- What variables stand for, one binding after another.
use Rattle.std.proofs.Common.{◌≡◌, List, [], ◌∷◌, ◌++◌, map, Bor, refl, ap, ◌∙◌}
use Rattle.std.specs.List.{flat_map}
use Rattle.tp_syntax_ast.specs.Symbols.{Name, Declared, typed_view}
use Rattle.tp_syntax_ast.specs.declared.symbols.Typed.{Typed}
use Rattle.tp_ground_bindings.specs.Views.{env_view}
use Rattle.tp_ground_bindings.specs.declared.environment.Env as code
use Rattle.tp_ground_bindings.proofs.OnEnvironments.{env_Inner}
use Rattle.tp_ground_bindings.specs.Bindings.{Universe, Env, bindings, bound}
use Rattle.tp_ground_bodies.specs.Written.{inner}

module _ (env : Env) (vs : List Declared) where
  abbrev pub under : List Name → Env
  under b = bound vs b ++ env

  module _ {Y : Type 0} where
    map_along : (f : Env → Y) (all : List (List Name)) → map (λ b. f (under b)) all ≡ map f (map under all)
    map_along f [] = refl
    map_along f (b ∷ all) = ap (λ ys. f (under b) ∷ ys) (map_along f all)

    pub map_under : (u : Universe) (f : Env → Y) → map (λ b. f (under b)) (bindings u vs) ≡ map f (inner u env vs)
    map_under u f = map_along f (bindings u vs)

    flat_along : (f : Env → List Y) (all : List (List Name)) → flat_map (λ b. f (under b)) all ≡ flat_map f (map under all)
    flat_along f [] = refl
    flat_along f (b ∷ all) = ap (λ ys. f (under b) ++ ys) (flat_along f all)

    pub flat_under : (u : Universe) (f : Env → List Y) → flat_map (λ b. f (under b)) (bindings u vs) ≡ flat_map f (inner u env vs)
    flat_under u f = flat_along f (bindings u vs)

pub inner_env : (vars : Bor (List Typed)) (names : Bor (List (Bor Name))) (outer : Bor code.Env) (b : List Name) → map (λ n. n.now) names.now ≡ b → env_view (code.Inner vars names outer) ≡ bound (map typed_view vars.now) b ++ env_view outer.now
inner_env vars names outer b is = env_Inner vars names outer ∙ ap (λ (ns : List Name). bound (map typed_view vars.now) ns ++ env_view outer.now) is
