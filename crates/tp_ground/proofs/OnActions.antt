-- Bodies of ground actions, numbered one after another.
use Rattle.std.proofs.Common.{◌≡◌, ℕ, ◌+◌, ◌<◌, List, [], ◌∷◌, ◌++◌, length, take, drop, get_or, map, Bor, Vec, Global, refl, sym, ap, subst, ◌∙◌, append-nil}
use Rattle.std.specs.List.{flat_map}
use Rattle.std.proofs.lemmas.List.{map-append, take_more, take-append-drop}
use Rattle.tp_syntax_ast.specs.Symbols.{Name, Declared, typed_view}
use Rattle.tp_syntax_ast.specs.Actions as actions
use Rattle.tp_syntax_ast.specs.DomainViews.{action_view}
use Rattle.tp_syntax_ast.specs.declared.symbols.Typed.{Typed}
use Rattle.tp_syntax_ast.specs.declared.action.Action.{Action}
use Rattle.tp_ground_bindings.specs.Views.{env_view}
use Rattle.tp_ground_bindings.specs.Bindings.{Universe, Env, bindings, bound}
use Rattle.tp_ground_bodies.specs.Written.{GroundBody, body_in}
use Rattle.tp_task.specs.Tables.{Tables}
use Rattle.tp_ground_bodies.specs.Mentions.{Mentions, ◌then◌, of_body, of_each}
use Rattle.tp_ground_bodies.specs.Lowered.{Notes, Overflows}
use Rattle.tp_ground.specs.Grounding.{ground_action, ground_actions, of_action}
use Rattle.tp_ground_bindings.specs.declared.environment.Env as code
use Rattle.tp_ground_bindings.specs.declared.environment.Env.{Inner, Empty}
use Rattle.tp_task.specs.declared.fault.GroundFault.{GroundFault}
use Rattle.tp_ground_bindings.proofs.OnEnvironments.{empty_env}
use Rattle.tp_ground_bodies.proofs.OnInner.{inner_env}
use Rattle.tp_ground_bodies.proofs.OnLowered.{then_assoc, of_each-append, of_each_one, overflows_first, overflows_then}

module _ {X : Type 0} (of : X → Mentions) (xs : List X) (i : ℕ) (x : X) (lt : i < length xs) (item : x ≡ get_or xs i x) where
  pub each_next : of_each of (take (i + 1) xs) ≡ (of_each of (take i xs) then of x)
  each_next =
      ap (of_each of) (take_more xs i x lt) ∙ of_each-append of (take i xs) (get_or xs i x ∷ [])
      ∙ ap (λ n. of_each of (take i xs) then n) (of_each_one of (get_or xs i x) ∙ ap of (sym item))

  pub each_whole : of_each of xs ≡ (of_each of (take i xs) then (of x then of_each of (drop (i + 1) xs)))
  each_whole =
      ap (of_each of) (sym (take-append-drop (i + 1) xs)) ∙ of_each-append of (take (i + 1) xs) (drop (i + 1) xs)
      ∙ ap (λ m. m then of_each of (drop (i + 1) xs)) each_next
      ∙ sym (then_assoc (of_each of (take i xs)) (of x) (of_each of (drop (i + 1) xs)))

-- a fault at one that comes after others, in all
pub each_stopped : {X : Type 0} (of : X → Mentions) (xs : List X) (i : ℕ) (x : X) → i < length xs → x ≡ get_or xs i x → (a b : Tables) (e : GroundFault) (all m : Mentions) → all ≡ of_each of xs → m ≡ of x → Notes a b (of_each of (take i xs)) → Overflows b m e → Overflows a all e
each_stopped of xs i x lt item a b e all m is p notes h =
    subst (λ n. Overflows a n e) (sym (is ∙ each_whole of xs i x lt item))
    (overflows_then a b (of_each of (take i xs)) (of x then of_each of (drop (i + 1) xs)) e notes
    (overflows_first b (of x) (of_each of (drop (i + 1) xs)) e (subst (λ n. Overflows b n e) p h)))

-- each item of a list by its name
abbrev pub every : {C Y : Type 0} → (Tables → C → Y) → Tables → Vec C Global → List Y
every named t v = map (named t) v.items

-- what parameters stand for, and nothing else
pub plain_env : (vars : Bor (List Typed)) (names : Bor (List (Bor (List ℕ)))) (outer : Bor code.Env) (b : List Name) → outer.now ≡ Empty → map (λ n. n.now) names.now ≡ b → env_view (Inner vars names outer) ≡ bound (map typed_view vars.now) b
plain_env vars names outer b none is =
    inner_env vars names outer b is
    ∙ ap (λ (o : code.Env). bound (map typed_view vars.now) b ++ env_view o) none
    ∙ ap (λ (e : Env). bound (map typed_view vars.now) b ++ e) empty_env
    ∙ append-nil (bound (map typed_view vars.now) b)
