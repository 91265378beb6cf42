-- The match domain's 'light-match' with the match m1, written out by computation; and quantifiers over its objects.
use Rattle.std.proofs.Common.{◌≡◌, List, [], ◌∷◌, pos, refl}
use Rattle.std.specs.Prelude.{codes}
use Rattle.tp_syntax_ast.specs.Terms.{Argument, object, variable, Fact}
use Rattle.tp_syntax_ast.specs.Symbols.{Name, Declared}
use Rattle.tp_syntax_ast.specs.Expressions as expressions
use Rattle.tp_syntax_ast.specs.Conditions as conditions
use Rattle.tp_syntax_ast.specs.Parts.{all_parts, part, no_parts, one}
use Rattle.tp_syntax_ast.specs.Effects as effects
use Rattle.tp_syntax_ast.specs.Actions as actions
use Rattle.tp_syntax_ast.specs.declared.words.Comparison.TheVariants as comparisons
use Rattle.tp_syntax_ast.specs.declared.words.TimeSpecifier.TheVariants.{AtStart, AtEnd}
use Rattle.tp_task.specs.declared.events.Comparison.TheVariants.{Equal}
use Rattle.tp_task.specs.Words.{firsts}
use Rattle.tp_ground_bindings.specs.Bindings.{Universe, Env, bindings, bound}
use Rattle.tp_ground_bodies.specs.Written.{number, atom, negation, all_of, any_of, no_conditions, condition, always, never, durative, condition_in, body_in}
use Rattle.tp_ground_bodies.specs.Mentions.{of_body}

-- (:types match fuse), (:objects m1 - match f1 - fuse)
abbrev universe : Universe
universe = record {
  types = record { name = codes "match"; parent = codes "object" } ∷ record { name = codes "fuse"; parent = codes "object" } ∷ [];
  objects = record { name = codes "m1"; types = codes "match" ∷ [] } ∷ record { name = codes "f1"; types = codes "fuse" ∷ [] } ∷ [];
}

abbrev parameters : List Declared
parameters = record { name = codes "?m"; types = codes "match" ∷ [] } ∷ []

abbrev about : Name → List Argument → Fact
about n ks = record { name = n; arguments = ks }

abbrev unused : Fact
unused = about (codes "unused") (variable (codes "?m") ∷ [])

abbrev light : Fact
light = about (codes "light") []

abbrev light_match : actions.Body
light_match = actions.durative
    (effects.constraint comparisons.Equal (expressions.number (pos 8)))
    (all_parts (part (one (record { specifier = AtStart; what = conditions.fact unused })) no_parts))
    (all_parts
    (part (one (record { specifier = AtStart; what = one (effects.deletes unused) }))
    (part (one (record { specifier = AtStart; what = one (effects.adds light) }))
    (part (one (record { specifier = AtEnd; what = one (effects.deletes light) })) no_parts))))

abbrev env : Env
env = bound parameters (codes "m1" ∷ [])

-- m1 is the one match
one_match : bindings universe parameters ≡ (codes "m1" ∷ []) ∷ []
one_match = refl

pub written_out : body_in universe env light_match ≡ durative
    (record {
      condition = all_of (condition (atom (codes "unused" ∷ codes "m1" ∷ [])) no_conditions);
      adds = (codes "light" ∷ []) ∷ [];
      deletes = (codes "unused" ∷ codes "m1" ∷ []) ∷ [];
      writes = [];
      constraint = record { how = Equal; value = number (pos 8) } ∷ [];
    })
    (record { condition = always; adds = []; deletes = (codes "light" ∷ []) ∷ []; writes = []; constraint = [] })
    always
written_out = refl

-- its atoms in order of mention, and its numbers
mentioned : firsts (of_body universe env light_match).atoms ≡ (codes "unused" ∷ codes "m1" ∷ []) ∷ (codes "light" ∷ []) ∷ []
mentioned = refl

-- (forall (?f - fuse) (mended ?f)), and (exists (?x - (either match fuse)) (= ?x m1))
each_fuse : condition_in universe env (conditions.for_all (record { name = codes "?f"; types = codes "fuse" ∷ [] } ∷ []) (conditions.fact (about (codes "mended") (variable (codes "?f") ∷ [])))) ≡ all_of (condition (atom (codes "mended" ∷ codes "f1" ∷ [])) no_conditions)
each_fuse = refl

some_object : condition_in universe env (conditions.for_some (record { name = codes "?x"; types = codes "match" ∷ codes "fuse" ∷ [] } ∷ []) (conditions.same (variable (codes "?x")) (object (codes "m1")))) ≡ any_of (condition always (condition never no_conditions))
some_object = refl

-- an inner variable hides an outer one of its name
hidden : condition_in universe env (conditions.for_all (record { name = codes "?m"; types = codes "fuse" ∷ [] } ∷ []) (conditions.same (variable (codes "?m")) (object (codes "f1")))) ≡ all_of (condition always no_conditions)
hidden = refl

-- (imply A B) is the second or not the first
implied : condition_in universe env (conditions.implies (conditions.fact unused) (conditions.fact light)) ≡ any_of (condition (negation (atom (codes "unused" ∷ codes "m1" ∷ []))) (condition (atom (codes "light" ∷ [])) no_conditions))
implied = refl
