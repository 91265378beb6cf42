-- Each atom of a condition that is written out has words.
use Rattle.std.proofs.Common.{◌≡◌, Bool, true, false, if◌then◌else◌, ◌&&◌, List, [], ◌∷◌, map, refl, ap, ◌∙◌}
use Rattle.std.specs.List.{list_all, flat_map}
use Rattle.std.specs.Str.{bytes_eq}
use Rattle.std.proofs.lemmas.Bool.{and_from}
use Rattle.std.proofs.lemmas.List.Folds.{list_all-append}
use Rattle.tp_syntax_ast.specs.Conditions as conditions
use Rattle.tp_syntax_ast.specs.Conditions.{Condition, Conditions}
use Rattle.tp_syntax_ast.specs.Parts.{Joined}
use Rattle.tp_syntax_ast.specs.Effects.{Timed}
use Rattle.tp_syntax_ast.specs.Actions as actions
use Rattle.tp_syntax_ast.specs.declared.words.TimeSpecifier.{TimeSpecifier}
use Rattle.tp_syntax_ast.specs.declared.words.TimeSpecifier.TheVariants.{AtStart, AtEnd}
use Rattle.tp_ground_bindings.specs.Bindings.{Universe, Env, bound, object_for}
use Rattle.tp_ground_bodies.specs.Written.{GroundCondition, GroundHappening, conditions_from, inner, always, never, condition_in, conditions_in, condition_part, conjuncts_at, condition_at, is_specifier, body_in}
use Rattle.tp_ground.proofs.OnFits.{parts_ok}
use Rattle.tp_ground.specs.Reached.{Instance, action_of, happenings_of}
use Rattle.tp_ground.proofs.OnMet.{worded, all_worded}

each_worded : (cs : List GroundCondition) → all_worded (conditions_from cs) ≡ list_all worded cs
each_worded [] = refl
each_worded (c ∷ cs) = ap (λ b. worded c && b) (each_worded cs)

over_all : (envs : List Env) (f : Env → GroundCondition) → ((env : Env) → worded (f env) ≡ true) → list_all worded (map f envs) ≡ true
over_all [] f h = refl
over_all (e ∷ es) f h = and_from (worded (f e)) _ (h e) (over_all es f h)

same_worded : (b : Bool) → worded (if b then always else never) ≡ true
same_worded true = refl
same_worded false = refl

mutual
  pub condition_worded : (u : Universe) (env : Env) (c : Condition) → worded (condition_in u env c) ≡ true
  condition_worded u env (conditions.all_of cs) = each_worded (conditions_in u env cs) ∙ conditions_worded u env cs
  condition_worded u env (conditions.any_of cs) = each_worded (conditions_in u env cs) ∙ conditions_worded u env cs
  condition_worded u env (conditions.negation c) = condition_worded u env c
  condition_worded u env (conditions.implies c d) = and_from (worded (condition_in u env c)) _ (condition_worded u env c) (and_from (worded (condition_in u env d)) _ (condition_worded u env d) refl)
  condition_worded u env (conditions.for_all vs c) = each_worded (map (λ e. condition_in u e c) (inner u env vs)) ∙ over_all (inner u env vs) (λ e. condition_in u e c) (λ e. condition_worded u e c)
  condition_worded u env (conditions.for_some vs c) = each_worded (map (λ e. condition_in u e c) (inner u env vs)) ∙ over_all (inner u env vs) (λ e. condition_in u e c) (λ e. condition_worded u e c)
  condition_worded u env (conditions.fact f) = refl
  condition_worded u env (conditions.same a b) = same_worded (bytes_eq (object_for env a) (object_for env b))
  condition_worded u env (conditions.compared how x y) = refl

  conditions_worded : (u : Universe) (env : Env) (cs : Conditions) → list_all worded (conditions_in u env cs) ≡ true
  conditions_worded u env conditions.no_conditions = refl
  conditions_worded u env (conditions.condition c cs) = and_from (worded (condition_in u env c)) _ (condition_worded u env c) (conditions_worded u env cs)

part_worded : (u : Universe) (m : TimeSpecifier) (env : Env) (t : Timed Condition) → list_all worded (condition_part u m env t) ≡ true
part_worded u m env t = by (is_specifier t.specifier m)
  where
    by : (b : Bool) → list_all worded (if b then condition_in u env t.what ∷ [] else []) ≡ true
    by true = and_from (worded (condition_in u env t.what)) _ (condition_worded u env t.what) refl
    by false = refl

timed_worded : (u : Universe) (m : TimeSpecifier) (env : Env) (c : Joined (Timed Condition)) → worded (condition_at u m env c) ≡ true
timed_worded u m env c = each_worded (conjuncts_at u m env c) ∙ parts_ok worded u (condition_part u m) (part_worded u m) env c

-- an event whose condition's atoms have words
abbrev pub asks_words : GroundHappening → Bool
asks_words h = worded h.condition

body_asks : (u : Universe) (env : Env) (b : actions.Body) → list_all asks_words (happenings_of (body_in u env b)) ≡ true
body_asks u env (actions.instant c e) = and_from (worded (condition_in u env c)) _ (condition_worded u env c) refl
body_asks u env (actions.durative r c e) =
    and_from (worded (condition_at u AtStart env c)) _ (timed_worded u AtStart env c)
    (and_from (worded (condition_at u AtEnd env c)) _ (timed_worded u AtEnd env c) refl)

-- the events of an action of a problem
pub instance_asks : (u : Universe) (i : Instance) → list_all asks_words (happenings_of (action_of u i).body) ≡ true
instance_asks u i = body_asks u (bound i.action.parameters i.objects) i.action.body

pub instances_ask : (u : Universe) (is : List Instance) → list_all asks_words (flat_map (λ i. happenings_of (action_of u i).body) is) ≡ true
instances_ask u [] = refl
instances_ask u (i ∷ is) = list_all-append asks_words (happenings_of (action_of u i).body) (flat_map (λ j. happenings_of (action_of u j).body) is) ∙ and_from (list_all asks_words (happenings_of (action_of u i).body)) _ (instance_asks u i) (instances_ask u is)
