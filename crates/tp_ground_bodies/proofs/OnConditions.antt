-- Conditions over atoms' words, and over their numbers.
use Rattle.std.proofs.Common.{◌≡◌, ℕ, List, [], ◌∷◌, map, Bool, true, false, if◌then◌else◌, Result, IsErrAnd, Vec, Box, Global, refl, sym, ap, subst, ◌∙◌, rules}
use Rattle.tp_syntax_ast.specs.Terms.{term_view}
use Rattle.tp_syntax_ast.specs.Symbols.{typed_view}
use Rattle.tp_syntax_ast.specs.Conditions as conditions
use Rattle.tp_syntax_ast.specs.CondViews.{cond_view}
use Rattle.tp_syntax_ast.specs.declared.words.Comparison.{Comparison}
use Rattle.tp_syntax_ast.specs.declared.term.Atom.{Atom}
use Rattle.tp_syntax_ast.specs.declared.term.Term.{Term}
use Rattle.tp_syntax_ast.specs.declared.expr.Expr.{Expr}
use Rattle.tp_syntax_ast.specs.declared.symbols.Typed.{Typed}
use Rattle.tp_syntax_ast.specs.declared.cond.Cond as syntax
use Rattle.std.specs.Str.{bytes_eq}
use Rattle.tp_syntax_ast.specs.Terms.{Argument}
use Rattle.tp_ground_bindings.specs.Bindings.{Universe, Env, object_for}
use Rattle.tp_task.specs.Tables.{Tables, words_at}
use Rattle.tp_ground_bodies.specs.Written.{GroundCondition, atom, compared, negation, all_of, any_of, conditions_from, always, never, either, same_in, inner, condition_in, conditions_in}
use Rattle.tp_ground_bodies.specs.Mentions.{nothing, of_condition, of_conditions, of_each, ◌then◌}
use Rattle.tp_ground_bodies.specs.ReadBack.{named_condition, named_expression}
use Rattle.tp_ground_bodies.specs.Lowered.{IsLowered, Overflows, Lowers}
use Rattle.tp_task.specs.declared.events.Cond as conds
use Rattle.tp_task.specs.declared.events.Cond.{Cond}
use Rattle.tp_task.specs.declared.events.Expr as exprs
use Rattle.tp_task.specs.declared.events.Comparison as how
use Rattle.tp_task.specs.declared.fault.GroundFault.{GroundFault}
use Rattle.tp_ground_bodies.proofs.OnLowered.{AllLowered, failed, lowered_as, lowered_same, lowered_none, then_nothing}

pub of_conditions_each : (cs : List GroundCondition) → of_conditions (conditions_from cs) ≡ of_each of_condition cs
of_conditions_each [] = refl
of_conditions_each (c ∷ cs) = ap (λ m. of_condition c then m) (of_conditions_each cs)

module _ (u : Universe) (env : Env) where
  pub each : (cs : List syntax.Cond) → conditions_in u env (conditions.conditions (map cond_view cs)) ≡ map (λ c. condition_in u env (cond_view c)) cs
  each [] = refl
  each (c ∷ cs) = ap (λ ds. condition_in u env (cond_view c) ∷ ds) (each cs)

  see_And : (v : Vec syntax.Cond Global) → cond_view (syntax.And v) ≡ conditions.all_of (conditions.conditions (map cond_view v.items))
  see_And v = search (rules, syntax.the_lemmas)

  see_Or : (v : Vec syntax.Cond Global) → cond_view (syntax.Or v) ≡ conditions.any_of (conditions.conditions (map cond_view v.items))
  see_Or v = search (rules, syntax.the_lemmas)

  see_Imply : (a b : Box syntax.Cond Global) → cond_view (syntax.Imply a b) ≡ conditions.implies (cond_view a.value) (cond_view b.value)
  see_Imply a b = search (rules, syntax.the_lemmas)

  see_Forall : (vs : Vec Typed Global) (b : Box syntax.Cond Global) → cond_view (syntax.Forall vs b) ≡ conditions.for_all (map typed_view vs.items) (cond_view b.value)
  see_Forall vs b = search (rules, syntax.the_lemmas)

  see_Exists : (vs : Vec Typed Global) (b : Box syntax.Cond Global) → cond_view (syntax.Exists vs b) ≡ conditions.for_some (map typed_view vs.items) (cond_view b.value)
  see_Exists vs b = search (rules, syntax.the_lemmas)

  see_Same : (a b : Term) → cond_view (syntax.Same a b) ≡ conditions.same (term_view a) (term_view b)
  see_Same a b = search (rules, syntax.the_lemmas)

  module _ (x : syntax.Cond) where
    seen : (y : syntax.Cond) (c : conditions.Condition) → x ≡ y → cond_view y ≡ c → condition_in u env (cond_view x) ≡ condition_in u env c
    seen y c is e = ap (λ z. condition_in u env (cond_view z)) is ∙ ap (condition_in u env) e

    pub and_of : (v : Vec syntax.Cond Global) (cs : List syntax.Cond) → x ≡ syntax.And v → cs ≡ v.items → condition_in u env (cond_view x) ≡ all_of (conditions_from (map (λ c. condition_in u env (cond_view c)) cs))
    and_of v cs is items = seen (syntax.And v) _ is (see_And v) ∙ ap (λ ds. all_of (conditions_from ds)) (each v.items) ∙ ap (λ ds. all_of (conditions_from (map (λ c. condition_in u env (cond_view c)) ds))) (sym items)

    pub or_of : (v : Vec syntax.Cond Global) (cs : List syntax.Cond) → x ≡ syntax.Or v → cs ≡ v.items → condition_in u env (cond_view x) ≡ any_of (conditions_from (map (λ c. condition_in u env (cond_view c)) cs))
    or_of v cs is items = seen (syntax.Or v) _ is (see_Or v) ∙ ap (λ ds. any_of (conditions_from ds)) (each v.items) ∙ ap (λ ds. any_of (conditions_from (map (λ c. condition_in u env (cond_view c)) ds))) (sym items)

    pub imply_of : (a b : Box syntax.Cond Global) (l r : syntax.Cond) → x ≡ syntax.Imply a b → l ≡ a.value → r ≡ b.value → condition_in u env (cond_view x) ≡ condition_in u env (conditions.implies (cond_view l) (cond_view r))
    imply_of a b l r is left right = seen (syntax.Imply a b) _ is (see_Imply a b) ∙ ap (λ z. condition_in u env (conditions.implies (cond_view z) (cond_view b.value))) (sym left) ∙ ap (λ z. condition_in u env (conditions.implies (cond_view l) (cond_view z))) (sym right)

    pub forall_of : (vs : Vec Typed Global) (b : Box syntax.Cond Global) (ws : List Typed) (l : syntax.Cond) → x ≡ syntax.Forall vs b → ws ≡ vs.items → l ≡ b.value → condition_in u env (cond_view x) ≡ all_of (conditions_from (map (λ e. condition_in u e (cond_view l)) (inner u env (map typed_view ws))))
    forall_of vs b ws l is vars lent = seen (syntax.Forall vs b) _ is (see_Forall vs b) ∙ ap (λ (zs : List Typed). all_of (conditions_from (map (λ e. condition_in u e (cond_view b.value)) (inner u env (map typed_view zs))))) (sym vars) ∙ ap (λ z. all_of (conditions_from (map (λ e. condition_in u e (cond_view z)) (inner u env (map typed_view ws))))) (sym lent)

    pub exists_of : (vs : Vec Typed Global) (b : Box syntax.Cond Global) (ws : List Typed) (l : syntax.Cond) → x ≡ syntax.Exists vs b → ws ≡ vs.items → l ≡ b.value → condition_in u env (cond_view x) ≡ any_of (conditions_from (map (λ e. condition_in u e (cond_view l)) (inner u env (map typed_view ws))))
    exists_of vs b ws l is vars lent = seen (syntax.Exists vs b) _ is (see_Exists vs b) ∙ ap (λ (zs : List Typed). any_of (conditions_from (map (λ e. condition_in u e (cond_view b.value)) (inner u env (map typed_view zs))))) (sym vars) ∙ ap (λ z. any_of (conditions_from (map (λ e. condition_in u e (cond_view z)) (inner u env (map typed_view ws))))) (sym lent)

    pub same_of : (a b : Term) → x ≡ syntax.Same a b → condition_in u env (cond_view x) ≡ same_in env (term_view a) (term_view b)
    same_of a b is = seen (syntax.Same a b) _ is (see_Same a b)

module _ (t : Tables) where
  pub named_And : (v : Vec Cond Global) → named_condition t (conds.And v) ≡ all_of (conditions_from (map (named_condition t) v.items))
  named_And v = search (rules, conds.the_lemmas)

  pub named_Or : (v : Vec Cond Global) → named_condition t (conds.Or v) ≡ any_of (conditions_from (map (named_condition t) v.items))
  named_Or v = search (rules, conds.the_lemmas)

  pub named_Not : (b : Box Cond Global) → named_condition t (conds.Not b) ≡ negation (named_condition t b.value)
  named_Not b = search (rules, conds.the_lemmas)

  pub named_Atom : (a : ℕ) → named_condition t (conds.Atom a) ≡ atom (words_at t.atoms a)
  named_Atom a = search (rules, conds.the_lemmas)

  pub named_Compare : (op : how.Comparison) (x y : Box exprs.Expr Global) → named_condition t (conds.Compare op x y) ≡ compared op (named_expression t x.value) (named_expression t y.value)
  named_Compare op x y = search (rules, conds.the_lemmas)

-- all or any of what a list says
module _ (a b : Tables) (v : Vec Cond Global) (ys : List GroundCondition) (y : GroundCondition) where
  pub all_lowered : y ≡ all_of (conditions_from ys) → AllLowered named_condition of_condition a b v ys → IsLowered named_condition a b (conds.And v) y (of_condition y)
  all_lowered is l = lowered_same y (of_condition y) (sym is) (sym (ap of_condition is ∙ of_conditions_each ys)) (lowered_as (λ (zs : List GroundCondition). all_of (conditions_from zs)) (conds.And v) (λ t. named_And t v) l)

  pub any_lowered : y ≡ any_of (conditions_from ys) → AllLowered named_condition of_condition a b v ys → IsLowered named_condition a b (conds.Or v) y (of_condition y)
  any_lowered is l = lowered_same y (of_condition y) (sym is) (sym (ap of_condition is ∙ of_conditions_each ys)) (lowered_as (λ (zs : List GroundCondition). any_of (conditions_from zs)) (conds.Or v) (λ t. named_Or t v) l)

module _ (a b : Tables) (ys : List GroundCondition) (y : GroundCondition) (r : Result Cond GroundFault) (f : GroundFault) (err : IsErrAnd r (λ e. e ≡ f)) (h : Overflows a (of_each of_condition ys) f) where
  pub all_failed : y ≡ all_of (conditions_from ys) → Lowers named_condition a r b y (of_condition y)
  all_failed is = failed named_condition a b y (of_condition y) r f err (subst (λ m. Overflows a m f) (sym (ap of_condition is ∙ of_conditions_each ys)) h)

  pub any_failed : y ≡ any_of (conditions_from ys) → Lowers named_condition a r b y (of_condition y)
  any_failed is = failed named_condition a b y (of_condition y) r f err (subst (λ m. Overflows a m f) (sym (ap of_condition is ∙ of_conditions_each ys)) h)

-- an equality of objects mentions nothing
same_nothing : (b : Bool) → of_condition (if b then always else never) ≡ nothing
same_nothing true = refl
same_nothing false = refl

pub same_lowered : (a : Tables) (x : Cond) (env : Env) (p q : Argument) → ((t : Tables) → named_condition t x ≡ same_in env p q) → IsLowered named_condition a a x (same_in env p q) (of_condition (same_in env p q))
same_lowered a x env p q says = lowered_same (same_in env p q) (of_condition (same_in env p q)) refl (sym (same_nothing (bytes_eq (object_for env p) (object_for env q)))) (lowered_none a x (same_in env p q) says)

pub either_mentions : (c d : GroundCondition) → of_condition (either c d) ≡ (of_condition c then of_condition d)
either_mentions c d = ap (λ m. of_condition c then m) (then_nothing (of_condition d))
