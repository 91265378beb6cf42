-- Parts and duration rules: those of a list, one after another.
use Rattle.std.proofs.Common.{◌≡◌, List, [], ◌∷◌, ◌++◌, map, Bool, true, if◌then◌else◌, Vec, Box, Global, refl, sym, ap, ◌∙◌, rules}
use Rattle.std.specs.List.{flat_map}
use Rattle.std.proofs.lemmas.List.Concat.{flat_map-cons}
use Rattle.tp_syntax_ast.specs.Symbols.{Name, Declared, typed_view}
use Rattle.tp_syntax_ast.specs.Parts as specs
use Rattle.tp_syntax_ast.specs.Parts.{all_parts, for_each, parts}
use Rattle.tp_syntax_ast.specs.PartViews.{joined_view}
use Rattle.tp_syntax_ast.specs.Effects.{all_constraints, constraint, constraints_in}
use Rattle.tp_syntax_ast.specs.ExprViews.{expr_view}
use Rattle.tp_syntax_ast.specs.ConstraintViews.{constraint_view}
use Rattle.tp_syntax_ast.specs.declared.words.Comparison.{Comparison}
use Rattle.tp_syntax_ast.specs.declared.expr.Expr.{Expr}
use Rattle.tp_syntax_ast.specs.declared.symbols.Typed.{Typed}
use Rattle.tp_syntax_ast.specs.declared.joined.Joined as joins
use Rattle.tp_syntax_ast.specs.declared.joined.Joined.{Joined}
use Rattle.tp_syntax_ast.specs.declared.constraint.DurationRule as the_constraints
use Rattle.tp_syntax_ast.specs.declared.constraint.DurationRule.{DurationRule}
use Rattle.tp_ground_bindings.specs.Bindings.{Universe, Env, bound}
use Rattle.tp_ground_bodies.specs.Written.{parts_in, all_parts_in, inner, limits_in, all_limits_in, comparison_of, expression_in}

module _ {A B C : Type 0} (u : Universe) (read : Env → B → List C) (seen : A → B) where
  part_And : (v : Vec (Joined A) Global) → joined_view seen (joins.And v) ≡ all_parts (parts (map (joined_view seen) v.items))
  part_And v = search (rules, joins.the_lemmas)

  part_Forall : (vs : Vec Typed Global) (b : Box (Joined A) Global) → joined_view seen (joins.Forall vs b) ≡ for_each (map typed_view vs.items) (joined_view seen b.value)
  part_Forall vs b = search (rules, joins.the_lemmas)

  part_One : (a : A) → joined_view seen (joins.One a) ≡ specs.one (seen a)
  part_One a = search (rules, joins.the_lemmas)

  each_part : (env : Env) (ps : List (Joined A)) → all_parts_in u read env (parts (map (joined_view seen) ps)) ≡ flat_map (λ p. parts_in u read env (joined_view seen p)) ps
  each_part env [] = refl
  each_part env (p ∷ ps) = ap (λ cs. parts_in u read env (joined_view seen p) ++ cs) (each_part env ps) ∙ sym (flat_map-cons (λ p. parts_in u read env (joined_view seen p)) p ps)

  module _ (env : Env) (x : Joined A) where
    pub parts_of : (v : Vec (Joined A) Global) (ps : List (Joined A)) → x ≡ joins.And v → ps ≡ v.items → parts_in u read env (joined_view seen x) ≡ flat_map (λ p. parts_in u read env (joined_view seen p)) ps
    parts_of v ps is items = ap (λ y. parts_in u read env (joined_view seen y)) is ∙ ap (parts_in u read env) (part_And v) ∙ each_part env v.items ∙ ap (flat_map (λ p. parts_in u read env (joined_view seen p))) (sym items)

    pub bound_of : (vs : Vec Typed Global) (b : Box (Joined A) Global) (ws : List Typed) (l : Joined A) → x ≡ joins.Forall vs b → ws ≡ vs.items → l ≡ b.value → parts_in u read env (joined_view seen x) ≡ flat_map (λ e. parts_in u read e (joined_view seen l)) (inner u env (map typed_view ws))
    bound_of vs b ws l is vars lent = ap (λ y. parts_in u read env (joined_view seen y)) is ∙ ap (parts_in u read env) (part_Forall vs b) ∙ ap (λ (zs : List Typed). flat_map (λ e. parts_in u read e (joined_view seen b.value)) (inner u env (map typed_view zs))) (sym vars) ∙ ap (λ y. flat_map (λ e. parts_in u read e (joined_view seen y)) (inner u env (map typed_view ws))) (sym lent)

    pub one_of : (a : A) → x ≡ joins.One a → parts_in u read env (joined_view seen x) ≡ read env (seen a)
    one_of a is = ap (λ y. parts_in u read env (joined_view seen y)) is ∙ ap (parts_in u read env) (part_One a)

-- what one part gives, and what a part gives under a binding of variables
abbrev pub part_of : {A B C : Type 0} → Universe → (Env → B → List C) → (A → B) → Env → Joined A → List C
part_of u read seen env p = parts_in u read env (joined_view seen p)

abbrev pub part_under : {A B C : Type 0} → Universe → (Env → B → List C) → (A → B) → List Declared → Env → Joined A → List Name → List C
part_under u read seen vs env p b = parts_in u read (bound vs b ++ env) (joined_view seen p)

abbrev pub part_in : {A B C : Type 0} → Universe → (Env → B → List C) → (A → B) → Joined A → Env → List C
part_in u read seen p env = parts_in u read env (joined_view seen p)

module _ (env : Env) (x : DurationRule) where
  constraint_And : (v : Vec DurationRule Global) → constraint_view (the_constraints.And v) ≡ all_constraints (constraints_in (map constraint_view v.items))
  constraint_And v = search (rules, the_constraints.the_lemmas)

  constraint_Limit : (op : Comparison) (y : Expr) → constraint_view (the_constraints.Limit op y) ≡ constraint op (expr_view y)
  constraint_Limit op y = search (rules, the_constraints.the_lemmas)

  each_constraint : (rs : List DurationRule) → all_limits_in env (constraints_in (map constraint_view rs)) ≡ flat_map (λ r. limits_in env (constraint_view r)) rs
  each_constraint [] = refl
  each_constraint (r ∷ rs) = ap (λ ls. limits_in env (constraint_view r) ++ ls) (each_constraint rs) ∙ sym (flat_map-cons (λ r. limits_in env (constraint_view r)) r rs)

  pub limits_of : (v : Vec DurationRule Global) (rs : List DurationRule) → x ≡ the_constraints.And v → rs ≡ v.items → limits_in env (constraint_view x) ≡ flat_map (λ r. limits_in env (constraint_view r)) rs
  limits_of v rs is items = ap (λ y. limits_in env (constraint_view y)) is ∙ ap (limits_in env) (constraint_And v) ∙ each_constraint v.items ∙ ap (flat_map (λ r. limits_in env (constraint_view r))) (sym items)

  pub limit_of : (op : Comparison) (y : Expr) → x ≡ the_constraints.Limit op y → limits_in env (constraint_view x) ≡ record { how = comparison_of op; value = expression_in env (expr_view y) } ∷ []
  limit_of op y is = ap (λ z. limits_in env (constraint_view z)) is ∙ ap (limits_in env) (constraint_Limit op y)

-- what stands at its specifier
pub specified : {C : Type 0} (b : Bool) (xs : List C) → b ≡ true → (if b then xs else []) ≡ xs
specified b xs h = ap (λ v. if v then xs else []) h
