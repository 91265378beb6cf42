-- What stands in a list is past the limit if one of its members is.
use Rattle.std.proofs.Common.{◌≡◌, List, [], ◌∷◌, map, Bool, true, false, ◌||◌, Vec, Global, refl, sym, ap, ◌∙◌, rules}
use Rattle.std.specs.List.{list_any}
use Rattle.tp_syntax_ast.specs.Conditions.{all_of, any_of, conditions}
use Rattle.tp_syntax_ast.specs.CondViews.{cond_view}
use Rattle.tp_syntax_ast.specs.declared.cond.Cond as conds
use Rattle.tp_syntax_ast.specs.declared.cond.Cond.{Cond}
use Rattle.tp_syntax_ast.specs.Parts.{all_parts, parts}
use Rattle.tp_syntax_ast.specs.PartViews.{joined_view}
use Rattle.tp_syntax_ast.specs.declared.joined.Joined as joins
use Rattle.tp_syntax_ast.specs.declared.joined.Joined.{Joined}
use Rattle.tp_syntax_ast.specs.Effects.{all_constraints, constraints_in}
use Rattle.tp_syntax_ast.specs.ConstraintViews.{constraint_view}
use Rattle.tp_syntax_ast.specs.declared.constraint.DurationRule as the_constraints
use Rattle.tp_syntax_ast.specs.declared.constraint.DurationRule.{DurationRule}
use Rattle.tp_ground.specs.Great.{great_condition, great_conditions, great_part, great_parts, great_constraint, great_constraints}

pub cond_And : (v : Vec Cond Global) → cond_view (conds.And v) ≡ all_of (conditions (map cond_view v.items))
cond_And v = search (rules, conds.the_lemmas)

pub cond_Or : (v : Vec Cond Global) → cond_view (conds.Or v) ≡ any_of (conditions (map cond_view v.items))
cond_Or v = search (rules, conds.the_lemmas)

great_each : (cs : List Cond) → great_conditions (conditions (map cond_view cs)) ≡ list_any (λ c. great_condition (cond_view c)) cs
great_each [] = refl
great_each (c ∷ cs) = ap (λ b. great_condition (cond_view c) || b) (great_each cs)

pub great_And : (c : Cond) (v : Vec Cond Global) (cs : List Cond) (b : Bool) → c ≡ conds.And v → cs ≡ v.items → b ≡ list_any (λ c. great_condition (cond_view c)) cs → b ≡ great_condition (cond_view c)
great_And c v cs b is items found = found ∙ sym (great_each cs) ∙ ap (λ (ds : List Cond). great_conditions (conditions (map cond_view ds))) items ∙ sym (ap (λ d. great_condition (cond_view d)) is ∙ ap great_condition (cond_And v))

pub great_Or : (c : Cond) (v : Vec Cond Global) (cs : List Cond) (b : Bool) → c ≡ conds.Or v → cs ≡ v.items → b ≡ list_any (λ c. great_condition (cond_view c)) cs → b ≡ great_condition (cond_view c)
great_Or c v cs b is items found = found ∙ sym (great_each cs) ∙ ap (λ (ds : List Cond). great_conditions (conditions (map cond_view ds))) items ∙ sym (ap (λ d. great_condition (cond_view d)) is ∙ ap great_condition (cond_Or v))

module _ {A B : Type 0} (seen : A → B) (great : B → Bool) where
  pub part_And : (v : Vec (Joined A) Global) → joined_view seen (joins.And v) ≡ all_parts (parts (map (joined_view seen) v.items))
  part_And v = search (rules, joins.the_lemmas)

  great_each_part : (ps : List (Joined A)) → great_parts great (parts (map (joined_view seen) ps)) ≡ list_any (λ p. great_part great (joined_view seen p)) ps
  great_each_part [] = refl
  great_each_part (p ∷ ps) = ap (λ b. great_part great (joined_view seen p) || b) (great_each_part ps)

  pub great_parts_And : (c : Joined A) (v : Vec (Joined A) Global) (cs : List (Joined A)) (b : Bool) → c ≡ joins.And v → cs ≡ v.items → b ≡ list_any (λ p. great_part great (joined_view seen p)) cs → b ≡ great_part great (joined_view seen c)
  great_parts_And c v cs b is items found = found ∙ sym (great_each_part cs) ∙ ap (λ (ds : List (Joined A)). great_parts great (parts (map (joined_view seen) ds))) items ∙ sym (ap (λ d. great_part great (joined_view seen d)) is ∙ ap (great_part great) (part_And v))

pub constraint_And : (v : Vec DurationRule Global) → constraint_view (the_constraints.And v) ≡ all_constraints (constraints_in (map constraint_view v.items))
constraint_And v = search (rules, the_constraints.the_lemmas)

great_each_constraint : (rs : List DurationRule) → great_constraints (constraints_in (map constraint_view rs)) ≡ list_any (λ r. great_constraint (constraint_view r)) rs
great_each_constraint [] = refl
great_each_constraint (r ∷ rs) = ap (λ b. great_constraint (constraint_view r) || b) (great_each_constraint rs)

pub great_constraints_And : (c : DurationRule) (v : Vec DurationRule Global) (cs : List DurationRule) (b : Bool) → c ≡ the_constraints.And v → cs ≡ v.items → b ≡ list_any (λ r. great_constraint (constraint_view r)) cs → b ≡ great_constraint (constraint_view c)
great_constraints_And c v cs b is items found = found ∙ sym (great_each_constraint cs) ∙ ap (λ (ds : List DurationRule). great_constraints (constraints_in (map constraint_view ds))) items ∙ sym (ap (λ d. great_constraint (constraint_view d)) is ∙ ap great_constraint (constraint_And v))

pub any_map : {X Y : Type 0} (p : Y → Bool) (f : X → Y) (xs : List X) → list_any p (map f xs) ≡ list_any (λ x. p (f x)) xs
any_map p f [] = refl
any_map p f (x ∷ xs) = ap (λ b. p (f x) || b) (any_map p f xs)

-- the items of a field that is lent, as they are seen
pub any_seen : {X Y : Type 0} (p : Y → Bool) (f : X → Y) (xs ys : List X) (b : Bool) → xs ≡ ys → b ≡ list_any (λ x. p (f x)) xs → b ≡ list_any p (map f ys)
any_seen {X = X} p f xs ys b same found = found ∙ sym (any_map p f xs) ∙ ap (λ (zs : List X). list_any p (map f zs)) same

pub or_first : (a found rest : Bool) → a ≡ found → a ≡ true → a ≡ (found || rest)
or_first a found rest e h = h ∙ sym (ap (λ x. x || rest) (sym e ∙ h))

pub or_second : (a found b rest : Bool) → a ≡ found → a ≡ false → b ≡ rest → b ≡ (found || rest)
or_second a found b rest e h f = f ∙ sym (ap (λ x. x || rest) (sym e ∙ h))
