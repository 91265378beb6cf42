-- Fields and actions.
use Rattle.std.proofs.Common.{◌≡◌, ℕ, ◌<◌, ◌≤◌, ◌-◌, List, [], ◌∷◌, ◌++◌, length, take, drop, get_or, Bool, true, false, ◌&&◌, Option, Some, None, option_map, refl, sym, ap, ◌∙◌, arith, append-nil}
use Rattle.tp_text.specs.Shapes.{Shape, leaf, node, Shapes, no_shapes, shape}
use Rattle.tp_text.specs.Trees.{shape_of}
use Rattle.tp_text.specs.declared.tree.Tree.{Tree}
use Rattle.tp_syntax_ast.specs.Gives.{◌>>=◌, provided, with_front, Fails}
use Rattle.tp_syntax_ast.specs.Terms.{shapes, name_of}
use Rattle.tp_syntax_ast.specs.Symbols.{Name, Declared, Symbols}
use Rattle.tp_syntax_ast.specs.Conditions.{Condition, all_of, no_conditions, condition_of}
use Rattle.tp_syntax_ast.specs.Parts.{Joined, all_parts, no_parts}
use Rattle.tp_syntax_ast.specs.Effects.{Effect, Timed, Constraint, effect_of, timed_condition_of, timed_effect_of}
use Rattle.tp_syntax_ast.specs.TypedLists.{parameters_at}
use Rattle.tp_syntax_ast.specs.Actions.{Action, Field, Body, instant, durative, fields_of, each_once, field, or_missing, body_of, action_of}
use Rattle.tp_syntax.specs.Fields.{key_at, are_fields_of, checked_fields, duration_field}
use Rattle.tp_syntax_ast.specs.declared.words.Key.{Key}
use Rattle.tp_syntax_ast.specs.declared.words.Key.TheVariants.{Parameters}
use Rattle.tp_syntax_ast.specs.declared.words.Key.TheVariants as keys
use Rattle.tp_syntax_ast.specs.declared.fault.SyntaxFault.{SyntaxFault}
use Rattle.tp_syntax_ast.proofs.OnGives.{fails_same, fails_bind, bind_bind, joins_front, keeps_front}
use Rattle.tp_syntax_ast.proofs.OnFaults.{fails_from}
use Rattle.tp_syntax_ast.proofs.OnFirsts.{no_trees, a_first}

no_key : (s : Shape) (ss : Shapes) → key_at s ≡ None → fields_of (shape s ss) ≡ None
unfolding fields_of key_at
no_key (node ts) ss none = refl
no_key (leaf w) no_shapes none = refl
no_key (leaf w) (shape t ss) none = ap (λ (o : Option Key). o >>= λ k. option_map (λ (fs : List Field). record { key = k; value = t } ∷ fs) (fields_of ss)) none

no_value : (s : Shape) → fields_of (shape s no_shapes) ≡ None
unfolding fields_of
no_value (node ts) = refl
no_value (leaf w) = refl

one_field : (s t : Shape) (ss : Shapes) (k : Key) → key_at s ≡ Some k → fields_of (shape s (shape t ss)) ≡ option_map (λ (fs : List Field). record { key = k; value = t } ∷ fs) (fields_of ss)
unfolding fields_of key_at
one_field (node ts) t ss k is = cc
one_field (leaf w) t ss k is = ap (λ (o : Option Key). o >>= λ k. option_map (λ (fs : List Field). record { key = k; value = t } ∷ fs) (fields_of ss)) is

pub begins : (ss : Shapes) (front : List Field) → front ≡ [] → with_front front (fields_of ss) ≡ fields_of ss
begins ss front none = ap (λ (fs : List Field). with_front fs (fields_of ss)) none ∙ keeps_front (fields_of ss)

module _ (front : List Field) (xs : List Tree) (word : Tree) (total : Option (List Field)) (le : 1 ≤ length xs) (at_zero : word ≡ get_or xs 0 word) (so_far : with_front front (fields_of (shapes xs)) ≡ total) where
  here : with_front front (fields_of (shape (shape_of word) (shapes (take (length xs - 1) (drop 1 xs))))) ≡ total
  here = sym (a_first (λ ss. with_front front (fields_of ss)) xs word le at_zero) ∙ so_far

  pub key_fails : (e : SyntaxFault) → Fails e (key_at (shape_of word)) → Fails e total
  key_fails e h = fails_from e (key_at (shape_of word)) total (λ none. sym here ∙ ap (with_front front) (no_key (shape_of word) _ none)) h

  pub value_missing : length (take (length xs - 1) (drop 1 xs)) < 1 → total ≡ None
  value_missing none = sym here ∙ no_trees (λ ss. with_front front (fields_of (shape (shape_of word) ss))) (take (length xs - 1) (drop 1 xs)) none ∙ ap (with_front front) (no_value (shape_of word))

  pub field_goes_on : (ys : List Tree) (value : Tree) (k : Key) (new : List Field) → take (length xs - 1) (drop 1 xs) ≡ ys → 1 ≤ length ys → value ≡ get_or ys 0 value → key_at (shape_of word) ≡ Some k → new ≡ front ++ record { key = k; value = shape_of value } ∷ [] → with_front new (fields_of (shapes (take (length ys - 1) (drop 1 ys)))) ≡ total
  field_goes_on ys value k new is more at_next key pushed =
      let rest = shapes (take (length ys - 1) (drop 1 ys)) in
      ap (λ (fs : List Field). with_front fs (fields_of rest)) pushed
      ∙ sym (joins_front front (record { key = k; value = shape_of value }) (fields_of rest))
      ∙ ap (with_front front) (sym (one_field (shape_of word) (shape_of value) rest k key))
      ∙ sym (a_first (λ ss. with_front front (fields_of (shape (shape_of word) ss))) ys value more at_next)
      ∙ ap (λ (zs : List Tree). with_front front (fields_of (shape (shape_of word) (shapes zs)))) (sym is)
      ∙ here

pub over : (front : List Field) (xs : List Tree) (total : Option (List Field)) → length xs < 1 → with_front front (fields_of (shapes xs)) ≡ total → total ≡ Some front
unfolding fields_of
over front (x ∷ xs) total lt so_far = absurd (omega arith)
over front [] total lt so_far = sym so_far ∙ ap Some (append-nil front)

-- ---- the action, one reading after another

abbrev pub with_body : Name → List Declared → Body → Action
with_body n vs b = record { name = n; parameters = vs; body = b }

module _ (σ : Symbols) (lasts : Bool) where
  abbrev pub after_parameters : Name → List Field → List Declared → Option Action
  after_parameters n gs vs = option_map (with_body n vs) (body_of σ lasts vs gs)

  abbrev pub after_fields : Name → List Field → Option Action
  after_fields n gs = or_missing [] (parameters_at σ.types) (field Parameters gs) >>= after_parameters n gs

  abbrev pub after_name : Shapes → Name → Option Action
  after_name rest n = checked_fields lasts rest >>= after_fields n

  pub no_action : action_of σ lasts no_shapes ≡ None
  unfolding action_of
  no_action = refl

  pub no_name : (ss rest : Shapes) → action_of σ lasts (shape (node ss) rest) ≡ None
  unfolding action_of
  no_name ss rest = refl

  in_order : (w : List ℕ) (rest : Shapes) → action_of σ lasts (shape (leaf w) rest) ≡ (name_of w >>= λ n. fields_of rest >>= λ fs. provided (each_once fs && are_fields_of lasts fs) fs >>= after_fields n)
  unfolding action_of
  in_order w rest = refl

  regrouped : (w : List ℕ) (rest : Shapes) (o : Option Name) → (o >>= λ n. fields_of rest >>= λ fs. provided (each_once fs && are_fields_of lasts fs) fs >>= after_fields n) ≡ (o >>= after_name rest)
  regrouped w rest None = refl
  regrouped w rest (Some n) = sym (bind_bind (fields_of rest) (λ fs. provided (each_once fs && are_fields_of lasts fs) fs) (after_fields n))

  pub by_name : (w : List ℕ) (rest : Shapes) → action_of σ lasts (shape (leaf w) rest) ≡ (name_of w >>= after_name rest)
  by_name w rest = in_order w rest ∙ regrouped w rest (name_of w)

module _ (σ : Symbols) (vs : List Declared) (fs : List Field) where
  abbrev pub precondition_field : Option Condition
  precondition_field = or_missing (all_of no_conditions) (condition_of σ vs) (field keys.Precondition fs)

  abbrev pub effect_field : Option Effect
  effect_field = or_missing (all_parts no_parts) (effect_of σ false vs) (field keys.Effect fs)

  instant_order : body_of σ false vs fs ≡ (precondition_field >>= λ c. effect_field >>= λ e. Some (instant c e))
  unfolding body_of
  instant_order = refl

  pub instant_condition_fails : (f : SyntaxFault) → Fails f precondition_field → Fails f (body_of σ false vs fs)
  instant_condition_fails f h = fails_same f _ _ instant_order (fails_bind f precondition_field _ h)

  instant_next : (c : Condition) → precondition_field ≡ Some c → body_of σ false vs fs ≡ (effect_field >>= λ e. Some (instant c e))
  instant_next c h = instant_order ∙ ap (λ (o : Option Condition). o >>= λ d. effect_field >>= λ e. Some (instant d e)) h

  pub instant_effect_fails : (c : Condition) (f : SyntaxFault) → precondition_field ≡ Some c → Fails f effect_field → Fails f (body_of σ false vs fs)
  instant_effect_fails c f is h = fails_same f _ _ (instant_next c is) (fails_bind f effect_field _ h)

  pub instant_made : (c : Condition) (e : Effect) → precondition_field ≡ Some c → effect_field ≡ Some e → body_of σ false vs fs ≡ Some (instant c e)
  instant_made c e is h = instant_next c is ∙ ap (λ (o : Option Effect). o >>= λ d. Some (instant c d)) h

  abbrev pub timed_condition_field : Option (Joined (Timed Condition))
  timed_condition_field = or_missing (all_parts no_parts) (timed_condition_of σ vs) (field keys.Condition fs)

  abbrev pub timed_effect_field : Option (Joined (Timed Effect))
  timed_effect_field = or_missing (all_parts no_parts) (timed_effect_of σ vs) (field keys.Effect fs)

  abbrev pub then_effect : Constraint → Joined (Timed Condition) → Option Body
  then_effect r c = timed_effect_field >>= λ e. Some (durative r c e)

  abbrev pub then_condition : Constraint → Option Body
  then_condition r = timed_condition_field >>= then_effect r

  durative_order : body_of σ true vs fs ≡ (duration_field σ vs fs >>= then_condition)
  unfolding body_of
  durative_order = refl

  pub duration_fails : (f : SyntaxFault) → Fails f (duration_field σ vs fs) → Fails f (body_of σ true vs fs)
  duration_fails f h = fails_same f _ _ durative_order (fails_bind f (duration_field σ vs fs) _ h)

  after_constraint : (r : Constraint) → duration_field σ vs fs ≡ Some r → body_of σ true vs fs ≡ then_condition r
  after_constraint r h = durative_order ∙ ap (λ (o : Option Constraint). o >>= then_condition) h

  pub timed_condition_fails : (r : Constraint) (f : SyntaxFault) → duration_field σ vs fs ≡ Some r → Fails f timed_condition_field → Fails f (body_of σ true vs fs)
  timed_condition_fails r f is h = fails_same f _ _ (after_constraint r is) (fails_bind f timed_condition_field _ h)

  after_condition : (r : Constraint) (c : Joined (Timed Condition)) → duration_field σ vs fs ≡ Some r → timed_condition_field ≡ Some c → body_of σ true vs fs ≡ then_effect r c
  after_condition r c is h = after_constraint r is ∙ ap (λ (o : Option (Joined (Timed Condition))). o >>= then_effect r) h

  pub timed_effect_fails : (r : Constraint) (c : Joined (Timed Condition)) (f : SyntaxFault) → duration_field σ vs fs ≡ Some r → timed_condition_field ≡ Some c → Fails f timed_effect_field → Fails f (body_of σ true vs fs)
  timed_effect_fails r c f is also h = fails_same f _ _ (after_condition r c is also) (fails_bind f timed_effect_field _ h)

  pub durative_made : (r : Constraint) (c : Joined (Timed Condition)) (e : Joined (Timed Effect)) → duration_field σ vs fs ≡ Some r → timed_condition_field ≡ Some c → timed_effect_field ≡ Some e → body_of σ true vs fs ≡ Some (durative r c e)
  durative_made r c e is also h = after_condition r c is also ∙ ap (λ (o : Option (Joined (Timed Effect))). o >>= λ d. Some (durative r c d)) h
