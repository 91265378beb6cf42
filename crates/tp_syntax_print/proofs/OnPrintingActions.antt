-- Actions that were read are read again from what is printed.
use Rattle.std.proofs.Common.{◌≡◌, ℕ, List, [], ◌∷◌, Bool, true, false, ◌&&◌, Option, Some, None, option_map, codes, refl, sym, ap, ◌∙◌, subst}
use Rattle.std.specs.List.{list_all}
use Rattle.tp_text.specs.Shapes.{Shape, leaf, node, Shapes, no_shapes, shape}
use Rattle.tp_text.specs.Texts.{IsWord, HasWords, AllHaveWords}
use Rattle.tp_syntax_ast.specs.Gives.{◌>>=◌, provided}
use Rattle.tp_syntax_ast.specs.Words.{is_word, key_of}
use Rattle.tp_syntax_ast.specs.Terms.{name_of}
use Rattle.tp_syntax_ast.specs.Symbols.{Name, Declared, Parent, Symbols}
use Rattle.tp_syntax_ast.specs.TypedLists.{typing_of, typed_list, parameters_of, parameters_at}
use Rattle.tp_syntax_ast.specs.Conditions.{Condition, all_of, no_conditions, condition_of}
use Rattle.tp_syntax_ast.specs.Parts.{Joined, all_parts, no_parts}
use Rattle.tp_syntax_ast.specs.Effects.{simple_effect_of, specified, effect_at, Effect, effect_of, Timed, timed_condition_of, timed_effect_of, constraint_of}
use Rattle.tp_syntax_ast.specs.Actions.{Field, fields_of, field, each_once, is_field_of, or_missing, Body, instant, durative, Action, body_of, action_of}
use Rattle.tp_syntax_print.specs.Printing.{field_before, typed_shapes, condition_shape, joined_shape, simple_effect_shape, effect_shape, timed_shape, constraint_shape, field_shapes, action_shape}
use Rattle.tp_syntax_ast.specs.declared.words.Key.TheVariants.{Parameters, Precondition, Duration}
use Rattle.tp_syntax_ast.specs.declared.words.Key.TheVariants as keys
use Rattle.tp_syntax_print.proofs.OnPrintingWords.{some_is, bind_some, map_some, no_some, name_read, name_again, name_word, keyword}
use Rattle.tp_syntax_print.proofs.OnPrintingLists.{variables_again}
use Rattle.tp_syntax_print.proofs.OnPrintingConds.{CondAgain, condition_again, nothing_holds}
use Rattle.tp_syntax_print.proofs.OnPrintingParts.{JoinedAgain, nothing_again}
use Rattle.tp_syntax_print.proofs.OnPrintingEffects.{effect_again, timed_condition_again, timed_effect_again}
use Rattle.tp_syntax_print.proofs.OnPrintingConstraints.{ConstraintAgain, constraint_again}

-- ---- fields that may be missing

abbrev VariablesAgain : List Parent → List Declared → Type 0
VariablesAgain types vs = (parameters_at types (node (typed_shapes vs)) ≡ Some vs) × AllHaveWords (typed_shapes vs)

no_variables : (types : List Parent) → VariablesAgain types []
unfolding parameters_of typed_list typing_of
no_variables types = (refl, tt)

some_variables : (types : List Parent) (o : Option Shape) (vs : List Declared) → or_missing [] (parameters_at types) o ≡ Some vs → VariablesAgain types vs
some_variables types None vs h = subst (VariablesAgain types) (some_is [] vs h) (no_variables types)
some_variables types (Some s) vs h = variables_again types s vs h

some_condition : (σ : Symbols) (vs : List Declared) (o : Option Shape) (c : Condition) → or_missing (all_of no_conditions) (condition_of σ vs) o ≡ Some c → CondAgain σ vs c
some_condition σ vs None c h = subst (CondAgain σ vs) (some_is (all_of no_conditions) c h) (nothing_holds σ vs)
some_condition σ vs (Some s) c h = condition_again σ vs s c h

abbrev EffectAgain : Symbols → List Declared → Effect → Type 0
EffectAgain σ vs e = JoinedAgain σ.types (simple_effect_of σ false) simple_effect_shape vs e

some_effect : (σ : Symbols) (vs : List Declared) (o : Option Shape) (e : Effect) → or_missing (all_parts no_parts) (effect_of σ false vs) o ≡ Some e → EffectAgain σ vs e
some_effect σ vs None e h = subst (EffectAgain σ vs) (some_is (all_parts no_parts) e h) (nothing_again σ.types (simple_effect_of σ false) simple_effect_shape vs)
some_effect σ vs (Some s) e h = effect_again σ false vs s e h

abbrev TimedCondAgain : Symbols → List Declared → Joined (Timed Condition) → Type 0
TimedCondAgain σ vs j = JoinedAgain σ.types (λ within. specified (λ m. condition_of σ within)) (timed_shape condition_shape) vs j

some_timed_condition : (σ : Symbols) (vs : List Declared) (o : Option Shape) (j : Joined (Timed Condition)) → or_missing (all_parts no_parts) (timed_condition_of σ vs) o ≡ Some j → TimedCondAgain σ vs j
some_timed_condition σ vs None j h = subst (TimedCondAgain σ vs) (some_is (all_parts no_parts) j h) (nothing_again σ.types (λ within. specified (λ m. condition_of σ within)) (timed_shape condition_shape) vs)
some_timed_condition σ vs (Some s) j h = timed_condition_again σ vs s j h

abbrev TimedEffectAgain : Symbols → List Declared → Joined (Timed Effect) → Type 0
TimedEffectAgain σ vs j = JoinedAgain σ.types (λ within. specified (effect_at σ within)) (timed_shape effect_shape) vs j

some_timed_effect : (σ : Symbols) (vs : List Declared) (o : Option Shape) (j : Joined (Timed Effect)) → or_missing (all_parts no_parts) (timed_effect_of σ vs) o ≡ Some j → TimedEffectAgain σ vs j
some_timed_effect σ vs None j h = subst (TimedEffectAgain σ vs) (some_is (all_parts no_parts) j h) (nothing_again σ.types (λ within. specified (effect_at σ within)) (timed_shape effect_shape) vs)
some_timed_effect σ vs (Some s) j h = timed_effect_again σ vs s j h

-- ---- actions

abbrev pub lasts : Body → Bool
lasts (instant c e) = false
lasts (durative r c e) = true

pub record ActionAgain (σ : Symbols) (a : Action) : Type 0 where
  pub again : action_of σ (lasts a.body) (shape (leaf a.name) (field_shapes a)) ≡ Some a
  pub words : HasWords (action_shape a)

abbrev made : Name → List Declared → Body → Action
made n vs b = record { name = n; parameters = vs; body = b }

-- what a body's fields are, once they were read
abbrev BodyAgain : Symbols → List Declared → Body → Type 0
BodyAgain σ vs (instant c e) = CondAgain σ vs c × EffectAgain σ vs e
BodyAgain σ vs (durative r c e) = ConstraintAgain σ vs r × TimedCondAgain σ vs c × TimedEffectAgain σ vs e

body_again : (σ : Symbols) (d : Bool) (vs : List Declared) (fs : List Field) (b : Body) → body_of σ d vs fs ≡ Some b → (lasts b ≡ d) × BodyAgain σ vs b
unfolding body_of
body_again σ false vs fs b h =
    let c = bind_some (or_missing (all_of no_conditions) (condition_of σ vs) (field Precondition fs)) (λ c. or_missing (all_parts no_parts) (effect_of σ false vs) (field keys.Effect fs) >>= λ e. Some (instant c e)) b h in
    let e = bind_some (or_missing (all_parts no_parts) (effect_of σ false vs) (field keys.Effect fs)) (λ e. Some (instant c.0 e)) b c.2 in
    let P : Body → Type 0 = λ b. (lasts b ≡ false) × BodyAgain σ vs b in
    subst P (some_is (instant c.0 e.0) b e.2) (refl, (some_condition σ vs (field Precondition fs) c.0 c.1, some_effect σ vs (field keys.Effect fs) e.0 e.1))
body_again σ true vs fs b h =
    let r = bind_some (field Duration fs >>= constraint_of σ vs) (λ r. or_missing (all_parts no_parts) (timed_condition_of σ vs) (field keys.Condition fs) >>= λ c. or_missing (all_parts no_parts) (timed_effect_of σ vs) (field keys.Effect fs) >>= λ e. Some (durative r c e)) b h in
    let s = bind_some (field Duration fs) (constraint_of σ vs) r.0 r.1 in
    let c = bind_some (or_missing (all_parts no_parts) (timed_condition_of σ vs) (field keys.Condition fs)) (λ c. or_missing (all_parts no_parts) (timed_effect_of σ vs) (field keys.Effect fs) >>= λ e. Some (durative r.0 c e)) b r.2 in
    let e = bind_some (or_missing (all_parts no_parts) (timed_effect_of σ vs) (field keys.Effect fs)) (λ e. Some (durative r.0 c.0 e)) b c.2 in
    let P : Body → Type 0 = λ b. (lasts b ≡ true) × BodyAgain σ vs b in
    subst P (some_is (durative r.0 c.0 e.0) b e.2) (refl, (constraint_again σ vs s.0 r.0 s.2, some_timed_condition σ vs (field keys.Condition fs) c.0 c.1, some_timed_effect σ vs (field keys.Effect fs) e.0 e.1))

-- the fields of what is printed
instant_fields : (p c e : Shape) → fields_of (field_before (codes ":parameters") p (field_before (codes ":precondition") c (field_before (codes ":effect") e no_shapes))) ≡ Some (record { key = Parameters; value = p } ∷ record { key = Precondition; value = c } ∷ record { key = keys.Effect; value = e } ∷ [])
unfolding fields_of key_of is_word
instant_fields p c e = refl

durative_fields : (p r c e : Shape) → fields_of (field_before (codes ":parameters") p (field_before (codes ":duration") r (field_before (codes ":condition") c (field_before (codes ":effect") e no_shapes)))) ≡ Some (record { key = Parameters; value = p } ∷ record { key = Duration; value = r } ∷ record { key = keys.Condition; value = c } ∷ record { key = keys.Effect; value = e } ∷ [])
unfolding fields_of key_of is_word
durative_fields p r c e = refl

behind_fields : Symbols → Bool → Name → List Field → Option Action
behind_fields σ d n fs =
    provided (each_once fs && list_all (λ f. is_field_of d f.key) fs) fs >>= λ gs.
    or_missing [] (parameters_at σ.types) (field Parameters gs) >>= λ vs.
    option_map (λ b. made n vs b) (body_of σ d vs gs)

action_is : (σ : Symbols) (d : Bool) (n : Name) (rest : Shapes) → action_of σ d (shape (leaf n) rest) ≡ (name_of n >>= λ m. fields_of rest >>= λ fs. behind_fields σ d m fs)
unfolding action_of behind_fields
action_is σ d n rest = refl

reads : (σ : Symbols) (n : Name) (vs : List Declared) (b : Body) → name_of n ≡ Some n → VariablesAgain σ.types vs → BodyAgain σ vs b → action_of σ (lasts b) (shape (leaf n) (field_shapes (made n vs b))) ≡ Some (made n vs b)
unfolding behind_fields body_of
reads σ n vs (instant c e) name v h =
    let p = node (typed_shapes vs) in
    let fs : List Field = record { key = Parameters; value = p } ∷ record { key = Precondition; value = condition_shape c } ∷ record { key = keys.Effect; value = effect_shape e } ∷ [] in
    action_is σ false n (field_shapes (made n vs (instant c e)))
    ∙ ap (λ o. o >>= λ m. fields_of (field_shapes (made n vs (instant c e))) >>= λ gs. behind_fields σ false m gs) name
    ∙ ap (λ o. o >>= λ gs. behind_fields σ false n gs) (instant_fields p (condition_shape c) (effect_shape e))
    ∙ ap (λ o. o >>= λ us. option_map (λ b. made n us b) (body_of σ false us fs)) v.0
    ∙ ap (λ o. option_map (λ b. made n vs b) (o >>= λ d. effect_of σ false vs (effect_shape e) >>= λ f. Some (instant d f))) h.0.again
    ∙ ap (λ o. option_map (λ b. made n vs b) (o >>= λ f. Some (instant c f))) h.1.again
reads σ n vs (durative r c e) name v h =
    let p = node (typed_shapes vs) in
    let tc = joined_shape (timed_shape condition_shape) c in
    let te = joined_shape (timed_shape effect_shape) e in
    let fs : List Field = record { key = Parameters; value = p } ∷ record { key = Duration; value = constraint_shape r } ∷ record { key = keys.Condition; value = tc } ∷ record { key = keys.Effect; value = te } ∷ [] in
    action_is σ true n (field_shapes (made n vs (durative r c e)))
    ∙ ap (λ o. o >>= λ m. fields_of (field_shapes (made n vs (durative r c e))) >>= λ gs. behind_fields σ true m gs) name
    ∙ ap (λ o. o >>= λ gs. behind_fields σ true n gs) (durative_fields p (constraint_shape r) tc te)
    ∙ ap (λ o. o >>= λ us. option_map (λ b. made n us b) (body_of σ true us fs)) v.0
    ∙ ap (λ o. option_map (λ b. made n vs b) (o >>= λ q. timed_condition_of σ vs tc >>= λ d. timed_effect_of σ vs te >>= λ f. Some (durative q d f))) h.0.again
    ∙ ap (λ o. option_map (λ b. made n vs b) (o >>= λ d. timed_effect_of σ vs te >>= λ f. Some (durative r d f))) h.1.again
    ∙ ap (λ o. option_map (λ b. made n vs b) (o >>= λ f. Some (durative r c f))) h.2.again

words_of : (σ : Symbols) (n : Name) (vs : List Declared) (b : Body) → IsWord n → VariablesAgain σ.types vs → BodyAgain σ vs b → HasWords (action_shape (made n vs b))
words_of σ n vs (instant c e) word v h =
    (keyword (codes ":action") refl, (word, (keyword (codes ":parameters") refl, (v.1, (keyword (codes ":precondition") refl, (h.0.words, (keyword (codes ":effect") refl, (h.1.words, tt))))))))
words_of σ n vs (durative r c e) word v h =
    (keyword (codes ":durative-action") refl, (word, (keyword (codes ":parameters") refl, (v.1, (keyword (codes ":duration") refl, (h.0.words, (keyword (codes ":condition") refl, (h.1.words, (keyword (codes ":effect") refl, (h.2.words, tt))))))))))

action_at_name : (σ : Symbols) (d : Bool) (w : List ℕ) (rest : Shapes) (a : Action) → action_of σ d (shape (leaf w) rest) ≡ Some a → (lasts a.body ≡ d) × ActionAgain σ a
unfolding behind_fields
action_at_name σ d w rest a h =
    let n = bind_some (name_of w) (λ m. fields_of rest >>= λ fs. behind_fields σ d m fs) a (sym (action_is σ d w rest) ∙ h) in
    let f = bind_some (fields_of rest) (λ fs. behind_fields σ d n.0 fs) a n.2 in
    let g = bind_some (provided (each_once f.0 && list_all (λ f. is_field_of d f.key) f.0) f.0) (λ gs. or_missing [] (parameters_at σ.types) (field Parameters gs) >>= λ vs. option_map (λ b. made n.0 vs b) (body_of σ d vs gs)) a f.2 in
    let v = bind_some (or_missing [] (parameters_at σ.types) (field Parameters g.0)) (λ vs. option_map (λ b. made n.0 vs b) (body_of σ d vs g.0)) a g.2 in
    let b = map_some (λ b. made n.0 v.0 b) (body_of σ d v.0 g.0) a v.2 in
    let name = name_read w n.0 n.1 in
    let variables = some_variables σ.types (field Parameters g.0) v.0 v.1 in
    let body = body_again σ d v.0 g.0 b.0 b.1 in
    let P : Action → Type 0 = λ a. (lasts a.body ≡ d) × ActionAgain σ a in
    subst P b.2 (
      body.0,
      record {
        again = reads σ n.0 v.0 b.0 (name_again n.0 name.1) variables body.1;
        words = words_of σ n.0 v.0 b.0 (name_word n.0 name.1.signature) variables body.1;
      },
    )

pub action_again : (σ : Symbols) (d : Bool) (ss : Shapes) (a : Action) → action_of σ d ss ≡ Some a → (lasts a.body ≡ d) × ActionAgain σ a
unfolding action_of
action_again σ d no_shapes a h = no_some h
action_again σ d (shape (node ss) rest) a h = no_some h
action_again σ d (shape (leaf w) rest) a h = action_at_name σ d w rest a h
