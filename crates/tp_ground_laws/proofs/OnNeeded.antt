-- What the conditions of an action that are met ask for; and that actions add only atoms of the names that effects add.
use Rattle.std.proofs.Common.{◌≡◌, Bool, true, false, if◌then◌else◌, List, [], ◌∷◌, ◌++◌, map, inl, inr, ⊎_elim, refl, sym, ap, ◌∙◌, subst}
use Rattle.std.specs.List.{AllByRecursion, flat_map, list_all, list_any}
use Rattle.std.specs.Str.{bytes_eq}
use Rattle.std.proofs.lemmas.Bool.{and_parts, and_from, or_cases, or_left, or_right}
use Rattle.std.proofs.lemmas.List.Folds.{list_all-append}
use Rattle.tp_syntax_ast.specs.Symbols.{Name}
use Rattle.tp_syntax_ast.specs.Conditions as conditions
use Rattle.tp_syntax_ast.specs.Conditions.{Condition, Conditions}
use Rattle.tp_syntax_ast.specs.Parts.{Joined, Parts, all_parts, for_each, one, no_parts, part}
use Rattle.tp_syntax_ast.specs.Effects as effects
use Rattle.tp_syntax_ast.specs.Effects.{SimpleEffect, Effect, Timed}
use Rattle.tp_syntax_ast.specs.Actions as actions
use Rattle.tp_syntax_ast.specs.Actions.{Action}
use Rattle.tp_syntax_ast.specs.Domains.{Domain}
use Rattle.tp_syntax_ast.specs.Problems.{Problem}
use Rattle.tp_syntax_ast.specs.declared.words.TimeSpecifier.{TimeSpecifier}
use Rattle.tp_syntax_ast.specs.declared.words.TimeSpecifier.TheVariants.{AtStart, OverAll, AtEnd}
use Rattle.tp_task.specs.Bounds.{In}
use Rattle.tp_task.specs.Words.{Words, same_words, has_words}
use Rattle.tp_task.proofs.OnWords.{same_words_are, same_words_self}
use Rattle.tp_task.proofs.Lists.{all_at}
use Rattle.tp_ground.specs.Bindings.{Universe, Env, universe_of, bound, bindings, words_in}
use Rattle.tp_ground.specs.Written.{GroundCondition, GroundEffect, adds, deletes, writes, added, conditions_from, inner, condition_in, conditions_in, parts_in, all_parts_in, condition_part, simple_effect_part, simple_effects_part, simple_effects_in, simple_effects_at, is_specifier, body_in}
use Rattle.tp_ground.specs.Initially.{initial_in}
use Rattle.tp_ground.specs.Reached.{Instance, instances, action_of, happenings_of, all_happenings, met, each_met, IsClosed}
use Rattle.tp_ground_laws.specs.Needed.{conjuncts, all_conjuncts, timed_conjuncts, all_timed_conjuncts, needed, some_part, some_of_parts, adds_name, body_adds, is_added}
use Rattle.tp_ground_laws.specs.WholeTasks.{may_be_added, may_hold, may_happen, is_whole}
use Rattle.tp_ground_laws.proofs.OnLists.{from_map, from_flat_map}

-- ---- what is needed is met

module _ (reach : Words → Bool) (u : Universe) (env : Env) where
  mutual
    conjuncts_met : (c : Condition) → met reach true (condition_in u env c) ≡ true → list_all (λ f. reach (words_in env f)) (conjuncts c) ≡ true
    conjuncts_met (conditions.all_of cs) h = all_conjuncts_met cs h
    conjuncts_met (conditions.any_of cs) h = refl
    conjuncts_met (conditions.negation c) h = refl
    conjuncts_met (conditions.implies c d) h = refl
    conjuncts_met (conditions.for_all vs c) h = refl
    conjuncts_met (conditions.for_some vs c) h = refl
    conjuncts_met (conditions.fact f) h = and_from (reach (words_in env f)) true h refl
    conjuncts_met (conditions.same a b) h = refl
    conjuncts_met (conditions.compared how x y) h = refl

    all_conjuncts_met : (cs : Conditions) → each_met reach true (conditions_from (conditions_in u env cs)) ≡ true → list_all (λ f. reach (words_in env f)) (all_conjuncts cs) ≡ true
    all_conjuncts_met conditions.no_conditions h = refl
    all_conjuncts_met (conditions.condition c cs) h =
        let p = and_parts (met reach true (condition_in u env c)) (each_met reach true (conditions_from (conditions_in u env cs))) h in
        list_all-append (λ f. reach (words_in env f)) (conjuncts c) (all_conjuncts cs)
        ∙ and_from (list_all (λ f. reach (words_in env f)) (conjuncts c)) _ (conjuncts_met c p.0) (all_conjuncts_met cs p.1)

  abbrev each_of : List GroundCondition → Bool
  each_of cs = each_met reach true (conditions_from cs)

  split : (cs ds : List GroundCondition) → each_met reach true (conditions_from (cs ++ ds)) ≡ true → (each_met reach true (conditions_from cs) ≡ true) × (each_met reach true (conditions_from ds) ≡ true)
  split [] ds h = (refl, h)
  split (c ∷ cs) ds h =
      let p = and_parts (met reach true c) (each_met reach true (conditions_from (cs ++ ds))) h in
      let q = split cs ds p.1 in
      (and_from (met reach true c) _ p.0 q.0, q.1)

  abbrev At : TimeSpecifier → Joined (Timed Condition) → Type 0
  At m c = each_met reach true (conditions_from (parts_in u (condition_part u m) env c)) ≡ true

  abbrev AllAt : TimeSpecifier → Parts (Timed Condition) → Type 0
  AllAt m ps = each_met reach true (conditions_from (all_parts_in u (condition_part u m) env ps)) ≡ true

  one_met : (m : TimeSpecifier) (c : Condition) → At AtStart (one (record { specifier = m; what = c })) → At OverAll (one (record { specifier = m; what = c })) → At AtEnd (one (record { specifier = m; what = c })) → list_all (λ f. reach (words_in env f)) (conjuncts c) ≡ true
  one_met AtStart c s i e = conjuncts_met c (and_parts (met reach true (condition_in u env c)) true s).0
  one_met OverAll c s i e = conjuncts_met c (and_parts (met reach true (condition_in u env c)) true i).0
  one_met AtEnd c s i e = conjuncts_met c (and_parts (met reach true (condition_in u env c)) true e).0

  mutual
    timed_met : (c : Joined (Timed Condition)) → At AtStart c → At OverAll c → At AtEnd c → list_all (λ f. reach (words_in env f)) (timed_conjuncts c) ≡ true
    timed_met (all_parts ps) s i e = all_timed_met ps s i e
    timed_met (for_each vs p) s i e = refl
    timed_met (one t) s i e = one_met t.specifier t.what s i e

    all_timed_met : (ps : Parts (Timed Condition)) → AllAt AtStart ps → AllAt OverAll ps → AllAt AtEnd ps → list_all (λ f. reach (words_in env f)) (all_timed_conjuncts ps) ≡ true
    all_timed_met no_parts s i e = refl
    all_timed_met (part p ps) s i e =
        let s2 = split (parts_in u (condition_part u AtStart) env p) (all_parts_in u (condition_part u AtStart) env ps) s in
        let i2 = split (parts_in u (condition_part u OverAll) env p) (all_parts_in u (condition_part u OverAll) env ps) i in
        let e2 = split (parts_in u (condition_part u AtEnd) env p) (all_parts_in u (condition_part u AtEnd) env ps) e in
        list_all-append (λ f. reach (words_in env f)) (timed_conjuncts p) (all_timed_conjuncts ps)
        ∙ and_from (list_all (λ f. reach (words_in env f)) (timed_conjuncts p)) _ (timed_met p s2.0 i2.0 e2.0) (all_timed_met ps s2.1 i2.1 e2.1)

  pub needed_met : (b : actions.Body) → is_whole reach (body_in u env b) ≡ true → list_all (λ f. reach (words_in env f)) (needed b) ≡ true
  needed_met (actions.instant c e) h = conjuncts_met c h
  needed_met (actions.durative r c e) h =
      let p = and_parts (each_of (parts_in u (condition_part u AtStart) env c)) _ h in
      let q = and_parts (each_of (parts_in u (condition_part u OverAll) env c)) (each_of (parts_in u (condition_part u AtEnd) env c)) p.1 in
      timed_met c p.0 q.0 q.1

-- ---- what is added has a name that an effect adds

-- what each part gives passes, where what it adds has one of these names
module _ {A B : Type 0} (ok : B → Bool) (named : Name → A → Bool) (allowed : Name → Bool) (u : Universe) (read : Env → A → List B)
    (each : (env : Env) (a : A) → ((n : Name) → named n a ≡ true → allowed n ≡ true) → list_all ok (read env a) ≡ true) where
  over : (envs : List Env) (f : Env → List B) → ((env : Env) → list_all ok (f env) ≡ true) → list_all ok (flat_map f envs) ≡ true
  over [] f h = refl
  over (e ∷ es) f h = list_all-append ok (f e) (flat_map f es) ∙ and_from (list_all ok (f e)) _ (h e) (over es f h)

  mutual
    parts_pass : (env : Env) (j : Joined A) → ((n : Name) → some_part (named n) j ≡ true → allowed n ≡ true) → list_all ok (parts_in u read env j) ≡ true
    parts_pass env (all_parts ps) h = all_parts_pass env ps h
    parts_pass env (for_each vs p) h = over (inner u env vs) (λ e. parts_in u read e p) (λ e. parts_pass e p h)
    parts_pass env (one a) h = each env a h

    all_parts_pass : (env : Env) (ps : Parts A) → ((n : Name) → some_of_parts (named n) ps ≡ true → allowed n ≡ true) → list_all ok (all_parts_in u read env ps) ≡ true
    all_parts_pass env no_parts h = refl
    all_parts_pass env (part p ps) h =
        list_all-append ok (parts_in u read env p) (all_parts_in u read env ps)
        ∙ and_from (list_all ok (parts_in u read env p)) _
        (parts_pass env p (λ n k. h n (or_left (some_part (named n) p) _ k)))
        (all_parts_pass env ps (λ n k. h n (or_right (some_part (named n) p) _ k)))

abbrev head_passes : (Name → Bool) → Words → Bool
head_passes allowed [] = false
head_passes allowed (n ∷ w) = allowed n

abbrev add_passes : (Name → Bool) → GroundEffect → Bool
add_passes allowed (adds w) = head_passes allowed w
add_passes allowed (deletes w) = true
add_passes allowed (writes w) = true

bytes_self : (n : Name) → bytes_eq n n ≡ true
bytes_self n = (and_parts (bytes_eq n n) true (same_words_self (n ∷ []))).0

module _ (allowed : Name → Bool) (u : Universe) where
  simple_passes : (m : TimeSpecifier) (env : Env) (o : SimpleEffect) → ((n : Name) → adds_name n o ≡ true → allowed n ≡ true) → list_all (add_passes allowed) (simple_effect_part u m env o) ≡ true
  simple_passes m env (effects.adds f) h = and_from (allowed f.name) true (h f.name (bytes_self f.name)) refl
  simple_passes m env (effects.deletes f) h = refl
  simple_passes m env (effects.writes w f x) h = refl

  effect_passes : (env : Env) (e : Effect) → ((n : Name) → some_part (adds_name n) e ≡ true → allowed n ≡ true) → list_all (add_passes allowed) (simple_effects_in u env e) ≡ true
  effect_passes env e h = parts_pass (add_passes allowed) adds_name allowed u (simple_effect_part u AtStart) (simple_passes AtStart) env e h

  timed_passes : (m : TimeSpecifier) (env : Env) (t : Timed Effect) → ((n : Name) → some_part (adds_name n) t.what ≡ true → allowed n ≡ true) → list_all (add_passes allowed) (simple_effects_part u m env t) ≡ true
  timed_passes m env t h = by (is_specifier t.specifier m)
    where
      by : (b : Bool) → list_all (add_passes allowed) (if b then simple_effects_in u env t.what else []) ≡ true
      by true = effect_passes env t.what h
      by false = refl

  timed_effect_passes : (m : TimeSpecifier) (env : Env) (e : Joined (Timed Effect)) → ((n : Name) → some_part (λ t. some_part (adds_name n) t.what) e ≡ true → allowed n ≡ true) → list_all (add_passes allowed) (simple_effects_at u m env e) ≡ true
  timed_effect_passes m env e h = parts_pass (add_passes allowed) (λ n t. some_part (adds_name n) t.what) allowed u (simple_effects_part u m) (timed_passes m) env e h

  added_pass : (os : List GroundEffect) → list_all (add_passes allowed) os ≡ true → list_all (head_passes allowed) (added os) ≡ true
  added_pass [] h = refl
  added_pass (adds w ∷ os) h = let p = and_parts (head_passes allowed w) (list_all (add_passes allowed) os) h in and_from (head_passes allowed w) _ p.0 (added_pass os p.1)
  added_pass (deletes w ∷ os) h = added_pass os (and_parts true (list_all (add_passes allowed) os) h).1
  added_pass (writes w ∷ os) h = added_pass os (and_parts true (list_all (add_passes allowed) os) h).1

  body_passes : (env : Env) (b : actions.Body) → ((n : Name) → body_adds n b ≡ true → allowed n ≡ true) → AllByRecursion (λ h. list_all (head_passes allowed) h.adds ≡ true) (happenings_of (body_in u env b))
  body_passes env (actions.instant c e) h = (added_pass (simple_effects_in u env e) (effect_passes env e h), tt)
  body_passes env (actions.durative r c e) h = (added_pass (simple_effects_at u AtStart env e) (timed_effect_passes AtStart env e h), (added_pass (simple_effects_at u AtEnd env e) (timed_effect_passes AtEnd env e h), tt))

  has_head : (ws : List Words) → list_all (head_passes allowed) ws ≡ true → (w : Words) → has_words ws w ≡ true → head_passes allowed w ≡ true
  has_head [] h w k = absurd (cc)
  has_head (v ∷ ws) h w k =
      let p = and_parts (head_passes allowed v) (list_all (head_passes allowed) ws) h in
      ⊎_elim (λ e. subst (λ z. head_passes allowed z ≡ true) (sym (same_words_are w v e)) p.0) (λ e. has_head ws p.1 w e) (or_cases (same_words w v) _ k)

any_in : {A : Type 0} (q : A → Bool) (xs : List A) (x : A) → In x xs → q x ≡ true → list_any q xs ≡ true
any_in q [] x i h = absurd i
any_in q (y ∷ xs) x (inl e) h = or_left (q y) _ (ap q (sym e) ∙ h)
any_in q (y ∷ xs) x (inr i) h = or_right (q y) _ (any_in q xs x i h)

-- the action of an instance is one of them
of_actions : (u : Universe) (as_ : List Action) (i : Instance) → In i (instances u as_) → In i.action as_
of_actions u as_ i h =
    let f = from_flat_map (λ a. map (λ os. record { action = a; objects = os }) (bindings u a.parameters)) as_ i h in
    let g = from_map (λ os. record { action = f.0; objects = os }) (bindings u f.0.parameters) i f.2 in
    subst (λ (j : Instance). In j.action as_) g.2 f.1

module _ (d : Domain) (p : Problem) where
  same_head : (w : Words) → head_passes (is_added d.actions) w ≡ may_be_added d.actions w
  same_head [] = refl
  same_head (n ∷ w) = refl

  -- what may hold is closed
  pub may_hold_closed : IsClosed (map initial_in p.initial) (all_happenings d p) (may_hold d p)
  may_hold_closed = record {
    has_initial = λ w h. or_right (may_be_added d.actions w) _ h;
    has_added = λ h i m w a.
        let u = universe_of d p in
        let f = from_flat_map (λ (i : Instance). happenings_of (action_of u i).body) (instances u d.actions) h i in
        let own = of_actions u d.actions f.0 f.1 in
        let pass = body_passes (is_added d.actions) u (bound f.0.action.parameters f.0.objects) f.0.action.body (λ n k. any_in (λ a. body_adds n a.body) d.actions f.0.action own k) in
        or_left (may_be_added d.actions w) _ (sym (same_head w) ∙ has_head (is_added d.actions) u h.adds (all_at (λ h. list_all (head_passes (is_added d.actions)) h.adds ≡ true) (happenings_of (action_of u f.0).body) pass h f.2) w a);
  }

  -- an action whose conditions are met by what may hold may happen
  pub whole_may_happen : (i : Instance) → is_whole (may_hold d p) (action_of (universe_of d p) i).body ≡ true → may_happen d p i ≡ true
  whole_may_happen i h = needed_met (may_hold d p) (universe_of d p) (bound i.action.parameters i.objects) i.action.body h
