-- The task of a problem and the task of the actions that are kept have the same plans.
use Rattle.std.proofs.Common.{◌≡◌, ℕ, ◌<◌, Bool, true, ◌||◌, ◌==◌, nat_lt, List, [], ◌∷◌, ◌++◌, map, length, slice_get, Option, Some, inl, inr, refl, sym, ap, ap₂, ◌∙◌, subst}
use Rattle.std.specs.List.{AllByRecursion, list_all, position_from}
use Rattle.std.specs.Option.{option_map, option_to_list}
use Rattle.std.specs.Prelude.{codes}
use Rattle.std.proofs.lemmas.Bool.{and_parts, and_from, ltb-true, lt-ltb}
use Rattle.std.proofs.lemmas.List.{length-map}
use Rattle.tp_text.specs.declared.number.Scale.{Scale}
use Rattle.tp_text.specs.Scales.{scale_ticks}
use Rattle.tp_syntax_ast.specs.Domains.{Domain}
use Rattle.tp_syntax_ast.specs.Problems.{Problem}
use Rattle.tp_task.specs.declared.task.Task.{Task}
use Rattle.tp_task.specs.Words.{Words, same_words}
use Rattle.tp_task.proofs.Lists.{all_from}
use Rattle.tp_task.specs.Tables.{words_at}
use Rattle.tp_task.specs.Bounds.{In}
use Rattle.tp_task.specs.Readable.{AreReadable}
use Rattle.tp_happen.specs.tp_plan_text.declared.plans.Step.{Step}
use Rattle.tp_happen.specs.tp_plan_text.PlanPrints.{plan_text, step_text, time_text, words_text, end_text}
use Rattle.tp_happen.specs.tp_plan_text.TaskWords.{is_durative, readable as told_as}
use Rattle.tp_validate.specs.OfTask.{is_step_of, IsOfTask}
use Rattle.tp_ground.specs.Bindings.{Universe, universe_of}
use Rattle.tp_ground.specs.Written.{GroundBody, condition_in}
use Rattle.tp_ground.specs.Initially.{initial_in}
use Rattle.tp_ground.specs.Reached.{Instance, instances, action_of, happenings_of, is_kept, all_happenings, AreKept}
use Rattle.tp_ground_laws.proofs.OnLists.{get_map, got_in, below, at_index, in_at, words_got, of_filter, in_filter, in_flat_map}
use Rattle.tp_ground_laws.specs.SamePlans.{IsSameStep, AreSameSteps, HaveSamePlans}
use Rattle.tp_ground_laws.proofs.ByWords.{Acted, IsValidByWords}
use Rattle.tp_ground_laws.proofs.OnSteps.{acted, acts_of, all_parts, bodies_of, initially, IsTaskFor, is_step_by, durative_by, durative_of, valid_by_words, step_by_words}
use Rattle.tp_ground_laws.proofs.OnReached.{all_kept}

-- ---- steps of one task in another

-- an action of the one is one of the other's
pub record IsFound (is js : List Instance) (m : Step) : Type 0 where
  pub instance : Instance
  pub at : slice_get is m.action.0 ≡ Some instance
  pub is_in : In instance js

module _ (scale : Scale) (d : Domain) (p : Problem) where
  abbrev u : Universe
  u = universe_of d p

  abbrev words : Instance → Words
  words i = (action_of u i).words

  abbrev body : Instance → GroundBody
  body i = (action_of u i).body

  pub body_got : (is : List Instance) (i : ℕ) (x : Instance) → slice_get is i ≡ Some x → slice_get (bodies_of u is) i ≡ Some (body x)
  body_got is i x h = get_map body is i ∙ ap (option_map body) h

  pub at_step : (is : List Instance) (s : Step) → is_step_by (bodies_of u is) s ≡ true → (x : Instance) × (slice_get is s.action.0 ≡ Some x)
  at_step is s h =
      let l : s.action.0 < length (bodies_of u is) = ltb-true s.action.0 (length (bodies_of u is)) (and_parts (nat_lt s.action.0 (length (bodies_of u is))) _ h).0 in
      at_index is s.action.0 (subst (λ n. s.action.0 < n) (length-map is body) l)

  module _ (is js : List Instance) (t v : Task) (k : IsTaskFor scale d p is t) (l : IsTaskFor scale d p js v) where
    action_words : (i : ℕ) (x : Instance) → slice_get is i ≡ Some x → words_at t.numbering.actions i ≡ words x
    action_words i x h = ap (λ ws. words_at ws i) k.names ∙ words_got words is i x h

    other_words : (i : ℕ) (x : Instance) → slice_get js i ≡ Some x → words_at v.numbering.actions i ≡ words x
    other_words i x h = ap (λ ws. words_at ws i) l.names ∙ words_got words js i x h

    moved : (m : Step) → is_step_of t m ≡ true → IsFound is js m → (n : Step) × (is_step_of v n ≡ true) × IsSameStep t v m n
    moved m h f =
        let (j, e) = in_at js f.instance f.is_in in
        let n : Step = record { tick = m.tick; action = record { 0 = j }; duration = m.duration } in
        let got : slice_get (bodies_of u js) j ≡ slice_get (bodies_of u is) m.action.0 = body_got js j f.instance e ∙ sym (body_got is m.action.0 f.instance f.at) in
        let q = and_parts (nat_lt m.action.0 (length (bodies_of u is))) (durative_by (slice_get (bodies_of u is) m.action.0) || m.duration == 0) (sym (step_by_words scale d p is t k m) ∙ h) in
        let ok : is_step_by (bodies_of u js) n ≡ true =
        and_from (nat_lt j (length (bodies_of u js))) _ (lt-ltb j (length (bodies_of u js)) (below (bodies_of u js) j (body f.instance) (body_got js j f.instance e))) (ap (λ o. durative_by o || m.duration == 0) got ∙ q.1) in
        (n, step_by_words scale d p js v l n ∙ ok, record { tick = refl; duration = refl; action = action_words m.action.0 f.instance f.at ∙ sym (other_words j f.instance e) })

    pub all_moved : (ms : List Step) → IsOfTask t ms → AllByRecursion (IsFound is js) ms → (ns : List Step) × IsOfTask v ns × AreSameSteps t v ms ns
    all_moved [] h f = ([], refl, tt)
    all_moved (m ∷ ms) h f =
        let q = and_parts (is_step_of t m) (list_all (is_step_of t) ms) h in
        let (n, one, same) = moved m q.0 f.0 in
        let (ns, rest, more) = all_moved ms q.1 f.1 in
        (n ∷ ns, and_from (is_step_of v n) _ one rest, (same, more))

pub flipped : (t v : Task) (ms ns : List Step) → AreSameSteps t v ms ns → AreSameSteps v t ns ms
flipped t v [] [] h = tt
flipped t v [] (n ∷ ns) h = absurd h
flipped t v (m ∷ ms) [] h = absurd h
flipped t v (m ∷ ms) (n ∷ ns) h = (record { tick = sym h.0.tick; duration = sym h.0.duration; action = sym h.0.action }, flipped t v ms ns h.1)

-- ---- two tasks of one problem, each with some of its ground actions

module _ (scale : Scale) (d : Domain) (p : Problem) where
  abbrev u' : Universe
  u' = universe_of d p

  abbrev all : List Instance
  all = instances u' d.actions

  -- the words of ground actions tell them apart
  abbrev pub AreTold : Type 0
  AreTold = AreReadable (map (λ (x : Instance). (action_of u' x).words) all)

module _ (scale : Scale) (d : Domain) (p : Problem) (told : AreTold scale d p) (is js : List Instance) (in_is : (x : Instance) → In x is → In x (all scale d p)) (in_js : (x : Instance) → In x js → In x (all scale d p)) (t v : Task) (k : IsTaskFor scale d p is t) (l : IsTaskFor scale d p js v) where
  abbrev every : List Instance
  every = all scale d p

  abbrev uu : Universe
  uu = universe_of d p

  same_instance : (x y : Instance) → In x every → In y every → (action_of uu x).words ≡ (action_of uu y).words → x ≡ y
  same_instance x y hx hy e =
      let (i, g) = in_at every x hx in
      let (j, h) = in_at every y hy in
      let spoken : Instance → Words = λ z. (action_of uu z).words in
      let li : i < length (map spoken every) = subst (λ n. i < n) (sym (length-map every spoken)) (below every i x g) in
      let lj : j < length (map spoken every) = subst (λ n. j < n) (sym (length-map every spoken)) (below every j y h) in
      let w : words_at (map spoken every) i ≡ words_at (map spoken every) j = words_got spoken every i x g ∙ e ∙ sym (words_got spoken every j y h) in
      let s : Some i ≡ Some j = sym (told.found i li) ∙ ap (λ z. position_from (same_words z) 0 (map spoken every)) w ∙ told.found j lj in
      let ij : i ≡ j = cc in
      let xy : Some x ≡ Some y = sym g ∙ ap (slice_get every) ij ∙ h in
      let r : x ≡ y = cc in r

  -- the same step does the same
  pub same_got : (m n : Step) → is_step_of t m ≡ true → is_step_of v n ≡ true → IsSameStep t v m n → slice_get (bodies_of uu is) m.action.0 ≡ slice_get (bodies_of uu js) n.action.0
  same_got m n h g e =
      let (x, at_m) = at_step scale d p is m (sym (step_by_words scale d p is t k m) ∙ h) in
      let (y, at_n) = at_step scale d p js n (sym (step_by_words scale d p js v l n) ∙ g) in
      let xy : x ≡ y = same_instance x y (in_is x (got_in is m.action.0 x at_m)) (in_js y (got_in js n.action.0 y at_n)) (sym (action_words scale d p is js t v k l m.action.0 x at_m) ∙ e.action ∙ other_words scale d p is js t v k l n.action.0 y at_n) in
      body_got scale d p is m.action.0 x at_m ∙ ap (λ (z : Instance). Some (action_of uu z).body) xy ∙ sym (body_got scale d p js n.action.0 y at_n)

  pub same_acts : (ms ns : List Step) → IsOfTask t ms → IsOfTask v ns → AreSameSteps t v ms ns → acts_of (bodies_of uu is) ms ≡ acts_of (bodies_of uu js) ns
  same_acts [] [] h g e = refl
  same_acts [] (n ∷ ns) h g e = absurd e
  same_acts (m ∷ ms) [] h g e = absurd e
  same_acts (m ∷ ms) (n ∷ ns) h g e =
      let hs = and_parts (is_step_of t m) (list_all (is_step_of t) ms) h in
      let gs = and_parts (is_step_of v n) (list_all (is_step_of v) ns) g in
      let one : acted m ≡ acted n = ap₂ {C = GroundBody → Acted} (λ a b. λ c. record { moment = a; duration = b; body = c }) e.0.tick e.0.duration in
      ap₂ (λ (xs ys : List Acted). xs ++ ys)
      (ap₂ (λ (f : GroundBody → Acted) (o : Option GroundBody). option_to_list (option_map f o)) one (same_got m n hs.0 gs.0 e.0))
      (same_acts ms ns hs.1 gs.1 e.1)

  pub same_body : (m n : Step) → is_step_of t m ≡ true → is_step_of v n ≡ true → IsSameStep t v m n → is_durative (slice_get t.actions.items m.action.0) ≡ is_durative (slice_get v.actions.items n.action.0)
  same_body m n h g e = durative_of scale d p is t k m ∙ ap durative_by (same_got m n h g e) ∙ sym (durative_of scale d p js v l n)

  -- the same step is written as the same text
  same_text : (m n : Step) → is_step_of t m ≡ true → is_step_of v n ≡ true → IsSameStep t v m n → step_text (told_as t) m ≡ step_text (told_as v) n
  same_text m n h g e =
      ap (λ (c : Scale). (time_text c m.tick ++ codes ": (") ++ (words_text (words_at t.numbering.actions m.action.0) ++ end_text c (is_durative (slice_get t.actions.items m.action.0)) m.duration)) (k.same_scale ∙ sym l.same_scale)
      ∙ ap (λ (tick : ℕ). (time_text v.scale tick ++ codes ": (") ++ (words_text (words_at t.numbering.actions m.action.0) ++ end_text v.scale (is_durative (slice_get t.actions.items m.action.0)) m.duration)) e.tick
      ∙ ap (λ (ws : Words). (time_text v.scale n.tick ++ codes ": (") ++ (words_text ws ++ end_text v.scale (is_durative (slice_get t.actions.items m.action.0)) m.duration)) e.action
      ∙ ap (λ (b : Bool). (time_text v.scale n.tick ++ codes ": (") ++ (words_text (words_at v.numbering.actions n.action.0) ++ end_text v.scale b m.duration)) (same_body m n h g e)
      ∙ ap (λ (long : ℕ). (time_text v.scale n.tick ++ codes ": (") ++ (words_text (words_at v.numbering.actions n.action.0) ++ end_text v.scale (is_durative (slice_get v.actions.items n.action.0)) long)) e.duration

  pub same_texts : (ms ns : List Step) → IsOfTask t ms → IsOfTask v ns → AreSameSteps t v ms ns → plan_text (told_as t) ms ≡ plan_text (told_as v) ns
  same_texts [] [] h g e = refl
  same_texts [] (n ∷ ns) h g e = absurd e
  same_texts (m ∷ ms) [] h g e = absurd e
  same_texts (m ∷ ms) (n ∷ ns) h g e =
      let hs = and_parts (is_step_of t m) (list_all (is_step_of t) ms) h in
      let gs = and_parts (is_step_of v n) (list_all (is_step_of v) ns) g in
      ap₂ (λ (xs ys : List ℕ). xs ++ ys) (same_text m n hs.0 gs.0 e.0) (same_texts ms ns hs.1 gs.1 e.1)

-- ---- all ground actions, and those that are kept

module _ (scale : Scale) (d : Domain) (p : Problem) (t v : Task) (readable : AreReadable t.numbering.actions) (kept : List Instance) (are : AreKept d p kept) (k : IsTaskFor scale d p (all scale d p) t) (l : IsTaskFor scale d p kept v) where
  abbrev u'' : Universe
  u'' = universe_of d p

  abbrev whole : List Instance
  whole = all scale d p

  told' : AreTold scale d p
  told' = subst AreReadable k.names readable

  keeps : Instance → Bool
  keeps i = is_kept are.reach (action_of u'' i).body

  of_all : (x : Instance) → In x kept → In x whole
  unfolding keeps
  of_all x h = of_filter keeps whole x (subst (In x) are.are h)

  into_kept : (x : Instance) → In x whole → is_kept are.reach (action_of u'' x).body ≡ true → In x kept
  unfolding keeps
  into_kept x h q = subst (In x) (sym are.are) (in_filter keeps whole x h q)

  found_in_all : (ns : List Step) → IsOfTask v ns → AllByRecursion (IsFound kept whole) ns
  found_in_all [] h = tt
  found_in_all (n ∷ ns) h =
      let q = and_parts (is_step_of v n) (list_all (is_step_of v) ns) h in
      let (y, at_n) = at_step scale d p kept n (sym (step_by_words scale d p kept v l n) ∙ q.0) in
      (record { instance = y; at = at_n; is_in = of_all y (got_in kept n.action.0 y at_n) }, found_in_all ns q.1)

  found_in_kept : (ms : List Step) → IsOfTask t ms → AllByRecursion (λ a. is_kept are.reach a.body ≡ true) (acts_of (bodies_of u'' whole) ms) → AllByRecursion (IsFound whole kept) ms
  found_in_kept [] h a = tt
  found_in_kept (m ∷ ms) h a =
      let q = and_parts (is_step_of t m) (list_all (is_step_of t) ms) h in
      let (x, at_m) = at_step scale d p whole m (sym (step_by_words scale d p whole t k m) ∙ q.0) in
      let b : AllByRecursion (λ a. is_kept are.reach a.body ≡ true) (acted m (action_of u'' x).body ∷ acts_of (bodies_of u'' whole) ms) =
      subst (λ o. AllByRecursion (λ a. is_kept are.reach a.body ≡ true) (option_to_list (option_map (acted m) o) ++ acts_of (bodies_of u'' whole) ms)) (body_got scale d p whole m.action.0 x at_m) a in
      (record { instance = x; at = at_m; is_in = into_kept x (got_in whole m.action.0 x at_m) b.0 }, found_in_kept ms q.1 b.1)

  own_happenings : (is : List Instance) → ((x : Instance) → In x is → In x whole) → (b : GroundBody) → In b (bodies_of u'' is) → AllByRecursion (λ h. In h (all_happenings d p)) (happenings_of b)
  own_happenings [] sub b h = absurd h
  own_happenings (x ∷ is) sub b (inl e) = all_from (λ h. In h (all_happenings d p)) (happenings_of b) (λ h i. in_flat_map (λ z. happenings_of (action_of u'' z).body) whole x h (sub x (inl refl)) (subst (λ c. In h (happenings_of c)) e i))
  own_happenings (x ∷ is) sub b (inr h) = own_happenings is (λ y i. sub y (inr i)) b h

  pub have_same_plans : HaveSamePlans t v
  have_same_plans = record {
    same = λ ms ns h g e.
        let a = valid_by_words scale d p whole t k ms in
        let b = valid_by_words scale d p kept v l ns in
        let is = same_acts scale d p told' whole kept (λ x i. i) of_all t v k l ms ns h g e in
        let valid : List Acted → Type 0 = λ ps. IsValidByWords (scale_ticks scale) (initially (map initial_in p.initial)) (condition_in u'' [] p.goal) ps in
        (λ w. b.1 (subst valid is (a.0 w)), λ w. a.1 (subst valid (sym is) (b.0 w)));
    kept = λ ms h w. all_moved scale d p whole kept t v k l ms h (found_in_kept ms h
        (all_kept (scale_ticks scale) (map initial_in p.initial) (condition_in u'' [] p.goal) (acts_of (bodies_of u'' whole) ms) ((valid_by_words scale d p whole t k ms).0 w) (all_happenings d p) (all_parts (λ h. In h (all_happenings d p)) (bodies_of u'' whole) (own_happenings whole (λ x i. i)) ms) are.reach are.is_reach.closed));
    wide = λ ns h.
        let (ms, own, same) = all_moved scale d p kept whole v t l k ns h (found_in_all ns h) in
        (ms, own, flipped v t ns ms same);
    lasting = same_body scale d p told' whole kept (λ x i. i) of_all t v k l;
    told = same_texts scale d p told' whole kept (λ x i. i) of_all t v k l;
  }

-- ---- the steps of a task that has some of another's actions

module _ (scale : Scale) (d : Domain) (p : Problem) (is js : List Instance) (t v : Task) (sub : (x : Instance) → In x js → In x is) (k : IsTaskFor scale d p is t) (l : IsTaskFor scale d p js v) where
  found_among : (ns : List Step) → IsOfTask v ns → AllByRecursion (IsFound js is) ns
  found_among [] h = tt
  found_among (n ∷ ns) h =
      let q = and_parts (is_step_of v n) (list_all (is_step_of v) ns) h in
      let (y, at_n) = at_step scale d p js n (sym (step_by_words scale d p js v l n) ∙ q.0) in
      (record { instance = y; at = at_n; is_in = sub y (got_in js n.action.0 y at_n) }, found_among ns q.1)

  pub in_wider : (ns : List Step) → IsOfTask v ns → (ms : List Step) × IsOfTask t ms × AreSameSteps t v ms ns
  in_wider ns h =
      let (ms, own, same) = all_moved scale d p js is v t l k ns h (found_among ns h) in
      (ms, own, flipped v t ns ms same)
