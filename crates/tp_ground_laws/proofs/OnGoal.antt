-- The goal is met in the relaxed reach of one task exactly if it is in that of the other.
use Rattle.std.proofs.Common.{◌≡◌, ℕ, zero, suc, ◌<◌, Bool, true, false, ◌&&◌, ◌||◌, ◌==◌, List, [], ◌∷◌, ◌++◌, map, length, ◌↔◌, inl, inr, ⊎_elim, refl, sym, ap, ◌∙◌, subst, ap₂, arith, eqb-true, eq-eqb}
use Rattle.std.specs.List.{list_any, list_all, flat_map}
use Rattle.std.proofs.lemmas.Bool.{and_parts, and_from, or_cases, or_left, or_right}
use Rattle.std.proofs.lemmas.List.{map-append}
use Rattle.tp_text.specs.declared.number.Scale.{Scale}
use Rattle.tp_syntax_ast.specs.Domains.{Domain}
use Rattle.tp_syntax_ast.specs.Problems.{Problem, Initial}
use Rattle.tp_syntax_ast.specs.Problems as problems
use Rattle.tp_task.specs.declared.events.Body.{Body}
use Rattle.tp_task.specs.declared.events.Body.TheVariants.{Instant, Durative}
use Rattle.tp_task.specs.declared.task.Task.{Task}
use Rattle.tp_task.specs.State.{State}
use Rattle.tp_task.specs.Event.{has}
use Rattle.tp_task.specs.Words.{Words, same_words, has_words}
use Rattle.tp_task.specs.Tables.{Tables, words_at}
use Rattle.tp_task.specs.Bounds.{In}
use Rattle.tp_task.specs.Reach as by_number
use Rattle.tp_task.proofs.OnWords.{same_words_are, same_words_self}
use Rattle.tp_task.proofs.Lists.{all_at}
use Rattle.tp_task.specs.Rounds.{acts_in, acts_of_bodies}
use Rattle.tp_task.specs.TaskReach.{acts_of, first_state, GoalIs}
use Rattle.tp_task.proofs.Adding.{met_more}
use Rattle.tp_ground.specs.Bindings.{Universe, universe_of}
use Rattle.tp_ground.specs.Written.{GroundCondition, GroundConditions, atom, compared, negation, all_of, any_of, no_conditions, condition, GroundHappening, GroundBody, condition_in}
use Rattle.tp_ground.specs.ReadBack.{named_event, named_body}
use Rattle.tp_ground.specs.Initially.{initial_in, is_initially_true}
use Rattle.tp_ground.specs.Reached.{met, each_met, some_met, happenings_of, IsClosed, IsReach, Instance, instances, action_of, is_kept, all_happenings, AreKept}
use Rattle.tp_ground.proofs.OnFits.{are_words, in_range}
use Rattle.tp_ground_laws.proofs.OnLists.{in_map, from_map, in_flat_map, from_flat_map, in_filter, of_filter}
use Rattle.tp_ground_laws.proofs.OnNamed.{met_named}
use Rattle.tp_ground_laws.proofs.OnEffects.{IsWorded, same_left}
use Rattle.tp_ground_laws.proofs.OnSteps.{bodies_of, bodies_worded, IsTaskFor, begins}

-- what is met by a set is met by a larger one
module _ (r o : Words → Bool) (sub : (w : Words) → r w ≡ true → o w ≡ true) where
  mutual
    met_more_words : (b : Bool) (c : GroundCondition) → met r b c ≡ true → met o b c ≡ true
    met_more_words true (atom w) h = sub w h
    met_more_words false (atom w) h = refl
    met_more_words true (compared how x y) h = refl
    met_more_words false (compared how x y) h = refl
    met_more_words true (negation c) h = met_more_words false c h
    met_more_words false (negation c) h = met_more_words true c h
    met_more_words true (all_of cs) h = each_more true cs h
    met_more_words false (all_of cs) h = some_more false cs h
    met_more_words true (any_of cs) h = some_more true cs h
    met_more_words false (any_of cs) h = each_more false cs h

    each_more : (b : Bool) (cs : GroundConditions) → each_met r b cs ≡ true → each_met o b cs ≡ true
    each_more b no_conditions h = refl
    each_more b (condition c cs) h = let p = and_parts (met r b c) (each_met r b cs) h in and_from (met o b c) _ (met_more_words b c p.0) (each_more b cs p.1)

    some_more : (b : Bool) (cs : GroundConditions) → some_met r b cs ≡ true → some_met o b cs ≡ true
    some_more b no_conditions h = absurd (cc)
    some_more b (condition c cs) h = ⊎_elim (λ e. or_left (met o b c) _ (met_more_words b c e)) (λ e. or_right (met o b c) _ (some_more b cs e)) (or_cases (met r b c) (some_met r b cs) h)

-- ---- a set of numbers as a set of the words of a table

abbrev told : List Words → (ℕ → Bool) → Words → Bool
told [] o w = false
told (v ∷ vs) o w = (same_words v w && o 0) || told vs (λ i. o (suc i)) w

told_at : (ws : List Words) (o : ℕ → Bool) (i : ℕ) → i < length ws → o i ≡ true → told ws o (words_at ws i) ≡ true
told_at [] o i l h = absurd (omega arith)
told_at (w ∷ ws) o zero l h = or_left (same_words w w && o 0) _ (and_from (same_words w w) (o 0) (same_words_self w) h)
told_at (w ∷ ws) o (suc i) l h = or_right (same_words w (words_at ws i) && o 0) _ (told_at ws (λ j. o (suc j)) i (omega arith) h)

told_from : (ws : List Words) (o : ℕ → Bool) (w : Words) → told ws o w ≡ true → (i : ℕ) × (words_at ws i ≡ w) × (o i ≡ true)
told_from [] o w h = absurd (cc)
told_from (v ∷ ws) o w h =
    ⊎_elim
    (λ e. let p = and_parts (same_words v w) (o 0) e in (0, same_words_are v w p.0, p.1))
    (λ e. let (i, q, r) = told_from ws (λ j. o (suc j)) w e in (suc i, q, r))
    (or_cases (same_words v w && o 0) _ h)

known_at : (ws : List Words) (w : Words) → has_words ws w ≡ true → (i : ℕ) × (words_at ws i ≡ w)
known_at [] w h = absurd (cc)
known_at (v ∷ ws) w h =
    ⊎_elim (λ e. (0, sym (same_words_are w v e))) (λ e. let (i, q) = known_at ws w e in (suc i, q)) (or_cases (same_words w v) (has_words ws w) h)

-- the same of some numbers
has_there : (ws : List Words) (xs : List ℕ) (a : ℕ) → has xs a ≡ true → has_words (map (words_at ws) xs) (words_at ws a) ≡ true
has_there ws [] a h = absurd (cc)
has_there ws (x ∷ xs) a h =
    ⊎_elim
    (λ e. or_left (same_words (words_at ws a) (words_at ws x)) _ (subst (λ z. same_words (words_at ws a) (words_at ws z) ≡ true) (sym (eqb-true x a e)) (same_words_self (words_at ws a))))
    (λ e. or_right (same_words (words_at ws a) (words_at ws x)) _ (has_there ws xs a e))
    (or_cases (x == a) (has xs a) h)

has_from : (ws : List Words) (xs : List ℕ) (w : Words) → has_words (map (words_at ws) xs) w ≡ true → (a : ℕ) × (has xs a ≡ true) × (words_at ws a ≡ w)
has_from ws [] w h = absurd (cc)
has_from ws (x ∷ xs) w h =
    ⊎_elim
    (λ e. (x, or_left (x == x) _ (eq-eqb x x refl), sym (same_words_are w (words_at ws x) e)))
    (λ e. let (a, q, r) = has_from ws xs w e in (a, or_right (x == a) _ q, r))
    (or_cases (same_words w (words_at ws x)) (has_words (map (words_at ws) xs) w) h)

-- words that are initially true, or among some, are words
initial_words : (is : List Initial) (w : Words) → is_initially_true (map initial_in is) w ≡ true → are_words w ≡ true
initial_words [] w h = absurd (cc)
initial_words (problems.holds f ∷ is) [] h = initial_words is [] h
initial_words (problems.holds f ∷ is) (n ∷ w) h = refl
initial_words (problems.fails f ∷ is) w h = initial_words is w h
initial_words (problems.has_value f n ∷ is) w h = initial_words is w h

all_words : (vs : List Words) (w : Words) → list_all are_words vs ≡ true → has_words vs w ≡ true → are_words w ≡ true
all_words [] w h k = absurd (cc)
all_words (v ∷ vs) w h k =
    let p = and_parts (are_words v) (list_all are_words vs) h in
    ⊎_elim (λ e. subst (λ z. are_words z ≡ true) (sym (same_words_are w v e)) p.0) (λ e. all_words vs w p.1 e) (or_cases (same_words w v) (has_words vs w) k)

-- ---- the events of a task

module _ (t : Tables) where
  acts_in_named : (b : Body) → map (named_event t) (acts_in b) ≡ happenings_of (named_body t b)
  acts_in_named (Instant e) = refl
  acts_in_named (Durative start end invariant) = refl

  acts_named : (bs : List Body) → map (named_event t) (acts_of_bodies bs) ≡ flat_map happenings_of (map (named_body t) bs)
  acts_named [] = refl
  acts_named (b ∷ bs) = map-append (named_event t) (acts_in b) (acts_of_bodies bs) ∙ ap₂ (λ (xs ys : List GroundHappening). xs ++ ys) (acts_in_named b) (acts_named bs)

abbrev happenings : Universe → List Instance → List GroundHappening
happenings u is = flat_map happenings_of (bodies_of u is)

-- ---- the relaxed reach of a task of some actions, by words

module _ (scale : Scale) (d : Domain) (p : Problem) (is : List Instance) (t : Task) (k : IsTaskFor scale d p is t) (acts : List GroundHappening) (R : Words → Bool) (reaches : IsReach (map initial_in p.initial) acts R) (sub : (h : GroundHappening) → In h (happenings (universe_of d p) is) → In h acts) (enough : (h : GroundHappening) → In h acts → met R true h.condition ≡ true → In h (happenings (universe_of d p) is)) where
  abbrev N : List Words
  N = t.numbering.atoms

  abbrev seen_in : ℕ → Bool
  seen_in a = R (words_at N a)

  acts_are : map (named_event t.numbering) (acts_of t) ≡ happenings (universe_of d p) is
  acts_are = acts_named t.numbering t.actions.items ∙ ap (flat_map happenings_of) k.bodies

  first_atom : (a : ℕ) → (first_state t).atom a ≡ is_initially_true (map initial_in p.initial) (words_at N a)
  first_atom a = ap (λ (z : State). z.atom a) (begins scale d p is t k)

  closed : by_number.IsClosed (first_state t) (acts_of t) seen_in
  closed = record {
    has_initial = λ a h. reaches.closed.has_initial (words_at N a) (sym (first_atom a) ∙ h);
    has_added = λ e i m a h. reaches.closed.has_added (named_event t.numbering e) (sub (named_event t.numbering e) (subst (In (named_event t.numbering e)) acts_are (in_map (named_event t.numbering) (acts_of t) e i))) (sym (met_named t.numbering R true e.condition) ∙ m) (words_at N a) (has_there N e.adds.items a h);
  }

  happening_worded : (h : GroundHappening) → In h (happenings (universe_of d p) is) → IsWorded h
  happening_worded h i =
      let (b, j, l) = from_flat_map happenings_of (bodies_of (universe_of d p) is) h i in
      all_at IsWorded (happenings_of b) (bodies_worded (universe_of d p) is b j) h l

  module _ (other : ℕ → Bool) (c : by_number.IsClosed (first_state t) (acts_of t) other) where
    O : Words → Bool
    O w = R w && (are_words w && told N other w)

    within : (w : Words) → O w ≡ true → R w ≡ true
    unfolding O
    within w h = (and_parts (R w) _ h).0

    -- a number in the table whose words have it
    into_other : (a : ℕ) → O (words_at N a) ≡ true → other a ≡ true
    unfolding O
    into_other a h =
        let q = and_parts (are_words (words_at N a)) _ (and_parts (R (words_at N a)) _ h).1 in
        let (i, e, o) = told_from N other (words_at N a) q.1 in
        let same : (i == a) ≡ true =
        same_left N k.distinct.atoms i a (subst (λ w. are_words w ≡ true) (sym e) q.0) ∙ ap (λ w. same_words w (words_at N a)) e ∙ same_words_self (words_at N a) in
        subst (λ j. other j ≡ true) (eqb-true i a same) o

    from_other : (w : Words) (a : ℕ) → R w ≡ true → are_words w ≡ true → words_at N a ≡ w → other a ≡ true → O w ≡ true
    unfolding O
    from_other w a r h e o =
        and_from (R w) _ r (and_from (are_words w) _ h
        (subst (λ v. told N other v ≡ true) e (told_at N other a (in_range N a (subst (λ v. are_words v ≡ true) (sym e) h)) o)))

    also_closed : IsClosed (map initial_in p.initial) acts O
    also_closed = record {
      has_initial = λ w h.
          let (a, e) = known_at N w (k.initial_known w h) in
          from_other w a (reaches.closed.has_initial w h) (initial_words p.initial w h) e (c.has_initial a (first_atom a ∙ ap (is_initially_true (map initial_in p.initial)) e ∙ h));
      has_added = λ h i m w q.
          let r : met R true h.condition ≡ true = met_more_words O R within true h.condition m in
          let j : In h (happenings (universe_of d p) is) = enough h i r in
          let (e, l, named) = from_map (named_event t.numbering) (acts_of t) h (subst (In h) (sym acts_are) j) in
          let (a, own, at) = has_from N e.adds.items w (subst (λ (g : GroundHappening). has_words g.adds w ≡ true) (sym named) q) in
          let n : by_number.met (λ b. O (words_at N b)) true e.condition ≡ true = met_named t.numbering O true e.condition ∙ ap (λ (g : GroundHappening). met O true g.condition) named ∙ m in
          from_other w a (reaches.closed.has_added h i r w q) (all_words h.adds w (happening_worded h j).adds q) at (c.has_added e l (met_more (λ b. O (words_at N b)) other into_other true e.condition n) a own);
    }

    least : (a : ℕ) → seen_in a ≡ true → other a ≡ true
    least a h = into_other a (reaches.least O also_closed (words_at N a) h)

  is_reach : by_number.IsReach (first_state t) (acts_of t) seen_in
  is_reach = record { closed = closed; least = least }

  same_set : (r : ℕ → Bool) → by_number.IsReach (first_state t) (acts_of t) r → (a : ℕ) → r a ≡ seen_in a
  same_set r h a = both (r a) (seen_in a) (h.least seen_in closed a) (least r h.closed a)
    where
      both : (x y : Bool) → (x ≡ true → y ≡ true) → (y ≡ true → x ≡ true) → x ≡ y
      both true true f g = refl
      both true false f g = absurd (let e = f refl in cc)
      both false true f g = absurd (let e = g refl in cc)
      both false false f g = refl

  goal_by_words : by_number.met seen_in true t.goal ≡ met R true (condition_in (universe_of d p) [] p.goal)
  goal_by_words = met_named t.numbering R true t.goal ∙ ap (met R true) k.goal

  pub goal_is : (b : Bool) → GoalIs t b ↔ (met R true (condition_in (universe_of d p) [] p.goal) ≡ b)
  goal_is b = (
    λ g. let e : g.reach ≡ seen_in = λ i a. same_set g.reach g.is_reach a i in
        sym goal_by_words ∙ sym (ap (λ r. by_number.met r true t.goal) e) ∙ g.goal,
    λ h. record { reach = seen_in; is_reach = is_reach; goal = goal_by_words ∙ h },
  )

module _ (scale : Scale) (d : Domain) (p : Problem) (t v : Task) (kept : List Instance) (are : AreKept d p kept) (k : IsTaskFor scale d p (instances (universe_of d p) d.actions) t) (l : IsTaskFor scale d p kept v) where
  abbrev u : Universe
  u = universe_of d p

  abbrev all : List Instance
  all = instances u d.actions

  abbrev body : Instance → GroundBody
  body i = (action_of u i).body

  into_happenings : (is : List Instance) (x : Instance) (h : GroundHappening) → In x is → In h (happenings_of (body x)) → In h (happenings u is)
  into_happenings is x h i j = in_flat_map happenings_of (bodies_of u is) (body x) h (in_map body is x i) j

  from_happenings : (is : List Instance) (h : GroundHappening) → In h (happenings u is) → (x : Instance) × In x is × In h (happenings_of (body x))
  from_happenings is h i =
      let (b, j, m) = from_flat_map happenings_of (bodies_of u is) h i in
      let (x, q, e) = from_map body is b j in
      (x, q, subst (λ c. In h (happenings_of c)) (sym e) m)

  one_kept : (hs : List GroundHappening) (h : GroundHappening) → In h hs → met are.reach true h.condition ≡ true → list_any (λ g. met are.reach true g.condition) hs ≡ true
  one_kept [] h i m = absurd i
  one_kept (g ∷ hs) h (inl e) m = or_left (met are.reach true g.condition) _ (subst (λ (z : GroundHappening). met are.reach true z.condition ≡ true) e m)
  one_kept (g ∷ hs) h (inr i) m = or_right (met are.reach true g.condition) _ (one_kept hs h i m)

  pub goals_alike : (b : Bool) → GoalIs t b ↔ GoalIs v b
  goals_alike b =
      let whole = goal_is scale d p all t k (all_happenings d p) are.reach are.is_reach
      (λ h i. let (x, j, m) = from_happenings all h i in in_flat_map (λ y. happenings_of (body y)) all x h j m)
      (λ h i m. let (x, j, n) = from_flat_map (λ y. happenings_of (body y)) all h i in into_happenings all x h j n) b in
      let small = goal_is scale d p kept v l (all_happenings d p) are.reach are.is_reach
      (λ h i. let (x, j, m) = from_happenings kept h i in in_flat_map (λ y. happenings_of (body y)) all x h (of_filter (λ y. is_kept are.reach (body y)) all x (subst (In x) are.are j)) m)
      (λ h i m. let (x, j, n) = from_flat_map (λ y. happenings_of (body y)) all h i in into_happenings kept x h (subst (In x) (sym are.are) (in_filter (λ y. is_kept are.reach (body y)) all x j (one_kept (happenings_of (body x)) h n m))) n) b in
      (λ g. small.1 (whole.0 g), λ g. whole.1 (small.0 g))
