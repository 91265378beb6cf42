-- The relaxed reach by the numbers of atoms, and by their words.
use Rattle.std.proofs.Common.{◌≡◌, ℕ, zero, suc, ◌<◌, Bool, true, false, ◌&&◌, ◌||◌, ◌==◌, nat_lt, List, [], ◌∷◌, ◌++◌, map, length, get_or, inl, inr, ⊎_elim, refl, sym, ap, ap₂, subst, ◌∙◌, arith, eq-eqb, eqb-true, ltb-true}
use Rattle.std.specs.List.{list_all, list_any, flat_map, IsDistinct}
use Rattle.std.proofs.lemmas.Bool.{and_parts, and_from, or_cases, or_left, or_right, lt-ltb}
use Rattle.std.proofs.lemmas.List.{map-append}
use Rattle.tp_syntax_ast.specs.Problems.{Initial}
use Rattle.tp_syntax_ast.specs.Problems as problems
use Rattle.tp_task.specs.Words.{Words, same_words, has_words}
use Rattle.tp_task.specs.Tables.{Tables, words_at}
use Rattle.tp_task.specs.Bounds.{In}
use Rattle.tp_task.specs.Event.{has}
use Rattle.tp_task.specs.Reach as numbers
use Rattle.tp_task.specs.declared.events.GroundEvent.{GroundEvent}
use Rattle.tp_task.specs.declared.events.Body.{Body}
use Rattle.tp_task.specs.declared.events.Body.TheVariants.{Instant, Durative}
use Rattle.tp_ground_bindings.specs.Bindings.{Universe}
use Rattle.tp_ground_bodies.specs.Written.{GroundHappening, GroundBody}
use Rattle.tp_ground_bodies.specs.ReadBack.{named_event, named_body}
use Rattle.tp_ground.specs.Initially.{initial_in, is_initially_true, named_initial, true_at}
use Rattle.tp_ground.specs.declared.beginning.NumberedInitial.{NumberedInitial}
use Rattle.tp_ground.specs.declared.beginning.NumberedInitial.TheVariants as numbered
use Rattle.tp_ground.proofs.OnInitially.{true_there, same_words-Decides, apart}
use Rattle.tp_task.specs.Rounds.{set_of, acts_in, acts_of_bodies, adds_in, adds_fit}
use Rattle.tp_task.specs.Adding.{HasAdded, Adds, IsSettled}
use Rattle.tp_ground.specs.Reached.{met, is_kept, happenings_of, Instance, action_of, IsClosed, IsReach}
use Rattle.tp_ground.proofs.OnFits.{are_words, in_range}
use Rattle.tp_ground.proofs.OnMet.{worded, met_same}
use Rattle.tp_ground.proofs.OnWorded.{asks_words, instance_asks, instances_ask}

-- ---- lists

in_map : {A B : Type 0} (f : A → B) (xs : List A) (x : A) → In x xs → In (f x) (map f xs)
in_map f [] x i = absurd i
in_map f (y ∷ ys) x (inl e) = inl (ap f e)
in_map f (y ∷ ys) x (inr i) = inr (in_map f ys x i)

from_map : {A B : Type 0} (f : A → B) (xs : List A) (y : B) → In y (map f xs) → (x : A) × (In x xs × (y ≡ f x))
from_map f [] y i = absurd i
from_map f (x ∷ xs) y (inl e) = (x, (inl refl, e))
from_map f (x ∷ xs) y (inr i) = let r = from_map f xs y i in (r.0, (inr r.1.0, r.1.1))

all_in : {A : Type 0} (p : A → Bool) (xs : List A) (x : A) → list_all p xs ≡ true → In x xs → p x ≡ true
all_in p [] x h i = absurd i
all_in p (y ∷ ys) x h (inl e) = ap p e ∙ (and_parts (p y) (list_all p ys) h).0
all_in p (y ∷ ys) x h (inr i) = all_in p ys x (and_parts (p y) (list_all p ys) h).1 i

-- ---- the words of a set of numbers

-- the words of an atom of the set
abbrev pub in_words : List Words → (ℕ → Bool) → Words → Bool
in_words [] r w = false
in_words (v ∷ vs) r w = (r 0 && same_words w v) || in_words vs (λ j. r (suc j)) w

same_refl : (w : Words) → same_words w w ≡ true
same_refl w = (same_words-Decides w w).1 refl

pub words_there : (ns : List Words) (r : ℕ → Bool) (j : ℕ) → j < length ns → r j ≡ true → in_words ns r (words_at ns j) ≡ true
words_there [] r j lt h = absurd (omega arith)
words_there (v ∷ vs) r zero lt h = or_left (r 0 && same_words v v) _ (and_from (r 0) _ h (same_refl v))
words_there (v ∷ vs) r (suc j) lt h = or_right (r 0 && same_words (words_at vs j) v) _ (words_there vs (λ k. r (suc k)) j (omega arith) h)

pub record IsFound (ns : List Words) (r : ℕ → Bool) (w : Words) : Type 0 where
  pub place : ℕ
  pub within : place < length ns
  pub there : words_at ns place ≡ w
  pub reached : r place ≡ true

pub found : (ns : List Words) (r : ℕ → Bool) (w : Words) → in_words ns r w ≡ true → IsFound ns r w
found [] r w h = absurd (cc)
found (v ∷ vs) r w h =
    ⊎_elim
    (λ e. let p = and_parts (r 0) (same_words w v) e in record { place = 0; within = omega arith; there = sym ((same_words-Decides w v).0 p.1); reached = p.0 })
    (λ e. let f = found vs (λ k. r (suc k)) w e in let lt = f.within in record { place = suc f.place; within = omega (arith, lt); there = f.there; reached = f.reached })
    (or_cases (r 0 && same_words w v) _ h)

module _ (ns : List Words) (d : IsDistinct same_words ns) (r : ℕ → Bool) where
  pub words_same : (i : ℕ) → are_words (words_at ns i) ≡ true → in_words ns r (words_at ns i) ≡ r i
  words_same i w = by (r i) refl
    where
      lt : i < length ns
      lt = in_range ns i w

      by : (b : Bool) → r i ≡ b → in_words ns r (words_at ns i) ≡ b
      by true e = words_there ns r i lt e
      by false e = no (in_words ns r (words_at ns i)) refl
        where
          no : (c : Bool) → in_words ns r (words_at ns i) ≡ c → c ≡ false
          no true h = let f = found ns r (words_at ns i) h in sym f.reached ∙ ap r (apart ns d f.place i f.within lt f.there) ∙ e
          no false h = refl

-- ---- events by number and by words

module _ (t : Tables) where
  in_order : (xs : List GroundEvent) (ys : List GroundEvent) → map (named_event t) (xs ++ ys) ≡ map (named_event t) xs ++ map (named_event t) ys
  in_order xs ys = map-append (named_event t) xs ys

  body_acts : (b : Body) → map (named_event t) (acts_in b) ≡ happenings_of (named_body t b)
  body_acts (Instant e) = refl
  body_acts (Durative start end invariant) = refl

  module _ {X : Type 0} (f : X → GroundBody) where
    pub named_acts : (bs : List Body) (xs : List X) → map (named_body t) bs ≡ map f xs → map (named_event t) (acts_of_bodies bs) ≡ flat_map (λ x. happenings_of (f x)) xs
    named_acts [] [] e = refl
    named_acts [] (x ∷ xs) e = cc
    named_acts (b ∷ bs) [] e = cc
    named_acts (b ∷ bs) (x ∷ xs) e =
        let here : named_body t b ≡ f x = cc in
        let rest : map (named_body t) bs ≡ map f xs = cc in
        in_order (acts_in b) (acts_of_bodies bs)
        ∙ ap₂ (λ (p q : List GroundHappening). p ++ q) (body_acts b ∙ ap happenings_of here) (named_acts bs xs rest)

  has_named : (ks : List ℕ) (a : ℕ) → has ks a ≡ true → has_words (map (words_at t.atoms) ks) (words_at t.atoms a) ≡ true
  has_named [] a h = absurd (cc)
  has_named (k ∷ ks) a h =
      ⊎_elim
      (λ e. or_left (same_words (words_at t.atoms a) (words_at t.atoms k)) _ (subst (λ z. same_words (words_at t.atoms a) (words_at t.atoms z) ≡ true) (sym (eqb-true k a e)) (same_refl (words_at t.atoms a))))
      (λ e. or_right (same_words (words_at t.atoms a) (words_at t.atoms k)) _ (has_named ks a e))
      (or_cases (k == a) (has ks a) h)

  from_named : (ks : List ℕ) (w : Words) → has_words (map (words_at t.atoms) ks) w ≡ true → (a : ℕ) × ((has ks a ≡ true) × (w ≡ words_at t.atoms a))
  from_named [] w h = absurd (cc)
  from_named (k ∷ ks) w h =
      ⊎_elim
      (λ e. (k, (or_left (k == k) _ (eq-eqb k k refl), (same_words-Decides w (words_at t.atoms k)).0 e)))
      (λ e. let r = from_named ks w e in (r.0, (or_right (k == r.0) _ r.1.0, r.1.1)))
      (or_cases (same_words w (words_at t.atoms k)) _ h)

  -- ---- what is true at first

  first_named : (es : List NumberedInitial) (w : Words) → is_initially_true (map (named_initial t) es) w ≡ true → (k : ℕ) × ((true_at es k ≡ true) × (w ≡ words_at t.atoms k))
  first_named [] w h = absurd (cc)
  first_named (numbered.Holds k ∷ es) w h =
      ⊎_elim
      (λ e. (k, (or_left (k == k) _ (eq-eqb k k refl), (same_words-Decides w (words_at t.atoms k)).0 e)))
      (λ e. let r = first_named es w e in (r.0, (or_right (r.0 == k) _ r.1.0, r.1.1)))
      (or_cases (same_words w (words_at t.atoms k)) _ h)
  first_named (numbered.Fails k ∷ es) w h = first_named es w h
  first_named (numbered.HasValue k n ∷ es) w h = first_named es w h

first_worded : (is : List Initial) (w : Words) → is_initially_true (map initial_in is) w ≡ true → are_words w ≡ true
first_worded [] w h = absurd (cc)
first_worded (problems.holds f ∷ is) w h =
    ⊎_elim
    (λ e. ap are_words ((same_words-Decides w _).0 e))
    (first_worded is w)
    (or_cases (same_words w _) _ h)
first_worded (problems.fails f ∷ is) w h = first_worded is w h
first_worded (problems.has_value f n ∷ is) w h = first_worded is w h

-- ---- the relaxed reach

-- a truth is read within the list
set_within : (xs : List Bool) (a : ℕ) → set_of xs a ≡ true → a < length xs
set_within [] a h = absurd (cc)
set_within (x ∷ xs) zero h = omega arith
set_within (x ∷ xs) (suc a) h = let lt = set_within xs a h in omega (arith, lt)

module _ (t : Tables) (d : IsDistinct same_words t.atoms) (u : Universe) (is : List Initial) (es : List NumberedInitial) (first : map (named_initial t) es ≡ map initial_in is)
    (xs : List Instance) (bs : List Body) (bodies : map (named_body t) bs ≡ map (λ i. (action_of u i).body) xs) (fits : list_all (adds_fit (length t.atoms)) bs ≡ true)
    (old new : List Bool) (count : length old ≡ length t.atoms) (truths : (j : ℕ) → j < length t.atoms → get_or old j false ≡ true_at es j)
    (adds : Adds (acts_of_bodies bs) old new) (settled : IsSettled (acts_of_bodies bs) new) where
  abbrev pub reach : Words → Bool
  reach w = in_words t.atoms (set_of new) w

  abbrev events : List GroundHappening
  events = flat_map (λ i. happenings_of (action_of u i).body) xs

  same_events : map (named_event t) (acts_of_bodies bs) ≡ events
  same_events = named_acts t (λ i. (action_of u i).body) bs xs bodies

  event_named : (e : GroundEvent) → In e (acts_of_bodies bs) → In (named_event t e) events
  event_named e i = subst (In (named_event t e)) same_events (in_map (named_event t) (acts_of_bodies bs) e i)

  asks : (e : GroundEvent) → In e (acts_of_bodies bs) → worded (named_event t e).condition ≡ true
  asks e i = all_in asks_words events (named_event t e) (instances_ask u xs) (event_named e i)

  read : (i : ℕ) → are_words (words_at t.atoms i) ≡ true → reach (words_at t.atoms i) ≡ set_of new i
  read i w = words_same t.atoms d (set_of new) i w

  -- what events add is among the atoms
  all_within : HasAdded (acts_of_bodies bs) (λ a. nat_lt a (length t.atoms))
  all_within = record { added = λ e i m a h. event_within bs e fits i a h }
    where
      adds_within : (ks : List ℕ) (a : ℕ) → list_all (λ k. nat_lt k (length t.atoms)) ks ≡ true → has ks a ≡ true → nat_lt a (length t.atoms) ≡ true
      adds_within [] a f h = absurd (cc)
      adds_within (k ∷ ks) a f h =
          let p = and_parts (nat_lt k (length t.atoms)) _ f in
          ⊎_elim (λ e. subst (λ z. nat_lt z (length t.atoms) ≡ true) (eqb-true k a e) p.0) (adds_within ks a p.1) (or_cases (k == a) (has ks a) h)

      event_within : (cs : List Body) (e : GroundEvent) → list_all (adds_fit (length t.atoms)) cs ≡ true → In e (acts_of_bodies cs) → (a : ℕ) → has e.adds.items a ≡ true → nat_lt a (length t.atoms) ≡ true
      event_within [] e f i a h = absurd i
      event_within (Instant x ∷ cs) e f (inl q) a h = adds_within x.adds.items a (and_parts (adds_in (length t.atoms) x) _ f).0 (subst (λ y. has y.adds.items a ≡ true) q h)
      event_within (Instant x ∷ cs) e f (inr i) a h = event_within cs e (and_parts (adds_in (length t.atoms) x) _ f).1 i a h
      event_within (Durative start end invariant ∷ cs) e f (inl q) a h = adds_within start.adds.items a (and_parts (adds_in (length t.atoms) start) _ (and_parts (adds_fit (length t.atoms) (Durative start end invariant)) _ f).0).0 (subst (λ y. has y.adds.items a ≡ true) q h)
      event_within (Durative start end invariant ∷ cs) e f (inr (inl q)) a h = adds_within end.adds.items a (and_parts (adds_in (length t.atoms) start) _ (and_parts (adds_fit (length t.atoms) (Durative start end invariant)) _ f).0).1 (subst (λ y. has y.adds.items a ≡ true) q h)
      event_within (Durative start end invariant ∷ cs) e f (inr (inr i)) a h = event_within cs e (and_parts (adds_fit (length t.atoms) (Durative start end invariant)) _ f).1 i a h

  old_within : (a : ℕ) → set_of old a ≡ true → a < length t.atoms
  old_within a h = subst (λ n. a < n) count (set_within old a h)

  new_within : (a : ℕ) → set_of new a ≡ true → a < length t.atoms
  new_within a h = ltb-true a (length t.atoms) (adds.least (λ k. nat_lt k (length t.atoms)) all_within (λ k g. lt-ltb k (length t.atoms) (old_within k g)) a h)

  new_there : (a : ℕ) → set_of new a ≡ true → reach (words_at t.atoms a) ≡ true
  new_there a h = words_there t.atoms (set_of new) a (new_within a h) h

  has_first : (w : Words) → is_initially_true (map initial_in is) w ≡ true → reach w ≡ true
  has_first w h =
      let k = first_named t es w (ap (λ z. is_initially_true z w) first ∙ h) in
      let lt : k.0 < length t.atoms = in_range t.atoms k.0 (ap are_words (sym k.1.1) ∙ first_worded is w h) in
      subst (λ v. reach v ≡ true) (sym k.1.1) (new_there k.0 (adds.kept k.0 (truths k.0 lt ∙ k.1.0)))

  has_all : (h : GroundHappening) → In h events → met reach true h.condition ≡ true → (w : Words) → has_words h.adds w ≡ true → reach w ≡ true
  has_all h i m w a =
      let f = from_map (named_event t) (acts_of_bodies bs) h (subst (In h) (sym same_events) i) in
      let e = f.0 in
      let there = f.1.0 in
      let is_e : h ≡ named_event t e = f.1.1 in
      let k = from_named t e.adds.items w (subst (λ y. has_words y.adds w ≡ true) is_e a) in
      let asked : numbers.met (set_of new) true e.condition ≡ true = sym (met_same t (set_of new) reach read e.condition true (asks e there)) ∙ subst (λ y. met reach true y.condition ≡ true) is_e m in
      subst (λ v. reach v ≡ true) (sym k.1.1) (new_there k.0 (settled.added e there asked k.0 k.1.0))

  module _ (other : Words → Bool) (closed : IsClosed (map initial_in is) events other) where
    by_number : HasAdded (acts_of_bodies bs) (λ a. other (words_at t.atoms a))
    by_number = record {
      added = λ e i m a h. closed.has_added (named_event t e) (event_named e i) (met_same t (λ k. other (words_at t.atoms k)) other (λ k w. refl) e.condition true (asks e i) ∙ m) (words_at t.atoms a) (has_named t e.adds.items a h);
    }

    first_number : (a : ℕ) → set_of old a ≡ true → other (words_at t.atoms a) ≡ true
    first_number a h =
        let lt = old_within a h in
        closed.has_initial (words_at t.atoms a) (sym (true_there t d a lt es is first) ∙ sym (truths a lt) ∙ h)

    no_more : (w : Words) → reach w ≡ true → other w ≡ true
    no_more w h =
        let f = found t.atoms (set_of new) w h in
        subst (λ v. other v ≡ true) f.there (adds.least (λ a. other (words_at t.atoms a)) by_number first_number f.place f.reached)

  pub is_reach : IsReach (map initial_in is) events reach
  is_reach = record {
    closed = record { has_initial = has_first; has_added = has_all };
    least = no_more;
  }

  -- ---- what is kept

  abbrev pub has_met : Body → Bool
  has_met b = list_any (λ e. numbers.met (set_of new) true e.condition) (acts_in b)

  some_same : (es' : List GroundEvent) → list_all asks_words (map (named_event t) es') ≡ true → list_any (λ e. numbers.met (set_of new) true e.condition) es' ≡ list_any (λ h. met reach true h.condition) (map (named_event t) es')
  some_same [] w = refl
  some_same (e ∷ es') w =
      let p = and_parts (worded (named_event t e).condition) _ w in
      ap₂ ◌||◌ (sym (met_same t (set_of new) reach read e.condition true p.0)) (some_same es' p.1)

  kept_one : (b : Body) (i : Instance) → named_body t b ≡ (action_of u i).body → has_met b ≡ is_kept reach (action_of u i).body
  kept_one b i e =
      let same : map (named_event t) (acts_in b) ≡ happenings_of (action_of u i).body = body_acts t b ∙ ap happenings_of e in
      some_same (acts_in b) (ap (list_all asks_words) same ∙ instance_asks u i) ∙ ap (list_any (λ h. met reach true h.condition)) same

  kept_all : (cs : List Body) (is' : List Instance) → map (named_body t) cs ≡ map (λ i. (action_of u i).body) is' → map has_met cs ≡ map (λ i. is_kept reach (action_of u i).body) is'
  kept_all [] [] e = refl
  kept_all [] (i ∷ is') e = cc
  kept_all (b ∷ cs) [] e = cc
  kept_all (b ∷ cs) (i ∷ is') e =
      let here : named_body t b ≡ (action_of u i).body = cc in
      let rest : map (named_body t) cs ≡ map (λ j. (action_of u j).body) is' = cc in
      ap₂ (λ (x : Bool) (ys : List Bool). x ∷ ys) (kept_one b i here) (kept_all cs is' rest)

  pub flags_are : map has_met bs ≡ map (λ i. is_kept reach (action_of u i).body) xs
  flags_are = kept_all bs xs bodies
