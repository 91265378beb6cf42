-- Interference and effects of numbered events are those of what they say by words.
use Rattle.std.proofs.Common.{◌≡◌, ℕ, zero, suc, ◌<◌, ◌≤◌, Bool, true, false, cond, not, ◌&&◌, ◌||◌, List, [], ◌∷◌, ◌++◌, map, filter, length, Option, None, ℤ, pos, ◌+ℤ◌, ◌*ℤ◌, is_some, ◌==◌, ⊎_elim, refl, sym, ap, ap₂, ◌∙◌, arith}
use Rattle.std.specs.List.{list_any, list_all, flat_map, AllByRecursion, IsDistinct}
use Rattle.std.proofs.lemmas.Bool.{and_parts, and_from, cases_lt, ne_eqb}
use Rattle.std.proofs.lemmas.List.{map-append}
use Rattle.std.proofs.lemmas.List.Folds.{list_all-append}
use Rattle.tp_task.specs.declared.events.Change.{Change}
use Rattle.tp_task.specs.declared.events.Change.TheVariants.{Assign, ScaleUp, Increase, Decrease}
use Rattle.tp_task.specs.declared.events.NumericEffect.{NumericEffect}
use Rattle.tp_task.specs.declared.events.Limit.{Limit}
use Rattle.tp_task.specs.declared.events.GroundEvent.{GroundEvent}
use Rattle.tp_task.specs.State.{both, value, units, fluents_of, atoms_in, fluents_in}
use Rattle.tp_task.specs.Event.{has, meets, is_additive, fluents_read, fluents_written, fluents_set, disturbs, interferes, mixes_with, mixes_in}
use Rattle.tp_task.specs.Happens.{EventOfStep, value_set, amount, set_in, added_in, set_by, added_by, plus, atom_after, number_after, is_assign, is_defined, apart}
use Rattle.tp_task.specs.Words.{Words, same_words}
use Rattle.tp_task.specs.Tables.{Tables, words_at}
use Rattle.tp_ground.specs.Written.{GroundWrite, GroundHappening}
use Rattle.tp_ground.specs.ReadBack.{named_write, named_limit, named_event}
use Rattle.tp_ground.proofs.OnFits.{are_words, in_range}
use Rattle.tp_ground.proofs.OnInitially.{same_number}
use Rattle.tp_ground_laws.proofs.ByWords.{WordState, value_in, fluents_from, stands_in, share, reads, written_by, set_by_writes, disturbs_by, interfere, mix_with, mix, Timed, value_set_in, set_among, added_among, set_at, added_at, after, defined_in, do_not_interfere}
use Rattle.tp_ground_laws.proofs.OnNamed.{seen, value_named, atoms_named, fluents_named, fluents_in_named}

-- ---- a number is another exactly if the words are, where one of the two has words

past : (ws : List Words) (i : ℕ) → length ws ≤ i → words_at ws i ≡ []
past [] i h = refl
past (w ∷ ws) zero h = absurd (omega arith)
past (w ∷ ws) (suc i) h = past ws i (omega arith)

none_left : (w : Words) → are_words w ≡ true → same_words w [] ≡ false
none_left [] h = absurd (cc)
none_left (n ∷ w) h = refl

none_right : (w : Words) → are_words w ≡ true → same_words [] w ≡ false
none_right [] h = absurd (cc)
none_right (n ∷ w) h = refl

module _ (ns : List Words) (d : IsDistinct same_words ns) where
  pub same_left : (y x : ℕ) → are_words (words_at ns y) ≡ true → (y == x) ≡ same_words (words_at ns y) (words_at ns x)
  same_left y x h =
      let l : y < length ns = in_range ns y h in
      ⊎_elim
      (λ k. sym (same_number ns d y x l k))
      (λ k. ne_eqb y x (λ e. omega (arith, e, l, k)) ∙ sym (none_left (words_at ns y) h) ∙ ap (same_words (words_at ns y)) (sym (past ns x k)))
      (cases_lt x (length ns))

  same_right : (y x : ℕ) → are_words (words_at ns x) ≡ true → (y == x) ≡ same_words (words_at ns y) (words_at ns x)
  same_right y x h =
      let l : x < length ns = in_range ns x h in
      ⊎_elim
      (λ k. sym (same_number ns d y x k l))
      (λ k. ne_eqb y x (λ e. omega (arith, e, l, k)) ∙ sym (none_right (words_at ns x) h) ∙ ap (λ w. same_words w (words_at ns x)) (sym (past ns y k)))
      (cases_lt y (length ns))

  has_named : (xs : List ℕ) (x : ℕ) → list_all are_words (map (words_at ns) xs) ≡ true → has xs x ≡ stands_in (map (words_at ns) xs) (words_at ns x)
  has_named [] x h = refl
  has_named (y ∷ xs) x h =
      let p = and_parts (are_words (words_at ns y)) (list_all are_words (map (words_at ns) xs)) h in
      ap₂ (λ a b. a || b) (same_left y x p.0) (has_named xs x p.1)

  has_named_at : (xs : List ℕ) (x : ℕ) → are_words (words_at ns x) ≡ true → has xs x ≡ stands_in (map (words_at ns) xs) (words_at ns x)
  has_named_at [] x h = refl
  has_named_at (y ∷ xs) x h = ap₂ (λ a b. a || b) (same_right y x h) (has_named_at xs x h)

  pub meets_named : (xs ys : List ℕ) → list_all are_words (map (words_at ns) xs) ≡ true → meets xs ys ≡ share (map (words_at ns) xs) (map (words_at ns) ys)
  meets_named [] ys h = refl
  meets_named (x ∷ xs) ys h =
      let p = and_parts (are_words (words_at ns x)) (list_all are_words (map (words_at ns) xs)) h in
      ap₂ (λ a b. a || b) (has_named_at ys x p.0) (meets_named xs ys p.1)

-- ---- what an event changes has words

pub record IsWorded (h : GroundHappening) : Type 0 where
  pub adds : list_all are_words h.adds ≡ true
  pub deletes : list_all are_words h.deletes ≡ true
  pub writes : list_all (λ w. are_words w.fluent) h.writes ≡ true

pub written_worded : (ws : List GroundWrite) → list_all (λ w. are_words w.fluent) ws ≡ true → list_all are_words (written_by ws) ≡ true
written_worded [] h = refl
written_worded (w ∷ ws) h = let p = and_parts (are_words w.fluent) _ h in and_from (are_words w.fluent) _ p.0 (written_worded ws p.1)

set_worded : (ws : List GroundWrite) → list_all (λ w. are_words w.fluent) ws ≡ true → list_all are_words (set_by_writes ws) ≡ true
set_worded [] h = refl
set_worded (w ∷ ws) h = let p = and_parts (are_words w.fluent) _ h in by (not (is_additive w.change)) p.0 (set_worded ws p.1)
  where
    by : (b : Bool) → are_words w.fluent ≡ true → list_all are_words (set_by_writes ws) ≡ true → list_all are_words (map (λ v. v.fluent) (cond b (w ∷ filter (λ v. not (is_additive v.change)) ws) (filter (λ v. not (is_additive v.change)) ws))) ≡ true
    by true p q = and_from (are_words w.fluent) _ p q
    by false p q = q

module _ (t : Tables) where
  pub written_named : (ws : List NumericEffect) → map (words_at t.fluents) (map (λ w. w.fluent) ws) ≡ written_by (map (named_write t) ws)
  written_named [] = refl
  written_named (w ∷ ws) = ap (λ (vs : List Words). words_at t.fluents w.fluent ∷ vs) (written_named ws)

  set_named : (ws : List NumericEffect) → map (words_at t.fluents) (map (λ w. w.fluent) (filter (λ w. not (is_additive w.change)) ws)) ≡ set_by_writes (map (named_write t) ws)
  set_named [] = refl
  set_named (w ∷ ws) = by (not (is_additive w.change)) (set_named ws)
    where
      by : (b : Bool) → map (words_at t.fluents) (map (λ v. v.fluent) (filter (λ v. not (is_additive v.change)) ws)) ≡ set_by_writes (map (named_write t) ws) → map (words_at t.fluents) (map (λ v. v.fluent) (cond b (w ∷ filter (λ v. not (is_additive v.change)) ws) (filter (λ v. not (is_additive v.change)) ws))) ≡ map (λ v. v.fluent) (cond b (named_write t w ∷ filter (λ v. not (is_additive v.change)) (map (named_write t) ws)) (filter (λ v. not (is_additive v.change)) (map (named_write t) ws)))
      by true h = ap (λ (vs : List Words). words_at t.fluents w.fluent ∷ vs) h
      by false h = h

  values_named : (ws : List NumericEffect) → map (words_at t.fluents) (flat_map (λ w. fluents_of w.value) ws) ≡ flat_map (λ w. fluents_from w.value) (map (named_write t) ws)
  values_named [] = refl
  values_named (w ∷ ws) = map-append (words_at t.fluents) (fluents_of w.value) (flat_map (λ w. fluents_of w.value) ws) ∙ ap₂ (λ (v u : List Words). v ++ u) (fluents_named t w.value) (values_named ws)

  limits_named : (ls : List Limit) → map (words_at t.fluents) (flat_map (λ l. fluents_of l.value) ls) ≡ flat_map (λ l. fluents_from l.value) (map (named_limit t) ls)
  limits_named [] = refl
  limits_named (l ∷ ls) = map-append (words_at t.fluents) (fluents_of l.value) (flat_map (λ l. fluents_of l.value) ls) ∙ ap₂ (λ (v u : List Words). v ++ u) (fluents_named t l.value) (limits_named ls)

  reads_named : (e : GroundEvent) → map (words_at t.fluents) (fluents_read e) ≡ reads (named_event t e)
  reads_named e =
      map-append (words_at t.fluents) (fluents_in e.condition ++ flat_map (λ w. fluents_of w.value) e.writes.items) (flat_map (λ l. fluents_of l.value) e.constraint.items)
      ∙ ap₂ (λ (v u : List Words). v ++ u)
      (map-append (words_at t.fluents) (fluents_in e.condition) (flat_map (λ w. fluents_of w.value) e.writes.items) ∙ ap₂ (λ (v u : List Words). v ++ u) (fluents_in_named t e.condition) (values_named e.writes.items))
      (limits_named e.constraint.items)

pub record AreDistinct (t : Tables) : Type 0 where
  pub atoms : IsDistinct same_words t.atoms
  pub fluents : IsDistinct same_words t.fluents

module _ (t : Tables) (d : AreDistinct t) where
  pub changed_worded : (e : GroundEvent) → IsWorded (named_event t e) → list_all are_words (map (words_at t.atoms) (e.adds.items ++ e.deletes.items)) ≡ true
  changed_worded e h =
      ap (list_all are_words) (map-append (words_at t.atoms) e.adds.items e.deletes.items)
      ∙ list_all-append are_words (map (words_at t.atoms) e.adds.items) (map (words_at t.atoms) e.deletes.items)
      ∙ and_from (list_all are_words (map (words_at t.atoms) e.adds.items)) _ h.adds h.deletes

  disturbs_named : (a b : GroundEvent) → IsWorded (named_event t a) → disturbs a b ≡ disturbs_by (named_event t a) (named_event t b)
  disturbs_named a b h =
      ap₂ (λ x y. x || y)
      (meets_named t.atoms d.atoms (a.adds.items ++ a.deletes.items) (atoms_in b.condition) (changed_worded a h) ∙ ap₂ share (map-append (words_at t.atoms) a.adds.items a.deletes.items) (atoms_named t b.condition))
      (ap₂ (λ x y. x || y)
      (meets_named t.atoms d.atoms a.adds.items b.deletes.items h.adds)
      (ap₂ (λ x y. x || y)
      (meets_named t.fluents d.fluents (fluents_written a) (fluents_read b) (ap (list_all are_words) (written_named t a.writes.items) ∙ written_worded (map (named_write t) a.writes.items) h.writes) ∙ ap₂ share (written_named t a.writes.items) (reads_named t b))
      (meets_named t.fluents d.fluents (fluents_set a) (fluents_written b) (ap (list_all are_words) (set_named t a.writes.items) ∙ set_worded (map (named_write t) a.writes.items) h.writes) ∙ ap₂ share (set_named t a.writes.items) (written_named t b.writes.items))))

  pub interferes_named : (a b : GroundEvent) → IsWorded (named_event t a) → IsWorded (named_event t b) → interferes a b ≡ interfere (named_event t a) (named_event t b)
  interferes_named a b h k = ap₂ (λ x y. x || y) (disturbs_named a b h) (disturbs_named b a k)

  Worded : List NumericEffect → Type 0
  Worded ws = list_all (λ v. are_words v.fluent) (map (named_write t) ws) ≡ true

  mixes_with_named : (w : NumericEffect) (ws : List NumericEffect) → Worded ws → mixes_with w ws ≡ mix_with (named_write t w) (map (named_write t) ws)
  unfolding Worded
  mixes_with_named w [] h = refl
  mixes_with_named w (v ∷ ws) h =
      let p = and_parts (are_words (words_at t.fluents v.fluent)) _ h in
      ap₂ (λ x y. x || y) (ap (λ b. b && not (is_additive v.change && is_additive w.change)) (same_left t.fluents d.fluents v.fluent w.fluent p.0)) (mixes_with_named w ws p.1)

  pub mixes_named : (ws : List NumericEffect) → list_all (λ v. are_words v.fluent) (map (named_write t) ws) ≡ true → mixes_in ws ≡ mix (map (named_write t) ws)
  unfolding Worded
  mixes_named [] h = refl
  mixes_named (w ∷ ws) h =
      let p = and_parts (are_words (words_at t.fluents w.fluent)) _ h in
      ap₂ (λ x y. x || y) (mixes_with_named w ws p.1) (mixes_named ws p.1)

  module _ (s : WordState) where
    set_value_named : (dur : Option ℤ) (w : NumericEffect) (c : Change) → value_set (seen t s) dur w c ≡ value_set_in s dur (named_write t w) c
    set_value_named dur w Assign = value_named t s dur w.value
    set_value_named dur w ScaleUp = ap (both ◌*ℤ◌ (s.number_of (words_at t.fluents w.fluent))) (value_named t s dur w.value)
    set_value_named dur w Increase = refl
    set_value_named dur w Decrease = refl

    set_in_named : (dur : Option ℤ) (ws : List NumericEffect) (f : ℕ) (other : Option ℤ) → Worded ws → set_in (seen t s) dur ws f other ≡ set_among s dur (map (named_write t) ws) (words_at t.fluents f) other
    unfolding Worded
    set_in_named dur [] f other h = refl
    set_in_named dur (w ∷ ws) f other h =
        let p = and_parts (are_words (words_at t.fluents w.fluent)) _ h in
        ap (λ b. cond (b && not (is_additive w.change)) (value_set (seen t s) dur w w.change) (set_in (seen t s) dur ws f other)) (same_left t.fluents d.fluents w.fluent f p.0)
        ∙ ap₂ (cond (same_words (words_at t.fluents w.fluent) (words_at t.fluents f) && not (is_additive w.change))) (set_value_named dur w w.change) (set_in_named dur ws f other p.1)

    added_in_named : (dur : Option ℤ) (ws : List NumericEffect) (f : ℕ) → Worded ws → added_in (seen t s) dur ws f ≡ added_among s dur (map (named_write t) ws) (words_at t.fluents f)
    unfolding Worded
    added_in_named dur [] f h = refl
    added_in_named dur (w ∷ ws) f h =
        let p = and_parts (are_words (words_at t.fluents w.fluent)) _ h in
        ap₂ ◌+ℤ◌
        (ap₂ (λ (b : Bool) (v : Option ℤ). cond b (amount w.change v) (pos 0)) (same_left t.fluents d.fluents w.fluent f p.0) (value_named t s dur w.value))
        (added_in_named dur ws f p.1)

-- ---- events with their ticks

abbrev pub named_timed : Tables → EventOfStep → Timed
named_timed t e = record { happening = named_event t e.event; ticks = e.ticks }

abbrev pub AllWorded : List Timed → Type 0
AllWorded ts = AllByRecursion (λ e. IsWorded e.happening) ts

module _ (t : Tables) (d : AreDistinct t) (s : WordState) where
  has_set_named : (ws : List NumericEffect) (f : ℕ) → list_all (λ v. are_words v.fluent) (map (named_write t) ws) ≡ true → has (map (λ w. w.fluent) (filter (λ w. not (is_additive w.change)) ws)) f ≡ stands_in (set_by_writes (map (named_write t) ws)) (words_at t.fluents f)
  has_set_named ws f h =
      has_named t.fluents d.fluents _ f (ap (list_all are_words) (set_named t ws) ∙ set_worded (map (named_write t) ws) h)
      ∙ ap (λ vs. stands_in vs (words_at t.fluents f)) (set_named t ws)

  set_by_named : (scale : ℕ) (ts : List EventOfStep) (f : ℕ) (other : Option ℤ) → AllWorded (map (named_timed t) ts) → set_by scale (seen t s) ts f other ≡ set_at scale s (map (named_timed t) ts) (words_at t.fluents f) other
  unfolding Worded
  set_by_named scale [] f other h = refl
  set_by_named scale (e ∷ ts) f other h =
      ap (λ b. cond b (set_in (seen t s) (units scale e.ticks) e.event.writes.items f other) (set_by scale (seen t s) ts f other)) (has_set_named e.event.writes.items f h.0.writes)
      ∙ ap₂ (cond (stands_in (set_by_writes (map (named_write t) e.event.writes.items)) (words_at t.fluents f)))
      (set_in_named t d s (units scale e.ticks) e.event.writes.items f other h.0.writes) (set_by_named scale ts f other h.1)

  added_by_named : (scale : ℕ) (ts : List EventOfStep) (f : ℕ) → AllWorded (map (named_timed t) ts) → added_by scale (seen t s) ts f ≡ added_at scale s (map (named_timed t) ts) (words_at t.fluents f)
  unfolding Worded
  added_by_named scale [] f h = refl
  added_by_named scale (e ∷ ts) f h = ap₂ ◌+ℤ◌ (added_in_named t d s (units scale e.ticks) e.event.writes.items f h.0.writes) (added_by_named scale ts f h.1)

  any_adds : (ts : List EventOfStep) (a : ℕ) → AllWorded (map (named_timed t) ts) → list_any (λ e. has e.event.adds.items a) ts ≡ list_any (λ e. stands_in e.happening.adds (words_at t.atoms a)) (map (named_timed t) ts)
  any_adds [] a h = refl
  any_adds (e ∷ ts) a h = ap₂ (λ x y. x || y) (has_named t.atoms d.atoms e.event.adds.items a h.0.adds) (any_adds ts a h.1)

  any_deletes : (ts : List EventOfStep) (a : ℕ) → AllWorded (map (named_timed t) ts) → list_any (λ e. has e.event.deletes.items a) ts ≡ list_any (λ e. stands_in e.happening.deletes (words_at t.atoms a)) (map (named_timed t) ts)
  any_deletes [] a h = refl
  any_deletes (e ∷ ts) a h = ap₂ (λ x y. x || y) (has_named t.atoms d.atoms e.event.deletes.items a h.0.deletes) (any_deletes ts a h.1)

  -- the state after events
  pub after_named : (scale : ℕ) (ts : List EventOfStep) → AllWorded (map (named_timed t) ts) → record { atom = atom_after (seen t s) ts; number = number_after scale (seen t s) ts } ≡ seen t (after scale s (map (named_timed t) ts))
  after_named scale ts h =
      let atom_is : (a : ℕ) → atom_after (seen t s) ts a ≡ (seen t (after scale s (map (named_timed t) ts))).atom a =
      λ a. ap₂ (λ x y. x || (s.is_true (words_at t.atoms a) && not y)) (any_adds ts a h) (any_deletes ts a h) in
      let number_is : (f : ℕ) → number_after scale (seen t s) ts f ≡ (seen t (after scale s (map (named_timed t) ts))).number f =
      λ f. set_by_named scale ts f (plus (added_by scale (seen t s) ts f) (s.number_of (words_at t.fluents f))) h
      ∙ ap (λ z. set_at scale s (map (named_timed t) ts) (words_at t.fluents f) (plus z (s.number_of (words_at t.fluents f)))) (added_by_named scale ts f h) in
      λ i. record { atom = λ a. atom_is a i; number = λ f. number_is f i }

  writes_defined : (dur : Option ℤ) (ws : List NumericEffect) → list_all (λ w. is_some (value (seen t s) dur w.value) && (is_assign w.change || is_some (s.number_of (words_at t.fluents w.fluent)))) ws ≡ list_all (λ w. is_some (value_in s dur w.value) && (is_assign w.change || is_some (s.number_of w.fluent))) (map (named_write t) ws)
  writes_defined dur [] = refl
  writes_defined dur (w ∷ ws) = ap₂ (λ x y. x && y) (ap (λ (v : Option ℤ). is_some v && (is_assign w.change || is_some (s.number_of (words_at t.fluents w.fluent)))) (value_named t s dur w.value)) (writes_defined dur ws)

  limits_defined : (ls : List Limit) → list_all (λ l. is_some (value (seen t s) None l.value)) ls ≡ list_all (λ l. is_some (value_in s None l.value)) (map (named_limit t) ls)
  limits_defined [] = refl
  limits_defined (l ∷ ls) = ap₂ (λ x y. x && y) (ap (λ (v : Option ℤ). is_some v) (value_named t s None l.value)) (limits_defined ls)

  pub defined_named : (scale : ℕ) (e : EventOfStep) → is_defined scale (seen t s) e ≡ defined_in scale s (named_timed t e)
  defined_named scale e = ap₂ (λ x y. x && y) (writes_defined (units scale e.ticks) e.event.writes.items) (limits_defined e.event.constraint.items)

module _ (t : Tables) (d : AreDistinct t) where
  each_apart : (e : EventOfStep) (ts : List EventOfStep) → IsWorded (named_event t e.event) → AllWorded (map (named_timed t) ts) → list_all (λ (u : EventOfStep). not (interferes e.event u.event)) ts ≡ list_all (λ u. not (interfere (named_event t e.event) u.happening)) (map (named_timed t) ts)
  each_apart e [] h k = refl
  each_apart e (u ∷ ts) h k = ap₂ (λ x y. x && y) (ap not (interferes_named t d e.event u.event h k.0)) (each_apart e ts h k.1)

  pub apart_named : (ts : List EventOfStep) → AllWorded (map (named_timed t) ts) → apart ts ≡ do_not_interfere (map (named_timed t) ts)
  apart_named [] h = refl
  apart_named (e ∷ ts) h = ap₂ (λ x y. x && y) (each_apart e ts h.0 h.1) (apart_named ts h.1)
