-- A run whose events are moved, interfering events in their order, is a run, and each event finds what it reads as before.
use Rattle.std.proofs.Common.{◌≡◌, ℕ, suc, zero, ◌+◌, ◌<◌, Bool, true, false, cond, ◌&&◌, ◌==◌, List, [], ◌∷◌, ◌++◌, map, ◌⊎◌, inl, inr, ⊎_elim, refl, sym, ◌∙◌, ap, ap₂, subst, arith, add-one, Option, Some, None, ℤ, filter, eqb-true, eq-eqb, is_some}
use Rattle.std.specs.List.{flat_map, AllByRecursion}
use Rattle.std.proofs.lemmas.Bool.{cases_Bool, false_from_ne_true}
use Rattle.tp_task.specs.State.{State, units, holds, fluents_in, fluents_of, atoms_in}
use Rattle.tp_task.specs.Event.{has, interferes, fluents_read, fluents_set, fluents_written, mixes}
use Rattle.tp_task.specs.Happens.{EventOfStep, set_in, added_in, plus, is_defined, atom_after, number_after, Happens}
use Rattle.tp_task.specs.Valid.{Placed, at, IsRun}
use Rattle.tp_task.specs.Bounds.{In, uses_duration}
use Rattle.tp_task.proofs.Same.{SameAtoms, SameNumbers, SameDuration, has_left, has_right, has_parts, holds_same}
use Rattle.tp_task.proofs.Register.{Register, IsAt, Agrees, Ordered, SamePutsBefore, at_start, same_value, same_base}
use Rattle.tp_task.proofs.Picked.{both_ways, picked, timed_by, Rising, all_picked_at, all_picked_from, apart_from}
use Rattle.tp_task.proofs.Bridge.{atom_register, number_register, atom_step, number_step}
use Rattle.tp_task.proofs.Effects.{touches_condition, adds_deleted, writes_read, sets_written, swapped, set_same, added_same, writes_defined_same, constraint_defined_same}

-- an event at another moment, with other ticks
abbrev pub moved : (Placed → ℕ) → (Placed → ℕ) → Placed → Placed
moved when ticks e = record { number = e.number; first = e.first; last = e.last; moment = when e; timed = record { event = e.timed.event; ticks = ticks e } }

pub at_moved : (when ticks : Placed → ℕ) (m : ℕ) (es : List Placed) → at m (map (moved when ticks) es) ≡ picked (λ e. when e == m) ticks es
at_moved when ticks m [] = refl
at_moved when ticks m (e ∷ es) = go (when e == m) (at_moved when ticks m es)
  where
    go : (b : Bool) → at m (map (moved when ticks) es) ≡ picked (λ e. when e == m) ticks es → map (λ (x : Placed). x.timed) (cond b (moved when ticks e ∷ filter (λ x. x.moment == m) (map (moved when ticks) es)) (filter (λ x. x.moment == m) (map (moved when ticks) es))) ≡ map (timed_by ticks) (cond b (e ∷ filter (λ e. when e == m) es) (filter (λ e. when e == m) es))
    go true h = ap (λ ts. timed_by ticks e ∷ ts) h
    go false h = h

-- what the theorem asks of the other moments
pub record Moves (scale : ℕ) (initial : State) (es : List Placed) (trace : ℕ → State) (when ticks : Placed → ℕ) : Type 0 where
  pub run : IsRun scale initial es trace
  pub rising : Rising es
  pub keeps : (a b : Placed) → In a es → In b es → interferes a.timed.event b.timed.event ≡ true → (a ≡ b) ⊎ Agrees (λ (e : Placed). e.moment) when a b
  pub same_ticks : (e : Placed) → In e es → (e.timed.ticks ≡ ticks e) ⊎ (uses_duration e.timed.event ≡ false)

abbrev old : Placed → ℕ
old e = e.moment

swap_agrees : (when : Placed → ℕ) (a b : Placed) → Agrees old when b a → Agrees old when a b
swap_agrees when a b (inl x) = inr x
swap_agrees when a b (inr x) = inl x

same_before : (when : Placed → ℕ) (a b : Placed) → (a ≡ b) ⊎ Agrees old when a b → ((old a < old b → when a < when b) × (when a < when b → old a < old b))
same_before when a b (inl e) = ((λ h. absurd (omega (arith, h, ap old e))), (λ h. absurd (omega (arith, h, ap when e))))
same_before when a b (inr (inl x)) = ((λ h. x.1), (λ h. x.0))
same_before when a b (inr (inr x)) = ((λ h. absurd (omega (arith, h, x.0))), (λ h. absurd (omega (arith, h, x.1))))

-- the state before each moment of the moved run
module _ (scale : ℕ) (initial : State) (es : List Placed) (when ticks : Placed → ℕ) where
  abbrev pub moved_trace : ℕ → State
  moved_trace zero = initial
  moved_trace (suc m) =
      record {
        atom = atom_after (moved_trace m) (picked (λ e. when e == m) ticks es);
        number = number_after scale (moved_trace m) (picked (λ e. when e == m) ticks es);
      }

module _ (scale : ℕ) (initial : State) (es : List Placed) (trace : ℕ → State) (when ticks : Placed → ℕ) (h : Moves scale initial es trace when ticks) where
  abbrev new : ℕ → State
  new = moved_trace scale initial es when ticks

  abbrev atoms_of : ℕ → Register Placed Bool
  atoms_of a = atom_register initial es a

  abbrev numbers_of : ℕ → Register Placed (Option ℤ)
  numbers_of f = number_register scale initial trace es f

  -- the order of the writers of one atom, and of one fluent
  pub ordered_atoms : (a : ℕ) → Ordered (atoms_of a) old when
  ordered_atoms a =
      record {
        puts_put = λ x y i j p q. go x y i j p q (cases_Bool (has x.timed.event.adds.items a)) (cases_Bool (has y.timed.event.adds.items a));
        put_shift = λ x y i j p n q. absurd (both_ways (has (y.timed.event.adds.items ++ y.timed.event.deletes.items) a) q n);
      }
    where
      is_deleted : (e : Placed) → has (e.timed.event.adds.items ++ e.timed.event.deletes.items) a ≡ true → has e.timed.event.adds.items a ≡ false → has e.timed.event.deletes.items a ≡ true
      is_deleted e p n = ⊎_elim (λ z. absurd (both_ways (has e.timed.event.adds.items a) z n)) (λ z. z) (has_parts e.timed.event.adds.items e.timed.event.deletes.items a p)

      value_of : (x y : Placed) → (x ≡ y) ⊎ Agrees old when x y → (has x.timed.event.adds.items a ≡ has y.timed.event.adds.items a) ⊎ Agrees old when x y
      value_of x y (inl e) = inl (ap (λ (z : Placed). has z.timed.event.adds.items a) e)
      value_of x y (inr z) = inr z

      back : (x y : Placed) → (y ≡ x) ⊎ Agrees old when y x → (x ≡ y) ⊎ Agrees old when x y
      back x y (inl e) = inl (sym e)
      back x y (inr z) = inr (swap_agrees when x y z)

      go : (x y : Placed) → In x es → In y es → has (x.timed.event.adds.items ++ x.timed.event.deletes.items) a ≡ true → has (y.timed.event.adds.items ++ y.timed.event.deletes.items) a ≡ true → (has x.timed.event.adds.items a ≡ true) ⊎ (has x.timed.event.adds.items a ≡ false) → (has y.timed.event.adds.items a ≡ true) ⊎ (has y.timed.event.adds.items a ≡ false) → (has x.timed.event.adds.items a ≡ has y.timed.event.adds.items a) ⊎ Agrees old when x y
      go x y i j p q (inl b) (inl c) = inl (b ∙ sym c)
      go x y i j p q (inr b) (inr c) = inl (b ∙ sym c)
      go x y i j p q (inl b) (inr c) = value_of x y (h.keeps x y i j (adds_deleted x.timed.event y.timed.event a b (is_deleted y q c)))
      go x y i j p q (inr b) (inl c) = value_of x y (back x y (h.keeps y x j i (adds_deleted y.timed.event x.timed.event a c (is_deleted x p b))))

  pub ordered_numbers : (f : ℕ) → Ordered (numbers_of f) old when
  ordered_numbers f =
      record {
        puts_put = λ x y i j p q. ⊎_elim (λ e. inl (ap (numbers_of f).value e)) inr (h.keeps x y i j (sets_written x.timed.event y.timed.event f p ((numbers_of f).puts_writes y q)));
        put_shift = λ x y i j p n q. ⊎_elim (λ e. absurd (both_ways (has (fluents_set y.timed.event) f) (subst (λ (z : Placed). has (fluents_set z.timed.event) f ≡ true) e p) n)) (λ z. z) (h.keeps x y i j (sets_written x.timed.event y.timed.event f p q));
      }

  -- the old run, variable by variable
  old_atom : (a m : ℕ) → IsAt (atoms_of a) old m ((trace m).atom a)
  old_atom a zero = subst (λ (s : State). IsAt (atoms_of a) old 0 (s.atom a)) (sym h.run.first) (at_start (atoms_of a) old)
  old_atom a (suc m) = subst (λ k. IsAt (atoms_of a) old k ((trace k).atom a)) (add-one m) (atom_step initial es a old (λ e. e.timed.ticks) m (trace m) (trace (m + 1)) ((h.run.next m).atoms a) (old_atom a m))

  old_number : (f m : ℕ) → IsAt (numbers_of f) old m ((trace m).number f)
  old_number f zero = subst (λ (s : State). IsAt (numbers_of f) old 0 (s.number f)) (sym h.run.first) (at_start (numbers_of f) old)
  old_number f (suc m) =
      subst (λ k. IsAt (numbers_of f) old k ((trace k).number f)) (add-one m)
      (number_step scale initial trace es f old (λ e. e.timed.ticks) m (trace m) (trace (m + 1)) ((h.run.next m).numbers f)
      (λ e i w. ((λ x. ap (λ k. set_in (trace k) (units scale e.timed.ticks) e.timed.event.writes.items f x) (sym w)), ap (λ k. added_in (trace k) (units scale e.timed.ticks) e.timed.event.writes.items f) (sym w)))
      (old_number f m))

  -- what is known of the new run before a moment
  abbrev Known : ℕ → Type 0
  Known m = ((a : ℕ) → IsAt (atoms_of a) when m ((new m).atom a)) × ((f : ℕ) → IsAt (numbers_of f) when m ((new m).number f))

  -- an event finds what it reads as before
  found_atoms : (e : Placed) → In e es → Known (when e) → SameAtoms (trace (old e)) (new (when e)) (atoms_in e.timed.event.condition)
  found_atoms e i k a p =
      same_value (atoms_of a) old when (old e) (when e) _ _ (ordered_atoms a)
      (λ x j w. same_before when x e (h.keeps x e j i (touches_condition x.timed.event e.timed.event a w p)))
      (old_atom a (old e)) (k.0 a)

  found_read : (e : Placed) → In e es → Known (when e) → SameNumbers (trace (old e)) (new (when e)) (fluents_read e.timed.event)
  found_read e i k f p =
      same_value (numbers_of f) old when (old e) (when e) _ _ (ordered_numbers f)
      (λ x j w. same_before when x e (h.keeps x e j i (writes_read x.timed.event e.timed.event f w p)))
      (old_number f (old e)) (k.1 f)

  found_set : (e : Placed) → In e es → Known (when e) → SameNumbers (trace (old e)) (new (when e)) (fluents_set e.timed.event)
  found_set e i k f p =
      same_value (numbers_of f) old when (old e) (when e) _ _ (ordered_numbers f)
      (λ x j w. same_before when x e (h.keeps x e j i (swapped x.timed.event e.timed.event (sets_written e.timed.event x.timed.event f p w))))
      (old_number f (old e)) (k.1 f)

  is_some_plus : (z : ℤ) (v : Option ℤ) → is_some (plus z v) ≡ is_some v
  is_some_plus z (Some x) = refl
  is_some_plus z None = refl

  found_defined : (e : Placed) → In e es → Known (when e) → (f : ℕ) → has (fluents_written e.timed.event) f ≡ true → is_some ((trace (old e)).number f) ≡ is_some ((new (when e)).number f)
  found_defined e i k f p =
      let b : SamePutsBefore (numbers_of f) old (old e) when (when e) = λ x j w. same_before when x e (h.keeps x e j i (sets_written x.timed.event e.timed.event f w p)) in
      let c : (old_number f (old e)).base ≡ (k.1 f).base = same_base (numbers_of f) old when (old e) (when e) _ _ (ordered_numbers f) b (old_number f (old e)) (k.1 f) in
      ap is_some (old_number f (old e)).is ∙ (is_some_plus _ _ ∙ (ap is_some c ∙ (sym (is_some_plus _ _) ∙ sym (ap is_some (k.1 f).is))))

  -- and so it does what it did
  same_units : (e : Placed) → In e es → SameDuration (units scale e.timed.ticks) (units scale (ticks e)) (uses_duration e.timed.event)
  same_units e i = ⊎_elim (λ w. inl (ap (units scale) w)) inr (h.same_ticks e i)

  found_rights : (e : Placed) → In e es → Known (when e) → SameNumbers (trace (old e)) (new (when e)) (flat_map (λ w. fluents_of w.value) e.timed.event.writes.items)
  found_rights e i k f p = found_read e i k f (has_left (fluents_in e.timed.event.condition ++ flat_map (λ w. fluents_of w.value) e.timed.event.writes.items) _ f (has_right (fluents_in e.timed.event.condition) _ f p))

  known_more : (m : ℕ) → Known m → Known (m + 1)
  known_more m k = (
    (λ a. subst (λ (s : State). IsAt (atoms_of a) when (m + 1) (s.atom a)) (ap new (sym (add-one m))) (atom_step initial es a when ticks m (new m) (new (suc m)) refl (k.0 a))),
    (λ f. subst (λ (s : State). IsAt (numbers_of f) when (m + 1) (s.number f)) (ap new (sym (add-one m))) (number_step scale initial trace es f when ticks m (new m) (new (suc m)) refl (does f) (k.1 f))),
  )
    where
      does : (f : ℕ) (e : Placed) → In e es → when e ≡ m → ((x : Option ℤ) → set_in (new m) (units scale (ticks e)) e.timed.event.writes.items f x ≡ set_in (trace e.moment) (units scale e.timed.ticks) e.timed.event.writes.items f x) × (added_in (new m) (units scale (ticks e)) e.timed.event.writes.items f ≡ added_in (trace e.moment) (units scale e.timed.ticks) e.timed.event.writes.items f)
      does f e i w =
          let k' : Known (when e) = subst Known (sym w) k in (
            (λ x. ap (λ z. set_in (new z) (units scale (ticks e)) e.timed.event.writes.items f x) (sym w) ∙ sym (set_same (trace (old e)) (new (when e)) (units scale e.timed.ticks) (units scale (ticks e)) e.timed.event.writes.items (found_rights e i k') (found_set e i k') (same_units e i) f x)),
            ap (λ z. added_in (new z) (units scale (ticks e)) e.timed.event.writes.items f) (sym w) ∙ sym (added_same (trace (old e)) (new (when e)) (units scale e.timed.ticks) (units scale (ticks e)) e.timed.event.writes.items (found_rights e i k') (same_units e i) f),
          )

  pub known : (m : ℕ) → Known m
  known zero = ((λ a. at_start (atoms_of a) when), (λ f. at_start (numbers_of f) when))
  known (suc m) = subst Known (add-one m) (known_more m (known m))

  -- the moved events can happen
  found_condition : (e : Placed) → In e es → Known (when e) → SameNumbers (trace (old e)) (new (when e)) (fluents_in e.timed.event.condition)
  found_condition e i k f p = found_read e i k f (has_left (fluents_in e.timed.event.condition ++ flat_map (λ w. fluents_of w.value) e.timed.event.writes.items) _ f (has_left (fluents_in e.timed.event.condition) _ f p))

  found_constraint : (e : Placed) → In e es → Known (when e) → SameNumbers (trace (old e)) (new (when e)) (flat_map (λ l. fluents_of l.value) e.timed.event.constraint.items)
  found_constraint e i k f p = found_read e i k f (has_right (fluents_in e.timed.event.condition ++ flat_map (λ w. fluents_of w.value) e.timed.event.writes.items) _ f p)

  old_holds : (P : ℕ → EventOfStep → Type 0) → ((m : ℕ) → AllByRecursion (P m) (at m es)) → (e : Placed) → In e es → P (old e) e.timed
  old_holds P f e i = all_picked_at (λ x. old x == old e) (λ x. x.timed.ticks) (P (old e)) es (f (old e)) e i (eq-eqb (old e) (old e) refl)

  still_holds : (e : Placed) → In e es → holds (new (when e)) e.timed.event.condition ≡ true
  still_holds e i = sym (holds_same (trace (old e)) (new (when e)) e.timed.event.condition (found_atoms e i (known (when e))) (found_condition e i (known (when e)))) ∙ old_holds (λ m t. holds (trace m) t.event.condition ≡ true) (λ m. (h.run.next m).conditions) e i

  still_defined : (e : Placed) → In e es → is_defined scale (new (when e)) (timed_by ticks e) ≡ true
  still_defined e i =
      sym (ap₂ ◌&&◌
      (writes_defined_same (trace (old e)) (new (when e)) (units scale e.timed.ticks) (units scale (ticks e)) e.timed.event.writes.items (found_rights e i (known (when e))) (found_defined e i (known (when e))) (same_units e i))
      (constraint_defined_same (trace (old e)) (new (when e)) e.timed.event.constraint.items (found_constraint e i (known (when e)))))
      ∙ old_holds (λ m t. is_defined scale (trace m) t ≡ true) (λ m. (h.run.next m).definedness) e i

  apart_still : (m : ℕ) (a b : Placed) → In a es → In b es → (when a == m) ≡ true → (when b == m) ≡ true → a.number < b.number → interferes a.timed.event b.timed.event ≡ false
  apart_still m a b i j p q lt = false_from_ne_true _ (λ z. no (h.keeps a b i j z))
    where
      no : (a ≡ b) ⊎ Agrees old when a b → ⊥
      no (inl e) = omega (arith, lt, ap (λ (x : Placed). x.number) e)
      no (inr (inl x)) = omega (arith, x.1, eqb-true (when a) m p, eqb-true (when b) m q)
      no (inr (inr x)) = omega (arith, x.1, eqb-true (when a) m p, eqb-true (when b) m q)

  new_happens : (m : ℕ) → Happens scale (new m) (picked (λ e. when e == m) ticks es) (new (m + 1))
  new_happens m =
      record {
        conditions = all_picked_from (λ e. when e == m) ticks (λ t. holds (new m) t.event.condition ≡ true) es (λ e i p. subst (λ k. holds (new k) e.timed.event.condition ≡ true) (eqb-true (when e) m p) (still_holds e i));
        definedness = all_picked_from (λ e. when e == m) ticks (λ t. is_defined scale (new m) t ≡ true) es (λ e i p. subst (λ k. is_defined scale (new k) (timed_by ticks e) ≡ true) (eqb-true (when e) m p) (still_defined e i));
        unmixed = all_picked_from (λ e. when e == m) ticks (λ t. mixes t.event ≡ false) es (λ e i p. old_holds (λ k t. mixes t.event ≡ false) (λ k. (h.run.next k).unmixed) e i);
        separate = apart_from (λ e. when e == m) ticks es h.rising (apart_still m);
        atoms = λ a. ap (λ k. (new k).atom a) (add-one m);
        numbers = λ f. ap (λ k. (new k).number f) (add-one m);
      }

  -- the moved run is a run
  pub moved_run : IsRun scale initial (map (moved when ticks) es) new
  moved_run = record { first = refl; next = λ m. subst (λ ts. Happens scale (new m) ts (new (m + 1))) (sym (at_moved when ticks m es)) (new_happens m) }

  -- before two moments with the same writers before them, variables are the same
  pub same_atom : (a u m : ℕ) → ((x : Placed) → In x es → has (x.timed.event.adds.items ++ x.timed.event.deletes.items) a ≡ true → (old x < u → when x < m) × (when x < m → old x < u)) → (trace u).atom a ≡ (new m).atom a
  same_atom a u m f = same_value (atoms_of a) old when u m _ _ (ordered_atoms a) f (old_atom a u) ((known m).0 a)

  pub same_number : (f u m : ℕ) → ((x : Placed) → In x es → has (fluents_written x.timed.event) f ≡ true → (old x < u → when x < m) × (when x < m → old x < u)) → (trace u).number f ≡ (new m).number f
  same_number f u m g = same_value (numbers_of f) old when u m _ _ (ordered_numbers f) g (old_number f u) ((known m).1 f)

  -- an event's duration constraint is read as before
  pub constraint_as_before : (e : Placed) → In e es → SameNumbers (trace (old e)) (new (when e)) (flat_map (λ l. fluents_of l.value) e.timed.event.constraint.items)
  constraint_as_before e i = found_constraint e i (known (when e))
