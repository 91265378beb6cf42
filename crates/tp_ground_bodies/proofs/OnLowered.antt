-- One lowering after another.
use Rattle.std.proofs.Common.{◌≡◌, ℕ, zero, suc, ◌≤◌, List, [], ◌∷◌, ◌++◌, length, map, Some, Result, Ok, Err, OnOk, IfOk, IfErr, IsErrAnd, Vec, Global, refl, sym, ap, subst, ◌∙◌, append_assoc, append-nil, arith}
use Rattle.std.specs.List.{slice_get}
use Rattle.std.proofs.lemmas.List.{map-append}
use Rattle.tp_task.specs.Words.{Words, with_words, with_all}
use Rattle.tp_task.specs.Labels.{Grows}
use Rattle.tp_task.specs.Tables.{Tables, with_actions, words_at, CannotNumber}
use Rattle.tp_ground_bodies.specs.Mentions.{Mentions, nothing, an_atom, a_fluent, ◌then◌, of_each}
use Rattle.tp_ground_bodies.specs.Lowered.{Notes, Extends, IsLowered, Overflows, Lowers}
use Rattle.tp_task.specs.declared.fault.GroundFault.{GroundFault}
use Rattle.tp_task.specs.declared.fault.GroundFault.TheVariants as faults
use Rattle.tp_task.specs.declared.fault.TooManyKind.TheVariants as kinds
use Rattle.tp_task.proofs.Growth.{grows_on, with_all_grows, with_all-append, with_all-longer_append}

-- ---- mentions

abbrev mentions : List Words → List Words → Mentions
mentions ks fs = record { atoms = ks; fluents = fs }

same_mentions : (ks bs fs gs : List Words) → ks ≡ bs → fs ≡ gs → mentions ks fs ≡ mentions bs gs
same_mentions ks bs fs gs p q = ap (λ ws. mentions ws fs) p ∙ ap (λ ws. mentions bs ws) q

pub then_assoc : (m n k : Mentions) → (m then (n then k)) ≡ ((m then n) then k)
then_assoc m n k = same_mentions _ _ _ _ (sym (append_assoc m.atoms n.atoms k.atoms)) (sym (append_assoc m.fluents n.fluents k.fluents))

pub then_nothing : (m : Mentions) → (m then nothing) ≡ m
then_nothing m = same_mentions _ _ _ _ (append-nil m.atoms) (append-nil m.fluents)

pub of_each-append : {Y : Type 0} (of : Y → Mentions) (xs ys : List Y) → of_each of (xs ++ ys) ≡ (of_each of xs then of_each of ys)
of_each-append of [] ys = refl
of_each-append of (x ∷ xs) ys = ap (λ m. of x then m) (of_each-append of xs ys) ∙ then_assoc (of x) (of_each of xs) (of_each of ys)

pub of_each_one : {Y : Type 0} (of : Y → Mentions) (y : Y) → of_each of (y ∷ []) ≡ of y
of_each_one of y = then_nothing (of y)

-- ---- tables

pub notes_none : (w : Tables) → Notes w w nothing
notes_none w = record { atoms = refl; fluents = refl; actions = refl; most = refl }

pub notes_then : (a b c : Tables) (m n : Mentions) → Notes a b m → Notes b c n → Notes a c (m then n)
notes_then a b c m n f g = record {
  atoms = g.atoms ∙ ap (λ ws. with_all ws n.atoms) f.atoms ∙ sym (with_all-append a.atoms m.atoms n.atoms);
  fluents = g.fluents ∙ ap (λ ws. with_all ws n.fluents) f.fluents ∙ sym (with_all-append a.fluents m.fluents n.fluents);
  actions = g.actions ∙ f.actions;
  most = g.most ∙ f.most;
}

pub extends_then : (a b c : Tables) → Extends a b → Extends b c → Extends a c
extends_then a b c f g = record { atoms = grows_on a.atoms b.atoms c.atoms f.atoms g.atoms; fluents = grows_on a.fluents b.fluents c.fluents f.fluents g.fluents }

pub notes_extend : (a b : Tables) (m : Mentions) → Notes a b m → Extends a b
notes_extend a b m f = record {
  atoms = subst (λ ws. Grows a.atoms ws) (sym f.atoms) (with_all_grows a.atoms m.atoms);
  fluents = subst (λ ws. Grows a.fluents ws) (sym f.fluents) (with_all_grows a.fluents m.fluents);
}

-- ---- faults

cannot_more : (most : ℕ) (ks bs fs gs : List Words) (e : GroundFault) → length ks ≤ length bs → length fs ≤ length gs → CannotNumber most ks fs e → CannotNumber most bs gs e
cannot_more most ks bs fs gs faults.Memory p q h = tt
cannot_more most ks bs fs gs (faults.TooMany kinds.Atoms) p q h = omega arith
cannot_more most ks bs fs gs (faults.TooMany kinds.Fluents) p q h = omega arith
cannot_more most ks bs fs gs (faults.TooMany kinds.Objects) p q h = h
cannot_more most ks bs fs gs (faults.TooMany kinds.Actions) p q h = h
cannot_more most ks bs fs gs faults.Range p q h = h

pub overflows_first : (a : Tables) (m n : Mentions) (e : GroundFault) → Overflows a m e → Overflows a (m then n) e
overflows_first a m n e h = cannot_more a.most _ _ _ _ e (with_all-longer_append a.atoms m.atoms n.atoms) (with_all-longer_append a.fluents m.fluents n.fluents) h

pub overflows_then : (a b : Tables) (m n : Mentions) (e : GroundFault) → Notes a b m → Overflows b n e → Overflows a (m then n) e
overflows_then a b m n e f h =
    subst (λ ws. CannotNumber a.most ws (with_all a.fluents (m.fluents ++ n.fluents)) e) (sym (with_all-append a.atoms m.atoms n.atoms))
    (subst (λ ws. CannotNumber a.most (with_all (with_all a.atoms m.atoms) n.atoms) ws e) (sym (with_all-append a.fluents m.fluents n.fluents))
    (subst (λ ws. CannotNumber a.most (with_all ws n.atoms) (with_all (with_all a.fluents m.fluents) n.fluents) e) f.atoms
    (subst (λ ws. CannotNumber a.most (with_all b.atoms n.atoms) (with_all ws n.fluents) e) f.fluents
    (subst (λ k. CannotNumber k (with_all b.atoms n.atoms) (with_all b.fluents n.fluents) e) f.most h))))

-- ---- what is lowered

module _ {X Y : Type 0} {named : Tables → X → Y} where
  pub lowered_none : (a : Tables) (x : X) (y : Y) → ((t : Tables) → named t x ≡ y) → IsLowered named a a x y nothing
  lowered_none a x y h = record { notes = notes_none a; says = λ later e. h later }

  pub lowered_same : {a b : Tables} {x : X} {y : Y} {m : Mentions} (z : Y) (n : Mentions) → y ≡ z → m ≡ n → IsLowered named a b x y m → IsLowered named a b x z n
  lowered_same {a = a} {b = b} {x = x} {y = y} {m = m} z n p q l = subst (λ k. IsLowered named a b x z k) q (subst (λ w. IsLowered named a b x w m) p l)

  module _ {X1 Y1 : Type 0} {named1 : Tables → X1 → Y1} where
    pub lowered_as : {a b : Tables} {x1 : X1} {y1 : Y1} {m : Mentions} (g : Y1 → Y) (x : X) → ((t : Tables) → named t x ≡ g (named1 t x1)) → IsLowered named1 a b x1 y1 m → IsLowered named a b x (g y1) m
    lowered_as g x h l = record { notes = l.notes; says = λ later e. h later ∙ ap g (l.says later e) }

    module _ {X2 Y2 : Type 0} {named2 : Tables → X2 → Y2} where
      pub lowered_both : {a b c : Tables} {x1 : X1} {x2 : X2} {y1 : Y1} {y2 : Y2} {m n : Mentions} (g : Y1 → Y2 → Y) (x : X) → ((t : Tables) → named t x ≡ g (named1 t x1) (named2 t x2)) → IsLowered named1 a b x1 y1 m → IsLowered named2 b c x2 y2 n → IsLowered named a c x (g y1 y2) (m then n)
      lowered_both {a = a} {b = b} {c = c} {x2 = x2} {y1 = y1} {m = m} {n = n} g x h l k = record {
        notes = notes_then a b c m n l.notes k.notes;
        says = λ later e. h later ∙ ap (λ v. g v (named2 later x2)) (l.says later (extends_then b c later (notes_extend b c n k.notes) e)) ∙ ap (g y1) (k.says later e);
      }

  -- when only actions come after
  pub more_named : (a b d : Tables) (x : X) (y : Y) (m : Mentions) → d.atoms ≡ b.atoms → d.fluents ≡ b.fluents → d.most ≡ b.most → IsLowered named a b x y m → IsLowered named a (with_actions d a.actions) x y m
  more_named a b d x y m atoms fluents most l = record {
    notes = record { atoms = atoms ∙ l.notes.atoms; fluents = fluents ∙ l.notes.fluents; actions = refl; most = most ∙ l.notes.most };
    says =
        λ later e.
        l.says later (record { atoms = subst (λ ws. Grows ws later.atoms) atoms e.atoms; fluents = subst (λ ws. Grows ws later.fluents) fluents e.fluents });
  }

-- ---- lists

module _ {C Y : Type 0} (named : Tables → C → Y) (of : Y → Mentions) where
  -- what the members of a list say
  abbrev pub all_named : Tables → Vec C Global → List Y
  all_named t v = map (named t) v.items

  abbrev pub AllLowered : Tables → Tables → Vec C Global → List Y → Type 0
  AllLowered a b v ys = IsLowered all_named a b v ys (of_each of ys)

  pub all_none : (a : Tables) (v : Vec C Global) → v.items ≡ [] → AllLowered a a v []
  all_none a v none = lowered_none a v [] (λ t. ap (map (named t)) none)

  pub all_append : (a b c : Tables) (v w u : Vec C Global) (ys zs all : List Y) → u.items ≡ v.items ++ w.items → all ≡ ys ++ zs → AllLowered a b v ys → AllLowered b c w zs → AllLowered a c u all
  all_append a b c v w u ys zs all items is l k =
      lowered_same all (of_each of all) (sym is) (sym (ap (of_each of) is ∙ of_each-append of ys zs))
      (lowered_both (λ (p q : List Y). p ++ q) u (λ t. ap (map (named t)) items ∙ map-append (named t) v.items w.items) l k)

  pub all_push : (a b c : Tables) (v u : Vec C Global) (x : C) (ys all : List Y) (y : Y) → u.items ≡ v.items ++ x ∷ [] → all ≡ ys ++ y ∷ [] → AllLowered a b v ys → IsLowered named b c x y (of y) → AllLowered a c u all
  all_push a b c v u x ys all y items is l k =
      lowered_same all (of_each of all) (sym is) (ap (λ m. of_each of ys then m) (sym (of_each_one of y)) ∙ sym (ap (of_each of) is ∙ of_each-append of ys (y ∷ [])))
      (lowered_both (λ (p : List Y) (q : Y). p ++ q ∷ []) u (λ t. ap (map (named t)) items ∙ map-append (named t) v.items (x ∷ [])) l k)

  -- a fault at some that come after others, in all
  pub all_fail : (a b : Tables) (v : Vec C Global) (ys zs rest all : List Y) (e : GroundFault) → all ≡ ys ++ (zs ++ rest) → AllLowered a b v ys → Overflows b (of_each of zs) e → Overflows a (of_each of all) e
  all_fail a b v ys zs rest all e is l h =
      subst (λ m. Overflows a m e) (sym (ap (of_each of) is ∙ of_each-append of ys (zs ++ rest)))
      (overflows_then a b (of_each of ys) (of_each of (zs ++ rest)) e l.notes
      (subst (λ m. Overflows b m e) (sym (of_each-append of zs rest)) (overflows_first b (of_each of zs) (of_each of rest) e h)))

-- ---- what functions return

module _ {X Y : Type 0} (named : Tables → X → Y) where
  pub failed : (a b : Tables) (y : Y) (m : Mentions) (r : Result X GroundFault) (f : GroundFault) → IsErrAnd r (λ e. e ≡ f) → Overflows a m f → Lowers named a r b y m
  failed a b y m (Ok x) f is h = absurd is
  failed a b y m (Err e) f is h = subst (λ g. Overflows a m g) (sym is) h

  pub written_as : (of : Y → Mentions) (a b : Tables) (r : Result X GroundFault) (y z : Y) → y ≡ z → Lowers named a r b z (of z) → Lowers named a r b y (of y)
  written_as of a b r y z p l = subst (λ v. Lowers named a r b v (of v)) (sym p) l

-- ---- the number of an atom or a fluent

pub at_place : (ws more : List Words) (i : ℕ) (w : Words) → slice_get ws i ≡ Some w → words_at (ws ++ more) i ≡ w
at_place [] more i w e = cc
at_place (x ∷ ws) more zero w e = cc
at_place (x ∷ ws) more (suc i) w e = at_place ws more i w e

abbrev pub atom_named : Tables → ℕ → Words
atom_named t i = words_at t.atoms i

abbrev pub fluent_named : Tables → ℕ → Words
fluent_named t i = words_at t.fluents i

pub atom_numbered : (a b : Tables) (w : Words) (r : Result ℕ GroundFault) → OnOk r (b.atoms ≡ with_words a.atoms w) → IfOk r (λ i. slice_get b.atoms i ≡ Some w) → b.fluents ≡ a.fluents → b.actions ≡ a.actions → b.most ≡ a.most → IfErr r (CannotNumber a.most (with_words a.atoms w) a.fluents) → Lowers atom_named a r b w (an_atom w)
atom_numbered a b w (Ok i) atoms place fluents actions most err = record {
  notes = record { atoms = atoms; fluents = fluents; actions = actions; most = most };
  says = λ later e. ap (λ ws. words_at ws i) e.atoms.1 ∙ at_place b.atoms e.atoms.0 i w place;
}
atom_numbered a b w (Err e) atoms place fluents actions most err = err

pub fluent_numbered : (a b : Tables) (w : Words) (r : Result ℕ GroundFault) → OnOk r (b.fluents ≡ with_words a.fluents w) → IfOk r (λ i. slice_get b.fluents i ≡ Some w) → b.atoms ≡ a.atoms → b.actions ≡ a.actions → b.most ≡ a.most → IfErr r (CannotNumber a.most a.atoms (with_words a.fluents w)) → Lowers fluent_named a r b w (a_fluent w)
fluent_numbered a b w (Ok i) fluents place atoms actions most err = record {
  notes = record { atoms = atoms; fluents = fluents; actions = actions; most = most };
  says = λ later e. ap (λ ws. words_at ws i) e.fluents.1 ∙ at_place b.fluents e.fluents.0 i w place;
}
fluent_numbered a b w (Err e) fluents place atoms actions most err = err

-- ---- two parts, one after the other, and what is made of both

mentioned : {Y Y1 Y2 : Type 0} (of : Y → Mentions) (of1 : Y1 → Mentions) (of2 : Y2 → Mentions) (g : Y1 → Y2 → Y) → ((p : Y1) (q : Y2) → of (g p q) ≡ (of1 p then of2 q)) → (y : Y) (p : Y1) (q : Y2) → y ≡ g p q → of y ≡ (of1 p then of2 q)
mentioned of of1 of2 g splits y p q is = ap of is ∙ splits p q

module _ {X X1 X2 Y Y1 Y2 : Type 0} (named : Tables → X → Y) (named1 : Tables → X1 → Y1) (named2 : Tables → X2 → Y2) (of : Y → Mentions) (of1 : Y1 → Mentions) (of2 : Y2 → Mentions) (g : Y1 → Y2 → Y) (splits : (p : Y1) (q : Y2) → of (g p q) ≡ (of1 p then of2 q)) (y : Y) (p : Y1) (q : Y2) (is : y ≡ g p q) where
  pub first_failed : (a b : Tables) (r : Result X GroundFault) (f : GroundFault) → IsErrAnd r (λ e. e ≡ f) → Overflows a (of1 p) f → Lowers named a r b y (of y)
  first_failed a b r f err h = subst (λ m. Lowers named a r b y m) (sym (mentioned of of1 of2 g splits y p q is)) (failed named a b y (of1 p then of2 q) r f err (overflows_first a (of1 p) (of2 q) f h))

  pub second_failed : (a b c : Tables) (x1 : X1) (r : Result X GroundFault) (f : GroundFault) → IsErrAnd r (λ e. e ≡ f) → IsLowered named1 a b x1 p (of1 p) → Overflows b (of2 q) f → Lowers named a r c y (of y)
  second_failed a b c x1 r f err l h = subst (λ m. Lowers named a r c y m) (sym (mentioned of of1 of2 g splits y p q is)) (failed named a c y (of1 p then of2 q) r f err (overflows_then a b (of1 p) (of2 q) f l.notes h))

  pub both_lowered : (a b c : Tables) (x1 : X1) (x2 : X2) (x : X) → ((t : Tables) → named t x ≡ g (named1 t x1) (named2 t x2)) → IsLowered named1 a b x1 p (of1 p) → IsLowered named2 b c x2 q (of2 q) → IsLowered named a c x y (of y)
  both_lowered a b c x1 x2 x says l k = lowered_same y (of y) (sym is) (sym (mentioned of of1 of2 g splits y p q is)) (lowered_both g x says l k)

-- ---- loops that lower one after another

module _ {C Y : Type 0} (named : Tables → C → Y) (of : Y → Mentions) where
  pub all_same : (a b : Tables) (v : Vec C Global) (ys zs : List Y) → ys ≡ zs → AllLowered named of a b v ys → AllLowered named of a b v zs
  all_same a b v ys zs is l = subst (λ ws. AllLowered named of a b v ws) is l

  module _ (a b c : Tables) (v : Vec C Global) (ys rest all : List Y) (r : Result (Vec C Global) GroundFault) (e : GroundFault) (err : IsErrAnd r (λ f. f ≡ e)) (l : AllLowered named of a b v ys) where
    pub all_stopped : (zs : List Y) → all ≡ ys ++ (zs ++ rest) → Overflows b (of_each of zs) e → Lowers (all_named named of) a r c all (of_each of all)
    all_stopped zs is h = failed (all_named named of) a c all (of_each of all) r e err (all_fail named of a b v ys zs rest all e is l h)

    pub one_stopped : (y : Y) → all ≡ ys ++ ((y ∷ []) ++ rest) → Overflows b (of y) e → Lowers (all_named named of) a r c all (of_each of all)
    one_stopped y is h = all_stopped (y ∷ []) is (subst (λ m. Overflows b m e) (sym (of_each_one of y)) h)

pub as_written : {X Y : Type 0} {named : Tables → X → Y} (of : Y → Mentions) {a b : Tables} {x : X} (y z : Y) → y ≡ z → IsLowered named a b x z (of z) → IsLowered named a b x y (of y)
as_written of y z is l = lowered_same y (of y) (sym is) (sym (ap of is)) l
