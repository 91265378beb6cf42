-- One lowering after another, each into one collection.
use Rattle.std.proofs.Common.{◌≡◌, ℕ, ◌+◌, ◌<◌, List, [], ◌∷◌, ◌++◌, length, take, drop, get_or, map, Bool, false, if◌then◌else◌, Result, Ok, Err, IsErrAnd, Vec, Global, sym, ap, subst, ◌∙◌, append_assoc, append-nil}
use Rattle.std.specs.List.{flat_map}
use Rattle.std.proofs.lemmas.List.{map-append}
use Rattle.tp_task.specs.Tables.{Tables}
use Rattle.tp_ground_bodies.specs.Mentions.{Mentions, nothing, ◌then◌, of_each}
use Rattle.tp_ground_bodies.specs.Lowered.{IsLowered, Overflows}
use Rattle.tp_ground_bodies.specs.Gathered.{list_shows, IsGathered, Gathers, IsMade, Makes}
use Rattle.tp_task.specs.declared.fault.GroundFault.{GroundFault}
use Rattle.tp_ground_bindings.proofs.Along.{whole}
use Rattle.tp_ground_bodies.proofs.OnLowered.{of_each-append, of_each_one, notes_none, notes_then, notes_extend, extends_then, overflows_first, overflows_then}

module _ {C Y : Type 0} (shows : Tables → C → List Y → Type 0) where
  pub gathered_none : (a : Tables) (c : C) → IsGathered shows a a c c [] nothing
  gathered_none a c = record { notes = notes_none a; shown = λ later xs e h. subst (λ ys. shows later c ys) (sym (append-nil xs)) h }

  pub gathered_then : (a b c : Tables) (u v w : C) (ys zs : List Y) (m n : Mentions) → IsGathered shows a b u v ys m → IsGathered shows b c v w zs n → IsGathered shows a c u w (ys ++ zs) (m then n)
  gathered_then a b c u v w ys zs m n l k = record {
    notes = notes_then a b c m n l.notes k.notes;
    shown = λ later xs e h.
        subst (λ all. shows later w all) (append_assoc xs ys zs)
        (k.shown later (xs ++ ys) e (l.shown later xs (extends_then b c later (notes_extend b c n k.notes) e) h));
  }

  pub gathered_same : {a b : Tables} {u v : C} {ys : List Y} {m : Mentions} (zs : List Y) (n : Mentions) → ys ≡ zs → m ≡ n → IsGathered shows a b u v ys m → IsGathered shows a b u v zs n
  gathered_same {a = a} {b = b} {u = u} {v = v} {ys = ys} {m = m} zs n p q l = subst (λ k. IsGathered shows a b u v zs k) q (subst (λ ws. IsGathered shows a b u v ws m) p l)

  -- a collection that was begun with nothing in it
  pub made_whole : (a b : Tables) (before after : C) (ys : List Y) (m : Mentions) → ((t : Tables) → shows t before []) → IsGathered shows a b before after ys m → IsMade shows a b after ys m
  made_whole a b before after ys m none l = record { notes = l.notes; shown = λ later e. l.shown later [] e (none later) }

  pub gathers_failed : (a b : Tables) (before after : C) (ys : List Y) (m : Mentions) (r : Result (Unit {0}) GroundFault) (f : GroundFault) → IsErrAnd r (λ e. e ≡ f) → Overflows a m f → Gathers shows a r b before after ys m
  gathers_failed a b before after ys m (Ok x) f is h = absurd is
  gathers_failed a b before after ys m (Err e) f is h = subst (λ g. Overflows a m g) (sym is) h

  pub makes_failed : (a b : Tables) (ys : List Y) (m : Mentions) (r : Result C GroundFault) (f : GroundFault) → IsErrAnd r (λ e. e ≡ f) → Overflows a m f → Makes shows a r b ys m
  makes_failed a b ys m (Ok x) f is h = absurd is
  makes_failed a b ys m (Err e) f is h = subst (λ g. Overflows a m g) (sym is) h

-- ---- members, with what each of them mentions

module _ {C Y : Type 0} (shows : Tables → C → List Y → Type 0) (of : Y → Mentions) where
  abbrev pub AllGathered : Tables → Tables → C → C → List Y → Type 0
  AllGathered a b before after ys = IsGathered shows a b before after ys (of_each of ys)

  pub all_gathered : (a b c : Tables) (u v w : C) (ys zs all : List Y) → all ≡ ys ++ zs → AllGathered a b u v ys → AllGathered b c v w zs → AllGathered a c u w all
  all_gathered a b c u v w ys zs all is l k =
      gathered_same shows all (of_each of all) (sym is) (sym (ap (of_each of) is ∙ of_each-append of ys zs))
      (gathered_then shows a b c u v w ys zs (of_each of ys) (of_each of zs) l k)

  pub none_gathered : (a : Tables) (u v : C) (ys : List Y) → ys ≡ [] → v ≡ u → AllGathered a a u v ys
  none_gathered a u v ys is same =
      subst (λ w. AllGathered a a u w ys) (sym same)
      (gathered_same shows ys (of_each of ys) (sym is) (sym (ap (of_each of) is)) (gathered_none shows a u))

  pub gathered_as : (a b : Tables) (u v : C) (ys zs : List Y) → ys ≡ zs → AllGathered a b u v zs → AllGathered a b u v ys
  gathered_as a b u v ys zs is l = subst (λ ws. AllGathered a b u v ws) (sym is) l

  pub gathers_as : (a b : Tables) (r : Result (Unit {0}) GroundFault) (u v : C) (ys zs : List Y) → ys ≡ zs → Gathers shows a r b u v zs (of_each of zs) → Gathers shows a r b u v ys (of_each of ys)
  gathers_as a b r u v ys zs is l = subst (λ ws. Gathers shows a r b u v ws (of_each of ws)) (sym is) l

  -- a fault at some that come after others, in all
  pub gathered_stopped : (a b : Tables) (u v : C) (ys zs rest all : List Y) (e : GroundFault) → all ≡ ys ++ (zs ++ rest) → AllGathered a b u v ys → Overflows b (of_each of zs) e → Overflows a (of_each of all) e
  gathered_stopped a b u v ys zs rest all e is l h =
      subst (λ m. Overflows a m e) (sym (ap (of_each of) is ∙ of_each-append of ys (zs ++ rest)))
      (overflows_then a b (of_each of ys) (of_each of (zs ++ rest)) e l.notes
      (subst (λ m. Overflows b m e) (sym (of_each-append of zs rest)) (overflows_first b (of_each of zs) (of_each of rest) e h)))

-- A loop stops at a fault, where what is lowered may be told in other words.
module _ {C X Y : Type 0} (shows : Tables → C → List Y → Type 0) (of : Y → Mentions) (xs : List X) (i : ℕ) (x : X) (lt : i < length xs) (item : x ≡ get_or xs i x) (all : List Y) (a b c : Tables) (u v w : C) (r : Result (Unit {0}) GroundFault) (e : GroundFault) (err : IsErrAnd r (λ f. f ≡ e)) where
  pub loop_stopped : (f : X → List Y) (ys : List Y) → ys ≡ f x → all ≡ flat_map f xs → AllGathered shows of a b u v (flat_map f (take i xs)) → Overflows b (of_each of ys) e → Gathers shows a r c u w all (of_each of all)
  loop_stopped f ys p is l h =
      gathers_failed shows a c u w all (of_each of all) r e err
      (gathered_stopped shows of a b u v (flat_map f (take i xs)) (f x) (flat_map f (drop (i + 1) xs)) all e (is ∙ whole f xs i x lt item) l
      (subst (λ zs. Overflows b (of_each of zs) e) p h))

-- one more in a list
module _ {C Y : Type 0} (named : Tables → C → Y) where
  pub one_gathered : (a b : Tables) (u v : Vec C Global) (x : C) (y : Y) (m : Mentions) → v.items ≡ u.items ++ x ∷ [] → IsLowered named a b x y m → IsGathered (list_shows named) a b u v (y ∷ []) m
  one_gathered a b u v x y m items l = record {
    notes = l.notes;
    shown = λ later xs e h. ap (map (named later)) items ∙ map-append (named later) u.items (x ∷ []) ∙ ap (λ ys. ys ++ named later x ∷ []) h ∙ ap (λ z. xs ++ z ∷ []) (l.says later e);
  }

  pub one_more : (of : Y → Mentions) (a b : Tables) (u v : Vec C Global) (x : C) (ys : List Y) (y : Y) → ys ≡ y ∷ [] → v.items ≡ u.items ++ x ∷ [] → IsLowered named a b x y (of y) → AllGathered (list_shows named) of a b u v ys
  one_more of a b u v x ys y is items l =
      gathered_same (list_shows named) ys (of_each of ys) (sym is) (sym (ap (of_each of) is ∙ of_each_one of y))
      (one_gathered a b u v x y (of y) items l)

-- what doesn't stand at its specifier
pub unspecified : {Y : Type 0} (b : Bool) (xs : List Y) → b ≡ false → (if b then xs else []) ≡ []
unspecified b xs h = ap (λ v. if v then xs else []) h
