-- Adds, deletes and writes among changes.
use Rattle.std.proofs.Common.{◌≡◌, ℕ, List, [], ◌∷◌, ◌++◌, Result, Ok, Err, Vec, Global, refl, sym, ap, subst, ◌∙◌, append-nil}
use Rattle.tp_task.specs.Words.{Words}
use Rattle.tp_task.specs.Tables.{Tables}
use Rattle.tp_ground_bodies.specs.Written.{GroundEffect, GroundWrite, adds, deletes, writes, added, deleted, written}
use Rattle.tp_ground_bodies.specs.Mentions.{Mentions, of_simple_effect, of_each}
use Rattle.tp_ground_bodies.specs.Changes.{shows_atoms, shows_writes, shows_changes}
use Rattle.tp_ground_bodies.specs.Gathered.{IsGathered, Gathers}
use Rattle.tp_task.specs.declared.events.NumericEffect.{NumericEffect}
use Rattle.tp_task.specs.declared.fault.GroundFault.{GroundFault}
use Rattle.tp_ground_bodies.specs.declared.changes.Changes.{Changes}
use Rattle.tp_ground_bodies.proofs.OnLowered.{of_each_one}

added-append : (xs ys : List GroundEffect) → added (xs ++ ys) ≡ added xs ++ added ys
added-append [] ys = refl
added-append (adds w ∷ xs) ys = ap (λ zs. w ∷ zs) (added-append xs ys)
added-append (deletes w ∷ xs) ys = added-append xs ys
added-append (writes w ∷ xs) ys = added-append xs ys

deleted-append : (xs ys : List GroundEffect) → deleted (xs ++ ys) ≡ deleted xs ++ deleted ys
deleted-append [] ys = refl
deleted-append (adds w ∷ xs) ys = deleted-append xs ys
deleted-append (deletes w ∷ xs) ys = ap (λ zs. w ∷ zs) (deleted-append xs ys)
deleted-append (writes w ∷ xs) ys = deleted-append xs ys

written-append : (xs ys : List GroundEffect) → written (xs ++ ys) ≡ written xs ++ written ys
written-append [] ys = refl
written-append (adds w ∷ xs) ys = written-append xs ys
written-append (deletes w ∷ xs) ys = written-append xs ys
written-append (writes w ∷ xs) ys = ap (λ zs. w ∷ zs) (written-append xs ys)

-- what is shown of a list that stays as it is, where none of its kind comes behind
same_atoms : (t : Tables) (v : Vec ℕ Global) (ws all : List Words) → all ≡ ws ++ [] → shows_atoms t v ws → shows_atoms t v all
same_atoms t v ws all is h = h ∙ sym (is ∙ append-nil ws)

same_writes : (t : Tables) (v : Vec NumericEffect Global) (ws all : List GroundWrite) → all ≡ ws ++ [] → shows_writes t v ws → shows_writes t v all
same_writes t v ws all is h = h ∙ sym (is ∙ append-nil ws)

-- the mentions of one simple effect
as_each : (o : GroundEffect) (m : Mentions) → m ≡ of_simple_effect o → m ≡ of_each of_simple_effect (o ∷ [])
as_each o m is = is ∙ sym (of_each_one of_simple_effect o)

module _ (a b : Tables) (u v : Changes) where
  pub one_add : (w : Words) → v.deletes ≡ u.deletes → v.writes ≡ u.writes → (r : Result (Unit {0}) GroundFault) → Gathers shows_atoms a r b u.adds v.adds (w ∷ []) (of_simple_effect (adds w)) → Gathers shows_changes a r b u v (adds w ∷ []) (of_each of_simple_effect (adds w ∷ []))
  one_add w ds ws (Ok x) l = subst (λ m. IsGathered shows_changes a b u v (adds w ∷ []) m) (as_each (adds w) (of_simple_effect (adds w)) refl) (record {
    notes = l.notes;
    shown = λ later xs e h. record {
      adds = l.shown later (added xs) e h.adds ∙ sym (added-append xs (adds w ∷ []));
      deletes = subst (λ c. shows_atoms later c (deleted (xs ++ adds w ∷ []))) (sym ds) (same_atoms later u.deletes _ _ (deleted-append xs (adds w ∷ [])) h.deletes);
      writes = subst (λ c. shows_writes later c (written (xs ++ adds w ∷ []))) (sym ws) (same_writes later u.writes _ _ (written-append xs (adds w ∷ [])) h.writes);
    };
  })
  one_add w ds ws (Err e) l = subst (λ m. Gathers shows_changes a (Err e) b u v (adds w ∷ []) m) (as_each (adds w) (of_simple_effect (adds w)) refl) l

  pub one_delete : (w : Words) → v.adds ≡ u.adds → v.writes ≡ u.writes → (r : Result (Unit {0}) GroundFault) → Gathers shows_atoms a r b u.deletes v.deletes (w ∷ []) (of_simple_effect (deletes w)) → Gathers shows_changes a r b u v (deletes w ∷ []) (of_each of_simple_effect (deletes w ∷ []))
  one_delete w ks ws (Ok x) l = subst (λ m. IsGathered shows_changes a b u v (deletes w ∷ []) m) (as_each (deletes w) (of_simple_effect (deletes w)) refl) (record {
    notes = l.notes;
    shown = λ later xs e h. record {
      adds = subst (λ c. shows_atoms later c (added (xs ++ deletes w ∷ []))) (sym ks) (same_atoms later u.adds _ _ (added-append xs (deletes w ∷ [])) h.adds);
      deletes = l.shown later (deleted xs) e h.deletes ∙ sym (deleted-append xs (deletes w ∷ []));
      writes = subst (λ c. shows_writes later c (written (xs ++ deletes w ∷ []))) (sym ws) (same_writes later u.writes _ _ (written-append xs (deletes w ∷ [])) h.writes);
    };
  })
  one_delete w ks ws (Err e) l = subst (λ m. Gathers shows_changes a (Err e) b u v (deletes w ∷ []) m) (as_each (deletes w) (of_simple_effect (deletes w)) refl) l

  pub one_write : (w : GroundWrite) → v.adds ≡ u.adds → v.deletes ≡ u.deletes → (r : Result (Unit {0}) GroundFault) → Gathers shows_writes a r b u.writes v.writes (w ∷ []) (of_simple_effect (writes w)) → Gathers shows_changes a r b u v (writes w ∷ []) (of_each of_simple_effect (writes w ∷ []))
  one_write w ks ds (Ok x) l = subst (λ m. IsGathered shows_changes a b u v (writes w ∷ []) m) (as_each (writes w) (of_simple_effect (writes w)) refl) (record {
    notes = l.notes;
    shown = λ later xs e h. record {
      adds = subst (λ c. shows_atoms later c (added (xs ++ writes w ∷ []))) (sym ks) (same_atoms later u.adds _ _ (added-append xs (writes w ∷ [])) h.adds);
      deletes = subst (λ c. shows_atoms later c (deleted (xs ++ writes w ∷ []))) (sym ds) (same_atoms later u.deletes _ _ (deleted-append xs (writes w ∷ [])) h.deletes);
      writes = l.shown later (written xs) e h.writes ∙ sym (written-append xs (writes w ∷ []));
    };
  })
  one_write w ks ds (Err e) l = subst (λ m. Gathers shows_changes a (Err e) b u v (writes w ∷ []) m) (as_each (writes w) (of_simple_effect (writes w)) refl) l
