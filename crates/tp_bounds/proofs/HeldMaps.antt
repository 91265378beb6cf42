-- A map of bounds as a finite map, and what one holds after a change.
use Rattle.std.proofs.Common.{◌≡◌, ℕ, ◌⊎◌, inl, inr, Bool, true, false, cond, List, [], ◌∷◌, map, IfSome, subst, Option, Some, None, refl, sym, ap, ◌∙◌}
use Rattle.std.specs.declared.cmp.Ordering.{Ordering}
use Rattle.std.specs.declared.cmp.Ordering.TheVariants.{Less, Equal, Greater}
use Rattle.std.specs.Ordering.{nat_cmp, eq_by_cmp, is_eq}
use Rattle.std.specs.Cmp.{nat_cmp_total, eq_by_cmp_equiv}
use Rattle.std.specs.Map.{lookup}
use Rattle.std.specs.BTreeMap.{BTreeMap, is_at}
use Rattle.std.specs.BTreeMap as tree
use Rattle.std.specs.Borrow.{Bor}
use Rattle.std.specs.Iterator.{Yields}
use Rattle.std.specs.Map.Iter.{TakesFirst, deref_pair}
use Rattle.std.specs.List.{All}
use Rattle.std.proofs.lemmas.Map.Iter.{btree_map_turn}
use Rattle.std.proofs.lemmas.Map.Entries.{All-lookup}
use Rattle.std.proofs.lemmas.List.Elements.{All-map}
use Rattle.std.specs.FinMap.{FinMap, find, get, insert, remove, get-insert, get-remove, get-from_entries, same_map, nat_cmp-IsAntisymmetric}
use Rattle.tp_bounds.specs.declared.Bound.{Bound}
use Rattle.tp_bounds.specs.Held.{held}

find_lookup : {X : Type 0} (es : List (ℕ × X)) (id : ℕ) → find nat_cmp id es ≡ lookup (is_at (nat_cmp id)) es
find_lookup [] id = refl
find_lookup (e ∷ es) id = ap (cond (is_at (nat_cmp id) e.0) (Some e.1)) (find_lookup es id)

pub get_held : (m : BTreeMap ℕ Bound) (id : ℕ) → get (held m.entries) id ≡ tree.get nat_cmp m id
get_held m id = get-from_entries nat_cmp_total m.entries id ∙ find_lookup m.entries id

-- the entry at which a loop over the map is
pub item_held : (m : BTreeMap ℕ Bound) (xs : List (Bor ℕ × Bor Bound)) (s t u : List (ℕ × Bound)) (r : Option (Bor ℕ × Bor Bound)) (x : Bor ℕ × Bor Bound) → Yields (TakesFirst deref_pair) s xs t → r ≡ Some x → TakesFirst deref_pair t r u → s ≡ m.entries → tree.IsOrdered nat_cmp m → get (held m.entries) x.0.now ≡ Some x.1.now
item_held m xs s t u r x y is step start ordered =
    get_held m x.0.now ∙ (btree_map_turn deref_pair xs s t u r x y is step nat_cmp_total m start ordered).1

from_if : {A : Type 0} (P : A → Type 0) (o : Option A) (x : A) → o ≡ Some x → IfSome o P → P x
from_if P None x e h = absurd (let f : ⊥ = cc in f)
from_if P (Some y) x e h = subst P (let f : y ≡ x = cc in f) h

-- after the loop, what holds of each entry holds of each bound held
pub each_held : (P : Bound → Type 0) (m : BTreeMap ℕ Bound) (xs : List (Bor ℕ × Bor Bound)) → map deref_pair xs ≡ m.entries → All (λ p. P p.1.now) xs → (id : ℕ) (b : Bound) → get (held m.entries) id ≡ Some b → P b
each_held P m xs all h id b is =
    let entries : All (λ e. P e.1) m.entries = subst (All (λ e. P e.1)) all (All-map (λ e. P e.1) deref_pair xs h) in
    from_if P (lookup (is_at (nat_cmp id)) m.entries) b (sym (find_lookup m.entries id) ∙ (sym (get-from_entries nat_cmp_total m.entries id) ∙ is)) (All-lookup P (is_at (nat_cmp id)) m.entries entries)

-- ---- the map after a change

pub held_inserted : (m n : BTreeMap ℕ Bound) (id : ℕ) (b : Bound) → ((q : ℕ) → tree.get nat_cmp n q ≡ cond (is_at (nat_cmp id) q) (Some b) (tree.get nat_cmp m q)) → held n.entries ≡ insert (held m.entries) id b
held_inserted m n id b h = same_map nat_cmp_total nat_cmp-IsAntisymmetric _ _ (λ q.
    get_held n q ∙ (h q ∙ (ap (λ t. cond t (Some b) (tree.get nat_cmp m q)) ((eq_by_cmp_equiv nat_cmp_total).symm id q)
    ∙ sym (get-insert nat_cmp_total (held m.entries) id b q ∙ ap (cond (eq_by_cmp nat_cmp q id) (Some b)) (get_held m q)))))

pub held_removed : (m n : BTreeMap ℕ Bound) (id : ℕ) → ((q : ℕ) → tree.get nat_cmp n q ≡ cond (is_at (nat_cmp id) q) None (tree.get nat_cmp m q)) → held n.entries ≡ remove (held m.entries) id
held_removed m n id h = same_map nat_cmp_total nat_cmp-IsAntisymmetric _ _ (λ q.
    get_held n q ∙ (h q ∙ (ap (λ t. cond t None (tree.get nat_cmp m q)) ((eq_by_cmp_equiv nat_cmp_total).symm id q)
    ∙ sym (get-remove nat_cmp_total (held m.entries) id q ∙ ap (cond (eq_by_cmp nat_cmp q id) None) (get_held m q)))))

-- ---- what a map holds after a change

equal : (r : Ordering) → is_eq r ≡ true → r ≡ Equal
equal Less h = absurd (let f : ⊥ = cc in f)
equal Equal h = refl
equal Greater h = absurd (let f : ⊥ = cc in f)

pub same_key : (q k : ℕ) → eq_by_cmp nat_cmp q k ≡ true → q ≡ k
same_key q k h = nat_cmp-IsAntisymmetric q k (equal (nat_cmp q k) h)

from_cond_some : {X : Type 0} (b : Bool) (x y : X) (o : Option X) → cond b (Some x) o ≡ Some y → ((b ≡ true) × (x ≡ y)) ⊎ (o ≡ Some y)
from_cond_some true x y o h = inl (refl, cc)
from_cond_some false x y o h = inr h

from_cond_none : {X : Type 0} (b : Bool) (y : X) (o : Option X) → cond b None o ≡ Some y → o ≡ Some y
from_cond_none true y o h = absurd (let f : ⊥ = cc in f)
from_cond_none false y o h = h

-- a bound that is held after another came into force
pub inserted : {X : Type 0} (m : FinMap nat_cmp X) (id q : ℕ) (b c : X) → get (insert m id b) q ≡ Some c → ((q ≡ id) × (b ≡ c)) ⊎ (get m q ≡ Some c)
inserted m id q b c h =
    elim (from_cond_some (eq_by_cmp nat_cmp q id) b c (get m q) (sym (get-insert nat_cmp_total m id b q) ∙ h)) [
      | inl p ↦ inl (same_key q id p.0, p.1)
      | inr p ↦ inr p
    ]

pub removed : {X : Type 0} (m : FinMap nat_cmp X) (id q : ℕ) (c : X) → get (remove m id) q ≡ Some c → get m q ≡ Some c
removed m id q c h = from_cond_none (eq_by_cmp nat_cmp q id) c (get m q) (sym (get-remove nat_cmp_total m id q) ∙ h)
