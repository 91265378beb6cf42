-- How many edges touch an event, as bounds come and go.
use Rattle.std.proofs.Common.{◌≡◌, ℕ, suc, ◌+◌, ◌<◌, inl, inr, cond, List, [], ◌∷◌, length, map, refl, sym, ◌∙◌, ap, arith}
use Rattle.std.specs.Prelude.{Option, Some, None, is_some}
use Rattle.std.specs.List.{sum_by}
use Rattle.std.specs.declared.cmp.Ordering.TheVariants.{Less, Equal, Greater}
use Rattle.std.specs.Ordering.{nat_cmp, is_eq}
use Rattle.std.specs.Cmp.{nat_cmp_total}
use Rattle.std.specs.FinMap.Entries.{by_order}
use Rattle.std.specs.FinMap.{FinMap, get, insert, remove, len, entries, find, put, entries-insert, get-entries, len-entries, len-empty, len-insert, same_map, nat_cmp-IsAntisymmetric}
use Rattle.std.proofs.lemmas.List.Sums.{sum_by-cons}
use Rattle.std.proofs.lemmas.Option.{none-some}
use Rattle.tp_bounds.specs.declared.Bound.{Bound}
use Rattle.tp_bounds.specs.Setting.{Setting, event_count}
use Rattle.tp_bounds.specs.Changes.{with_bound, without_bound}
use Rattle.tp_net.specs.Arcs.{arc_of}
use Rattle.tp_net.specs.NewNet.{new_setting}
use Rattle.tp_net.proofs.Spreads.{same_or}
use Rattle.tp_net.proofs.Laws.{get_inserted, get_insert_other}
use Rattle.tp_net.proofs.Removals.{get_remove_other, none_left}
use Rattle.tp_repair_engine.specs.declared.store.Store.{Store}
use Rattle.tp_repair_engine.specs.declared.store.Direction.{Direction}
use Rattle.tp_repair_engine.specs.declared.store.Direction.TheVariants.{Up, Down}
use Rattle.tp_repair_engine.specs.Store.{keys_of, near, one_at}
use Rattle.tp_repair_engine.specs.Costs.{bounds_at, AreCountedEdges, SameDegrees}
use Rattle.tp_repair_engine.specs.Bringing.{IsMore}

pub both_degrees : (old new : Store) → ((y : ℕ) → length (keys_of Up new y) ≡ length (keys_of Up old y)) → ((y : ℕ) → length (keys_of Down new y) ≡ length (keys_of Down old y)) → SameDegrees old new
both_degrees old new up down Up y = up y
both_degrees old new up down Down y = down y

-- ---- a sum over a map's values, as an entry comes or goes

sum_cons : (f : Bound → ℕ) (k : ℕ) (b : Bound) (es : List (ℕ × Bound)) → sum_by f (map (λ (e : ℕ × Bound). e.1) ((k, b) ∷ es)) ≡ f b + sum_by f (map (λ (e : ℕ × Bound). e.1) es)
sum_cons f k b es = sum_by-cons f b (map (λ (e : ℕ × Bound). e.1) es)

sum_put : (f : Bound → ℕ) (k : ℕ) (b : Bound) (es : List (ℕ × Bound)) → find nat_cmp k es ≡ None → sum_by f (map (λ (e : ℕ × Bound). e.1) (put nat_cmp k b es)) ≡ f b + sum_by f (map (λ (e : ℕ × Bound). e.1) es)
sum_put f k b [] none = sum_cons f k b []
sum_put f k b (e ∷ es) none =
    elim (nat_cmp k e.0) as (λ r. cond (is_eq r) (Some e.1) (find nat_cmp k es) ≡ None → sum_by f (map (λ (x : ℕ × Bound). x.1) (by_order r ((k, b) ∷ e ∷ es) ((e.0, b) ∷ es) (e ∷ put nat_cmp k b es))) ≡ f b + sum_by f (map (λ (x : ℕ × Bound). x.1) (e ∷ es))) [
      | Less ↦ λ h. sum_cons f k b (e ∷ es)
      | Equal ↦ λ h. absurd (none-some e.1 (sym h))
      | Greater ↦ λ h.
          (let i = sum_put f k b es h in
          let a = sum_cons f e.0 e.1 (put nat_cmp k b es) in
          let c = sum_cons f e.0 e.1 es in
          omega (arith, i, a, c))
    ] none

pub sum_inserted : (f : Bound → ℕ) (m : FinMap nat_cmp Bound) (k : ℕ) (b : Bound) → get m k ≡ None → sum_by f (map (λ (e : ℕ × Bound). e.1) (entries (insert m k b))) ≡ f b + sum_by f (map (λ (e : ℕ × Bound). e.1) (entries m))
sum_inserted f m k b none = ap (λ es. sum_by f (map (λ (e : ℕ × Bound). e.1) es)) (entries-insert nat_cmp_total m k b) ∙ sum_put f k b (entries m) (sym (get-entries m k) ∙ none)

pub len_inserted : (m : FinMap nat_cmp Bound) (k : ℕ) (b : Bound) → get m k ≡ None → len (insert m k b) ≡ len m + 1
len_inserted m k b none = len-insert nat_cmp_total m k b ∙ ap (λ o. cond (is_some o) (len m) (len m + 1)) none

is_none : {A : Type 0} (o : Option A) → ((x : A) → o ≡ Some x → ⊥) → o ≡ None
is_none None h = refl
is_none (Some x) h = absurd (h x refl)

pub removed_none : (m : FinMap nat_cmp Bound) (k : ℕ) → get (remove m k) k ≡ None
removed_none m k = is_none (get (remove m k) k) (λ b is. none_left m k b is)

-- what is taken out and put back
put_back : (m : FinMap nat_cmp Bound) (k : ℕ) (b : Bound) → get m k ≡ Some b → insert (remove m k) k b ≡ m
put_back m k b is = same_map nat_cmp_total nat_cmp-IsAntisymmetric _ _ (λ q.
    (elim (same_or q k) [
      | inl same ↦ ap (get (insert (remove m k) k b)) same ∙ (get_inserted (remove m k) k b ∙ (sym is ∙ ap (get m) (sym same)))
      | inr ne ↦ get_insert_other (remove m k) k q b ne ∙ get_remove_other m k q ne
    ]))

pub sum_removed : (f : Bound → ℕ) (m : FinMap nat_cmp Bound) (k : ℕ) (b : Bound) → get m k ≡ Some b → sum_by f (map (λ (e : ℕ × Bound). e.1) (entries m)) ≡ f b + sum_by f (map (λ (e : ℕ × Bound). e.1) (entries (remove m k)))
sum_removed f m k b is = ap (λ n. sum_by f (map (λ (e : ℕ × Bound). e.1) (entries n))) (sym (put_back m k b is)) ∙ sum_inserted f (remove m k) k b (removed_none m k)

pub len_removed : (m : FinMap nat_cmp Bound) (k : ℕ) (b : Bound) → get m k ≡ Some b → len m ≡ len (remove m k) + 1
len_removed m k b is = ap len (sym (put_back m k b is)) ∙ len_inserted (remove m k) k b (removed_none m k)

-- ---- the edges of a setting

no_entries : (es : List (ℕ × Bound)) → length es ≡ 0 → es ≡ []
no_entries [] h = refl
no_entries (e ∷ es) h = absurd (omega (arith, h))

pub counted_new : (events horizon : ℕ) (g : Store) → ((d : Direction) (e : ℕ) → e < event_count (new_setting events horizon) → length (keys_of d g (suc e)) ≡ 1) → AreCountedEdges (new_setting events horizon) 0 g
counted_new events horizon g one =
    let none : entries (new_setting events horizon).bounds ≡ [] = no_entries _ (sym (len-entries (new_setting events horizon).bounds) ∙ len-empty nat_cmp Bound) in
    record {
      many = len-empty nat_cmp Bound;
      each = λ d e lt. one d e lt ∙ sym (ap (λ es. suc (bounds_at d (suc e) es)) none);
    }

pub counted_same : (s s' : Setting) (count : ℕ) (g g' : Store) → s'.bounds ≡ s.bounds → event_count s' ≡ event_count s → SameDegrees g g' → AreCountedEdges s count g → AreCountedEdges s' count g'
counted_same s s' count g g' bounds events same c = record {
  many = ap len bounds ∙ c.many;
  each = λ d e lt. same d (suc e) ∙ (c.each d e (omega (arith, lt, events)) ∙ sym (ap (λ (m : FinMap nat_cmp Bound). suc (bounds_at d (suc e) (entries m))) bounds));
}

pub counted_brought : (s : Setting) (count count' id : ℕ) (b : Bound) (g g' : Store) → get s.bounds id ≡ None → count' ≡ count + 1 → IsMore (arc_of b) g g' → AreCountedEdges s count g → AreCountedEdges (with_bound s id b) count' g'
counted_brought s count count' id b g g' none more_is more c = record {
  many = (let l = len_inserted s.bounds id b none in let m = c.many in omega (arith, l, m, more_is));
  each = λ d e lt.
      (let l = sum_inserted (λ x. one_at (near d (arc_of x)) (suc e)) s.bounds id b none in
      let m = more d (suc e) in
      let o = c.each d e lt in
      omega (arith, l, m, o));
}

pub counted_left : (s : Setting) (count id : ℕ) (b : Bound) (g g' : Store) → get s.bounds id ≡ Some b → ((d : Direction) (y : ℕ) → length (keys_of d g' y) + one_at (near d (arc_of b)) y ≡ length (keys_of d g y)) → AreCountedEdges s (count + 1) g → AreCountedEdges (without_bound s id) count g'
counted_left s count id b g g' is fewer c = record {
  many = (let l = len_removed s.bounds id b is in let m = c.many in omega (arith, l, m));
  each = λ d e lt.
      (let l = sum_removed (λ x. one_at (near d (arc_of x)) (suc e)) s.bounds id b is in
      let m = fewer d (suc e) in
      let o = c.each d e lt in
      omega (arith, l, m, o));
}
