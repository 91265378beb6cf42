-- Bounds of a setting that come into force one after another, in any order.
use Rattle.std.proofs.Common.{◌≡◌, ◌≢◌, ◌⊎◌, ℕ, ◌<◌, inl, inr, false, T, List, [], ◌∷◌, ◌++◌, map, get_or, replicate, Option, Some, None, refl, sym, ap, subst, ◌∙◌, arith}
use Rattle.std.proofs.lemmas.List.{length-replicate}
use Rattle.std.proofs.lemmas.Grind.{common_steps}
use Rattle.std.proofs.lemmas.Bool.{cases_eq}
use Rattle.std.specs.Ordering.{nat_cmp, eq_by_cmp, is_lt}
use Rattle.std.specs.Cmp.{nat_cmp_total}
use Rattle.std.specs.Borrow.{Bor}
use Rattle.std.specs.Iterator.{Yields}
use Rattle.std.specs.Map.Iter.{TakesFirst, deref_pair}
use Rattle.std.proofs.lemmas.Map.Iter.{rest_more, rest_so_far}
use Rattle.std.specs.FinMap.{FinMap, get, get-empty, insert, same_map, entries, entries_sorted, get-entries, find, is_sorted, nat_cmp-IsAntisymmetric}
use Rattle.std.specs.FinMap.Entries.{below_all}
use Rattle.tp_bounds.specs.declared.Point.{Point}
use Rattle.tp_bounds.specs.declared.Point.TheVariants.{Origin, Event}
use Rattle.tp_bounds.specs.declared.Bound.{Bound}
use Rattle.tp_bounds.specs.Setting.{Setting, event_count, HasPoint, IsInRange}
use Rattle.tp_bounds.specs.Lawful.{IsLawful}
use Rattle.tp_bounds.specs.Changes.{fresh, with_bound}
use Rattle.tp_net.proofs.Laws.{get_inserted, get_insert_other}
use Rattle.tp_exec_machine.specs.Partly.{IsPartly, Joins}
use Rattle.tp_agents.specs.declared.fault.SplitFault.{SplitFault}
use Rattle.tp_agents.specs.declared.fault.SplitFault.TheVariants.{Memory, Owner, Conflict}
use Rattle.tp_agents.specs.Splits.{IsUnbegun}
use Rattle.tp_agents.specs.Answers.{IsContradicted}
use Rattle.tp_agents.proofs.InForce.{Among, apart, parts, cond_true, cond_false, itself, from_cond_some, same_key}
use Rattle.tp_agents.proofs.OnSettings.{IsPartOf, contradicts_whole}

-- ---- entries

among_front : {X : Type 0} (x : X) (xs ys : List X) → Among x xs → Among x (xs ++ ys)
among_front x [] ys a = absurd a
among_front x (z ∷ zs) ys (inl same) = inl same
among_front x (z ∷ zs) ys (inr a) = inr (among_front x zs ys a)

among_between : {X : Type 0} (x : X) (xs ys : List X) → Among x (xs ++ x ∷ ys)
among_between x [] ys = inl refl
among_between x (z ∷ zs) ys = inr (among_between x zs ys)

pair_is : (e : ℕ × Bound) (id : ℕ) (b : Bound) → e.0 ≡ id → e.1 ≡ b → e ≡ (id, b)
pair_is e id b p q = ap (λ (n : ℕ). (n, e.1)) p ∙ ap (λ (c : Bound). (id, c)) q

-- a key that is found is that of an entry
found_entry : (es : List (ℕ × Bound)) (id : ℕ) (b : Bound) → find nat_cmp id es ≡ Some b → Among (id, b) es
found_entry [] id b h = absurd (let f : ⊥ = cc in f)
found_entry (e ∷ es) id b h =
    elim (from_cond_some (eq_by_cmp nat_cmp id e.0) e.1 b (find nat_cmp id es) h) [
      | inl p ↦ inl (pair_is e id b (sym (same_key id e.0 p.0)) p.1)
      | inr p ↦ inr (found_entry es id b p)
    ]

record Found (es : List (ℕ × Bound)) (p : ℕ × Bound) : Type 0 where
  there : find nat_cmp p.0 es ≡ Some p.1
  behind : (x : ℕ) → T (below_all nat_cmp x es) → eq_by_cmp nat_cmp p.0 x ≡ false

entry_found : (es : List (ℕ × Bound)) → T (is_sorted nat_cmp es) → (p : ℕ × Bound) → Among p es → Found es p
entry_found [] s p h = absurd h
entry_found (e ∷ es) s p (inl same) =
    subst (Found (e ∷ es)) same (record {
      there = cond_true (eq_by_cmp nat_cmp e.0 e.0) (Some e.1) (find nat_cmp e.0 es) (itself e.0);
      behind = λ x h. apart x e.0 (parts (is_lt (nat_cmp x e.0)) (below_all nat_cmp x es) h).0;
    })
entry_found (e ∷ es) s p (inr h) =
    let q = parts (below_all nat_cmp e.0 es) (is_sorted nat_cmp es) s in
    let f = entry_found es q.1 p h in
    record {
      there = cond_false (eq_by_cmp nat_cmp p.0 e.0) (Some e.1) (find nat_cmp p.0 es) (f.behind e.0 q.0) ∙ f.there;
      behind = λ x k. f.behind x (parts (is_lt (nat_cmp x e.0)) (below_all nat_cmp x es) k).1;
    }

-- an entry's bound is in force under its key
pub entry_get : (m : FinMap nat_cmp Bound) (p : ℕ × Bound) → Among p (entries m) → get m p.0 ≡ Some p.1
entry_get m p a = get-entries m p.0 ∙ (entry_found (entries m) (entries_sorted m) p a).there

-- the entries that a loop over a map has before it, and those behind
pub ahead_is : (bounds : FinMap nat_cmp Bound) (es : List (ℕ × Bound)) (xs : List (Bor ℕ × Bor Bound)) (s t u : List (ℕ × Bound)) (r : Option (Bor ℕ × Bor Bound)) (x : Bor ℕ × Bor Bound) → entries bounds ≡ es → s ≡ es → Yields (TakesFirst deref_pair) s xs t → r ≡ Some x → TakesFirst deref_pair t r u → entries bounds ≡ map deref_pair xs ++ deref_pair x ∷ u
ahead_is bounds es xs s t u r x same start y is step =
    same ∙ (sym start ∙ (rest_so_far deref_pair xs s t y ∙ ap (λ (l : List (ℕ × Bound)). map deref_pair xs ++ l) (rest_more deref_pair t u r x is step)))

none_behind : {X : Type 0} (ys : List X) → ys ++ [] ≡ ys
none_behind [] = refl
none_behind (y ∷ ys) = ap (λ l. y ∷ l) (none_behind ys)

-- the entries of which a loop over a map has none behind it
pub all_are : (bounds : FinMap nat_cmp Bound) (es : List (ℕ × Bound)) (xs : List (Bor ℕ × Bor Bound)) (s t : List (ℕ × Bound)) → entries bounds ≡ es → s ≡ es → Yields (TakesFirst deref_pair) s xs t → t ≡ [] → entries bounds ≡ map deref_pair xs
all_are bounds es xs s t same start y none =
    same ∙ (sym start ∙ (rest_so_far deref_pair xs s t y ∙ (ap (λ (l : List (ℕ × Bound)). map deref_pair xs ++ l) none ∙ none_behind (map deref_pair xs))))

-- ---- a network of the first entries

has_point_as : (r s : Setting) → event_count r ≡ event_count s → (p : Point) → HasPoint s p → HasPoint r p
has_point_as r s same Origin h = tt
has_point_as r s same (Event e) h = subst (λ n. e < n) (sym same) h

none_fixed : (n e : ℕ) → get_or (replicate {A = Option ℕ} n None) e None ≡ None
none_fixed n e = grind (arith, common_steps)

fresh_count : (n horizon : ℕ) → event_count (fresh n horizon) ≡ n
fresh_count n horizon = length-replicate n None

pub unbegun_fresh : (n horizon : ℕ) (m : FinMap nat_cmp Bound) → IsUnbegun (record (fresh n horizon) { bounds = m })
unbegun_fresh n horizon m = record { start = refl; no_past = none_fixed n; asks_nothing = refl }

pub none_fresh : (n horizon q : ℕ) → get (fresh n horizon).bounds q ≡ None
none_fresh n horizon q = get-empty nat_cmp q

-- ---- some of a setting's bounds are in force

module _ (s r : Setting) (part : IsPartly (fresh (event_count s) s.horizon) r (get s.bounds)) (id : ℕ) (b : Bound) (there : get s.bounds id ≡ Some b) where
  same_count : event_count r ≡ event_count s
  same_count = ap event_count part.others ∙ fresh_count (event_count s) s.horizon

  pub next_from : IsLawful s → HasPoint r b.from
  next_from lawful = has_point_as r s same_count b.from (lawful.in_force id b there).from

  pub next_to : IsLawful s → HasPoint r b.to
  next_to lawful = has_point_as r s same_count b.to (lawful.in_force id b there).to

  pub next_weight : IsLawful s → IsInRange b.w
  next_weight lawful = (lawful.in_force id b there).weight

  next_is : with_bound r id b ≡ record (fresh (event_count s) s.horizon) { bounds = insert r.bounds id b }
  next_is = ap (λ (q : Setting). with_bound q id b) part.others

  held_next : (q : ℕ) (c : Bound) → get (insert r.bounds id b) q ≡ Some c → get s.bounds q ≡ Some c
  held_next q c g =
      elim (cases_eq q id) [
        | inl same ↦ ap (get s.bounds) same ∙ (there ∙ (sym (get_inserted r.bounds id b) ∙ (ap (get (insert r.bounds id b)) (sym same) ∙ g)))
        | inr ne ↦ part.each q c (sym (get_insert_other r.bounds id q b ne) ∙ g)
      ]

  next_part : IsUnbegun s → IsPartOf (with_bound r id b) s
  next_part unbegun =
      subst (λ q. IsPartOf q s) (sym next_is) (record {
        one = unbegun_fresh (event_count s) s.horizon (insert r.bounds id b);
        other = unbegun;
        count = fresh_count (event_count s) s.horizon;
        until = refl;
        held = held_next;
      })

  -- what contradicts the bounds up to the next contradicts them all
  pub next_contradicted : IsUnbegun s → (f : SplitFault) → IsContradicted (with_bound r id b) f → IsContradicted s f
  next_contradicted unbegun Memory h = tt
  next_contradicted unbegun (Owner e) h = absurd h
  next_contradicted unbegun (Conflict reason) h = contradicts_whole (with_bound r id b) s (next_part unbegun) reason.edges.items h

-- where there is none, nothing comes into force
pub joins_none : (r : Setting) (of : ℕ → Option Bound) (q : ℕ) → of q ≡ None → Joins r r of q
joins_none r of q none = record { others = refl; each = λ p b g. inl g; stays = λ p h. h; there = λ some. absurd (some none) }

-- ---- all of them

abbrev pub AreThere : Setting → List (ℕ × Bound) → Type 0
AreThere r es = (p : ℕ × Bound) → Among p es → get r.bounds p.0 ≢ None

among_pushed : {X : Type 0} (x z : X) (xs : List X) → Among x (xs ++ z ∷ []) → Among x xs ⊎ (z ≡ x)
among_pushed x z [] (inl same) = inr same
among_pushed x z [] (inr h) = absurd h
among_pushed x z (y ∷ ys) (inl same) = inl (inl same)
among_pushed x z (y ∷ ys) (inr a) = elim (among_pushed x z ys a) [ inl h ↦ inl (inr h) | inr same ↦ inr same ]

pub more_there : (s r t : Setting) (ys rest : List (ℕ × Bound)) (p : ℕ × Bound) → entries s.bounds ≡ ys ++ p ∷ rest → AreThere r ys → Joins r t (get s.bounds) p.0 → AreThere t (ys ++ p ∷ [])
more_there s r t ys rest p all h j q a =
    elim (among_pushed q p ys a) [
      | inl before ↦ j.stays q.0 (h q before)
      | inr same ↦
          let in_force : get s.bounds p.0 ≡ Some p.1 = entry_get s.bounds p (subst (Among p) (sym all) (among_between p ys rest)) in
          subst (λ (z : ℕ × Bound). get t.bounds z.0 ≢ None) same (j.there (λ none. let f : Some p.1 ≡ None = sym in_force ∙ none in (let g : ⊥ = cc in g)))
    ]

module _ (s r : Setting) (es : List (ℕ × Bound)) (part : IsPartly (fresh (event_count s) s.horizon) r (get s.bounds)) (all : entries s.bounds ≡ es) (there : AreThere r es) where
  in_both : (q : ℕ) (o u : Option Bound) → get r.bounds q ≡ o → get s.bounds q ≡ u → get r.bounds q ≡ get s.bounds q
  in_both q (Some b) u is other = is ∙ sym (part.each q b is)
  in_both q None None is other = is ∙ sym other
  in_both q None (Some c) is other =
      let found : find nat_cmp q (entries s.bounds) ≡ Some c = sym (get-entries s.bounds q) ∙ other in
      absurd (there (q, c) (subst (Among (q, c)) all (found_entry (entries s.bounds) q c found)) is)

  pub all_of : r ≡ record (fresh (event_count s) s.horizon) { bounds = s.bounds }
  all_of =
      part.others
      ∙ ap (λ (m : FinMap nat_cmp Bound). record (fresh (event_count s) s.horizon) { bounds = m }) (same_map nat_cmp_total nat_cmp-IsAntisymmetric r.bounds s.bounds (λ q. in_both q (get r.bounds q) (get s.bounds q) refl refl))

-- a setting with the bounds of another, in which nothing has happened either
pub part_of_same : (s r : Setting) → IsUnbegun s → r ≡ record (fresh (event_count s) s.horizon) { bounds = s.bounds } → IsPartOf r s
part_of_same s r unbegun is =
    subst (λ q. IsPartOf q s) (sym is) (record {
      one = unbegun_fresh (event_count s) s.horizon s.bounds;
      other = unbegun;
      count = fresh_count (event_count s) s.horizon;
      until = refl;
      held = λ id b g. g;
    })

pub same_part_of : (s r : Setting) → IsUnbegun s → r ≡ record (fresh (event_count s) s.horizon) { bounds = s.bounds } → IsPartOf s r
same_part_of s r unbegun is =
    subst (λ q. IsPartOf s q) (sym is) (record {
      one = unbegun;
      other = unbegun_fresh (event_count s) s.horizon s.bounds;
      count = sym (fresh_count (event_count s) s.horizon);
      until = refl;
      held = λ id b g. g;
    })
