-- What holds of a network that is repaired holds of the plain one, and after each change.
use Rattle.std.proofs.Common.{◌≡◌, ◌≢◌, ℕ, ◌+◌, ◌*◌, ◌<◌, ◌≤◌, ◌^◌, inl, inr, zero, suc, get_or, cond, List, length, refl, sym, ◌∙◌, ap, subst, arith}
use Rattle.std.specs.Prelude.{All, Option, Some, None, slice_index_or}
use Rattle.std.specs.Ordering.{nat_cmp}
use Rattle.std.specs.BTreeMap.{BTreeMap, is_at}
use Rattle.std.specs.BTreeMap as tree
use Rattle.std.specs.FinMap.{get}
use Rattle.std.proofs.lemmas.Int.{ints}
use Rattle.std.proofs.lemmas.Option.{none-some}
use Rattle.tp_bounds.specs.declared.Bound.{Bound}
use Rattle.tp_bounds.specs.declared.BoundId.{BoundId}
use Rattle.tp_bounds.specs.declared.Edge.{Edge}
use Rattle.tp_bounds.specs.declared.Edge.TheVariants.{Own, New, PastHigh, PastLow, Now, End}
use Rattle.tp_bounds.specs.Setting.{Setting, event_count, HasPoint, IsInRange}
use Rattle.tp_bounds.specs.Changes.{with_bound, with_lag}
use Rattle.tp_net.proofs.Lags.{same_edge, fit_lagged}
use Rattle.tp_bounds.specs.Reasons.{bound_of}
use Rattle.tp_net.specs.declared.slacks.Arc.{Arc}
use Rattle.tp_net.specs.Sizes.{IsSmall, IsSmallWeight}
use Rattle.tp_net.specs.Slacks.{JoinsPoints}
use Rattle.tp_net.specs.Arcs.{arc_of}
use Rattle.tp_net.specs.Kept.{IsKept}
use Rattle.tp_net.specs.Moments.{HoldsLeast}
use Rattle.tp_net.proofs.Spreads.{same_or}
use Rattle.tp_net.proofs.Laws.{get_inserted, get_insert_other, key_itself, other_key}
use Rattle.tp_net.proofs.KeptMoments.{kept_low_fits, kept_high_fits, kept_small_low, kept_small_high, kept_weights, kept_among, fit_added, still_there, own_or}
use Rattle.tp_repair_engine.specs.declared.store.Node.{Node}
use Rattle.tp_repair_engine.specs.declared.engine.Engine.{Engine}
use Rattle.tp_repair_engine.specs.Store.{arcs_of, names_of, kept_arcs}
use Rattle.tp_repair_engine.specs.Kept.{IsUnder, AreNodes}
use Rattle.tp_repair_engine.specs.Engine.{IsWired, IsSolved, AreSame, IsEntered, IsRepaired}
use Rattle.tp_repair_engine.specs.Bringing.{IsUnbrought, IsBroughtIn}
use Rattle.tp_repair_engine.proofs.Nodes.{nodes_listed, exact_kept, all_arcs, exact_alike}
use Rattle.tp_repair_engine.proofs.Wires.{entered_node, same_there, same_back}
use Rattle.tp_repair_engine.proofs.Degrees.{counted_brought, counted_same}

module _ (s : Setting) (count : ℕ) (keys : BTreeMap ℕ ℕ) (floors ends : List ℕ) (g : Engine) (r : IsRepaired s count keys floors ends g) where
  pub kept : IsKept s (names_of g.store.nodes.slots) (kept_arcs g.store.nodes.slots) g.low.items g.high.items
  kept = record {
    fit = r.fit;
    listed = nodes_listed s keys floors ends g.store.nodes.slots r.nodes;
    exact = exact_kept g.store.nodes.slots g.low.items g.high.items r.exact;
    points = r.wired.low_len;
  }

  pub small_low : All IsSmall g.low.items
  small_low = kept_small_low s (names_of g.store.nodes.slots) (kept_arcs g.store.nodes.slots) g.low.items g.high.items kept

  pub small_high : All IsSmall g.high.items
  small_high = kept_small_high s (names_of g.store.nodes.slots) (kept_arcs g.store.nodes.slots) g.low.items g.high.items kept

  pub weights : All (λ (e : Arc). IsSmallWeight e.weight) (arcs_of g.store.nodes.slots)
  weights = all_arcs (λ (e : Arc). IsSmallWeight e.weight) g.store.nodes.slots (omega (arith, ints), omega (arith, ints))
      (kept_weights s (names_of g.store.nodes.slots) (kept_arcs g.store.nodes.slots) g.low.items g.high.items kept)

  pub among : All (JoinsPoints (length g.low.items)) (arcs_of g.store.nodes.slots)
  among = let len = r.wired.low_len in
      all_arcs (JoinsPoints (length g.low.items)) g.store.nodes.slots (omega (arith, len), omega (arith, len))
      (kept_among s (names_of g.store.nodes.slots) (kept_arcs g.store.nodes.slots) g.low.items g.high.items kept)

  pub holds_least : HoldsLeast (arcs_of g.store.nodes.slots) g.low.items
  holds_least = record { origin = (let len = r.wired.low_len in omega (arith, len)); small = small_low; weights = weights; among = among; least = r.exact.least }

  pub wired_here : IsWired (length g.low.items) (count + 2 * event_count s) g
  wired_here = subst (λ p. IsWired p (count + 2 * event_count s) g) (sym r.wired.low_len) r.wired

  pub low_fits : (x : ℕ) → x < length g.low.items → get_or g.low.items x 0 < 2 ^ 32
  low_fits zero within = let o = r.exact.least.solution.0 in omega (arith, ints, o)
  low_fits (suc e) within = kept_low_fits s (names_of g.store.nodes.slots) (kept_arcs g.store.nodes.slots) g.low.items g.high.items kept e (let p = r.wired.low_len in omega (arith, within, p))

  pub high_fits : (x : ℕ) → x < length g.high.items → get_or g.high.items x 0 < 2 ^ 32
  high_fits zero within = let o = r.exact.greatest.solution.0 in omega (arith, ints, o)
  high_fits (suc e) within = kept_high_fits s (names_of g.store.nodes.slots) (kept_arcs g.store.nodes.slots) g.low.items g.high.items kept e (let p = r.wired.high_len in omega (arith, within, p))

  pub solved : IsSolved g
  solved = record { edges = count + 2 * event_count s; wired = wired_here; exact = r.exact; holds = holds_least; low_fits = low_fits; high_fits = high_fits }

-- ---- where each edge has its key

pub under_kept : (keys keys' : BTreeMap ℕ ℕ) (floors ends : List ℕ) (k : ℕ) (e : Edge) → ((j : BoundId) → e ≡ Own j → tree.get nat_cmp keys' j.0 ≡ tree.get nat_cmp keys j.0) → IsUnder keys floors ends e k → IsUnder keys' floors ends e k
under_kept keys keys' floors ends k (Own id) same h = same id refl ∙ h
under_kept keys keys' floors ends k New same h = h
under_kept keys keys' floors ends k (PastHigh e) same h = h
under_kept keys keys' floors ends k (PastLow e) same h = h
under_kept keys keys' floors ends k (Now e) same h = h
under_kept keys keys' floors ends k (End e) same h = h

pub nodes_same : (s : Setting) (keys keys' : BTreeMap ℕ ℕ) (floors ends : List ℕ) (old new : List (Option Node)) → AreNodes s keys floors ends old → AreSame old new → ((q : ℕ) → tree.get nat_cmp keys' q ≡ tree.get nat_cmp keys q)
    → AreNodes s keys' floors ends new
nodes_same s keys keys' floors ends old new a same finds = record {
  exist = λ k m is. (let h = same.back k m is in let x = a.exist k h.0 h.1 in (x.0, ap (bound_of s) h.2 ∙ x.1, h.3 ∙ x.2));
  all = λ e b is. (let x = a.all e b is in let h = same.forth x.0 x.1 x.2 in (x.0, h.0, h.1, h.2 ∙ x.3));
  under = λ k m is. (let h = same.back k m is in subst (λ e. IsUnder keys' floors ends e k) (sym h.2) (under_kept keys keys' floors ends k h.0.name (λ j _. finds j.0) (a.under k h.0 h.1)));
}

is_here : (k : ℕ) (o : Option ℕ) (id : ℕ) → cond (is_at (nat_cmp id) id) (Some k) o ≡ Some k
is_here k o id = ap (λ t. cond t (Some k) o) (key_itself id)

is_other : (x o : Option ℕ) (id q : ℕ) → id ≢ q → cond (is_at (nat_cmp id) q) x o ≡ o
is_other x o id q ne = ap (λ t. cond t x o) (other_key id q ne)

module _ (s : Setting) (keys keys' : BTreeMap ℕ ℕ) (floors ends : List ℕ) (old new : List (Option Node)) (id : BoundId) (b : Bound) (key : ℕ)
    (a : AreNodes s keys floors ends old)
    (none : get s.bounds id.0 ≡ None)
    (e : IsEntered (Own id) (arc_of b) key old new)
    (finds : (q : ℕ) → tree.get nat_cmp keys' q ≡ cond (is_at (nat_cmp id.0) q) (Some key) (tree.get nat_cmp keys q))
  where
    m : (n : Node) × (slice_index_or new key None ≡ Some n) × (n.name ≡ Own id) × (n.arc ≡ arc_of b)
    m = entered_node (Own id) (arc_of b) key old new e

    is_new : (k : ℕ) (n : Node) → k ≡ key → slice_index_or new k None ≡ Some n → n ≡ m.0
    is_new k n same is = let here : Some n ≡ Some m.0 = sym is ∙ (ap (λ j. slice_index_or new j None) same ∙ m.1) in let n_is : n ≡ m.0 = cc in n_is

    was : (k : ℕ) (n : Node) → k ≢ key → slice_index_or new k None ≡ Some n → slice_index_or old k None ≡ Some n
    was k n ne is = sym (e.others k ne) ∙ is

    apart : (k : ℕ) (n : Node) → slice_index_or old k None ≡ Some n → (j : BoundId) → n.name ≡ Own j → id.0 ≢ j.0
    apart k n is j named same =
        let x = a.exist k n is in
        let there : get s.bounds j.0 ≡ Some x.0 = ap (bound_of s) (sym named) ∙ x.1 in
        none-some x.0 (sym none ∙ (ap (get s.bounds) same ∙ there))

    pub nodes_entered : AreNodes (with_bound s id.0 b) keys' floors ends new
    nodes_entered = record {
      exist = λ k n is.
          (elim (same_or k key) [
            | inl same ↦
                (let n_is = is_new k n same is in
                (b, ap (bound_of (with_bound s id.0 b)) (ap (λ (x : Node). x.name) n_is ∙ m.2) ∙ get_inserted s.bounds id.0 b, ap (λ (x : Node). x.arc) n_is ∙ m.3))
            | inr ne ↦ (let x = a.exist k n (was k n ne is) in (x.0, still_there s id.0 b x.0 n.name none x.1, x.2))
          ]);
      all = λ f c is.
          (elim (own_or s id b f) [
            | inl own ↦ (key, m.0, m.1, m.2 ∙ sym own)
            | inr stays ↦
                (let x = a.all f c (stays c is) in
                let ne : x.0 ≢ key = λ same. none-some x.1 (sym e.free ∙ (ap (λ j. slice_index_or old j None) (sym same) ∙ x.2)) in
                (x.0, x.1, e.others x.0 ne ∙ x.2, x.3))
          ]);
      under = λ k n is.
          (elim (same_or k key) [
            | inl same ↦
                (let n_is = is_new k n same is in
                subst (λ f. IsUnder keys' floors ends f k) (sym (ap (λ (x : Node). x.name) n_is ∙ m.2))
                (finds id.0 ∙ (is_here key (tree.get nat_cmp keys id.0) id.0 ∙ ap Some (sym same))))
            | inr ne ↦ under_kept keys keys' floors ends k n.name
                (λ j named. finds j.0 ∙ is_other (Some key) (tree.get nat_cmp keys j.0) id.0 j.0 (apart k n (was k n ne is) j named))
                (a.under k n (was k n ne is))
          ]);
    }

-- ---- a bound comes

pub repaired_brought : (s : Setting) (count : ℕ) (keys keys' : BTreeMap ℕ ℕ) (floors ends : List ℕ) (g g' : Engine) (id : BoundId) (b : Bound) (bounds bounds' : BTreeMap ℕ Bound)
    → IsRepaired s count keys floors ends g → get s.bounds id.0 ≡ None → HasPoint s b.from → HasPoint s b.to → IsInRange b.w
    → IsBroughtIn id b g g' bounds bounds' keys keys' → count ≡ length bounds.entries → count < 2 ^ 32 → id.0 < 2 ^ 32
    → IsRepaired (with_bound s id.0 b) (length bounds'.entries) keys' floors ends g'
repaired_brought s count keys keys' floors ends g g' id b bounds bounds' r none from to weight i is few word =
    let more : (count + 2 * event_count s) + 1 ≡ length bounds'.entries + 2 * event_count s = (let l = i.recorded.len in omega (arith, is, l)) in
    let wired = i.wired (count + 2 * event_count s) (wired_here s count keys floors ends g r) (let n = r.fit.events in omega (arith, few, n)) in
    record {
      fit = fit_added s id.0 b r.fit from to weight;
      nodes = nodes_entered s keys keys' floors ends g.store.nodes.slots g'.store.nodes.slots id b i.key r.nodes none i.entered i.recorded.finds;
      exact = i.exact;
      wired = subst (λ p. IsWired p (length bounds'.entries + 2 * event_count s) g') r.wired.low_len (subst (λ n. IsWired (length g.low.items) n g') more wired);
      few = (let l = i.recorded.len in omega (arith, is, l, few));
      ids = λ q some.
          (elim (same_or q id.0) [
            | inl same ↦ omega (arith, same, word)
            | inr ne ↦ r.ids q (λ none_q. some (get_insert_other s.bounds id.0 q b ne ∙ none_q))
          ]);
      spare = λ q free.
          (elim (same_or q id.0) [
            | inl same ↦ absurd (none-some b (sym free ∙ (ap (get (with_bound s id.0 b).bounds) same ∙ get_inserted s.bounds id.0 b)))
            | inr ne ↦ i.recorded.finds q ∙ (is_other (Some i.key) (tree.get nat_cmp keys q) id.0 q (λ e. ne (sym e)) ∙ r.spare q (sym (get_insert_other s.bounds id.0 q b ne) ∙ free))
          ]);
      floors_len = r.floors_len;
      ends_len = r.ends_len;
      counted = counted_brought s count (length bounds'.entries) id.0 b g.store g'.store none (let l = i.recorded.len in omega (arith, is, l)) i.more r.counted;
    }

-- ---- nothing changed

pub repaired_unbrought : (s : Setting) (count : ℕ) (keys keys' : BTreeMap ℕ ℕ) (floors ends : List ℕ) (g g' : Engine) (bounds bounds' : BTreeMap ℕ Bound)
    → IsRepaired s count keys floors ends g → IsUnbrought g g' bounds bounds' keys keys' → IsRepaired s count keys' floors ends g'
repaired_unbrought s count keys keys' floors ends g g' bounds bounds' r u =
    let exact = exact_alike (arcs_of g.store.nodes.slots) (arcs_of g'.store.nodes.slots) g.low.items g.high.items (same_there g.store.nodes.slots g'.store.nodes.slots u.edges) (same_back g.store.nodes.slots g'.store.nodes.slots u.edges) r.exact in
    record {
      fit = r.fit;
      nodes = nodes_same s keys keys' floors ends g.store.nodes.slots g'.store.nodes.slots r.nodes u.edges u.finds;
      exact = rw (u.low, u.high) exact;
      wired = subst (λ p. IsWired p (count + 2 * event_count s) g') r.wired.low_len (u.wired (count + 2 * event_count s) (wired_here s count keys floors ends g r));
      few = r.few;
      ids = r.ids;
      spare = λ q free. u.finds q ∙ r.spare q free;
      floors_len = r.floors_len;
      ends_len = r.ends_len;
      counted = counted_same s s count g.store g'.store refl refl u.degrees r.counted;
    }

-- ---- a report may come late

pub repaired_lagged : (s : Setting) (e lag count : ℕ) (keys : BTreeMap ℕ ℕ) (floors ends : List ℕ) (g : Engine) → IsRepaired s count keys floors ends g → s.clock ≡ 0 → e < event_count s → lag ≤ 1_000_000_000
    → IsRepaired (with_lag s e lag) count keys floors ends g
repaired_lagged s e lag count keys floors ends g r start lt few = record {
  fit = fit_lagged s e lag r.fit lt few;
  nodes = record {
    exist = λ k n is. (let x = r.nodes.exist k n is in (x.0, same_edge s e lag n.name start ∙ x.1, x.2));
    all = λ f b is. r.nodes.all f b (sym (same_edge s e lag f start) ∙ is);
    under = r.nodes.under;
  };
  exact = r.exact;
  wired = r.wired;
  few = r.few;
  ids = r.ids;
  spare = r.spare;
  floors_len = r.floors_len;
  ends_len = r.ends_len;
  counted = counted_same s (with_lag s e lag) count g.store g.store refl refl (λ d y. refl) r.counted;
}

-- ---- the count of looks begins anew

abbrev pub with_looks : Engine → ℕ → Engine
with_looks g n = record { store = g.store; low = g.low; high = g.high; up = g.up; down = g.down; looks = n }

pub relooked : (s : Setting) (count : ℕ) (keys : BTreeMap ℕ ℕ) (floors ends : List ℕ) (g : Engine) (n : ℕ) → IsRepaired s count keys floors ends g → IsRepaired s count keys floors ends (with_looks g n)
relooked s count keys floors ends g n r =
    let w = r.wired in
    record {
      fit = r.fit;
      nodes = r.nodes;
      exact = r.exact;
      wired = record {
        some = w.some;
        low_len = w.low_len;
        high_len = w.high_len;
        into_len = w.into_len;
        out_len = w.out_len;
        halves_in = w.halves_in;
        halves_out = w.halves_out;
        up = w.up;
        down = w.down;
        many_up = w.many_up;
        many_down = w.many_down;
        few = w.few;
      };
      few = r.few;
      ids = r.ids;
      spare = r.spare;
      floors_len = r.floors_len;
      ends_len = r.ends_len;
      counted = r.counted;
    }
