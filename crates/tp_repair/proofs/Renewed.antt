-- What holds of a network that is repaired after now was raised, an event was fixed, or a bound
-- left.
use Rattle.std.proofs.Common.{◌≡◌, ◌≢◌, ℕ, zero, suc, ◌+◌, ◌*◌, ◌<◌, ◌≤◌, ◌^◌, inl, inr, cond, nat_eq, Bool, true, false, List, [], ◌∷◌, ◌++◌, length, map, get_or, refl, sym, ◌∙◌, ap, subst, arith, length-set}
use Rattle.std.specs.Prelude.{Option, Some, None, slice_index_or, pos, ◌-ℤ◌, ◌≤ℤ◌}
use Rattle.std.specs.Ordering.{nat_cmp}
use Rattle.std.specs.BTreeMap.{BTreeMap, is_at}
use Rattle.std.specs.BTreeMap as tree
use Rattle.std.specs.FinMap.{get, remove}
use Rattle.std.proofs.lemmas.Option.{none-some}
use Rattle.tp_bounds.specs.declared.Bound.{Bound}
use Rattle.tp_bounds.specs.declared.BoundId.{BoundId}
use Rattle.tp_bounds.specs.declared.Edge.{Edge}
use Rattle.tp_bounds.specs.declared.Edge.TheVariants.{Own, New, PastHigh, PastLow, Now, End}
use Rattle.tp_bounds.specs.Setting.{Setting, event_count, fixed_at, floor_of}
use Rattle.tp_bounds.specs.Changes.{without_bound, at_moment, with_fixed}
use Rattle.tp_bounds.specs.Reasons.{bound_of, at_least, at_most, is_open}
use Rattle.tp_bounds.proofs.Chains.{from_cond, opened}
use Rattle.tp_net.specs.declared.slacks.Arc.{Arc}
use Rattle.tp_net.specs.Arcs.{arc_of, name_at, raised_by, past_name, past_arc, AreNamesPast}
use Rattle.tp_net.proofs.Spreads.{same_or}
use Rattle.tp_net.proofs.Laws.{key_itself, other_key}
use Rattle.tp_net.proofs.Listings.{now_edge, end_edge}
use Rattle.tp_net.proofs.Raises.{raised_bound, raised_arc, moved, there_was, fit_raised}
use Rattle.tp_net.proofs.Fixes.{past_bound, past_arc_is, moved_past, was, fit_fixed}
use Rattle.tp_net.proofs.Removals.{still_there, was_there, none_left, get_remove_other, fit_removed, start_removed}
use Rattle.tp_repair_engine.specs.declared.store.Node.{Node}
use Rattle.tp_repair_engine.specs.declared.engine.Engine.{Engine}
use Rattle.tp_net.specs.Moments.{IsStart}
use Rattle.tp_repair_engine.specs.Store.{names_of, kept_arcs, KeepsOthers, keys_of, near, one_at}
use Rattle.tp_repair_engine.proofs.Degrees.{counted_same, counted_left, removed_none}
use Rattle.tp_repair_engine.specs.Kept.{IsUnder, AreNodes}
use Rattle.tp_repair_engine.specs.Engine.{MayLeave, AreFloorAndEnd, IsWired, IsRepaired, AreMapped, IsChanged, IsLeft, IsUntouched}
use Rattle.tp_repair_engine.specs.Slots.{raised_node, past_node, past_slots, left_slots, IsOpenFloor, AreOpenFloors, AreAtEarlier}
use Rattle.tp_repair_engine.specs.Bringing.{IsUnbrought}
use Rattle.tp_repair_engine.specs.Asked.{IsFromEvent}
use Rattle.tp_net.specs.Graph.{HasNoSolution}
use Rattle.tp_net.specs.Arcs.{NamesCycle}
use Rattle.tp_net.proofs.Additions.{with_new, without_new}
use Rattle.tp_repair_engine.specs.Store.{arcs_of}
use Rattle.tp_repair_engine.proofs.Nodes.{nodes_listed, solution_kept}
use Rattle.tp_repair_engine.proofs.Changes.{left_here, left_other}
use Rattle.std.proofs.lemmas.Int.{ints}
use Rattle.tp_net.specs.Kept.{IsKept}
use Rattle.tp_net.specs.Sizes.{IsSmallWeight}
use Rattle.tp_net.specs.Slacks.{JoinsPoints}
use Rattle.tp_net.proofs.KeptMoments.{high_schedule}
use Rattle.tp_net.proofs.Starts.{start}
use Rattle.tp_net.proofs.Laws.{withdrawn}
use Rattle.tp_net.proofs.Listings.{events_of}
use Rattle.tp_repair_engine.proofs.Stores.{arc_has}
use Rattle.tp_repair_engine.proofs.Repaired.{kept, among, weights, wired_here, under_kept, repaired_unbrought}

-- ---- nothing changed

pub repaired_untouched : (s : Setting) (count : ℕ) (keys : BTreeMap ℕ ℕ) (floors ends : List ℕ) (g g' : Engine) (bounds : BTreeMap ℕ Bound) → IsRepaired s count keys floors ends g → IsUntouched g g' → IsRepaired s count keys floors ends g'
repaired_untouched s count keys floors ends g g' bounds r u =
    let v : IsUnbrought g g' bounds bounds keys keys = record { wired = u.wired; edges = u.edges; degrees = u.degrees; low = u.low; high = u.high; holds = refl; finds = λ q. refl } in
    repaired_unbrought s count keys keys floors ends g g' bounds bounds r v

changed_wired : (f : Node → Node) (s : Setting) (count : ℕ) (keys : BTreeMap ℕ ℕ) (floors ends : List ℕ) (g g' : Engine) → IsRepaired s count keys floors ends g → IsChanged f g g' → IsWired (suc (event_count s)) (count + 2 * event_count s) g'
changed_wired f s count keys floors ends g g' r c = subst (λ p. IsWired p (count + 2 * event_count s) g') r.wired.low_len (c.wired (count + 2 * event_count s) (wired_here s count keys floors ends g r))

-- ---- now is raised

pub nodes_raised : (s : Setting) (now : ℕ) (keys : BTreeMap ℕ ℕ) (floors ends : List ℕ) (old new : List (Option Node)) → AreNodes s keys floors ends old → AreMapped (raised_node now s.lags) old new → AreNodes (at_moment s now) keys floors ends new
nodes_raised s now keys floors ends old new a m = record {
  exist = λ k x is.
      (let h = m.back k x is in
      let b = a.exist k h.0 h.1 in
      (raised_bound now s.lags h.0.name b.0, ap (bound_of (at_moment s now)) h.2 ∙ moved s now h.0.name b.0 b.1, h.3 ∙ (ap (raised_by now s.lags h.0.name) b.2 ∙ raised_arc now s.lags h.0.name b.0)));
  all = λ e c is.
      (let b = there_was s now e c is in
      let x = a.all e b.0 b.1 in
      let h = m.forth x.0 x.1 x.2 in
      (x.0, h.0, h.1, h.2 ∙ x.3));
  under = λ k x is. (let h = m.back k x is in subst (λ e. IsUnder keys floors ends e k) (sym h.2) (a.under k h.0 h.1));
}

pub repaired_raised : (s : Setting) (now count : ℕ) (keys : BTreeMap ℕ ℕ) (floors ends : List ℕ) (g g' : Engine) → IsRepaired s count keys floors ends g → IsChanged (raised_node now s.lags) g g' → now ≤ s.horizon
    → IsRepaired (at_moment s now) count keys floors ends g'
repaired_raised s now count keys floors ends g g' r c soon = record {
  fit = fit_raised s now r.fit soon;
  nodes = nodes_raised s now keys floors ends g.store.nodes.slots g'.store.nodes.slots r.nodes c.edges;
  exact = c.exact;
  wired = changed_wired (raised_node now s.lags) s count keys floors ends g g' r c;
  few = r.few;
  ids = r.ids;
  spare = r.spare;
  floors_len = r.floors_len;
  ends_len = r.ends_len;
  counted = counted_same s (at_moment s now) count g.store g'.store refl refl c.degrees r.counted;
}

-- where the floors of events that are not fixed stand
module _ (s : Setting) (count : ℕ) (keys : BTreeMap ℕ ℕ) (floors ends : List ℕ) (g : Engine) (r : IsRepaired s count keys floors ends g) where
  pub floor_there : (e : ℕ) → e < event_count s → fixed_at s e ≡ None → (n : Node) × (slice_index_or g.store.nodes.slots (get_or floors e 0) None ≡ Some n) × (n.name ≡ Now e)
  floor_there e lt free =
      let x = r.nodes.all (Now e) (at_least e (floor_of s e)) (now_edge s e lt free) in
      let at : get_or floors e 0 ≡ x.0 = subst (λ f. IsUnder keys floors ends f x.0) x.3 (r.nodes.under x.0 x.1 x.2) in
      (x.1, ap (λ k. slice_index_or g.store.nodes.slots k None) at ∙ x.2, x.3)

  pub end_there : (e : ℕ) → e < event_count s → fixed_at s e ≡ None → (n : Node) × (slice_index_or g.store.nodes.slots (get_or ends e 0) None ≡ Some n) × (n.name ≡ End e)
  end_there e lt free =
      let x = r.nodes.all (End e) (at_most e s.horizon) (end_edge s e lt free) in
      let at : get_or ends e 0 ≡ x.0 = subst (λ f. IsUnder keys floors ends f x.0) x.3 (r.nodes.under x.0 x.1 x.2) in
      (x.1, ap (λ k. slice_index_or g.store.nodes.slots k None) at ∙ x.2, x.3)

  floor_open : (k : ℕ) (f : Edge) (b : Bound) → bound_of s f ≡ Some b → IsUnder keys floors ends f k → IsOpenFloor floors s.fixed f k
  floor_open k (Own id) b is under = tt
  floor_open k New b is under = tt
  floor_open k (PastHigh e) b is under = tt
  floor_open k (PastLow e) b is under = tt
  floor_open k (Now e) b is under =
      let m = from_cond (is_open s e) (at_least e (floor_of s e)) b is in
      let o = opened s e m.0 in
      (o.0, o.1, under)
  floor_open k (End e) b is under = tt

  pub floors_only : (k : ℕ) (n : Node) → slice_index_or g.store.nodes.slots k None ≡ Some n → IsOpenFloor floors s.fixed n.name k
  floors_only k n is = let x = r.nodes.exist k n is in floor_open k n.name x.0 x.1 (r.nodes.under k n is)

  same_floor : (f : Edge) (b : Bound) → bound_of s f ≡ Some b → arc_of b ≡ raised_by s.clock s.lags f (arc_of b)
  same_floor (Own id) b is = refl
  same_floor New b is = refl
  same_floor (PastHigh e) b is = refl
  same_floor (PastLow e) b is = refl
  same_floor (Now e) b is =
      let m = from_cond (is_open s e) (at_least e (floor_of s e)) b is in
      subst (λ (c : Bound). arc_of c ≡ raised_by s.clock s.lags (Now e) (arc_of c)) m.1 refl
  same_floor (End e) b is = refl

  pub floors_before : (k : ℕ) (n : Node) → slice_index_or g.store.nodes.slots k None ≡ Some n → n.arc ≡ (raised_node s.clock s.lags n).arc
  floors_before k n is = let x = r.nodes.exist k n is in x.2 ∙ (same_floor n.name x.0 x.1 ∙ ap (raised_by s.clock s.lags n.name) (sym x.2))

-- ---- an event is fixed

pub are_names_past : (e m : ℕ) (slots : List (Option Node)) → AreNamesPast e (names_of slots) (names_of (past_slots e m slots))
are_names_past e m slots = record { len = len slots; each = each slots }
  where
    len : (slots : List (Option Node)) → length (names_of (past_slots e m slots)) ≡ length (names_of slots)
    len [] = refl
    len (None ∷ slots) = len slots
    len (Some n ∷ slots) = ap suc (len slots)

    each : (slots : List (Option Node)) (k : ℕ) → k < length (names_of slots) → name_at (names_of (past_slots e m slots)) k ≡ past_name e (name_at (names_of slots) k)
    each [] k within = absurd (omega (arith, within))
    each (None ∷ slots) k within = each slots k within
    each (Some n ∷ slots) zero within = refl
    each (Some n ∷ slots) (suc k) within = each slots k (omega (arith, within))

either : (P : Edge → Type 0) (b : Bool) (x y : Edge) → P x → P y → P (cond b x y)
either P true x y p q = p
either P false x y p q = q

under_past : (keys : BTreeMap ℕ ℕ) (floors ends : List ℕ) (e k : ℕ) (f : Edge) → IsUnder keys floors ends f k → IsUnder keys floors ends (past_name e f) k
under_past keys floors ends e k (Own id) h = h
under_past keys floors ends e k New h = h
under_past keys floors ends e k (PastHigh j) h = h
under_past keys floors ends e k (PastLow j) h = h
under_past keys floors ends e k (Now j) h = either (λ f. IsUnder keys floors ends f k) (nat_eq j e) (PastLow j) (Now j) h h
under_past keys floors ends e k (End j) h = either (λ f. IsUnder keys floors ends f k) (nat_eq j e) (PastHigh j) (End j) h h

pub repaired_fixed : (s : Setting) (e m count : ℕ) (keys : BTreeMap ℕ ℕ) (floors ends : List ℕ) (g g' : Engine) → IsRepaired s count keys floors ends g → IsChanged (past_node e m) g g'
    → e < event_count s → fixed_at s e ≡ None → floor_of s e ≤ m → m ≤ s.horizon → IsRepaired (with_fixed s e m) count keys floors ends g'
repaired_fixed s e m count keys floors ends g g' r c lt free floor soon =
    let a = r.nodes in
    let len : event_count (with_fixed s e m) ≡ event_count s = length-set s.fixed e (Some m) in
    record {
      fit = fit_fixed s e m lt free floor soon r.fit;
      nodes = record {
        exist = λ k x is.
            (let h = c.edges.back k x is in
            let b = a.exist k h.0 h.1 in
            (past_bound s e m lt free floor soon h.0.name b.0, ap (bound_of (with_fixed s e m)) h.2 ∙ moved_past s e m lt free floor soon h.0.name b.0 b.1, h.3 ∙ (ap (past_arc e m h.0.name) b.2 ∙ past_arc_is s e m lt free floor soon h.0.name b.0)));
        all = λ f b is.
            (let w = was s e m lt free floor soon f b is in
            let x = a.all w.0 w.1 w.2 in
            let h = c.edges.forth x.0 x.1 x.2 in
            (x.0, h.0, h.1, h.2 ∙ (ap (past_name e) x.3 ∙ w.3)));
        under = λ k x is. (let h = c.edges.back k x is in subst (λ f. IsUnder keys floors ends f k) (sym h.2) (under_past keys floors ends e k h.0.name (a.under k h.0 h.1)));
      };
      exact = c.exact;
      wired = subst (λ n. IsWired (suc n) (count + 2 * n) g') (sym len) (changed_wired (past_node e m) s count keys floors ends g g' r c);
      few = r.few;
      ids = r.ids;
      spare = r.spare;
      floors_len = r.floors_len ∙ sym len;
      ends_len = r.ends_len ∙ sym len;
      counted = counted_same s (with_fixed s e m) count g.store g'.store refl len c.degrees r.counted;
    }

-- ---- a bound leaves

-- the edge of a bound in force is under its key
pub own_there : (s : Setting) (count : ℕ) (keys : BTreeMap ℕ ℕ) (floors ends : List ℕ) (g : Engine) (id : BoundId) (b : Bound) (key : ℕ) → IsRepaired s count keys floors ends g → get s.bounds id.0 ≡ Some b → tree.get nat_cmp keys id.0 ≡ Some key
    → (n : Node) × (slice_index_or g.store.nodes.slots key None ≡ Some n) × (n.name ≡ Own id)
own_there s count keys floors ends g id b key r is key_is =
    let x = r.nodes.all (Own id) b is in
    let under : tree.get nat_cmp keys id.0 ≡ Some x.0 = subst (λ f. IsUnder keys floors ends f x.0) x.3 (r.nodes.under x.0 x.1 x.2) in
    let both : Some x.0 ≡ Some key = sym under ∙ key_is in
    let it : x.0 ≡ key = cc in
    (x.1, ap (λ k. slice_index_or g.store.nodes.slots k None) (sym it) ∙ x.2, x.3)

pub own_arc : (s : Setting) (count : ℕ) (keys : BTreeMap ℕ ℕ) (floors ends : List ℕ) (g : Engine) (id : BoundId) (b : Bound) (key : ℕ) → IsRepaired s count keys floors ends g → get s.bounds id.0 ≡ Some b
    → (own : (n : Node) × (slice_index_or g.store.nodes.slots key None ≡ Some n) × (n.name ≡ Own id)) → own.0.arc ≡ arc_of b
own_arc s count keys floors ends g id b key r is own =
    let x = r.nodes.exist key own.0 own.1 in
    let both : Some b ≡ Some x.0 = sym is ∙ (sym (ap (bound_of s) own.2) ∙ x.1) in
    let it : b ≡ x.0 = cc in
    x.2 ∙ ap arc_of (sym it)

module _ (s : Setting) (keys keys' : BTreeMap ℕ ℕ) (floors ends : List ℕ) (old : List (Option Node)) (id : BoundId) (key : ℕ)
    (a : AreNodes s keys floors ends old)
    (key_is : tree.get nat_cmp keys id.0 ≡ Some key)
    (own : (n : Node) × (slice_index_or old key None ≡ Some n) × (n.name ≡ Own id))
    (finds : (q : ℕ) → id.0 ≢ q → tree.get nat_cmp keys' q ≡ tree.get nat_cmp keys q)
  where
    -- no other edge has the name
    not_own : (k : ℕ) (n : Node) → k ≢ key → slice_index_or old k None ≡ Some n → n.name ≢ Own id
    not_own k n ne is named =
        let under : tree.get nat_cmp keys id.0 ≡ Some k = subst (λ f. IsUnder keys floors ends f k) named (a.under k n is) in
        let both : Some k ≡ Some key = sym under ∙ key_is in
        let it : k ≡ key = cc in
        ne it

    own_only : (f : Edge) (b : Bound) → bound_of (without_bound s id.0) f ≡ Some b → (k : ℕ) (n : Node) → k ≡ key → slice_index_or old k None ≡ Some n → n.name ≡ f → ⊥
    own_only f b is k n same at named =
        let both : Some n ≡ Some own.0 = sym at ∙ (ap (λ j. slice_index_or old j None) same ∙ own.1) in
        let it : n ≡ own.0 = cc in
        let f_is : f ≡ Own id = sym named ∙ (ap (λ (x : Node). x.name) it ∙ own.2) in
        let left : get (remove s.bounds id.0) id.0 ≡ Some b = sym (ap (bound_of (without_bound s id.0)) f_is) ∙ is in
        none_left s.bounds id.0 b left

    -- the edges that are left
    pub nodes_left : (new : List (Option Node)) → slice_index_or new key None ≡ None → KeepsOthers key old new → AreNodes (without_bound s id.0) keys' floors ends new
    nodes_left new gone keeps = record {
      exist = λ k m is.
          (let ne : k ≢ key = not_key k m is in
          let h = keeps.back k m ne is in
          let b = a.exist k h.0 h.1 in
          (b.0, ap (bound_of (without_bound s id.0)) h.2 ∙ still_there s id b.0 h.0.name (not_own k h.0 ne h.1) b.1, h.3 ∙ b.2));
      all = λ f b is.
          (let x = a.all f b (was_there s id b f is) in
          let ne : x.0 ≢ key = λ same. own_only f b is x.0 x.1 same x.2 x.3 in
          let h = keeps.forth x.0 x.1 ne x.2 in
          (x.0, h.0, h.1, h.2 ∙ x.3));
      under = λ k m is.
          (let ne : k ≢ key = not_key k m is in
          let h = keeps.back k m ne is in
          subst (λ f. IsUnder keys' floors ends f k) (sym h.2)
          (under_kept keys keys' floors ends k h.0.name
          (λ j named. finds j.0 (λ same. not_own k h.0 ne h.1 (named ∙ ap (λ i. Own (record { 0 = i })) (sym same))))
          (a.under k h.0 h.1)));
    }
      where
        not_key : (k : ℕ) (m : Node) → slice_index_or new k None ≡ Some m → k ≢ key
        not_key k m is same = none-some m (sym gone ∙ (ap (λ j. slice_index_or new j None) (sym same) ∙ is))

pub left_keeps : (slots : List (Option Node)) (key : ℕ) → KeepsOthers key slots (left_slots key slots)
left_keeps slots key = record {
  forth = λ k n ne is. (n, left_other slots key k ne ∙ is, refl, refl);
  back = λ k m ne is. (m, sym (left_other slots key k ne) ∙ is, refl, refl);
}

-- from the least moments the others can be worked out
pub start_left : (s : Setting) (count : ℕ) (keys : BTreeMap ℕ ℕ) (floors ends : List ℕ) (g : Engine) (id : BoundId) (b : Bound) (key amount : ℕ) → IsRepaired s count keys floors ends g → get s.bounds id.0 ≡ Some b → tree.get nat_cmp keys id.0 ≡ Some key → amount ≡ suc s.horizon
    → IsStart (kept_arcs (left_slots key g.store.nodes.slots)) g.low.items amount
start_left s count keys floors ends g id b key amount r is key_is far =
    let old = g.store.nodes.slots in
    let new = left_slots key old in
    let nodes = nodes_left s keys keys floors ends old id key r.nodes key_is (own_there s count keys floors ends g id b key r is key_is) (λ q _. refl) new (left_here old key) (left_keeps old key) in
    start_removed s (names_of old) (kept_arcs old) g.low.items g.high.items id.0 (names_of new) (kept_arcs new) amount (kept s count keys floors ends g r) (nodes_listed (without_bound s id.0) keys floors ends new nodes) far

-- and from the greatest ones
pub start_left_high : (s : Setting) (count : ℕ) (keys : BTreeMap ℕ ℕ) (floors ends : List ℕ) (g : Engine) (id : BoundId) (b : Bound) (key amount : ℕ) → IsRepaired s count keys floors ends g → get s.bounds id.0 ≡ Some b → tree.get nat_cmp keys id.0 ≡ Some key → amount ≡ suc s.horizon
    → IsStart (kept_arcs (left_slots key g.store.nodes.slots)) g.high.items amount
start_left_high s count keys floors ends g id b key amount r is key_is far =
    let old = g.store.nodes.slots in
    let new = left_slots key old in
    let nodes = nodes_left s keys keys floors ends old id key r.nodes key_is (own_there s count keys floors ends g id b key r is key_is) (λ q _. refl) new (left_here old key) (left_keeps old key) in
    let k = kept s count keys floors ends g r in
    start (without_bound s id.0) (names_of new) (kept_arcs new) g.high.items amount (fit_removed s id.0 r.fit) (nodes_listed (without_bound s id.0) keys floors ends new nodes) (let o = r.exact.greatest.solution.0 in omega (arith, ints, o))
    (withdrawn s id.0 (events_of g.high.items) (high_schedule s (names_of old) (kept_arcs old) g.low.items g.high.items k)) r.wired.high_len far

pub repaired_left : (s : Setting) (count : ℕ) (keys keys' : BTreeMap ℕ ℕ) (floors ends : List ℕ) (g g' : Engine) (id : BoundId) (b : Bound) (key : ℕ) → IsRepaired s (count + 1) keys floors ends g → get s.bounds id.0 ≡ Some b → tree.get nat_cmp keys id.0 ≡ Some key
    → ((q : ℕ) → tree.get nat_cmp keys' q ≡ cond (is_at (nat_cmp id.0) q) None (tree.get nat_cmp keys q)) → IsLeft key g g' → IsRepaired (without_bound s id.0) count keys' floors ends g'
repaired_left s count keys keys' floors ends g g' id b key r is key_is finds l =
    let other : (q : ℕ) → id.0 ≢ q → tree.get nat_cmp keys' q ≡ tree.get nat_cmp keys q = λ q ne. (finds q ∙ ap (λ t. cond t None (tree.get nat_cmp keys q)) (other_key id.0 q ne)) in
    let gone : tree.get nat_cmp keys' id.0 ≡ None = finds id.0 ∙ ap (λ t. cond t None (tree.get nat_cmp keys id.0)) (key_itself id.0) in
    let edges : (count + 1) + 2 * event_count s ≡ (count + 2 * event_count s) + 1 = omega arith in
    let wired = l.wired (count + 2 * event_count s) (subst (λ n. IsWired (length g.low.items) n g) edges (wired_here s (count + 1) keys floors ends g r)) in
    record {
      fit = fit_removed s id.0 r.fit;
      nodes = nodes_left s keys keys' floors ends g.store.nodes.slots id key r.nodes key_is (own_there s (count + 1) keys floors ends g id b key r is key_is) other g'.store.nodes.slots l.gone l.keeps;
      exact = l.exact;
      wired = subst (λ p. IsWired p (count + 2 * event_count s) g') r.wired.low_len wired;
      few = (let f = r.few in omega (arith, f));
      ids = λ q some.
          (elim (same_or q id.0) [
            | inl same ↦ absurd (some (ap (get (without_bound s id.0).bounds) same ∙ removed_none s.bounds id.0))
            | inr ne ↦ r.ids q (λ none_q. some (get_remove_other s.bounds id.0 q ne ∙ none_q))
          ]);
      spare = λ q free.
          (elim (same_or q id.0) [
            | inl same ↦ ap (tree.get nat_cmp keys') same ∙ gone
            | inr ne ↦ other q (λ e. ne (sym e)) ∙ r.spare q (sym (get_remove_other s.bounds id.0 q ne) ∙ free)
          ]);
      floors_len = r.floors_len;
      ends_len = r.ends_len;
      counted = (let own = own_there s (count + 1) keys floors ends g id b key r is key_is in
          let b_is = own_arc s (count + 1) keys floors ends g id b key r is own in
          counted_left s count id.0 b g.store g'.store is (λ d y. subst (λ (a : Arc). length (keys_of d g'.store y) + one_at (near d a) y ≡ length (keys_of d g.store y)) b_is (l.fewer own.0 own.1 d y)) r.counted);
    }

-- ---- reasons

-- no solution of the edges that there are is none of the arcs under all keys
pub none_arcs : (slots : List (Option Node)) (new : Arc) → HasNoSolution (kept_arcs slots ++ new ∷ []) → HasNoSolution (arcs_of slots ++ new ∷ [])
none_arcs slots new none t s = let parts = without_new (arcs_of slots) new t s in none t (with_new (kept_arcs slots) new t (solution_kept slots t parts.0) parts.1)

pub mapped_names : (e : ℕ) (xs ys : List Edge) → length xs ≡ length ys → ((j : ℕ) → j < length ys → name_at xs j ≡ past_name e (name_at ys j)) → xs ≡ map (past_name e) ys
mapped_names e [] [] len each = refl
mapped_names e [] (y ∷ ys) len each = absurd (omega (arith, len))
mapped_names e (x ∷ xs) [] len each = absurd (omega (arith, len))
mapped_names e (x ∷ xs) (y ∷ ys) len each =
    ap (λ (a : Edge). a ∷ xs) (each 0 (omega arith)) ∙ ap (λ (zs : List Edge). past_name e y ∷ zs) (mapped_names e xs ys (omega (arith, len)) (λ j within. each (suc j) (omega (arith, within))))

past_named : (e m : ℕ) (slots : List (Option Node)) (first : Edge) → past_name e first ≡ first → (k : ℕ) → name_at (names_of (past_slots e m slots) ++ first ∷ []) k ≡ past_name e (name_at (names_of slots ++ first ∷ []) k)
past_named e m [] first p zero = sym p
past_named e m [] first p (suc k) = refl
past_named e m (None ∷ slots) first p k = past_named e m slots first p k
past_named e m (Some n ∷ slots) first p zero = refl
past_named e m (Some n ∷ slots) first p (suc k) = past_named e m slots first p k

past_cycle : (e m : ℕ) (slots : List (Option Node)) (first : Edge) → past_name e first ≡ first → (cycle : List ℕ) → map (past_name e) (map (name_at (names_of slots ++ first ∷ [])) cycle) ≡ map (name_at (names_of (past_slots e m slots) ++ first ∷ [])) cycle
past_cycle e m slots first p [] = refl
past_cycle e m slots first p (k ∷ ks) =
    ap (λ (a : Edge). a ∷ map (past_name e) (map (name_at (names_of slots ++ first ∷ [])) ks)) (sym (past_named e m slots first p k))
    ∙ ap (λ (zs : List Edge). name_at (names_of (past_slots e m slots) ++ first ∷ []) k ∷ zs) (past_cycle e m slots first p ks)

-- a reason by the names that the edges will have
pub past_reason : (e m : ℕ) (slots : List (Option Node)) (first : Edge) (new : Arc) (edges edges' : List Edge) → past_name e first ≡ first → NamesCycle (names_of slots) (kept_arcs slots) first new edges → edges' ≡ map (past_name e) edges
    → NamesCycle (names_of (past_slots e m slots)) (kept_arcs slots) first new edges'
past_reason e m slots first new edges edges' p h is = (h.0, h.1, is ∙ (ap (map (past_name e)) h.2 ∙ past_cycle e m slots first p h.0))

-- ---- what the calls ask for

pub some_of : {X : Type 0} (o : Option X) → o ≢ None → (x : X) × (o ≡ Some x)
some_of None h = absurd (h refl)
some_of (Some x) h = (x, refl)

module _ (s : Setting) (count : ℕ) (keys : BTreeMap ℕ ℕ) (floors ends : List ℕ) (g : Engine) (r : IsRepaired s count keys floors ends g) where
  k : IsKept s (names_of g.store.nodes.slots) (kept_arcs g.store.nodes.slots) g.low.items g.high.items
  k = kept s count keys floors ends g r

  pub has_own_key : (id : BoundId) (b : Bound) → get s.bounds id.0 ≡ Some b → tree.get nat_cmp keys id.0 ≢ None
  has_own_key id b is none =
      let x = r.nodes.all (Own id) b is in
      let under : tree.get nat_cmp keys id.0 ≡ Some x.0 = subst (λ f. IsUnder keys floors ends f x.0) x.3 (r.nodes.under x.0 x.1 x.2) in
      none-some x.0 (sym none ∙ under)

  pub own_node : (id : BoundId) (b : Bound) (key : ℕ) → get s.bounds id.0 ≡ Some b → tree.get nat_cmp keys id.0 ≡ Some key
      → (n : Node) × (slice_index_or g.store.nodes.slots key None ≡ Some n) × JoinsPoints (length g.low.items) n.arc × IsSmallWeight n.arc.weight
  own_node id b key is key_is =
      let x = own_there s count keys floors ends g id b key r is key_is in
      (x.0, x.1, arc_has (JoinsPoints (length g.low.items)) g.store.nodes.slots key x.0 x.1 (among s count keys floors ends g r), arc_has (λ (e : Arc). IsSmallWeight e.weight) g.store.nodes.slots key x.0 x.1 (weights s count keys floors ends g r))

  pub may_leave : (id : BoundId) (b : Bound) (key amount : ℕ) → get s.bounds id.0 ≡ Some b → tree.get nat_cmp keys id.0 ≡ Some key → amount ≡ suc s.horizon → amount < 2 ^ 32 → MayLeave key amount g
  may_leave id b key amount is key_is far fits =
      let n = own_node id b key is key_is in
      record {
        node = n.0;
        here = n.1;
        joins = n.2;
        weight = n.3;
        low = start_left s count keys floors ends g id b key amount r is key_is far;
        high = start_left_high s count keys floors ends g id b key amount r is key_is far;
        positive = omega (arith, far);
        amount_fits = fits;
      }

-- ---- what the edges of events with the origin are

module _ (s : Setting) (count : ℕ) (keys : BTreeMap ℕ ℕ) (floors ends : List ℕ) (g : Engine) (r : IsRepaired s count keys floors ends g) where
  pub floor_is : (e : ℕ) → e < event_count s → fixed_at s e ≡ None → (m : ℕ) → floor_of s e ≤ m
      → (n : Node) × (slice_index_or g.store.nodes.slots (get_or floors e 0) None ≡ Some n) × (n.name ≡ Now e) × (n.arc.from ≡ suc e) × (n.arc.to ≡ 0) × ((pos 0 -ℤ pos m) ≤ℤ n.arc.weight)
  floor_is e lt free m less =
      let x = floor_there s count keys floors ends g r e lt free in
      let y = r.nodes.exist (get_or floors e 0) x.0 x.1 in
      let both : Some y.0 ≡ Some (at_least e (floor_of s e)) = sym y.1 ∙ (ap (bound_of s) x.2 ∙ now_edge s e lt free) in
      let it : y.0 ≡ at_least e (floor_of s e) = cc in
      let arc : x.0.arc ≡ arc_of (at_least e (floor_of s e)) = y.2 ∙ ap arc_of it in
      let w : x.0.arc.weight ≡ pos 0 -ℤ pos (floor_of s e) = ap (λ (a : Arc). a.weight) arc in
      (x.0, x.1, x.2, ap (λ (a : Arc). a.from) arc, ap (λ (a : Arc). a.to) arc, omega (arith, ints, w, less))

  pub end_is : (e : ℕ) → e < event_count s → fixed_at s e ≡ None → (m : ℕ) → m ≤ s.horizon
      → (n : Node) × (slice_index_or g.store.nodes.slots (get_or ends e 0) None ≡ Some n) × (n.name ≡ End e) × (n.arc.from ≡ 0) × (n.arc.to ≡ suc e) × (pos m ≤ℤ n.arc.weight)
  end_is e lt free m less =
      let x = end_there s count keys floors ends g r e lt free in
      let y = r.nodes.exist (get_or ends e 0) x.0 x.1 in
      let both : Some y.0 ≡ Some (at_most e s.horizon) = sym y.1 ∙ (ap (bound_of s) x.2 ∙ end_edge s e lt free) in
      let it : y.0 ≡ at_most e s.horizon = cc in
      let arc : x.0.arc ≡ arc_of (at_most e s.horizon) = y.2 ∙ ap arc_of it in
      let w : x.0.arc.weight ≡ pos s.horizon = ap (λ (a : Arc). a.weight) arc in
      (x.0, x.1, x.2, ap (λ (a : Arc). a.from) arc, ap (λ (a : Arc). a.to) arc, omega (arith, ints, w, less))

  event_of : (f : Edge) (b : Bound) → bound_of s f ≡ Some b → IsFromEvent f (arc_of b)
  event_of (Own id) b is = tt
  event_of New b is = tt
  event_of (PastHigh e) b is = tt
  event_of (PastLow e) b is = tt
  event_of (Now e) b is =
      let m = from_cond (is_open s e) (at_least e (floor_of s e)) b is in
      subst (λ (c : Bound). IsFromEvent (Now e) (arc_of c)) m.1 (refl, refl)
  event_of (End e) b is = tt

  pub from_event : (k : ℕ) (n : Node) → slice_index_or g.store.nodes.slots k None ≡ Some n → IsFromEvent n.name n.arc
  from_event k n is = let y = r.nodes.exist k n is in subst (λ a. IsFromEvent n.name a) (sym y.2) (event_of n.name y.0 y.1)

  pub floor_and_end : (e m f h : ℕ) → e < event_count s → fixed_at s e ≡ None → floor_of s e ≤ m → m ≤ s.horizon → get_or floors e 0 ≡ f → get_or ends e 0 ≡ h → AreFloorAndEnd e m f h g.store.nodes.slots
  floor_and_end e m f h lt free above soon f_is h_is = record {
    floor = (let x = floor_is e lt free m above in (x.0, ap (λ j. slice_index_or g.store.nodes.slots j None) (sym f_is) ∙ x.1, x.2, x.3, x.4, x.5));
    end = (let x = end_is e lt free m soon in (x.0, ap (λ j. slice_index_or g.store.nodes.slots j None) (sym h_is) ∙ x.1, x.2, x.3, x.4, x.5));
    only_floor = λ k x is named. sym (subst (λ (a : Edge). IsUnder keys floors ends a k) named (r.nodes.under k x is)) ∙ f_is;
    only_end = λ k x is named. sym (subst (λ (a : Edge). IsUnder keys floors ends a k) named (r.nodes.under k x is)) ∙ h_is;
  }

  pub open_floors : AreOpenFloors floors s.fixed g.store.nodes.slots
  open_floors = record { events = r.fit.events; len = r.floors_len; there = floor_there s count keys floors ends g r; only = floors_only s count keys floors ends g r }

  pub at_earlier : (now : ℕ) → s.clock ≤ now → AreAtEarlier now s.lags g.store.nodes.slots
  at_earlier now forward = record { from = from_event; clock = s.clock; earlier = forward; arcs = floors_before s count keys floors ends g r }
