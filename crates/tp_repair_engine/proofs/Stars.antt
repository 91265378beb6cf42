-- The edges of events with the origin.
use Rattle.std.proofs.Common.{◌≡◌, ◌≢◌, ℕ, zero, suc, ◌+◌, ◌*◌, ◌<◌, ◌≤◌, ◌⊎◌, inl, inr, List, [], ◌∷◌, ◌++◌, length, length-append, get_or, refl, sym, ◌∙◌, ap, subst, arith}
use Rattle.std.specs.Prelude.{Option, Some, None, slice_index_or}
use Rattle.std.specs.BTreeMap.{BTreeMap}
use Rattle.std.proofs.lemmas.Option.{none-some}
use Rattle.std.proofs.lemmas.List.{get_or_append_left}
use Rattle.std.proofs.Math.Seq.{get_or-append_seam}
use Rattle.std.proofs.Math.ListN.{length-replicate}
use Rattle.tp_bounds.specs.declared.Bound.{Bound}
use Rattle.tp_bounds.specs.declared.Edge.{Edge}
use Rattle.tp_bounds.specs.declared.Edge.TheVariants.{Own, New, PastHigh, PastLow, Now, End}
use Rattle.tp_bounds.specs.Reasons.{bound_of, at_least, at_most}
use Rattle.tp_net.specs.Arcs.{arc_of}
use Rattle.tp_net.specs.NewNet.{new_setting}
use Rattle.tp_net.proofs.Spreads.{same_or}
use Rattle.tp_net.proofs.Listings.{end_edge}
use Rattle.tp_net.proofs.NewNet.{zero_edge, within_star, replicate_none, IsBelow}
use Rattle.tp_repair_engine.specs.declared.store.Node.{Node}
use Rattle.tp_repair_engine.specs.declared.store.Store.{Store}
use Rattle.tp_repair_engine.specs.declared.store.Direction.{Direction}
use Rattle.tp_repair_engine.specs.declared.store.Direction.TheVariants.{Up, Down}
use Rattle.tp_repair_engine.specs.Store.{keys_of, near, one_at, AreHalves, SamePoints}
use Rattle.tp_repair_engine.proofs.Halves.{one_here, one_there}
use Rattle.tp_repair_engine.proofs.Degrees.{counted_new}
use Rattle.tp_repair_engine.specs.Flow.{sum_to}
use Rattle.tp_repair_engine.specs.Kept.{IsUnder, AreNodes}
use Rattle.tp_repair_engine.specs.Engine.{IsEntered}
use Rattle.tp_repair_engine.specs.Bringing.{IsMore}
use Rattle.tp_repair_engine.specs.Star.{IsFloor, IsEnd, IsStar}
use Rattle.tp_repair_engine.proofs.Wires.{entered_node, sum_more}
use Rattle.std.specs.Ordering.{nat_cmp}
use Rattle.std.specs.BTreeMap as tree
use Rattle.std.proofs.Common.{replicate}
use Rattle.tp_net.proofs.NewNet.{kept_new}
use Rattle.tp_repair_engine.specs.declared.engine.Engine.{Engine}
use Rattle.tp_repair_engine.specs.Store.{names_of, kept_arcs}
use Rattle.tp_repair_engine.specs.Work.{IsIdle}
use Rattle.tp_repair_engine.specs.Engine.{IsWired, IsRepaired}
use Rattle.std.specs.FinMap.{get-empty}
use Rattle.tp_repair_engine.proofs.Nodes.{nodes_listed, exact_arcs}

last_key : (keys : List ℕ) (j k : ℕ) → length keys ≡ j → get_or (keys ++ k ∷ []) j 0 ≡ k
last_key keys j k len = ap (λ i. get_or (keys ++ k ∷ []) i 0) (sym len) ∙ get_or-append_seam keys k [] 0

other_keys : (keys : List ℕ) (j k : ℕ) → j < length keys → get_or (keys ++ k ∷ []) j 0 ≡ get_or keys j 0
other_keys keys j k within = get_or_append_left keys (k ∷ []) 0 j within

module _ (horizon points e : ℕ) (floors ends : List ℕ) (store mid new : Store) (k1 k2 : ℕ)
    (s : IsStar horizon points e floors ends store)
    (room : e + 1 < points)
    (first : IsEntered (Now e) (arc_of (at_least e 0)) k1 store.nodes.slots mid.nodes.slots)
    (second : IsEntered (End e) (arc_of (at_most e horizon)) k2 mid.nodes.slots new.nodes.slots)
    (points1 : SamePoints store mid)
    (points2 : SamePoints mid new)
    (halves_in : AreHalves Up new.nodes.slots new.into.items)
    (halves_out : AreHalves Down new.nodes.slots new.out.items)
    (more1 : IsMore (arc_of (at_least e 0)) store mid)
    (more2 : IsMore (arc_of (at_most e horizon)) mid new)
  where
    n1 : (n : Node) × (slice_index_or mid.nodes.slots k1 None ≡ Some n) × (n.name ≡ Now e) × (n.arc ≡ arc_of (at_least e 0))
    n1 = entered_node (Now e) (arc_of (at_least e 0)) k1 store.nodes.slots mid.nodes.slots first

    n2 : (n : Node) × (slice_index_or new.nodes.slots k2 None ≡ Some n) × (n.name ≡ End e) × (n.arc ≡ arc_of (at_most e horizon))
    n2 = entered_node (End e) (arc_of (at_most e horizon)) k2 mid.nodes.slots new.nodes.slots second

    is_it : (slots : List (Option Node)) (k key : ℕ) (n m : Node) → k ≡ key → slice_index_or slots key None ≡ Some m → slice_index_or slots k None ≡ Some n → n ≡ m
    is_it slots k key n m same there is = let here : Some n ≡ Some m = sym is ∙ (ap (λ j. slice_index_or slots j None) same ∙ there) in let n_is : n ≡ m = cc in n_is

    -- what is under a key in the middle stays
    stays : (k : ℕ) (n : Node) → slice_index_or mid.nodes.slots k None ≡ Some n → slice_index_or new.nodes.slots k None ≡ Some n
    stays k n is = second.others k (λ same. none-some n (sym second.free ∙ (ap (λ j. slice_index_or mid.nodes.slots j None) (sym same) ∙ is))) ∙ is

    stays_both : (k : ℕ) (n : Node) → slice_index_or store.nodes.slots k None ≡ Some n → slice_index_or new.nodes.slots k None ≡ Some n
    stays_both k n is = stays k n (first.others k (λ same. none-some n (sym first.free ∙ (ap (λ j. slice_index_or store.nodes.slots j None) (sym same) ∙ is))) ∙ is)

    -- an event whose edges come has one in each direction, and the others as many as before
    grown_one : (d : Direction) (j : ℕ) → length (keys_of d store (suc j)) ≡ 0 → j ≡ e → length (keys_of d new (suc j)) ≡ 1
    grown_one Up j n same =
        let a = more1 Up (suc j) in
        let b = more2 Up (suc j) in
        let o : one_at 0 (suc j) ≡ 0 = one_there 0 (suc j) (λ z. omega (arith, z)) in
        let i : one_at (suc e) (suc j) ≡ 1 = one_here (suc e) (suc j) (ap suc same) in
        omega (arith, a, b, o, i, n)
    grown_one Down j n same =
        let a = more1 Down (suc j) in
        let b = more2 Down (suc j) in
        let o : one_at 0 (suc j) ≡ 0 = one_there 0 (suc j) (λ z. omega (arith, z)) in
        let i : one_at (suc e) (suc j) ≡ 1 = one_here (suc e) (suc j) (ap suc same) in
        omega (arith, a, b, o, i, n)

    grown_other : (d : Direction) (j k : ℕ) → length (keys_of d store (suc j)) ≡ k → j ≢ e → length (keys_of d new (suc j)) ≡ k
    grown_other Up j k n ne =
        let a = more1 Up (suc j) in
        let b = more2 Up (suc j) in
        let o : one_at 0 (suc j) ≡ 0 = one_there 0 (suc j) (λ z. omega (arith, z)) in
        let i : one_at (suc e) (suc j) ≡ 0 = one_there (suc e) (suc j) (λ z. ne (omega (arith, z))) in
        omega (arith, a, b, o, i, n)
    grown_other Down j k n ne =
        let a = more1 Down (suc j) in
        let b = more2 Down (suc j) in
        let o : one_at 0 (suc j) ≡ 0 = one_there 0 (suc j) (λ z. omega (arith, z)) in
        let i : one_at (suc e) (suc j) ≡ 0 = one_there (suc e) (suc j) (λ z. ne (omega (arith, z))) in
        omega (arith, a, b, o, i, n)

    old_one : (k : ℕ) (n : Node) → slice_index_or store.nodes.slots k None ≡ Some n → (j : ℕ) × (j < e + 1) × (IsFloor (floors ++ k1 ∷ []) j k n ⊎ IsEnd horizon (ends ++ k2 ∷ []) j k n)
    old_one k n is =
        let x = s.exist k n is in (
          x.0,
          omega (arith, x.1),
          elim x.2 [
            | inl f ↦ inl (record { name = f.name; arc = f.arc; key = other_keys floors x.0 k1 (let l = s.floors_len in let w = x.1 in omega (arith, l, w)) ∙ f.key })
            | inr f ↦ inr (record { name = f.name; arc = f.arc; key = other_keys ends x.0 k2 (let l = s.ends_len in let w = x.1 in omega (arith, l, w)) ∙ f.key })
          ],
        )

    near_low : (d : Direction) → near d (arc_of (at_least e 0)) < points
    near_low Up = omega (arith, room)
    near_low Down = omega (arith, room)

    near_high : (d : Direction) → near d (arc_of (at_most e horizon)) < points
    near_high Up = omega (arith, room)
    near_high Down = omega (arith, room)

    pub star_grown : IsStar horizon points (e + 1) (floors ++ k1 ∷ []) (ends ++ k2 ∷ []) new
    star_grown = record {
      into_len = points2.0 ∙ (points1.0 ∙ s.into_len);
      out_len = points2.1 ∙ (points1.1 ∙ s.out_len);
      halves_in = halves_in;
      halves_out = halves_out;
      floors_len = (let l = s.floors_len in omega (arith, l, length-append floors (k1 ∷ [])));
      ends_len = (let l = s.ends_len in omega (arith, l, length-append ends (k2 ∷ [])));
      exist = λ k n is.
          (elim (same_or k k2) [
            | inl same ↦
                (let it = is_it new.nodes.slots k k2 n n2.0 same n2.1 is in
                (e, omega arith, inr (record { name = ap (λ (x : Node). x.name) it ∙ n2.2; arc = ap (λ (x : Node). x.arc) it ∙ n2.3; key = last_key ends e k2 s.ends_len ∙ sym same })))
            | inr ne ↦
                (let was = sym (second.others k ne) ∙ is in
                elim (same_or k k1) [
                  | inl same ↦
                      (let it = is_it mid.nodes.slots k k1 n n1.0 same n1.1 was in
                      (e, omega arith, inl (record { name = ap (λ (x : Node). x.name) it ∙ n1.2; arc = ap (λ (x : Node). x.arc) it ∙ n1.3; key = last_key floors e k1 s.floors_len ∙ sym same })))
                  | inr other ↦ old_one k n (sym (first.others k other) ∙ was)
                ])
          ]);
      floor = λ j lt.
          (elim (same_or j e) [
            | inl same ↦
                (n1.0, ap (λ k. slice_index_or new.nodes.slots k None) (ap (λ i. get_or (floors ++ k1 ∷ []) i 0) same ∙ last_key floors e k1 s.floors_len) ∙ stays k1 n1.0 n1.1, n1.2 ∙ ap Now (sym same))
            | inr ne ↦
                (let x = s.floor j (omega (arith, lt, ne)) in
                let l = s.floors_len in
                (x.0, ap (λ k. slice_index_or new.nodes.slots k None) (other_keys floors j k1 (omega (arith, lt, ne, l))) ∙ stays_both (get_or floors j 0) x.0 x.1, x.2))
          ]);
      end = λ j lt.
          (elim (same_or j e) [
            | inl same ↦
                (n2.0, ap (λ k. slice_index_or new.nodes.slots k None) (ap (λ i. get_or (ends ++ k2 ∷ []) i 0) same ∙ last_key ends e k2 s.ends_len) ∙ n2.1, n2.2 ∙ ap End (sym same))
            | inr ne ↦
                (let x = s.end j (omega (arith, lt, ne)) in
                let l = s.ends_len in
                (x.0, ap (λ k. slice_index_or new.nodes.slots k None) (other_keys ends j k2 (omega (arith, lt, ne, l))) ∙ stays_both (get_or ends j 0) x.0 x.1, x.2))
          ]);
      many = λ d.
          (let a = sum_more (λ y. length (keys_of d store y)) (λ y. length (keys_of d mid y)) (near d (arc_of (at_least e 0))) points (more1 d) (near_low d) in
          let b = sum_more (λ y. length (keys_of d mid y)) (λ y. length (keys_of d new y)) (near d (arc_of (at_most e horizon))) points (more2 d) (near_high d) in
          let c = s.many d in
          omega (arith, a, b, c));
      one = λ d j lt.
          (elim (same_or j e) [
            | inl same ↦ (let n = s.none d j (omega (arith, same)) in grown_one d j n same)
            | inr ne ↦ (let n = s.one d j (omega (arith, lt, ne)) in grown_other d j 1 n ne)
          ]);
      none = λ d j le. (let n = s.none d j (omega (arith, le)) in grown_other d j 0 n (λ same. omega (arith, same, le)));
    }

sum_none : (f : ℕ → ℕ) (n : ℕ) → ((y : ℕ) → f y ≡ 0) → sum_to f n ≡ 0
sum_none f zero none = refl
sum_none f (suc n) none = let h = sum_none f n none in let e = none n in omega (arith, h, e)

pub star_begun : (horizon points : ℕ) (store : Store) → length store.into.items ≡ points → length store.out.items ≡ points → AreHalves Up store.nodes.slots store.into.items → AreHalves Down store.nodes.slots store.out.items
    → ((k : ℕ) → slice_index_or store.nodes.slots k None ≡ None) → ((d : Direction) (y : ℕ) → length (keys_of d store y) ≡ 0) → IsStar horizon points 0 [] [] store
star_begun horizon points store into_len out_len halves_in halves_out none degrees = record {
  into_len = into_len;
  out_len = out_len;
  halves_in = halves_in;
  halves_out = halves_out;
  floors_len = refl;
  ends_len = refl;
  exist = λ k n is. absurd (none-some n (sym (none k) ∙ is));
  floor = λ j lt. absurd (omega (arith, lt));
  end = λ j lt. absurd (omega (arith, lt));
  many = λ d. sum_none (λ y. length (keys_of d store y)) points (degrees d);
  one = λ d j lt. absurd (omega (arith, lt));
  none = λ d j le. degrees d (suc j);
}

-- they are the edges of a network with no bound
module _ (events horizon points : ℕ) (floors ends : List ℕ) (keys : BTreeMap ℕ ℕ) (store : Store) (s : IsStar horizon points events floors ends store) where
  edge_of : (k : ℕ) (n : Node) (j : ℕ) → j < events → IsFloor floors j k n ⊎ IsEnd horizon ends j k n → (b : Bound) × (bound_of (new_setting events horizon) n.name ≡ Some b) × (n.arc ≡ arc_of b)
  edge_of k n j lt (inl f) = (at_least j 0, ap (bound_of (new_setting events horizon)) f.name ∙ zero_edge events horizon j lt, f.arc)
  edge_of k n j lt (inr f) =
      (at_most j horizon, ap (bound_of (new_setting events horizon)) f.name ∙ end_edge (new_setting events horizon) j (omega (arith, lt, length-replicate {A = Option ℕ} events None)) (replicate_none events j), f.arc)

  node_there : (e : Edge) → IsBelow events e → (k : ℕ) × (n : Node) × (slice_index_or store.nodes.slots k None ≡ Some n) × (n.name ≡ e)
  node_there (Own id) h = absurd h
  node_there New h = absurd h
  node_there (PastHigh j) h = absurd h
  node_there (PastLow j) h = absurd h
  node_there (Now j) h = let x = s.floor j h in (get_or floors j 0, x.0, x.1, x.2)
  node_there (End j) h = let x = s.end j h in (get_or ends j 0, x.0, x.1, x.2)

  under_it : (k : ℕ) (n : Node) (j : ℕ) → IsFloor floors j k n ⊎ IsEnd horizon ends j k n → IsUnder keys floors ends n.name k
  under_it k n j (inl f) = subst (λ e. IsUnder keys floors ends e k) (sym f.name) f.key
  under_it k n j (inr f) = subst (λ e. IsUnder keys floors ends e k) (sym f.name) f.key

  pub star_nodes : AreNodes (new_setting events horizon) keys floors ends store.nodes.slots
  star_nodes = record {
    exist = λ k n is. (let x = s.exist k n is in edge_of k n x.0 x.1 x.2);
    all = λ e b is. node_there e (within_star events horizon e b is);
    under = λ k n is. (let x = s.exist k n is in under_it k n x.0 x.2);
  }

-- they are what a network begins with
pub begun : (events horizon : ℕ) (floors ends : List ℕ) (keys : BTreeMap ℕ ℕ) (g : Engine) → events ≤ 1024 → horizon ≤ 1_000_000_000 → IsStar horizon (events + 1) events floors ends g.store
    → ((q : ℕ) → tree.get nat_cmp keys q ≡ None) → g.low.items ≡ replicate (suc events) 0 → g.high.items ≡ 0 ∷ replicate events horizon → IsIdle (events + 1) g.up → IsIdle (events + 1) g.down
    → IsRepaired (new_setting events horizon) 0 keys floors ends g
begun events horizon floors ends keys g few soon s none low high up down =
    let nodes = star_nodes events horizon (events + 1) floors ends keys g.store s in
    let count : length (new_setting events horizon).fixed ≡ events = length-replicate {A = Option ℕ} events None in
    let k = kept_new events horizon (names_of g.store.nodes.slots) (kept_arcs g.store.nodes.slots) g.low.items g.high.items few soon
    (nodes_listed (new_setting events horizon) keys floors ends g.store.nodes.slots nodes) low high in
    let points : events + 1 ≡ suc (length (new_setting events horizon).fixed) = omega (arith, count) in
    let edges : 2 * events ≡ 0 + 2 * length (new_setting events horizon).fixed = omega (arith, count) in
    let wired : IsWired (events + 1) (2 * events) g = record {
      some = omega arith;
      low_len = k.points ∙ sym points;
      high_len = sym k.exact.len ∙ (k.points ∙ sym points);
      into_len = s.into_len;
      out_len = s.out_len;
      halves_in = s.halves_in;
      halves_out = s.halves_out;
      up = up;
      down = down;
      many_up = s.many Up;
      many_down = s.many Down;
      few = omega (arith, few);
    } in
    record {
      fit = k.fit;
      nodes = nodes;
      exact = exact_arcs g.store.nodes.slots g.low.items g.high.items k.exact;
      wired = subst (λ p. IsWired p (0 + 2 * length (new_setting events horizon).fixed) g) points (subst (λ m. IsWired (events + 1) m g) edges wired);
      few = omega arith;
      ids = λ q some. absurd (some (get-empty {X = Bound} nat_cmp q));
      spare = λ q _. none q;
      floors_len = s.floors_len ∙ sym count;
      ends_len = s.ends_len ∙ sym count;
      counted = counted_new events horizon g.store (λ d e lt. s.one d e (omega (arith, lt, count)));
    }
