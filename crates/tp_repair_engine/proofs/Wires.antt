-- The lists and the arcs of a network after an edge came or went.
use Rattle.std.proofs.Common.{◌≡◌, ℕ, zero, suc, ◌+◌, ◌-◌, ◌<◌, inl, inr, List, [], ◌∷◌, ◌++◌, length, get_or, refl, sym, ◌∙◌, ap, subst, arith}
use Rattle.std.specs.Prelude.{All, Option, Some, None, slice_index_or, ℤ, ◌^◌}
use Rattle.std.proofs.lemmas.List.{get_or_default}
use Rattle.std.specs.declared.alloc.Global.{Global}
use Rattle.std.specs.declared.vec.Vec.{Vec}
use Rattle.std.proofs.lemmas.Option.{none-some}
use Rattle.tp_bounds.specs.declared.Edge.{Edge}
use Rattle.tp_net.specs.declared.slacks.Arc.{Arc}
use Rattle.tp_net.specs.Graph.{IsSolution, MeetsArc, moment}
use Rattle.tp_net.specs.Sizes.{IsSmall, IsSmallWeight}
use Rattle.tp_net.specs.Moments.{AreExact, IsStart}
use Rattle.tp_net.proofs.Spreads.{same_or}
use Rattle.tp_net.proofs.Additions.{with_new, without_new}
use Rattle.tp_repair_engine.specs.declared.store.Node.{Node}
use Rattle.tp_net.specs.Slacks.{JoinsPoints}
use Rattle.tp_repair_engine.specs.declared.store.Store.{Store}
use Rattle.tp_repair_engine.specs.declared.store.Direction.{Direction}
use Rattle.tp_repair_engine.specs.declared.store.Direction.TheVariants.{Up, Down}
use Rattle.tp_repair_engine.specs.declared.engine.Engine.{Engine}
use Rattle.tp_repair_engine.specs.Store.{arcs_of, keys_of, near, one_at, AreHalves, SamePoints, IsNode}
use Rattle.tp_repair_engine.specs.Flow.{sum_to}
use Rattle.tp_repair_engine.specs.Work.{Rises, Falls, IsIdle}
use Rattle.tp_repair_engine.specs.Engine.{IsWired, IsSolved, MayLeave, AreSame, IsEntered}
use Rattle.tp_repair_engine.specs.Potential.{IsPotential, IsMetBy}
use Rattle.tp_repair_engine.proofs.Nodes.{solution_by_key, key_met, least_alike, greatest_alike}
use Rattle.tp_repair_engine.proofs.Halves.{one_here, one_there}

pub sum_same : (f g : ℕ → ℕ) (n : ℕ) → ((y : ℕ) → g y ≡ f y) → sum_to g n ≡ sum_to f n
sum_same f g zero same = refl
sum_same f g (suc n) same = let h = sum_same f g n same in let e = same n in omega (arith, h, e)

sum_before : (f g : ℕ → ℕ) (p n : ℕ) → ((y : ℕ) → g y ≡ f y + one_at p y) → n < p + 1 → sum_to g n ≡ sum_to f n
sum_before f g p zero more lt = refl
sum_before f g p (suc n) more lt =
    let h = sum_before f g p n more (omega (arith, lt)) in
    let e = more n in
    let o : one_at p n ≡ 0 = one_there p n (λ same. omega (arith, same, lt)) in
    omega (arith, h, e, o)

pub sum_more : (f g : ℕ → ℕ) (p n : ℕ) → ((y : ℕ) → g y ≡ f y + one_at p y) → p < n → sum_to g n ≡ sum_to f n + 1
sum_more f g p zero more lt = absurd (omega (arith, lt))
sum_more f g p (suc n) more lt =
    elim (same_or n p) [
      | inl same ↦
          (let h = sum_before f g p n more (omega (arith, same)) in
          let e = more n in
          let o : one_at p n ≡ 1 = one_here p n same in
          omega (arith, h, e, o))
      | inr ne ↦
          (let h = sum_more f g p n more (omega (arith, lt, ne)) in
          let e = more n in
          let o : one_at p n ≡ 0 = one_there p n ne in
          omega (arith, h, e, o))
    ]

-- the edges under their keys, with the same names and arcs
pub same_there : (old new : List (Option Node)) → AreSame old new → (t : ℕ → ℤ) → IsSolution (arcs_of old) t → IsSolution (arcs_of new) t
same_there old new a t s = solution_by_key new t s.0 (λ k m is. (let h = a.back k m is in subst (MeetsArc t) (sym h.3) (key_met old t k h.0 h.1 s)))

pub same_back : (old new : List (Option Node)) → AreSame old new → (t : ℕ → ℤ) → IsSolution (arcs_of new) t → IsSolution (arcs_of old) t
same_back old new a t s = solution_by_key old t s.0 (λ k n is. (let h = a.forth k n is in subst (MeetsArc t) h.3 (key_met new t k h.0 h.1 s)))

pub node_of : (name : Edge) (arc : Arc) (o : Option Node) → IsNode name arc o → (n : Node) × (o ≡ Some n) × (n.name ≡ name) × (n.arc ≡ arc)
node_of name arc None h = absurd h
node_of name arc (Some n) h = (n, refl, h.0, h.1)

module _ (name : Edge) (arc : Arc) (key : ℕ) (old new : List (Option Node)) (e : IsEntered name arc key old new) where
  pub entered_node : (n : Node) × (slice_index_or new key None ≡ Some n) × (n.name ≡ name) × (n.arc ≡ arc)
  entered_node = node_of name arc (slice_index_or new key None) e.node

  pub entered_there : (t : ℕ → ℤ) → IsSolution (arcs_of old ++ arc ∷ []) t → IsSolution (arcs_of new) t
  entered_there t s =
      let parts = without_new (arcs_of old) arc t s in
      solution_by_key new t s.0 (λ k n is.
      (elim (same_or k key) [
        | inl same ↦
            (let m = entered_node in
            let here : Some n ≡ Some m.0 = sym is ∙ (ap (λ j. slice_index_or new j None) same ∙ m.1) in
            let n_is : n ≡ m.0 = cc in
            subst (MeetsArc t) (sym (ap (λ (x : Node). x.arc) n_is ∙ m.3)) parts.1)
        | inr ne ↦ key_met old t k n (sym (e.others k ne) ∙ is) parts.0
      ]))

  pub entered_back : (t : ℕ → ℤ) → IsSolution (arcs_of new) t → IsSolution (arcs_of old ++ arc ∷ []) t
  entered_back t s =
      with_new (arcs_of old) arc t
      (solution_by_key old t s.0 (λ k n is.
      (elim (same_or k key) [
        | inl same ↦ (let f : None ≡ Some n = sym e.free ∙ (ap (λ j. slice_index_or old j None) (sym same) ∙ is) in absurd (none-some n f))
        | inr ne ↦ key_met new t k n (e.others k ne ∙ is) s
      ])))
      (let m = entered_node in subst (MeetsArc t) m.3 (key_met new t key m.0 m.1 s))

  -- the moments that were moved are those that the new edge leaves
  pub entered_exact : (low high up down low' high' : List ℕ) → Rises (arcs_of old) arc low up → Falls (arcs_of old) arc high down
      → length low ≡ length high → length low' ≡ length low → length high' ≡ length high
      → ((x : ℕ) → x < length low → get_or low' x 0 ≡ get_or low x 0 + get_or up x 0)
      → ((x : ℕ) → x < length high → get_or high' x 0 ≡ get_or high x 0 - get_or down x 0)
      → AreExact (arcs_of new) low' high'
  entered_exact low high up down low' high' r f len low_len high_len rise fall = record {
    len = low_len ∙ (len ∙ sym high_len);
    least = least_alike (arcs_of old ++ arc ∷ []) (arcs_of new) low' entered_there entered_back (r.least low' low_len rise);
    greatest = greatest_alike (arcs_of old ++ arc ∷ []) (arcs_of new) high' entered_there entered_back (f.greatest high' high_len fall);
  }

-- ---- the lists of an engine whose store changed

abbrev pub with_store : Engine → Store → Engine
with_store g store = record { store = store; low = g.low; high = g.high; up = g.up; down = g.down; looks = g.looks }

pub wired_store : (p edges : ℕ) (g : Engine) (store : Store) → IsWired p edges g → SamePoints g.store store → AreHalves Up store.nodes.slots store.into.items → AreHalves Down store.nodes.slots store.out.items
    → ((d : Direction) (y : ℕ) → length (keys_of d store y) ≡ length (keys_of d g.store y)) → IsWired p edges (with_store g store)
wired_store p edges g store w points halves_in halves_out same = record {
  some = w.some;
  low_len = w.low_len;
  high_len = w.high_len;
  into_len = points.0 ∙ w.into_len;
  out_len = points.1 ∙ w.out_len;
  halves_in = halves_in;
  halves_out = halves_out;
  up = w.up;
  down = w.down;
  many_up = sum_same (λ y. length (keys_of Up g.store y)) (λ y. length (keys_of Up store y)) p (same Up) ∙ w.many_up;
  many_down = sum_same (λ y. length (keys_of Down g.store y)) (λ y. length (keys_of Down store y)) p (same Down) ∙ w.many_down;
  few = w.few;
}

pub wired_removed : (p edges : ℕ) (g : Engine) (store : Store) (arc : Arc) → JoinsPoints p arc → IsWired p (edges + 1) g → SamePoints g.store store → AreHalves Up store.nodes.slots store.into.items → AreHalves Down store.nodes.slots store.out.items
    → ((d : Direction) (y : ℕ) → length (keys_of d store y) + one_at (near d arc) y ≡ length (keys_of d g.store y)) → IsWired p edges (with_store g store)
wired_removed p edges g store arc joins w points halves_in halves_out less =
    let up = sum_more (λ y. length (keys_of Up store y)) (λ y. length (keys_of Up g.store y)) arc.to p (λ y. sym (less Up y)) joins.1 in
    let down = sum_more (λ y. length (keys_of Down store y)) (λ y. length (keys_of Down g.store y)) arc.from p (λ y. sym (less Down y)) joins.0 in
    let m = w.many_up in
    let n = w.many_down in
    let f = w.few in
    record {
      some = w.some;
      low_len = w.low_len;
      high_len = w.high_len;
      into_len = points.0 ∙ w.into_len;
      out_len = points.1 ∙ w.out_len;
      halves_in = halves_in;
      halves_out = halves_out;
      up = w.up;
      down = w.down;
      many_up = omega (arith, up, m);
      many_down = omega (arith, down, n);
      few = omega (arith, f);
    }

pub wired_looks : (p edges looks : ℕ) (g : Engine) (store : Store) → IsWired p edges (with_store g store) → IsWired p edges (record { store = store; low = g.low; high = g.high; up = g.up; down = g.down; looks = looks })
wired_looks p edges looks g store w = record {
  some = w.some;
  low_len = w.low_len;
  high_len = w.high_len;
  into_len = w.into_len;
  out_len = w.out_len;
  halves_in = w.halves_in;
  halves_out = w.halves_out;
  up = w.up;
  down = w.down;
  many_up = w.many_up;
  many_down = w.many_down;
  few = w.few;
}

-- moments that meet the edges, with the lists of an engine
pub wired_potential : (edges : ℕ) (g : Engine) (moments : List ℕ) → IsWired (length moments) edges g → All IsSmall moments → All (λ (e : Arc). IsSmallWeight e.weight) (arcs_of g.store.nodes.slots)
    → All (JoinsPoints (length moments)) (arcs_of g.store.nodes.slots) → IsSolution (arcs_of g.store.nodes.slots) (moment moments) → IsPotential g.store moments
wired_potential edges g moments w small weights among met = record {
  some = w.some;
  small = small;
  arcs = λ k e within. (among k e within, weights k e within, met.1 k e within);
  lists = elim [ Up ↦ w.into_len | Down ↦ w.out_len ];
  halves = elim [ Up ↦ w.halves_in | Down ↦ w.halves_out ];
  few = elim [ Up ↦ (let m = w.many_up in let f = w.few in omega (arith, m, f)) | Down ↦ (let m = w.many_down in let f = w.few in omega (arith, m, f)) ];
}

module _ (g : Engine) (s : IsSolved g) where
  pub small_of : (moments : List ℕ) → ((x : ℕ) → x < length moments → get_or moments x 0 < 2 ^ 32) → All IsSmall moments
  small_of moments fits = λ x d within. (let f = fits x within in let e = get_or_default moments x d 0 within in omega (arith, f, e))

  pub high_small : All IsSmall g.high.items
  high_small = small_of g.high.items s.high_fits

  pub low_potential : IsPotential g.store g.low.items
  low_potential = wired_potential s.edges g g.low.items s.wired s.holds.small s.holds.weights s.holds.among s.holds.least.solution

  pub high_potential : IsPotential g.store g.high.items
  high_potential =
      let len = s.exact.len in
      wired_potential s.edges g g.high.items (subst (λ n. IsWired n s.edges g) len s.wired) high_small s.holds.weights
      (subst (λ n. All (JoinsPoints n) (arcs_of g.store.nodes.slots)) len s.holds.among) s.exact.greatest.solution

-- what is known of moments from which others can be worked out
pub start_potential : (edges amount : ℕ) (g : Engine) (moments : List ℕ) → IsWired (length moments) edges g → IsStart (arcs_of g.store.nodes.slots) moments amount → IsPotential g.store moments
start_potential edges amount g moments w s = wired_potential edges g moments w s.small s.weights s.among s.solution

-- an edge that may leave is met
pub leaving_met : (key amount : ℕ) (g : Engine) (may : MayLeave key amount g) (n : Node) → slice_index_or g.store.nodes.slots key None ≡ Some n
    → (moments : List ℕ) → length g.low.items ≡ length moments → IsSolution (arcs_of g.store.nodes.slots) (moment moments) → IsMetBy moments n.arc
leaving_met key amount g may n at moments len met =
    let both : Some may.node ≡ Some n = sym may.here ∙ at in
    let it : may.node ≡ n = cc in (
      subst (λ k. JoinsPoints k n.arc) len (subst (λ (x : Node). JoinsPoints (length g.low.items) x.arc) it may.joins),
      subst (λ (x : Node). IsSmallWeight x.arc.weight) it may.weight,
      key_met g.store.nodes.slots (moment moments) key n at met,
    )

-- the lists are right where nothing but the room has changed
pub wired_room : (p edges : ℕ) (g t : Engine) → IsWired p edges g → t.store ≡ g.store → t.low ≡ g.low → t.high ≡ g.high → IsIdle p t.up → IsIdle p t.down → IsWired p edges t
wired_room p edges g t w store low high up down = record {
  some = w.some;
  low_len = ap (λ (v : Vec ℕ Global). length v.items) low ∙ w.low_len;
  high_len = ap (λ (v : Vec ℕ Global). length v.items) high ∙ w.high_len;
  into_len = ap (λ (s : Store). length s.into.items) store ∙ w.into_len;
  out_len = ap (λ (s : Store). length s.out.items) store ∙ w.out_len;
  halves_in = subst (λ (s : Store). AreHalves Up s.nodes.slots s.into.items) (sym store) w.halves_in;
  halves_out = subst (λ (s : Store). AreHalves Down s.nodes.slots s.out.items) (sym store) w.halves_out;
  up = up;
  down = down;
  many_up = ap (λ (s : Store). sum_to (λ y. length (keys_of Up s y)) p) store ∙ w.many_up;
  many_down = ap (λ (s : Store). sum_to (λ y. length (keys_of Down s y)) p) store ∙ w.many_down;
  few = w.few;
}

pub same_itself : (slots : List (Option Node)) → AreSame slots slots
same_itself slots = record { forth = λ k n is. (n, is, refl, refl); back = λ k n is. (n, is, refl, refl) }
