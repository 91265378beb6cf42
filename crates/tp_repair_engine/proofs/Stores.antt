-- Halves in the lists of points, and the arcs for which they stand.
use Rattle.std.proofs.Common.{◌≡◌, ◌≢◌, ℕ, ◌<◌, List, [], ◌∷◌, length, refl, sym, ◌∙◌, ap, subst, inl, inr, arith, get_or, set, length-set, get_or-set_other, suc, zero}
use Rattle.std.specs.Prelude.{Option, Some, None, slice_index_or, All, ℤ}
use Rattle.std.specs.declared.alloc.Global.{Global}
use Rattle.std.specs.declared.vec.Vec.{Vec}
use Rattle.std.proofs.lemmas.List.{get_or_default}
use Rattle.std.proofs.lemmas.Option.{none-some}
use Rattle.std.proofs.lemmas.Grind.{get_or-set_at}
use Rattle.tp_net.proofs.Spreads.{same_or}
use Rattle.tp_net.specs.Sizes.{IsSmallWeight}
use Rattle.tp_net.specs.Slacks.{JoinsPoints}
use Rattle.tp_net.specs.declared.slacks.Arc.{Arc}
use Rattle.tp_net.specs.Graph.{arc_at, no_arc}
use Rattle.tp_repair_engine.specs.declared.store.Node.{Node}
use Rattle.tp_repair_engine.specs.declared.store.Half.{Half}
use Rattle.tp_repair_engine.specs.declared.store.Direction.{Direction}
use Rattle.tp_repair_engine.specs.declared.store.Direction.TheVariants.{Up, Down}
use Rattle.tp_repair_engine.specs.Flow.{link_of}
use Rattle.tp_repair_engine.specs.Store.{arcs_of, arc_in, near, far_end, arc_along, half_at, no_half, halves_at, keys_in, place_of, lists_of, IsHalfOf, IsHalf, AreHalves}
use Rattle.tp_repair_engine.specs.declared.store.Store.{Store}
use Rattle.tp_repair_engine.specs.Potential.{IsPotential, IsAlong}
use Rattle.tp_net.specs.Graph.{MeetsArc, moment}

-- a node's arc is the arc under its key
pub arc_is : (slots : List (Option Node)) (k : ℕ) (n : Node) → slice_index_or slots k None ≡ Some n → (k < length (arcs_of slots)) × (arc_at (arcs_of slots) k ≡ n.arc)
arc_is [] k n is = absurd (none-some n is)
arc_is (s ∷ slots) zero n is = (omega arith, ap arc_in is)
arc_is (s ∷ slots) (suc k) n is = (let h = arc_is slots k n is in (omega (arith, h.0), h.1))

-- what holds of all arcs holds of a node's
pub arc_has : (P : Arc → Type 0) (slots : List (Option Node)) (k : ℕ) (n : Node) → slice_index_or slots k None ≡ Some n → All P (arcs_of slots) → P n.arc
arc_has P slots k n is all = (let h = arc_is slots k n is in subst P h.1 (all k no_arc h.0))

pub link_near : (d : Direction) (m : ℕ → ℕ) (e : Arc) → (link_of d m e).to ≡ near d e
link_near Up m e = refl
link_near Down m e = refl

pub arc_free : (slots : List (Option Node)) (k : ℕ) → slice_index_or slots k None ≡ None → arc_at (arcs_of slots) k ≡ no_arc
arc_free [] k is = refl
arc_free (s ∷ slots) zero is = ap arc_in is
arc_free (s ∷ slots) (suc k) is = arc_free slots k is

-- the key at a place of a list
pub key_at : (halves : List Half) (j : ℕ) → get_or (keys_in halves) j 0 ≡ (half_at halves j).key
key_at [] j = refl
key_at (h ∷ hs) zero = refl
key_at (h ∷ hs) (suc j) = key_at hs j

pub keys_len : (halves : List Half) → length (keys_in halves) ≡ length halves
keys_len [] = refl
keys_len (h ∷ hs) = ap suc (keys_len hs)

pub along_from : (d : Direction) (m : ℕ → ℕ) (point : ℕ) (h : Half) → (link_of d m (arc_along d point h)).from ≡ h.far
along_from Up m point h = refl
along_from Down m point h = refl

pub along_to : (d : Direction) (m : ℕ → ℕ) (point : ℕ) (h : Half) → (link_of d m (arc_along d point h)).to ≡ point
along_to Up m point h = refl
along_to Down m point h = refl

arc_eq : (a b : Arc) → a.from ≡ b.from → a.to ≡ b.to → a.weight ≡ b.weight → a ≡ b
arc_eq a b f t w =
    subst (λ x. a ≡ record { from = x; to = b.to; weight = b.weight }) f
    (subst (λ x. a ≡ record { from = a.from; to = x; weight = b.weight }) t
    (subst (λ x. a ≡ record { from = a.from; to = a.to; weight = x }) w refl))

same_along : (d : Direction) (point : ℕ) (h : Half) (e : Arc) → h.far ≡ far_end d e → h.weight ≡ e.weight → near d e ≡ point → arc_along d point h ≡ e
same_along Up point h e f w n = arc_eq (arc_along Up point h) e f (sym n) w
same_along Down point h e f w n = arc_eq (arc_along Down point h) e (sym n) f w

-- the edge for which a half stands
pub record HalfNode (d : Direction) (slots : List (Option Node)) (point place : ℕ) (h : Half) : Type 0 where
  pub node : Node
  pub here : slice_index_or slots h.key None ≡ Some node
  pub far : h.far ≡ far_end d node.arc
  pub weight : h.weight ≡ node.arc.weight
  pub near_point : near d node.arc ≡ point
  pub at_place : place_of d node ≡ place

some_node : (o : Option Node) → o ≢ None → (n : Node) × (o ≡ Some n)
some_node None there = absurd (there refl)
some_node (Some n) there = (n, refl)

pub stands : (d : Direction) (slots : List (Option Node)) (point place : ℕ) (h : Half) → IsHalf d slots point place h → HalfNode d slots point place h
stands d slots point place h s =
    let n = some_node (slice_index_or slots h.key None) s.there in
    let e : IsHalfOf d n.0 point place h = s.each n.0 n.1 in
    record { node = n.0; here = n.1; far = e.far; weight = e.weight; near_point = e.near_point; at_place = e.at_place }

pub half_of_node : (d : Direction) (slots : List (Option Node)) (point place : ℕ) (h : Half) → HalfNode d slots point place h → IsHalf d slots point place h
half_of_node d slots point place h s = record {
  there = λ none. none-some s.node (sym none ∙ s.here);
  each = λ n is.
      (let both : Some s.node ≡ Some n = sym s.here ∙ is in
      let it : s.node ≡ n = cc in
      subst (λ (x : Node). IsHalfOf d x point place h) it (record { far = s.far; weight = s.weight; near_point = s.near_point; at_place = s.at_place }));
}

-- a half stands for the arc under its key
pub along_is : (d : Direction) (slots : List (Option Node)) (point place : ℕ) (h : Half) → IsHalf d slots point place h
    → (h.key < length (arcs_of slots)) × (arc_along d point h ≡ arc_at (arcs_of slots) h.key)
along_is d slots point place h half =
    let s = stands d slots point place h half in
    let a = arc_is slots h.key s.node s.here in (
      a.0,
      same_along d point h s.node.arc s.far s.weight s.near_point ∙ sym a.1,
    )

pub halves_at_is : (lists : List (Vec Half Global)) (y : ℕ) (v : Vec Half Global) → y < length lists → v ≡ slice_index_or lists y v → v.items ≡ halves_at lists y
halves_at_is [] y v within is = absurd (omega (arith, within))
halves_at_is (w ∷ lists) zero v within is = ap (λ (u : Vec Half Global). u.items) is
halves_at_is (w ∷ lists) (suc y) v within is = halves_at_is lists y v (omega (arith, within)) is

half_all : (P : Half → Type 0) (hs : List Half) → ((j : ℕ) → j < length hs → P (half_at hs j)) → All P hs
half_all P hs each j d inside = subst P (get_or_default hs j no_half d inside) (each j inside)

-- what holds of all arcs holds of those for which the halves in a list stand
pub halves_have : (d : Direction) (P : Arc → Type 0) (slots : List (Option Node)) (lists : List (Vec Half Global)) (y : ℕ) → AreHalves d slots lists → All P (arcs_of slots)
    → All (λ h. P (arc_along d y h)) (halves_at lists y)
halves_have d P slots lists y t all = half_all (λ h. P (arc_along d y h)) (halves_at lists y)
    (λ j inside. (let a = along_is d slots y j (half_at (halves_at lists y) j) (t.stand y j inside) in subst P (sym a.1) (all (half_at (halves_at lists y) j).key no_arc a.0)))

far_within : (d : Direction) (n y : ℕ) (h : Half) → JoinsPoints n (arc_along d y h) → h.far < n
far_within Up n y h j = j.0
far_within Down n y h j = j.1

pub weight_along : (d : Direction) (y : ℕ) (h : Half) → (arc_along d y h).weight ≡ h.weight
weight_along Up y h = refl
weight_along Down y h = refl

pub all_three : (P Q R : Arc → Type 0) (arcs : List Arc) → All (λ e. P e × Q e × R e) arcs → All P arcs × All Q arcs × All R arcs
all_three P Q R arcs all = (λ k d inside. (all k d inside).0, λ k d inside. (all k d inside).1, λ k d inside. (all k d inside).2)

-- what holds of the edges of a potential
module _ (s : Store) (moments : List ℕ) (p : IsPotential s moments) where
  all : All (JoinsPoints (length moments)) (arcs_of s.nodes.slots) × All (λ (e : Arc). IsSmallWeight e.weight) (arcs_of s.nodes.slots) × All (MeetsArc (moment moments)) (arcs_of s.nodes.slots)
  all = all_three (JoinsPoints (length moments)) (λ e. IsSmallWeight e.weight) (MeetsArc (moment moments)) (arcs_of s.nodes.slots) p.arcs

  pub arcs_among : All (JoinsPoints (length moments)) (arcs_of s.nodes.slots)
  arcs_among = all.0

  pub arcs_weigh : All (λ (e : Arc). IsSmallWeight e.weight) (arcs_of s.nodes.slots)
  arcs_weigh = all.1

  pub arcs_met : All (MeetsArc (moment moments)) (arcs_of s.nodes.slots)
  arcs_met = all.2

  -- the edges in the list of a point are met
  pub list_along : (d : Direction) (y : ℕ) → All (IsAlong moments d y) (halves_at (lists_of d s) y)
  list_along d y =
      let far = halves_have d (JoinsPoints (length moments)) s.nodes.slots (lists_of d s) y (p.halves d) arcs_among in
      let weights = halves_have d (λ e. IsSmallWeight e.weight) s.nodes.slots (lists_of d s) y (p.halves d) arcs_weigh in
      let met = halves_have d (MeetsArc (moment moments)) s.nodes.slots (lists_of d s) y (p.halves d) arcs_met in
      λ j e inside.
      (let h = slice_index_or (halves_at (lists_of d s) y) j e in
      record { far = far_within d (length moments) y h (far j e inside); weight = subst IsSmallWeight (weight_along d y h) (weights j e inside); met = met j e inside })

-- a list that was written
pub halves_written : (lists : List (Vec Half Global)) (p : ℕ) (v : Vec Half Global) → p < length lists → halves_at (set lists p v) p ≡ v.items
halves_written [] p v within = absurd (omega (arith, within))
halves_written (w ∷ lists) zero v within = refl
halves_written (w ∷ lists) (suc p) v within = halves_written lists p v (omega (arith, within))

pub halves_other : (lists : List (Vec Half Global)) (p : ℕ) (v : Vec Half Global) (y : ℕ) → y ≢ p → halves_at (set lists p v) y ≡ halves_at lists y
halves_other [] p v y ne = refl
halves_other (w ∷ lists) zero v zero ne = absurd (ne refl)
halves_other (w ∷ lists) zero v (suc y) ne = refl
halves_other (w ∷ lists) (suc p) v zero ne = refl
halves_other (w ∷ lists) (suc p) v (suc y) ne = halves_other lists p v y (λ e. ne (ap suc e))

-- a half that was written into a list
module _ (lists : List (Vec Half Global)) (p q : ℕ) (v v' : Vec Half Global) (h : Half)
    (within : p < length lists)
    (is : v ≡ slice_index_or lists p v)
    (items : v'.items ≡ set v.items q h)
    (place : q < length (halves_at lists p))
  where
    row_was : v.items ≡ halves_at lists p
    row_was = halves_at_is lists p v within is

    row_now : halves_at (set lists p v') p ≡ set (halves_at lists p) q h
    row_now = halves_written lists p v' within ∙ items ∙ ap (λ hs. set hs q h) row_was

    pub written_lens : (y : ℕ) → length (halves_at (set lists p v') y) ≡ length (halves_at lists y)
    written_lens y =
        elim (same_or y p) [
          | inl e ↦ subst (λ z. length (halves_at (set lists p v') z) ≡ length (halves_at lists z)) (sym e) (ap (λ (hs : List Half). length hs) row_now ∙ length-set (halves_at lists p) q h)
          | inr ne ↦ ap (λ (hs : List Half). length hs) (halves_other lists p v' y ne)
        ]

    pub written_here : half_at (halves_at (set lists p v') p) q ≡ h
    written_here = ap (λ hs. half_at hs q) row_now ∙ get_or-set_at (halves_at lists p) q q h no_half refl place

    pub written_stay : (y j : ℕ) → (y ≡ p → j ≢ q) → half_at (halves_at (set lists p v') y) j ≡ half_at (halves_at lists y) j
    written_stay y j apart =
        elim (same_or y p) [
          | inl e ↦ subst (λ z. half_at (halves_at (set lists p v') z) j ≡ half_at (halves_at lists z) j) (sym e)
              (ap (λ hs. half_at hs j) row_now ∙ other_place_kept (halves_at lists p) (apart e))
          | inr ne ↦ ap (λ hs. half_at hs j) (halves_other lists p v' y ne)
        ]
      where
        other_place_kept : (hs : List Half) → j ≢ q → half_at (set hs q h) j ≡ half_at hs j
        other_place_kept hs ne = rw get_or-set_other refl

half_eq : (a b : Half) → a.far ≡ b.far → a.key ≡ b.key → a.weight ≡ b.weight → a ≡ b
half_eq a b f k w =
    subst (λ x. a ≡ record { far = x; key = b.key; weight = b.weight }) f
    (subst (λ x. a ≡ record { far = a.far; key = x; weight = b.weight }) k
    (subst (λ x. a ≡ record { far = a.far; key = a.key; weight = x }) w refl))

-- a half that was read at its place
pub half_read : (lists : List (Vec Half Global)) (p q : ℕ) (v : Vec Half Global) (h : Half) → p < length lists → v ≡ slice_index_or lists p v → q < length (halves_at lists p) → h ≡ slice_index_or v.items q h → h ≡ half_at (halves_at lists p) q
half_read lists p q v h within is place read =
    let row = halves_at_is lists p v within is in
    let inside : q < length v.items = (let e : length v.items ≡ length (halves_at lists p) = ap (λ (hs : List Half). length hs) row in omega (arith, e, place)) in
    read ∙ get_or_default v.items q h no_half inside ∙ ap (λ hs. half_at hs q) row

pub half_weighed : (a b : Half) (w w' : ℤ) → a ≡ b → w ≡ w' → ◌≡◌ {A = Half} (record { far = a.far; key = a.key; weight = w }) (record { far = b.far; key = b.key; weight = w' })
half_weighed a b w w' e f = half_eq (record { far = a.far; key = a.key; weight = w }) (record { far = b.far; key = b.key; weight = w' }) (ap (λ (h : Half). h.far) e) (ap (λ (h : Half). h.key) e) f
