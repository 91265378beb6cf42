-- The floors of events, one after the other.
use Rattle.std.proofs.Common.{◌≡◌, ◌≢◌, ℕ, ◌+◌, ◌<◌, cond, nat_lt, true, false, inl, inr, List, length, get_or, refl, sym, ◌∙◌, ap, subst, arith}
use Rattle.std.specs.Prelude.{Option, Some, None, slice_index_or, ℤ, pos, ◌-ℤ◌}
use Rattle.std.proofs.lemmas.Bool.Decides.{nat_tests}
use Rattle.tp_bounds.specs.declared.Edge.{Edge}
use Rattle.tp_bounds.specs.declared.Edge.TheVariants.{Own, New, PastHigh, PastLow, Now, End}
use Rattle.tp_net.specs.declared.slacks.Arc.{Arc}
use Rattle.tp_net.specs.Arcs.{raised_by, floor_at}
use Rattle.tp_net.proofs.Spreads.{same_or}
use Rattle.tp_repair_engine.specs.declared.store.Node.{Node}
use Rattle.tp_repair_engine.specs.Store.{weighed}
use Rattle.tp_repair_engine.specs.Engine.{AreMapped}
use Rattle.tp_repair_engine.specs.Slots.{raised_node, IsOpenFloor}

-- an arc when the floors of the events below upto are raised
abbrev pub arc_upto : ℕ → ℕ → List ℕ → Edge → Arc → Arc
arc_upto upto now lags (Own id) a = a
arc_upto upto now lags New a = a
arc_upto upto now lags (PastHigh e) a = a
arc_upto upto now lags (PastLow e) a = a
arc_upto upto now lags (Now e) a = cond (nat_lt e upto) (raised_by now lags (Now e) a) a
arc_upto upto now lags (End e) a = a

abbrev pub node_upto : ℕ → ℕ → List ℕ → Node → Node
node_upto upto now lags n = record { name = n.name; arc = arc_upto upto now lags n.name n.arc; place_in = n.place_in; place_out = n.place_out }

all_done : (now : ℕ) (lags : List ℕ) (floors : List ℕ) (fixed : List (Option ℕ)) (k : ℕ) (f : Edge) (a : Arc) → IsOpenFloor floors fixed f k → arc_upto (length fixed) now lags f a ≡ raised_by now lags f a
all_done now lags floors fixed k (Own id) a h = refl
all_done now lags floors fixed k New a h = refl
all_done now lags floors fixed k (PastHigh e) a h = refl
all_done now lags floors fixed k (PastLow e) a h = refl
all_done now lags floors fixed k (Now e) a h = let lt = h.0 in let t : nat_lt e (length fixed) ≡ true = grind (arith, nat_tests, lt) in ap (λ b. cond b (raised_by now lags (Now e) a) a) t
all_done now lags floors fixed k (End e) a h = refl

-- one more event leaves the other edges
same_upto : (e now : ℕ) (lags : List ℕ) (f : Edge) (a : Arc) → f ≢ Now e → arc_upto (e + 1) now lags f a ≡ arc_upto e now lags f a
same_upto e now lags (Own id) a ne = refl
same_upto e now lags New a ne = refl
same_upto e now lags (PastHigh j) a ne = refl
same_upto e now lags (PastLow j) a ne = refl
same_upto e now lags (Now j) a ne =
    let apart : j ≢ e = λ same. ne (ap Now same) in
    let t : nat_lt j (e + 1) ≡ nat_lt j e = grind (arith, nat_tests, apart) in
    ap (λ b. cond b (raised_by now lags (Now j) a) a) t
same_upto e now lags (End j) a ne = refl

now_raised : (e now : ℕ) (lags : List ℕ) (a : Arc) → arc_upto (e + 1) now lags (Now e) a ≡ raised_by now lags (Now e) a
now_raised e now lags a = let t : nat_lt e (e + 1) ≡ true = grind (arith, nat_tests) in ap (λ b. cond b (raised_by now lags (Now e) a) a) t

not_yet : (e now : ℕ) (lags : List ℕ) (a : Arc) → arc_upto e now lags (Now e) a ≡ a
not_yet e now lags a = let t : nat_lt e e ≡ false = grind (arith, nat_tests) in ap (λ b. cond b (raised_by now lags (Now e) a) a) t

pub upto_all : (now : ℕ) (lags floors : List ℕ) (fixed : List (Option ℕ)) (old new : List (Option Node)) (upto : ℕ) → upto ≡ length fixed → ((k : ℕ) (n : Node) → slice_index_or old k None ≡ Some n → IsOpenFloor floors fixed n.name k)
    → AreMapped (node_upto upto now lags) old new → AreMapped (raised_node now lags) old new
upto_all now lags floors fixed old new upto is only m = record {
  forth = λ k n at. (let h = m.forth k n at in (h.0, h.1, h.2, h.3 ∙ (ap (λ u. arc_upto u now lags n.name n.arc) is ∙ all_done now lags floors fixed k n.name n.arc (only k n at))));
  back = λ k x at. (let h = m.back k x at in (h.0, h.1, h.2, h.3 ∙ (ap (λ u. arc_upto u now lags h.0.name h.0.arc) is ∙ all_done now lags floors fixed k h.0.name h.0.arc (only k h.0 h.1))));
}

-- no edge has this name
pub upto_passed : (e now : ℕ) (lags : List ℕ) (old new : List (Option Node)) → ((k : ℕ) (n : Node) → slice_index_or old k None ≡ Some n → n.name ≢ Now e) → AreMapped (node_upto e now lags) old new → AreMapped (node_upto (e + 1) now lags) old new
upto_passed e now lags old new none m = record {
  forth = λ k n at. (let h = m.forth k n at in (h.0, h.1, h.2, h.3 ∙ sym (same_upto e now lags n.name n.arc (none k n at))));
  back = λ k x at. (let h = m.back k x at in (h.0, h.1, h.2, h.3 ∙ sym (same_upto e now lags h.0.name h.0.arc (none k h.0 h.1))));
}

pub open_is : (floors : List ℕ) (fixed : List (Option ℕ)) (f : Edge) (e k : ℕ) → f ≡ Now e → IsOpenFloor floors fixed f k → (e < length fixed) × (slice_index_or fixed e None ≡ None) × (get_or floors e 0 ≡ k)
open_is floors fixed f e k same h = subst (λ x. IsOpenFloor floors fixed x k) same h

-- the edge of this name was written
module _ (e now key : ℕ) (lags floors : List ℕ) (fixed : List (Option ℕ)) (old mid new : List (Option Node)) (x : Node) (w : ℤ)
    (key_is : get_or floors e 0 ≡ key)
    (only : (k : ℕ) (n : Node) → slice_index_or old k None ≡ Some n → IsOpenFloor floors fixed n.name k)
    (m : AreMapped (node_upto e now lags) old mid)
    (x_is : slice_index_or mid key None ≡ Some x)
    (x_name : x.name ≡ Now e)
    (w_is : w ≡ pos 0 -ℤ pos (floor_at now lags e))
    (here : slice_index_or new key None ≡ Some (weighed (Now e) w x))
    (others : (k : ℕ) → k ≢ key → slice_index_or new k None ≡ slice_index_or mid k None)
  where
    named : (k : ℕ) (n : Node) → slice_index_or old k None ≡ Some n → k ≢ key → n.name ≢ Now e
    named k n at ne same = let h = open_is floors fixed n.name e k same (only k n at) in ne (sym h.2 ∙ key_is)

    written_arc : (n : Node) → x.name ≡ n.name → x.arc ≡ arc_upto e now lags n.name n.arc → ◌≡◌ {A = Arc} (record { from = x.arc.from; to = x.arc.to; weight = w }) (arc_upto (e + 1) now lags n.name n.arc)
    written_arc n name arc =
        let n_name : n.name ≡ Now e = sym name ∙ x_name in
        let was : x.arc ≡ n.arc = arc ∙ (ap (λ f. arc_upto e now lags f n.arc) n_name ∙ not_yet e now lags n.arc) in
        ap (λ (a : Arc). record { from = a.from; to = a.to; weight = w }) was
        ∙ (ap (λ v. record { from = n.arc.from; to = n.arc.to; weight = v }) w_is
        ∙ (sym (now_raised e now lags n.arc)
        ∙ ap (λ f. arc_upto (e + 1) now lags f n.arc) (sym n_name)))

    pub upto_written : AreMapped (node_upto (e + 1) now lags) old new
    upto_written = record {
      forth = λ k n at.
          (let h = m.forth k n at in
          elim (same_or k key) [
            | inl same ↦
                (let both : Some h.0 ≡ Some x = sym h.1 ∙ (ap (λ j. slice_index_or mid j None) same ∙ x_is) in
                let it : h.0 ≡ x = cc in
                let name : x.name ≡ n.name = ap (λ (y : Node). y.name) (sym it) ∙ h.2 in
                (weighed (Now e) w x, ap (λ j. slice_index_or new j None) same ∙ here, sym x_name ∙ name, written_arc n name (ap (λ (y : Node). y.arc) (sym it) ∙ h.3)))
            | inr ne ↦ (h.0, others k ne ∙ h.1, h.2, h.3 ∙ sym (same_upto e now lags n.name n.arc (named k n at ne)))
          ]);
      back = λ k y at.
          (elim (same_or k key) [
            | inl same ↦
                (let both : Some y ≡ Some (weighed (Now e) w x) = sym at ∙ (ap (λ j. slice_index_or new j None) same ∙ here) in
                let it : y ≡ weighed (Now e) w x = cc in
                let h = m.back key x x_is in
                (h.0, ap (λ j. slice_index_or old j None) same ∙ h.1, ap (λ (z : Node). z.name) it ∙ (sym x_name ∙ h.2), ap (λ (z : Node). z.arc) it ∙ written_arc h.0 h.2 h.3))
            | inr ne ↦ (let h = m.back k y (sym (others k ne) ∙ at) in (h.0, h.1, h.2, h.3 ∙ sym (same_upto e now lags h.0.name h.0.arc (named k h.0 h.1 ne))))
          ]);
    }
