-- Lists of halves when an edge comes, goes, or gets another weight.
use Rattle.std.proofs.Common.{◌≡◌, ◌≢◌, ℕ, ◌+◌, ◌-◌, ◌<◌, ◌≤◌, List, [], ◌∷◌, ◌++◌, length, refl, sym, ◌∙◌, ap, subst, inl, inr, arith, set, get_or-set_other, zero, suc, take}
use Rattle.std.specs.Prelude.{Result, Ok, Err, OnErr, Option, Some, None, ℤ, slice_index_or}
use Rattle.std.specs.declared.alloc.Global.{Global}
use Rattle.std.specs.declared.vec.Vec.{Vec}
use Rattle.std.proofs.lemmas.Option.{none-some, same_Some}
use Rattle.std.proofs.lemmas.List.{get_or_append_left, get_or_push}
use Rattle.std.proofs.lemmas.Grind.{common_steps, get_or-set_at}
use Rattle.std.proofs.lemmas.Bool.Decides.{nat_tests}
use Rattle.tp_net.proofs.Spreads.{same_or}
use Rattle.tp_bounds.specs.declared.Edge.{Edge}
use Rattle.tp_repair_engine.specs.declared.store.Node.{Node}
use Rattle.tp_repair_engine.specs.declared.store.Half.{Half}
use Rattle.tp_repair_engine.specs.declared.store.Direction.{Direction}
use Rattle.tp_repair_engine.specs.declared.store.Direction.TheVariants.{Up, Down}
use Rattle.tp_net.specs.declared.slacks.Arc.{Arc}
use Rattle.tp_repair_engine.specs.Store.{near, far_end, place_of, other_place, placed, weighed, half_of, half_at, no_half, halves_at, one_at, IsHalf, AreHalves, AreHalvesBut, AreMoved}
use Rattle.tp_repair_engine.proofs.Stores.{HalfNode, stands, half_of_node}

pub push_len : (xs : List Half) (h : Half) → length (xs ++ h ∷ []) ≡ length xs + 1
push_len xs h = grind (arith, common_steps)

pub take_pushed : (xs : List Half) (h : Half) → take (length xs) (xs ++ h ∷ []) ≡ xs
take_pushed [] h = refl
take_pushed (x ∷ xs) h = ap (λ (hs : List Half). x ∷ hs) (take_pushed xs h)

pub on_err : {T E P : Type 0} (r : Result T E) → P → OnErr r P
on_err (Ok x) p = tt
on_err (Err e) p = p

-- what stands under a key
abbrev pub at_key : List (Option Node) → ℕ → Option Node
at_key slots k = slice_index_or slots k None

pub one_here : (p y : ℕ) → y ≡ p → one_at p y ≡ 1
one_here p y e = grind (arith, nat_tests)

pub one_there : (p y : ℕ) → y ≢ p → one_at p y ≡ 0
one_there p y ne = grind (arith, nat_tests)

-- a half is there as before
half_kept : (d : Direction) (slots slots' : List (Option Node)) (y j : ℕ) (h : Half) → ((k : ℕ) → k ≡ h.key → at_key slots' k ≡ at_key slots k) → HalfNode d slots y j h → HalfNode d slots' y j h
half_kept d slots slots' y j h same s = record { node = s.node; here = same h.key refl ∙ s.here; far = s.far; weight = s.weight; near_point = s.near_point; at_place = s.at_place }

-- an edge comes
module _ (d : Direction) (slots slots' : List (Option Node)) (lists lists' : List (Vec Half Global)) (key : ℕ) (n : Node)
    (t : AreHalves d slots lists)
    (free : at_key slots key ≡ None)
    (here : at_key slots' key ≡ Some n)
    (others : (k : ℕ) → k ≢ key → at_key slots' k ≡ at_key slots k)
    (place : place_of d n ≡ length (halves_at lists (near d n.arc)))
    (pushed : halves_at lists' (near d n.arc) ≡ halves_at lists (near d n.arc) ++ half_of d key n.arc ∷ [])
    (apart : (y : ℕ) → y ≢ near d n.arc → halves_at lists' y ≡ halves_at lists y)
  where
    stood : (y j : ℕ) → j < length (halves_at lists y) → HalfNode d slots' y j (half_at (halves_at lists y) j)
    stood y j inside =
        let s = stands _ _ _ _ _ (t.stand y j inside) in
        half_kept d slots slots' y j (half_at (halves_at lists y) j)
        (λ k is. others k (λ e. none-some s.node (sym free ∙ ap (λ z. at_key slots z) (sym e ∙ is) ∙ s.here))) s

    new_half : HalfNode d slots' (near d n.arc) (length (halves_at lists (near d n.arc))) (half_of d key n.arc)
    new_half = record { node = n; here = here; far = refl; weight = refl; near_point = refl; at_place = place }

    at_near : (j : ℕ) → j < length (halves_at lists' (near d n.arc)) → HalfNode d slots' (near d n.arc) j (half_at (halves_at lists' (near d n.arc)) j)
    at_near j inside =
        let xs = halves_at lists (near d n.arc) in
        let len : length (halves_at lists' (near d n.arc)) ≡ length xs + 1 = ap (λ (hs : List Half). length hs) pushed ∙ push_len xs (half_of d key n.arc) in
        elim (same_or j (length xs)) [
          | inl last ↦
              let v : half_at (halves_at lists' (near d n.arc)) j ≡ half_of d key n.arc = ap (λ hs. half_at hs j) pushed ∙ get_or_push xs (half_of d key n.arc) no_half j (sym last) in
              subst (λ h. HalfNode d slots' (near d n.arc) j h) (sym v) (subst (λ z. HalfNode d slots' (near d n.arc) z (half_of d key n.arc)) (sym last) new_half)
          | inr before ↦
              let within : j < length xs = omega (arith, inside, len, before) in
              let v : half_at (halves_at lists' (near d n.arc)) j ≡ half_at xs j = ap (λ hs. half_at hs j) pushed ∙ get_or_append_left xs (half_of d key n.arc ∷ []) no_half j within in
              subst (λ h. HalfNode d slots' (near d n.arc) j h) (sym v) (stood (near d n.arc) j within)
        ]

    abbrev Stands : ℕ → Node → Type 0
    Stands k m = (place_of d m < length (halves_at lists' (near d m.arc))) × ((half_at (halves_at lists' (near d m.arc)) (place_of d m)).key ≡ k)

    old_stands : (k : ℕ) (m : Node) → at_key slots k ≡ Some m → Stands k m
    old_stands k m is =
        let c = t.complete k m is in
        elim (same_or (near d m.arc) (near d n.arc)) [
          | inr ne ↦
              let e = apart (near d m.arc) ne in
              subst (λ (hs : List Half). (place_of d m < length hs) × ((half_at hs (place_of d m)).key ≡ k)) (sym e) c
          | inl eq ↦
              let xs = halves_at lists (near d n.arc) in
              let c' : (place_of d m < length xs) × ((half_at xs (place_of d m)).key ≡ k) = subst (λ y. (place_of d m < length (halves_at lists y)) × ((half_at (halves_at lists y) (place_of d m)).key ≡ k)) eq c in
              let v = get_or_append_left xs (half_of d key n.arc ∷ []) no_half (place_of d m) c'.0 in
              subst (λ y. (place_of d m < length (halves_at lists' y)) × ((half_at (halves_at lists' y) (place_of d m)).key ≡ k)) (sym eq)
              (subst (λ (hs : List Half). (place_of d m < length hs) × ((half_at hs (place_of d m)).key ≡ k)) (sym pushed)
              (omega (arith, c'.0, push_len xs (half_of d key n.arc)), ap (λ (h : Half). h.key) v ∙ c'.1))
        ]

    new_stands : Stands key n
    new_stands =
        let xs = halves_at lists (near d n.arc) in
        subst (λ (hs : List Half). (place_of d n < length hs) × ((half_at hs (place_of d n)).key ≡ key)) (sym pushed)
        (omega (arith, place, push_len xs (half_of d key n.arc)), ap (λ (h : Half). h.key) (get_or_push xs (half_of d key n.arc) no_half (place_of d n) (sym place)))

    pub halves_inserted : AreHalves d slots' lists'
    halves_inserted = record {
      stand = λ y j inside. half_of_node _ _ _ _ _ (elim (same_or y (near d n.arc)) [
        | inl e ↦ subst (λ z. HalfNode d slots' z j (half_at (halves_at lists' z) j)) (sym e) (at_near j (subst (λ z. j < length (halves_at lists' z)) e inside))
        | inr ne ↦
            subst (λ hs. HalfNode d slots' y j (half_at hs j)) (sym (apart y ne))
            (stood y j (subst (λ (hs : List Half). j < length hs) (apart y ne) inside))
      ]);
      complete = λ k m is.
          elim (same_or k key) [
            | inl e ↦
                let same : Some n ≡ Some m = sym here ∙ ap (λ z. at_key slots' z) (sym e) ∙ is in
                let nm : n ≡ m = same_Some n m same in
                subst (λ z. Stands z m) (sym e) (subst (λ z. Stands key z) nm new_stands)
            | inr ne ↦ old_stands k m (sym (others k ne) ∙ is)
          ];
    }

placed_near : (d : Direction) (p : ℕ) (n : Node) → near d (placed d p n).arc ≡ near d n.arc
placed_near Up p n = refl
placed_near Down p n = refl

placed_arc : (d : Direction) (p : ℕ) (n : Node) → (placed d p n).arc ≡ n.arc
placed_arc Up p n = refl
placed_arc Down p n = refl

placed_name : (d : Direction) (p : ℕ) (n : Node) → (placed d p n).name ≡ n.name
placed_name Up p n = refl
placed_name Down p n = refl

placed_place : (d : Direction) (p : ℕ) (n : Node) → place_of d (placed d p n) ≡ p
placed_place Up p n = refl
placed_place Down p n = refl

placed_other : (d : Direction) (p : ℕ) (n : Node) → other_place d (placed d p n) ≡ other_place d n
placed_other Up p n = refl
placed_other Down p n = refl

-- an edge is in the list of a point that there is
pub halves_within : (lists : List (Vec Half Global)) (y j : ℕ) → j < length (halves_at lists y) → y < length lists
halves_within [] y j inside = absurd (omega (arith, inside))
halves_within (v ∷ lists) zero j inside = omega arith
halves_within (v ∷ lists) (suc y) j inside = (let h = halves_within lists y j inside in omega (arith, h))

pub near_within : (d : Direction) (slots : List (Option Node)) (lists : List (Vec Half Global)) (k : ℕ) (n : Node) → AreHalves d slots lists → at_key slots k ≡ Some n → near d n.arc < length lists
near_within d slots lists k n t is = halves_within lists (near d n.arc) (place_of d n) (t.complete k n is).0

-- an edge has gone, but its half is there
module _ (d : Direction) (slots slots' : List (Option Node)) (lists : List (Vec Half Global)) (key : ℕ) (n : Node)
    (t : AreHalves d slots lists)
    (was : at_key slots key ≡ Some n)
    (gone : at_key slots' key ≡ None)
    (others : (k : ℕ) → k ≢ key → at_key slots' k ≡ at_key slots k)
  where
    not_gone : (k : ℕ) (m : Node) → at_key slots' k ≡ Some m → k ≢ key
    not_gone k m is e = none-some m (sym gone ∙ ap (λ z. at_key slots' z) (sym e) ∙ is)

    pub halves_left : AreHalvesBut d slots' lists (near d n.arc) (place_of d n)
    halves_left = record {
      here = (t.complete key n was).0;
      stand = λ y j inside apart. half_of_node _ _ _ _ _ ((let h = half_at (halves_at lists y) j in
          let s = stands _ _ _ _ _ (t.stand y j inside) in
          half_kept d slots slots' y j h
          (λ k is. others k (λ e.
          (let same : Some n ≡ Some s.node = sym was ∙ ap (λ z. at_key slots z) (sym e ∙ is) ∙ s.here in
          let node : n ≡ s.node = same_Some n s.node same in
          let y_is : y ≡ near d n.arc = sym s.near_point ∙ ap (λ (m : Node). near d m.arc) (sym node) in
          let j_is : j ≡ place_of d n = sym s.at_place ∙ ap (λ m. place_of d m) (sym node) in
          apart y_is j_is))) s));
      complete = λ k m is. t.complete k m (sym (others k (not_gone k m is)) ∙ is);
      apart = λ k m is near_is place_is.
          (let c = t.complete k m (sym (others k (not_gone k m is)) ∙ is) in
          let c' = t.complete key n was in
          let same : (half_at (halves_at lists (near d m.arc)) (place_of d m)).key ≡ (half_at (halves_at lists (near d n.arc)) (place_of d n)).key =
          ap (λ y. (half_at (halves_at lists y) (place_of d m)).key) near_is ∙ ap (λ j. (half_at (halves_at lists (near d n.arc)) j).key) place_is in
          not_gone k m is (sym c.1 ∙ same ∙ c'.1));
    }

-- places in the other lists have changed
module _ (d e : Direction) (slots slots' : List (Option Node)) (lists : List (Vec Half Global))
    (same : (m n : Node) → other_place e m ≡ other_place e n → place_of d m ≡ place_of d n)
    (moved : AreMoved e slots slots')
  where
    moved_half : (y j : ℕ) (h : Half) → HalfNode d slots y j h → HalfNode d slots' y j h
    moved_half y j h s =
        let m = moved.forth h.key s.node s.here in
        record {
          node = m.0;
          here = m.1;
          far = s.far ∙ ap (λ a. far_end d a) (sym m.3);
          weight = s.weight ∙ ap (λ (a : Arc). a.weight) (sym m.3);
          near_point = ap (λ a. near d a) m.3 ∙ s.near_point;
          at_place = same m.0 s.node m.4 ∙ s.at_place;
        }

    moved_stands : (k : ℕ) (m : Node)
        → ((n : Node) → at_key slots k ≡ Some n → (place_of d n < length (halves_at lists (near d n.arc))) × ((half_at (halves_at lists (near d n.arc)) (place_of d n)).key ≡ k))
        → at_key slots' k ≡ Some m → (place_of d m < length (halves_at lists (near d m.arc))) × ((half_at (halves_at lists (near d m.arc)) (place_of d m)).key ≡ k)
    moved_stands k m old is =
        let n = moved.back k m is in
        subst (λ j. (j < length (halves_at lists (near d m.arc))) × ((half_at (halves_at lists (near d m.arc)) j).key ≡ k)) (sym (same m n.0 n.4))
        (subst (λ a. (place_of d n.0 < length (halves_at lists (near d a))) × ((half_at (halves_at lists (near d a)) (place_of d n.0)).key ≡ k)) (sym n.3) (old n.0 n.1))

    pub halves_but_moved : (point place : ℕ) → AreHalvesBut d slots lists point place → AreHalvesBut d slots' lists point place
    halves_but_moved point place t = record {
      here = t.here;
      stand = λ y j inside apart. half_of_node _ _ _ _ _ (moved_half y j (half_at (halves_at lists y) j) (stands _ _ _ _ _ (t.stand y j inside apart)));
      complete = λ k m is. moved_stands k m (t.complete k) is;
      apart = λ k m is near_is. (let n = moved.back k m is in λ e. t.apart k n.0 n.1 (ap (λ a. near d a) (sym n.3) ∙ near_is) (sym (same m n.0 n.4) ∙ e));
    }

pub moved_one : (d : Direction) (slots slots' : List (Option Node)) (key place : ℕ) (n : Node) → at_key slots key ≡ Some n → at_key slots' key ≡ Some (placed d place n)
    → ((k : ℕ) → k ≢ key → at_key slots' k ≡ at_key slots k) → AreMoved d slots slots'
moved_one d slots slots' key place n was now others = record {
  forth = λ k m is.
      elim (same_or k key) [
        | inl e ↦
            let nm : n ≡ m = same_Some n m (sym was ∙ ap (λ z. at_key slots z) (sym e) ∙ is) in
            (placed d place n, ap (λ z. at_key slots' z) e ∙ now, placed_name d place n ∙ ap (λ (x : Node). x.name) nm, placed_arc d place n ∙ ap (λ (x : Node). x.arc) nm, placed_other d place n ∙ ap (λ x. other_place d x) nm)
        | inr ne ↦ (m, others k ne ∙ is, refl, refl, refl)
      ];
  back = λ k m is.
      elim (same_or k key) [
        | inl e ↦
            let nm : m ≡ placed d place n = same_Some m (placed d place n) (sym is ∙ ap (λ z. at_key slots' z) e ∙ now) in
            (n, ap (λ z. at_key slots z) e ∙ was, ap (λ (x : Node). x.name) nm ∙ placed_name d place n, ap (λ (x : Node). x.arc) nm ∙ placed_arc d place n, ap (λ x. other_place d x) nm ∙ placed_other d place n)
        | inr ne ↦ (m, sym (others k ne) ∙ is, refl, refl, refl)
      ];
}

-- the half that stood for no edge is taken out
module _ (d : Direction) (slots : List (Option Node)) (lists lists' : List (Vec Half Global)) (p q : ℕ)
    (t : AreHalvesBut d slots lists p q)
    (shorter : length (halves_at lists' p) + 1 ≡ length (halves_at lists p))
    (moved : q + 1 < length (halves_at lists p) → half_at (halves_at lists' p) q ≡ half_at (halves_at lists p) (length (halves_at lists p) - 1))
    (stay : (j : ℕ) → j ≢ q → j + 1 < length (halves_at lists p) → half_at (halves_at lists' p) j ≡ half_at (halves_at lists p) j)
    (apart : (y : ℕ) → y ≢ p → halves_at lists' y ≡ halves_at lists y)
  where
    abbrev StandsAt : Node → ℕ → Type 0
    StandsAt m k = (place_of d m < length (halves_at lists' (near d m.arc))) × ((half_at (halves_at lists' (near d m.arc)) (place_of d m)).key ≡ k)

    -- an edge whose half did not move
    stayed : (k : ℕ) (m : Node) → at_key slots k ≡ Some m → (near d m.arc ≡ p → place_of d m + 1 < length (halves_at lists p)) → StandsAt m k
    stayed k m is early =
        let c = t.complete k m is in
        elim (same_or (near d m.arc) p) [
          | inr ne ↦ subst (λ (hs : List Half). (place_of d m < length hs) × ((half_at hs (place_of d m)).key ≡ k)) (sym (apart (near d m.arc) ne)) c
          | inl e ↦
              let before = early e in
              let ne = t.apart k m is e in
              let c' : (half_at (halves_at lists p) (place_of d m)).key ≡ k = subst (λ y. (half_at (halves_at lists y) (place_of d m)).key ≡ k) e c.1 in
              subst (λ y. (place_of d m < length (halves_at lists' y)) × ((half_at (halves_at lists' y) (place_of d m)).key ≡ k)) (sym e)
              (omega (arith, before, shorter), ap (λ (h : Half). h.key) (stay (place_of d m) ne before) ∙ c')
        ]

    -- it was the last
    pub halves_taken_last : length (halves_at lists' p) ≤ q → AreHalves d slots lists'
    halves_taken_last done = record {
      stand = λ y j within.
          elim (same_or y p) [
            | inr ne ↦
                subst (λ hs. IsHalf d slots y j (half_at hs j)) (sym (apart y ne))
                (t.stand y j (subst (λ (hs : List Half). j < length hs) (apart y ne) within) (λ e. absurd (ne e)))
            | inl e ↦
                let within' : j < length (halves_at lists' p) = subst (λ z. j < length (halves_at lists' z)) e within in
                let ne : j ≢ q = λ z. omega (arith, z, within', done) in
                let before : j + 1 < length (halves_at lists p) = omega (arith, within', shorter) in
                subst (λ z. IsHalf d slots z j (half_at (halves_at lists' z) j)) (sym e)
                (subst (λ h. IsHalf d slots p j h) (sym (stay j ne before)) (t.stand p j (omega (arith, before)) (λ _. ne)))
          ];
      complete = λ k m is.
          stayed k m is (λ e.
          (let inside : place_of d m < length (halves_at lists p) = subst (λ y. place_of d m < length (halves_at lists y)) e (t.complete k m is).0 in
          let ne = t.apart k m is e in
          let here = t.here in
          omega (arith, inside, ne, here, shorter, done)));
    }

    -- the last one came to its place
    module _ (slots' : List (Option Node)) (key : ℕ) (n : Node)
        (inside : q < length (halves_at lists' p))
        (key_is : key ≡ (half_at (halves_at lists' p) q).key)
        (was : at_key slots key ≡ Some n)
        (now : at_key slots' key ≡ Some (placed d q n))
        (others : (k : ℕ) → k ≢ key → at_key slots' k ≡ at_key slots k)
      where
        abbrev last : ℕ
        last = length (halves_at lists p) - 1

        late : q + 1 < length (halves_at lists p)
        late = omega (arith, inside, shorter)

        last_half : HalfNode d slots p last (half_at (halves_at lists p) last)
        last_half = stands _ _ _ _ _ (t.stand p last (omega (arith, late)) (λ _ e. absurd (omega (arith, late, e))))

        last_key : (half_at (halves_at lists p) last).key ≡ key
        last_key = ap (λ (h : Half). h.key) (sym (moved late)) ∙ sym key_is

        last_node : last_half.node ≡ n
        last_node = same_Some last_half.node n (sym last_half.here ∙ ap (λ z. at_key slots z) last_key ∙ was)

        n_near : near d n.arc ≡ p
        n_near = ap (λ (m : Node). near d m.arc) (sym last_node) ∙ last_half.near_point

        n_place : place_of d n ≡ last
        n_place = ap (λ m. place_of d m) (sym last_node) ∙ last_half.at_place

        -- a half of another edge
        other_half : (y j : ℕ) (h : Half) → (y ≡ p → j ≢ last) → HalfNode d slots y j h → HalfNode d slots' y j h
        other_half y j h ne s = half_kept d slots slots' y j h
            (λ k is. others k (λ e.
            (let node : n ≡ s.node = same_Some n s.node (sym was ∙ ap (λ z. at_key slots z) (sym e ∙ is) ∙ s.here) in
            let y_is : y ≡ p = sym s.near_point ∙ ap (λ (m : Node). near d m.arc) (sym node) ∙ n_near in
            let j_is : j ≡ last = sym s.at_place ∙ ap (λ m. place_of d m) (sym node) ∙ n_place in
            ne y_is j_is))) s

        came : HalfNode d slots' p q (half_at (halves_at lists' p) q)
        came =
            subst (λ h. HalfNode d slots' p q h) (sym (moved late))
            (record {
              node = placed d q n;
              here = ap (λ z. at_key slots' z) last_key ∙ now;
              far = last_half.far ∙ ap (λ (m : Node). far_end d m.arc) last_node ∙ ap (λ a. far_end d a) (sym (placed_arc d q n));
              weight = last_half.weight ∙ ap (λ (m : Node). m.arc.weight) last_node ∙ ap (λ (a : Arc). a.weight) (sym (placed_arc d q n));
              near_point = placed_near d q n ∙ n_near;
              at_place = placed_place d q n;
            })

        came_stands : StandsAt (placed d q n) key
        came_stands =
            subst (λ j. (j < length (halves_at lists' (near d (placed d q n).arc))) × ((half_at (halves_at lists' (near d (placed d q n).arc)) j).key ≡ key)) (sym (placed_place d q n))
            (subst (λ y. (q < length (halves_at lists' y)) × ((half_at (halves_at lists' y) q).key ≡ key)) (sym (placed_near d q n ∙ n_near)) (inside, sym key_is))

        pub halves_taken_moved : AreHalves d slots' lists'
        halves_taken_moved = record {
          stand = λ y j within. half_of_node _ _ _ _ _ (elim (same_or y p) [
            | inr ne ↦
                subst (λ hs. HalfNode d slots' y j (half_at hs j)) (sym (apart y ne))
                (other_half y j (half_at (halves_at lists y) j) (λ e. absurd (ne e)) (stands _ _ _ _ _ (t.stand y j (subst (λ (hs : List Half). j < length hs) (apart y ne) within) (λ e. absurd (ne e)))))
            | inl e ↦ subst (λ z. HalfNode d slots' z j (half_at (halves_at lists' z) j)) (sym e)
                (elim (same_or j q) [
                  | inl here ↦ subst (λ z. HalfNode d slots' p z (half_at (halves_at lists' p) z)) (sym here) came
                  | inr there ↦
                      let within' : j < length (halves_at lists' p) = subst (λ z. j < length (halves_at lists' z)) e within in
                      let before : j + 1 < length (halves_at lists p) = omega (arith, within', shorter) in
                      subst (λ h. HalfNode d slots' p j h) (sym (stay j there before))
                      (other_half p j (half_at (halves_at lists p) j) (λ _ z. absurd (omega (arith, before, z))) (stands _ _ _ _ _ (t.stand p j (omega (arith, before)) (λ _. there))))
                ])
          ]);
          complete = λ k m is.
              elim (same_or k key) [
                | inl e ↦
                    let node : placed d q n ≡ m = same_Some (placed d q n) m (sym now ∙ ap (λ z. at_key slots' z) (sym e) ∙ is) in
                    subst (λ z. StandsAt m z) (sym e) (subst (λ z. StandsAt z key) node came_stands)
                | inr ne ↦
                    let old : at_key slots k ≡ Some m = sym (others k ne) ∙ is in
                    stayed k m old (λ e.
                    (let c = t.complete k m old in
                    let c' : (place_of d m < length (halves_at lists p)) × ((half_at (halves_at lists p) (place_of d m)).key ≡ k) = subst (λ y. (place_of d m < length (halves_at lists y)) × ((half_at (halves_at lists y) (place_of d m)).key ≡ k)) e c in
                    let not_last : place_of d m ≢ last = λ z. ne (sym c'.1 ∙ ap (λ j. (half_at (halves_at lists p) j).key) z ∙ last_key) in
                    omega (arith, c'.0, not_last, late)))
              ];
        }

-- the edge whose half came
pub came_node : (d : Direction) (slots : List (Option Node)) (lists lists' : List (Vec Half Global)) (p q key : ℕ) → AreHalvesBut d slots lists p q
    → length (halves_at lists' p) + 1 ≡ length (halves_at lists p)
    → (q + 1 < length (halves_at lists p) → half_at (halves_at lists' p) q ≡ half_at (halves_at lists p) (length (halves_at lists p) - 1))
    → q < length (halves_at lists' p) → key ≡ (half_at (halves_at lists' p) q).key → (n : Node) × (at_key slots key ≡ Some n)
came_node d slots lists lists' p q key t shorter moved inside key_is =
    let late : q + 1 < length (halves_at lists p) = omega (arith, inside, shorter) in
    let s = stands _ _ _ _ _ (t.stand p (length (halves_at lists p) - 1) (omega (arith, late)) (λ _ e. absurd (omega (arith, late, e)))) in
    (s.node, ap (λ z. at_key slots z) (key_is ∙ ap (λ (h : Half). h.key) (moved late)) ∙ s.here)

weighed_near : (d : Direction) (name : Edge) (w : ℤ) (n : Node) → near d (weighed name w n).arc ≡ near d n.arc
weighed_near Up name w n = refl
weighed_near Down name w n = refl

weighed_far : (d : Direction) (name : Edge) (w : ℤ) (n : Node) → far_end d (weighed name w n).arc ≡ far_end d n.arc
weighed_far Up name w n = refl
weighed_far Down name w n = refl

weighed_place : (d : Direction) (name : Edge) (w : ℤ) (n : Node) → place_of d (weighed name w n) ≡ place_of d n
weighed_place Up name w n = refl
weighed_place Down name w n = refl

-- an edge and its half have another weight
module _ (d : Direction) (slots slots' : List (Option Node)) (lists lists' : List (Vec Half Global)) (key : ℕ) (n : Node) (name : Edge) (w : ℤ)
    (t : AreHalves d slots lists)
    (was : at_key slots key ≡ Some n)
    (now : at_key slots' key ≡ Some (weighed name w n))
    (others : (k : ℕ) → k ≢ key → at_key slots' k ≡ at_key slots k)
    (lens : (y : ℕ) → length (halves_at lists' y) ≡ length (halves_at lists y))
    (here : half_at (halves_at lists' (near d n.arc)) (place_of d n) ≡ record { far = (half_at (halves_at lists (near d n.arc)) (place_of d n)).far; key = (half_at (halves_at lists (near d n.arc)) (place_of d n)).key; weight = w })
    (stay : (y j : ℕ) → (y ≡ near d n.arc → j ≢ place_of d n) → half_at (halves_at lists' y) j ≡ half_at (halves_at lists y) j)
  where
    abbrev Weighs : ℕ → Node → Type 0
    Weighs k m = (place_of d m < length (halves_at lists' (near d m.arc))) × ((half_at (halves_at lists' (near d m.arc)) (place_of d m)).key ≡ k)

    was_in : (place_of d n < length (halves_at lists (near d n.arc))) × ((half_at (halves_at lists (near d n.arc)) (place_of d n)).key ≡ key)
    was_in = t.complete key n was

    was_half : HalfNode d slots (near d n.arc) (place_of d n) (half_at (halves_at lists (near d n.arc)) (place_of d n))
    was_half = stands _ _ _ _ _ (t.stand (near d n.arc) (place_of d n) was_in.0)

    was_node : was_half.node ≡ n
    was_node = same_Some was_half.node n (sym was_half.here ∙ ap (λ z. at_key slots z) was_in.1 ∙ was)

    weighed_half : HalfNode d slots' (near d n.arc) (place_of d n) (half_at (halves_at lists' (near d n.arc)) (place_of d n))
    weighed_half = subst (λ h. HalfNode d slots' (near d n.arc) (place_of d n) h) (sym here)
        (record {
          node = weighed name w n;
          here = ap (λ z. at_key slots' z) was_in.1 ∙ now;
          far = was_half.far ∙ ap (λ (m : Node). far_end d m.arc) was_node ∙ sym (weighed_far d name w n);
          weight = refl;
          near_point = weighed_near d name w n;
          at_place = weighed_place d name w n;
        })

    same_half : (y j : ℕ) → j < length (halves_at lists y) → (y ≡ near d n.arc → j ≢ place_of d n) → HalfNode d slots' y j (half_at (halves_at lists' y) j)
    same_half y j inside apart = subst (λ h. HalfNode d slots' y j h) (sym (stay y j apart))
        (let h = half_at (halves_at lists y) j in
        let s = stands _ _ _ _ _ (t.stand y j inside) in
        half_kept d slots slots' y j h
        (λ k is. others k (λ e.
        (let node : n ≡ s.node = same_Some n s.node (sym was ∙ ap (λ z. at_key slots z) (sym e ∙ is) ∙ s.here) in
        apart (sym s.near_point ∙ ap (λ (m : Node). near d m.arc) (sym node)) (sym s.at_place ∙ ap (λ m. place_of d m) (sym node))))) s)

    pub halves_weighed : AreHalves d slots' lists'
    halves_weighed = record {
      stand = λ y j inside'. half_of_node _ _ _ _ _ (let inside : j < length (halves_at lists y) = omega (arith, inside', lens y) in
          elim (same_or y (near d n.arc)) [
            | inr ne ↦ same_half y j inside (λ e. absurd (ne e))
            | inl e ↦ elim (same_or j (place_of d n)) [
              | inr ne ↦ same_half y j inside (λ _. ne)
              | inl i ↦ subst (λ z. HalfNode d slots' z j (half_at (halves_at lists' z) j)) (sym e) (subst (λ z. HalfNode d slots' (near d n.arc) z (half_at (halves_at lists' (near d n.arc)) z)) (sym i) weighed_half)
            ]
          ]);
      complete = λ k m is.
          elim (same_or k key) [
            | inl e ↦
                let node : weighed name w n ≡ m = same_Some (weighed name w n) m (sym now ∙ ap (λ z. at_key slots' z) (sym e) ∙ is) in
                let there : Weighs key (weighed name w n) =
                subst (λ y. (place_of d (weighed name w n) < length (halves_at lists' y)) × ((half_at (halves_at lists' y) (place_of d (weighed name w n))).key ≡ key)) (sym (weighed_near d name w n))
                (subst (λ j. (j < length (halves_at lists' (near d n.arc))) × ((half_at (halves_at lists' (near d n.arc)) j).key ≡ key)) (sym (weighed_place d name w n))
                (omega (arith, was_in.0, lens (near d n.arc)), ap (λ (h : Half). h.key) here ∙ was_in.1)) in
                subst (λ z. Weighs z m) (sym e) (subst (λ z. Weighs key z) node there)
            | inr ne ↦
                let c = t.complete k m (sym (others k ne) ∙ is) in
                let apart : near d m.arc ≡ near d n.arc → place_of d m ≢ place_of d n = λ y_is j_is.
                ne (sym c.1 ∙ ap (λ y. (half_at (halves_at lists y) (place_of d m)).key) y_is ∙ ap (λ j. (half_at (halves_at lists (near d n.arc)) j).key) j_is ∙ was_in.1) in
                (omega (arith, c.0, lens (near d m.arc)), ap (λ (h : Half). h.key) (stay (near d m.arc) (place_of d m) apart) ∙ c.1)
          ];
    }

-- a slot that was written
slot_within : (slots : List (Option Node)) (key : ℕ) (n : Node) → at_key slots key ≡ Some n → key < length slots
slot_within [] key n is = absurd (none-some n is)
slot_within (o ∷ slots) zero n is = omega arith
slot_within (o ∷ slots) (suc key) n is = (let h = slot_within slots key n is in omega (arith, h))

pub slot_written : (slots : List (Option Node)) (key : ℕ) (n m : Node) → at_key slots key ≡ Some n → at_key (set slots key (Some m)) key ≡ Some m
slot_written slots key n m is = get_or-set_at slots key key (Some m) None refl (slot_within slots key n is)

pub slot_other : (slots : List (Option Node)) (key : ℕ) (m : Node) (k : ℕ) → k ≢ key → at_key (set slots key (Some m)) k ≡ at_key slots k
slot_other slots key m k ne = rw get_or-set_other refl

-- one more list with nothing in it
pub empty_more : (lists : List (Vec Half Global)) (v : Vec Half Global) → v.items ≡ [] → ((y : ℕ) → halves_at lists y ≡ []) → (y : ℕ) → halves_at (lists ++ v ∷ []) y ≡ []
empty_more [] v none all zero = none
empty_more [] v none all (suc y) = refl
empty_more (w ∷ lists) v none all zero = all 0
empty_more (w ∷ lists) v none all (suc y) = empty_more lists v none (λ z. all (suc z)) y

-- no edge, and no half
pub halves_none : (d : Direction) (slots : List (Option Node)) (lists : List (Vec Half Global)) → ((k : ℕ) → at_key slots k ≡ None) → ((y : ℕ) → halves_at lists y ≡ []) → AreHalves d slots lists
halves_none d slots lists none empty = record {
  stand = λ y j inside. absurd (let e : length (halves_at lists y) ≡ 0 = ap (λ (hs : List Half). length hs) (empty y) in omega (arith, inside, e));
  complete = λ k n is. absurd (none-some n (sym (none k) ∙ is));
}

pub none_at : (slots : List (Option Node)) → slots ≡ [] → (k : ℕ) → at_key slots k ≡ None
none_at slots e k = ap (λ (xs : List (Option Node)). at_key xs k) e
