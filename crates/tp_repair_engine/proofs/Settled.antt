-- The two edges of an event with the origin, when it is fixed; and put back.
use Rattle.std.proofs.Common.{◌≡◌, ◌≢◌, ℕ, cond, nat_eq, true, false, inl, inr, List, refl, sym, ◌∙◌, ap, arith}
use Rattle.std.specs.Prelude.{Option, Some, None, slice_index_or, ℤ, pos, ◌-ℤ◌}
use Rattle.std.proofs.lemmas.Bool.Decides.{nat_tests}
use Rattle.tp_bounds.specs.declared.Edge.{Edge}
use Rattle.tp_bounds.specs.declared.Edge.TheVariants.{Own, New, PastHigh, PastLow, Now, End}
use Rattle.tp_net.specs.declared.slacks.Arc.{Arc}
use Rattle.tp_net.specs.Arcs.{past_name, past_arc}
use Rattle.tp_net.proofs.Spreads.{same_or}
use Rattle.tp_repair_engine.specs.declared.store.Node.{Node}
use Rattle.tp_repair_engine.specs.Store.{weighed}
use Rattle.tp_repair_engine.specs.Engine.{AreSame, AreMapped}
use Rattle.tp_repair_engine.specs.Slots.{past_node}

itself : (e : ℕ) → nat_eq e e ≡ true
itself e = grind (arith, nat_tests)

apart : (k e : ℕ) → k ≢ e → nat_eq k e ≡ false
apart k e ne = grind (arith, nat_tests, ne)

past_floor : (e : ℕ) → past_name e (Now e) ≡ PastLow e
past_floor e = ap (λ t. cond t (PastLow e) (Now e)) (itself e)

past_end : (e : ℕ) → past_name e (End e) ≡ PastHigh e
past_end e = ap (λ t. cond t (PastHigh e) (End e)) (itself e)

past_floor_arc : (e m : ℕ) (a : Arc) → past_arc e m (Now e) a ≡ record { from = a.from; to = a.to; weight = pos 0 -ℤ pos m }
past_floor_arc e m a = ap (λ t. cond t (record { from = a.from; to = a.to; weight = pos 0 -ℤ pos m }) a) (itself e)

past_end_arc : (e m : ℕ) (a : Arc) → past_arc e m (End e) a ≡ record { from = a.from; to = a.to; weight = pos m }
past_end_arc e m a = ap (λ t. cond t (record { from = a.from; to = a.to; weight = pos m }) a) (itself e)

other_name : (e : ℕ) (f : Edge) → f ≢ Now e → f ≢ End e → past_name e f ≡ f
other_name e (Own id) a b = refl
other_name e New a b = refl
other_name e (PastHigh k) a b = refl
other_name e (PastLow k) a b = refl
other_name e (Now k) a b = ap (λ t. cond t (PastLow k) (Now k)) (apart k e (λ same. a (ap Now same)))
other_name e (End k) a b = ap (λ t. cond t (PastHigh k) (End k)) (apart k e (λ same. b (ap End same)))

other_arc : (e m : ℕ) (f : Edge) (x : Arc) → f ≢ Now e → f ≢ End e → past_arc e m f x ≡ x
other_arc e m (Own id) x a b = refl
other_arc e m New x a b = refl
other_arc e m (PastHigh k) x a b = refl
other_arc e m (PastLow k) x a b = refl
other_arc e m (Now k) x a b = ap (λ t. cond t (record { from = x.from; to = x.to; weight = pos 0 -ℤ pos m }) x) (apart k e (λ same. a (ap Now same)))
other_arc e m (End k) x a b = ap (λ t. cond t (record { from = x.from; to = x.to; weight = pos m }) x) (apart k e (λ same. b (ap End same)))

arc_weight : (a : Arc) (v w : ℤ) → v ≡ w → ◌≡◌ {A = Arc} (record { from = a.from; to = a.to; weight = v }) (record { from = a.from; to = a.to; weight = w })
arc_weight a v w same = ap (λ x. record { from = a.from; to = a.to; weight = x }) same

pub one_node : (slots : List (Option Node)) (k key : ℕ) (n m : Node) → k ≡ key → slice_index_or slots key None ≡ Some m → slice_index_or slots k None ≡ Some n → n ≡ m
one_node slots k key n m same there is = let here : Some n ≡ Some m = sym is ∙ (ap (λ j. slice_index_or slots j None) same ∙ there) in let n_is : n ≡ m = cc in n_is

module _ (e m floor end : ℕ) (old mid new : List (Option Node)) (f h : Node)
    (f_is : slice_index_or old floor None ≡ Some f)
    (f_name : f.name ≡ Now e)
    (h_is : slice_index_or old end None ≡ Some h)
    (h_name : h.name ≡ End e)
  where
    pub two_keys : end ≢ floor
    two_keys same =
        let both : Some h ≡ Some f = sym h_is ∙ (ap (λ j. slice_index_or old j None) same ∙ f_is) in
        let it : h ≡ f = cc in
        let names : End e ≡ Now e = sym h_name ∙ (ap (λ (x : Node). x.name) it ∙ f_name) in
        let g : ⊥ = cc in g

    -- both are written
    module _ (v w : ℤ)
        (only_floor : (k : ℕ) (n : Node) → slice_index_or old k None ≡ Some n → n.name ≡ Now e → k ≡ floor)
        (only_end : (k : ℕ) (n : Node) → slice_index_or old k None ≡ Some n → n.name ≡ End e → k ≡ end)
        (f_now : slice_index_or mid floor None ≡ Some (weighed (PastLow e) v f))
        (f_others : (k : ℕ) → k ≢ floor → slice_index_or mid k None ≡ slice_index_or old k None)
        (h_now : slice_index_or new end None ≡ Some (weighed (PastHigh e) w h))
        (h_others : (k : ℕ) → k ≢ end → slice_index_or new k None ≡ slice_index_or mid k None)
        (v_is : v ≡ pos 0 -ℤ pos m)
        (w_is : w ≡ pos m)
      where
        floor_end : floor ≢ end
        floor_end same = two_keys (sym same)

        floor_name : past_name e f.name ≡ PastLow e
        floor_name = ap (past_name e) f_name ∙ past_floor e

        floor_arc : past_arc e m f.name f.arc ≡ record { from = f.arc.from; to = f.arc.to; weight = v }
        floor_arc = ap (λ n. past_arc e m n f.arc) f_name ∙ (past_floor_arc e m f.arc ∙ arc_weight f.arc (pos 0 -ℤ pos m) v (sym v_is))

        end_name : past_name e h.name ≡ PastHigh e
        end_name = ap (past_name e) h_name ∙ past_end e

        end_arc : past_arc e m h.name h.arc ≡ record { from = h.arc.from; to = h.arc.to; weight = w }
        end_arc = ap (λ n. past_arc e m n h.arc) h_name ∙ (past_end_arc e m h.arc ∙ arc_weight h.arc (pos m) w (sym w_is))

        pub settled_mapped : AreMapped (past_node e m) old new
        settled_mapped = record {
          forth = λ k n is.
              (elim (same_or k floor) [
                | inl same ↦
                    (let it : n ≡ f = one_node old k floor n f same f_is is in
                    (weighed (PastLow e) v f, ap (λ j. slice_index_or new j None) same ∙ (h_others floor floor_end ∙ f_now), sym (ap (λ (x : Node). past_name e x.name) it ∙ floor_name), sym (ap (λ (x : Node). past_arc e m x.name x.arc) it ∙ floor_arc)))
                | inr ne ↦
                    (elim (same_or k end) [
                      | inl same ↦
                          (let it : n ≡ h = one_node old k end n h same h_is is in
                          (weighed (PastHigh e) w h, ap (λ j. slice_index_or new j None) same ∙ h_now, sym (ap (λ (x : Node). past_name e x.name) it ∙ end_name), sym (ap (λ (x : Node). past_arc e m x.name x.arc) it ∙ end_arc)))
                      | inr other ↦
                          (let a : n.name ≢ Now e = λ named. ne (only_floor k n is named) in
                          let b : n.name ≢ End e = λ named. other (only_end k n is named) in
                          (n, h_others k other ∙ (f_others k ne ∙ is), sym (other_name e n.name a b), sym (other_arc e m n.name n.arc a b)))
                    ])
              ]);
          back = λ k x is.
              (elim (same_or k floor) [
                | inl same ↦
                    (let it : x ≡ weighed (PastLow e) v f = one_node new k floor x (weighed (PastLow e) v f) same (h_others floor floor_end ∙ f_now) is in
                    (f, ap (λ j. slice_index_or old j None) same ∙ f_is, ap (λ (y : Node). y.name) it ∙ sym floor_name, ap (λ (y : Node). y.arc) it ∙ sym floor_arc))
                | inr ne ↦
                    (elim (same_or k end) [
                      | inl same ↦
                          (let it : x ≡ weighed (PastHigh e) w h = one_node new k end x (weighed (PastHigh e) w h) same h_now is in
                          (h, ap (λ j. slice_index_or old j None) same ∙ h_is, ap (λ (y : Node). y.name) it ∙ sym end_name, ap (λ (y : Node). y.arc) it ∙ sym end_arc))
                      | inr other ↦
                          (let was = sym (f_others k ne) ∙ (sym (h_others k other) ∙ is) in
                          let a : x.name ≢ Now e = λ named. ne (only_floor k x was named) in
                          let b : x.name ≢ End e = λ named. other (only_end k x was named) in
                          (x, was, sym (other_name e x.name a b), sym (other_arc e m x.name x.arc a b)))
                    ])
              ]);
        }

-- an edge has its name and its arc back, and so has another
pub put_back : (floor end : ℕ) (old new : List (Option Node)) (f h f' h' : Node) → slice_index_or old floor None ≡ Some f → slice_index_or old end None ≡ Some h
    → slice_index_or new floor None ≡ Some f' → slice_index_or new end None ≡ Some h' → f'.name ≡ f.name → f'.arc ≡ f.arc → h'.name ≡ h.name → h'.arc ≡ h.arc
    → ((k : ℕ) → k ≢ floor → k ≢ end → slice_index_or new k None ≡ slice_index_or old k None) → AreSame old new
put_back floor end old new f h f' h' f_is h_is f_now h_now f_name f_arc h_name h_arc others = record {
  forth = λ k n is.
      (elim (same_or k floor) [
        | inl same ↦ (let it : n ≡ f = one_node old k floor n f same f_is is in (f', ap (λ j. slice_index_or new j None) same ∙ f_now, f_name ∙ ap (λ (x : Node). x.name) (sym it), f_arc ∙ ap (λ (x : Node). x.arc) (sym it)))
        | inr ne ↦
            (elim (same_or k end) [
              | inl same ↦ (let it : n ≡ h = one_node old k end n h same h_is is in (h', ap (λ j. slice_index_or new j None) same ∙ h_now, h_name ∙ ap (λ (x : Node). x.name) (sym it), h_arc ∙ ap (λ (x : Node). x.arc) (sym it)))
              | inr other ↦ (n, others k ne other ∙ is, refl, refl)
            ])
      ]);
  back = λ k x is.
      (elim (same_or k floor) [
        | inl same ↦ (let it : x ≡ f' = one_node new k floor x f' same f_now is in (f, ap (λ j. slice_index_or old j None) same ∙ f_is, ap (λ (y : Node). y.name) it ∙ f_name, ap (λ (y : Node). y.arc) it ∙ f_arc))
        | inr ne ↦
            (elim (same_or k end) [
              | inl same ↦ (let it : x ≡ h' = one_node new k end x h' same h_now is in (h, ap (λ j. slice_index_or old j None) same ∙ h_is, ap (λ (y : Node). y.name) it ∙ h_name, ap (λ (y : Node). y.arc) it ∙ h_arc))
              | inr other ↦ (x, sym (others k ne other) ∙ is, refl, refl)
            ])
      ]);
}
