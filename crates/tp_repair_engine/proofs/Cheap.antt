-- What a change looks at, by the events whose windows move.
use Rattle.std.proofs.Common.{◌≡◌, ◌≢◌, ℕ, zero, suc, ◌+◌, ◌*◌, ◌<◌, ◌≤◌, ◌⊎◌, inl, inr, Bool, true, false, not, ◌&&◌, cond, nat_eq, nat_lt, List, [], length, get_or, refl, sym, ◌∙◌, ap, subst, arith}
use Rattle.std.specs.BTreeMap.{BTreeMap}
use Rattle.std.proofs.lemmas.Int.{ints}
use Rattle.std.proofs.lemmas.Bool.Decides.{nat_tests}
use Rattle.tp_bounds.specs.Setting.{Setting, event_count}
use Rattle.tp_bounds.specs.Schedule.{IsLeastMoment, IsGreatestMoment}
use Rattle.tp_net.proofs.Spreads.{same_or}
use Rattle.tp_net.proofs.KeptMoments.{kept_least, kept_greatest}
use Rattle.tp_repair_engine.specs.declared.engine.Engine.{Engine}
use Rattle.tp_repair_engine.specs.declared.store.Direction.TheVariants.{Up, Down}
use Rattle.tp_repair_engine.specs.Store.{keys_of}
use Rattle.tp_repair_engine.specs.Flow.{sum_to, looks_at}
use Rattle.tp_repair_engine.specs.Engine.{IsRepaired}
use Rattle.tp_repair_engine.specs.Costs.{degree, AreWindows, has_moved, IsCheap}
use Rattle.tp_repair_engine.specs.Told.{edge_count}
use Rattle.tp_repair_engine.proofs.Repaired.{kept}

-- ---- sums

pub sum_le : (f g : ℕ → ℕ) (n : ℕ) → ((y : ℕ) → y < n → f y ≤ g y) → sum_to f n ≤ sum_to g n
sum_le f g zero le = omega arith
sum_le f g (suc n) le =
    let h = sum_le f g n (λ y lt. le y (omega (arith, lt))) in
    let e = le n (omega arith) in
    omega (arith, h, e)

pub sum_add : (f g : ℕ → ℕ) (n : ℕ) → sum_to f n + sum_to g n ≡ sum_to (λ y. f y + g y) n
sum_add f g zero = refl
sum_add f g (suc n) = let h = sum_add f g n in omega (arith, h)

sum_first : (f : ℕ → ℕ) (n : ℕ) → sum_to f (suc n) ≡ f 0 + sum_to (λ y. f (suc y)) n
sum_first f zero = omega arith
sum_first f (suc n) = let h = sum_first f n in omega (arith, h)

-- ---- one event

tested_none : (n k : ℕ) → n ≡ 0 → cond (nat_lt 0 n) k 0 ≡ 0
tested_none n k e = grind (arith, nat_tests)

tested_some : (n k : ℕ) → 0 < n → cond (nat_lt 0 n) k 0 ≡ k
tested_some n k h = grind (arith, nat_tests)

alike : (a b : ℕ) → a ≡ b → nat_eq a b ≡ true
alike a b e = grind (arith, nat_tests)

unlike : (a b : ℕ) → a ≢ b → nat_eq a b ≡ false
unlike a b ne = grind (arith, nat_tests, ne)

-- a moment stays, and nothing is looked at for it; or it moves, and so much is
moved_or : (a b u p : ℕ) → (u ≡ 0 → a ≡ b) → (u ≢ 0 → a ≢ b) → ((cond (nat_lt 0 u) p 0 ≡ 0) × (nat_eq a b ≡ true)) ⊎ ((cond (nat_lt 0 u) p 0 ≡ p) × (nat_eq a b ≡ false))
moved_or a b u p stays moves =
    elim (same_or u 0) [
      | inl none ↦ inl (tested_none u p none, alike a b (stays none))
      | inr some ↦ inr (tested_some u p (omega (arith, some)), unlike a b (moves some))
    ]

still : (x y : Bool) (n : ℕ) → x ≡ true → y ≡ true → cond (not (x && y)) n 0 ≡ 0
still x y n a b = ap (λ z. cond (not (z && y)) n 0) a ∙ ap (λ z. cond (not (true && z)) n 0) b

first_moves : (x y : Bool) (n : ℕ) → x ≡ false → cond (not (x && y)) n 0 ≡ n
first_moves x y n a = ap (λ z. cond (not (z && y)) n 0) a

second_moves : (x y : Bool) (n : ℕ) → y ≡ false → cond (not (x && y)) n 0 ≡ n
second_moves true y n b = ap (λ z. cond (not z) n 0) b
second_moves false y n b = refl

module _ (a a' b b' u d p q : ℕ) (up : a' ≡ a + u) (down : b' + d ≡ b) (some_up : 0 < p) (some_down : 0 < q) where
  rose : ((cond (nat_lt 0 u) p 0 ≡ 0) × (nat_eq a a' ≡ true)) ⊎ ((cond (nat_lt 0 u) p 0 ≡ p) × (nat_eq a a' ≡ false))
  rose = moved_or a a' u p (λ none. omega (arith, none, up)) (λ some same. some (omega (arith, same, up)))

  fell : ((cond (nat_lt 0 d) q 0 ≡ 0) × (nat_eq b b' ≡ true)) ⊎ ((cond (nat_lt 0 d) q 0 ≡ q) × (nat_eq b b' ≡ false))
  fell = moved_or b b' d q (λ none. omega (arith, none, down)) (λ some same. some (omega (arith, same, down)))

  pub event_most : cond (nat_lt 0 u) p 0 + cond (nat_lt 0 d) q 0 ≤ cond (not (nat_eq a a' && nat_eq b b')) (p + q) 0
  event_most =
      elim rose [
        | inl x ↦
            (elim fell [
              | inl y ↦ (let i = x.0 in let j = y.0 in let t = still (nat_eq a a') (nat_eq b b') (p + q) x.1 y.1 in omega (arith, i, j, t))
              | inr y ↦ (let i = x.0 in let j = y.0 in let t = second_moves (nat_eq a a') (nat_eq b b') (p + q) y.1 in omega (arith, i, j, t))
            ])
        | inr x ↦
            (elim fell [
              | inl y ↦ (let i = x.0 in let j = y.0 in let t = first_moves (nat_eq a a') (nat_eq b b') (p + q) x.1 in omega (arith, i, j, t))
              | inr y ↦ (let i = x.0 in let j = y.0 in let t = first_moves (nat_eq a a') (nat_eq b b') (p + q) x.1 in omega (arith, i, j, t))
            ])
      ]

  pub event_least : cond (not (nat_eq a a' && nat_eq b b')) 1 0 ≤ cond (nat_lt 0 u) p 0 + cond (nat_lt 0 d) q 0
  event_least =
      elim rose [
        | inl x ↦
            (elim fell [
              | inl y ↦ (let t = still (nat_eq a a') (nat_eq b b') 1 x.1 y.1 in omega (arith, t))
              | inr y ↦ (let j = y.0 in let t = second_moves (nat_eq a a') (nat_eq b b') 1 y.1 in omega (arith, j, t, some_down))
            ])
        | inr x ↦ (let i = x.0 in let t = first_moves (nat_eq a a') (nat_eq b b') 1 x.1 in omega (arith, i, t, some_up))
      ]

-- ---- all events

pub one_least : (s : Setting) (e m n : ℕ) → IsLeastMoment s e m → IsLeastMoment s e n → m ≡ n
one_least s e m n a b = let i = a.least n b.occurs in let j = b.least m a.occurs in omega (arith, i, j)

pub one_greatest : (s : Setting) (e m n : ℕ) → IsGreatestMoment s e m → IsGreatestMoment s e n → m ≡ n
one_greatest s e m n a b = let i = a.greatest n b.occurs in let j = b.greatest m a.occurs in omega (arith, i, j)

module _ (s s' : Setting) (count count' : ℕ) (keys keys' : BTreeMap ℕ ℕ) (floors ends floors' ends' : List ℕ) (g g' : Engine) (up down : List ℕ) (news looks : ℕ)
    (r : IsRepaired s count keys floors ends g)
    (r' : IsRepaired s' count' keys' floors' ends' g')
    (events : event_count s' ≡ event_count s)
    (rises : (x : ℕ) → x < length g.low.items → get_or g'.low.items x 0 ≡ get_or g.low.items x 0 + get_or up x 0)
    (falls : (x : ℕ) → x < length g.low.items → get_or g'.high.items x 0 + get_or down x 0 ≡ get_or g.high.items x 0)
    (looks_is : looks ≡ news + (looks_at (keys_of Up g.store) (λ x. get_or up x 0) (length g.low.items) + looks_at (keys_of Down g.store) (λ x. get_or down x 0) (length g.low.items)))
  where
    points : length g.low.items ≡ suc (event_count s)
    points = r.wired.low_len

    -- the origin stays
    none_up : cond (nat_lt 0 (get_or up 0 0)) (length (keys_of Up g.store 0)) 0 ≡ 0
    none_up =
        let a = r.exact.least.solution.0 in
        let b = r'.exact.least.solution.0 in
        let c = rises 0 (omega (arith, points)) in
        tested_none (get_or up 0 0) (length (keys_of Up g.store 0)) (omega (arith, ints, a, b, c))

    none_down : cond (nat_lt 0 (get_or down 0 0)) (length (keys_of Down g.store 0)) 0 ≡ 0
    none_down =
        let a = r.exact.greatest.solution.0 in
        let c = falls 0 (omega (arith, points)) in
        tested_none (get_or down 0 0) (length (keys_of Down g.store 0)) (omega (arith, ints, a, c))

    total : looks ≡ news + sum_to (λ e. cond (nat_lt 0 (get_or up (suc e) 0)) (length (keys_of Up g.store (suc e))) 0 + cond (nat_lt 0 (get_or down (suc e) 0)) (length (keys_of Down g.store (suc e))) 0) (event_count s)
    total =
        let at = subst (λ p. looks ≡ news + (looks_at (keys_of Up g.store) (λ x. get_or up x 0) p + looks_at (keys_of Down g.store) (λ x. get_or down x 0) p)) points looks_is in
        let a = sum_first (λ y. cond (nat_lt 0 (get_or up y 0)) (length (keys_of Up g.store y)) 0) (event_count s) in
        let b = sum_first (λ y. cond (nat_lt 0 (get_or down y 0)) (length (keys_of Down g.store y)) 0) (event_count s) in
        let c = sum_add (λ e. cond (nat_lt 0 (get_or up (suc e) 0)) (length (keys_of Up g.store (suc e))) 0) (λ e. cond (nat_lt 0 (get_or down (suc e) 0)) (length (keys_of Down g.store (suc e))) 0) (event_count s) in
        omega (arith, at, a, b, c, none_up, none_down)

    module _ (low high low' high' : ℕ → ℕ) (w : AreWindows s low high) (w' : AreWindows s' low' high') where
      low_is : (e : ℕ) → e < event_count s → low e ≡ get_or g.low.items (suc e) 0
      low_is e lt = one_least s e (low e) (get_or g.low.items (suc e) 0) (w.least e lt) (kept_least _ _ _ _ _ (kept s count keys floors ends g r) e lt)

      high_is : (e : ℕ) → e < event_count s → high e ≡ get_or g.high.items (suc e) 0
      high_is e lt = one_greatest s e (high e) (get_or g.high.items (suc e) 0) (w.greatest e lt) (kept_greatest _ _ _ _ _ (kept s count keys floors ends g r) e lt)

      low_is' : (e : ℕ) → e < event_count s' → low' e ≡ get_or g'.low.items (suc e) 0
      low_is' e lt = one_least s' e (low' e) (get_or g'.low.items (suc e) 0) (w'.least e lt) (kept_least _ _ _ _ _ (kept s' count' keys' floors' ends' g' r') e lt)

      high_is' : (e : ℕ) → e < event_count s' → high' e ≡ get_or g'.high.items (suc e) 0
      high_is' e lt = one_greatest s' e (high' e) (get_or g'.high.items (suc e) 0) (w'.greatest e lt) (kept_greatest _ _ _ _ _ (kept s' count' keys' floors' ends' g' r') e lt)

      up_at : (e : ℕ) → e < event_count s → low' e ≡ low e + get_or up (suc e) 0
      up_at e lt =
          let a = low_is e lt in
          let b = low_is' e (omega (arith, lt, events)) in
          let c = rises (suc e) (omega (arith, lt, points)) in
          omega (arith, a, b, c)

      down_at : (e : ℕ) → e < event_count s → high' e + get_or down (suc e) 0 ≡ high e
      down_at e lt =
          let a = high_is e lt in
          let b = high_is' e (omega (arith, lt, events)) in
          let c = falls (suc e) (omega (arith, lt, points)) in
          omega (arith, a, b, c)

      each_most : (e : ℕ) → e < event_count s → cond (nat_lt 0 (get_or up (suc e) 0)) (length (keys_of Up g.store (suc e))) 0 + cond (nat_lt 0 (get_or down (suc e) 0)) (length (keys_of Down g.store (suc e))) 0 ≤ cond (has_moved low high low' high' e) (degree s e) 0
      each_most e lt =
          let i = r.counted.each Up e lt in
          let j = r.counted.each Down e lt in
          let both : length (keys_of Up g.store (suc e)) + length (keys_of Down g.store (suc e)) ≡ degree s e = omega (arith, i, j) in
          subst (λ k. cond (nat_lt 0 (get_or up (suc e) 0)) (length (keys_of Up g.store (suc e))) 0 + cond (nat_lt 0 (get_or down (suc e) 0)) (length (keys_of Down g.store (suc e))) 0 ≤ cond (has_moved low high low' high' e) k 0) both
          (event_most (low e) (low' e) (high e) (high' e) (get_or up (suc e) 0) (get_or down (suc e) 0) (length (keys_of Up g.store (suc e))) (length (keys_of Down g.store (suc e))) (up_at e lt) (down_at e lt) (omega (arith, i)) (omega (arith, j)))

      each_least : (e : ℕ) → e < event_count s → cond (has_moved low high low' high' e) 1 0 ≤ cond (nat_lt 0 (get_or up (suc e) 0)) (length (keys_of Up g.store (suc e))) 0 + cond (nat_lt 0 (get_or down (suc e) 0)) (length (keys_of Down g.store (suc e))) 0
      each_least e lt =
          let i = r.counted.each Up e lt in
          let j = r.counted.each Down e lt in
          event_least (low e) (low' e) (high e) (high' e) (get_or up (suc e) 0) (get_or down (suc e) 0) (length (keys_of Up g.store (suc e))) (length (keys_of Down g.store (suc e))) (up_at e lt) (down_at e lt) (omega (arith, i)) (omega (arith, j))

    pub cheap : IsCheap news s s' looks
    cheap low high low' high' w w' =
        let most = sum_le (λ e. cond (nat_lt 0 (get_or up (suc e) 0)) (length (keys_of Up g.store (suc e))) 0 + cond (nat_lt 0 (get_or down (suc e) 0)) (length (keys_of Down g.store (suc e))) 0) (λ e. cond (has_moved low high low' high' e) (degree s e) 0) (event_count s) (each_most low high low' high' w w') in
        let least = sum_le (λ e. cond (has_moved low high low' high' e) 1 0) (λ e. cond (nat_lt 0 (get_or up (suc e) 0)) (length (keys_of Up g.store (suc e))) 0 + cond (nat_lt 0 (get_or down (suc e) 0)) (length (keys_of Down g.store (suc e))) 0) (event_count s) (each_least low high low' high' w w') in
        (omega (arith, total, most), omega (arith, total, least))

-- where nothing moves, nothing is looked at
none_read : (keys : ℕ → List ℕ) (p : ℕ) → looks_at keys (λ x. get_or [] x 0) p ≡ 0
none_read keys zero = refl
none_read keys (suc p) = let h = none_read keys p in let e = tested_none (get_or [] p 0) (length (keys p)) refl in omega (arith, h, e)

pub read_most : (keys : ℕ → List ℕ) (g : ℕ → ℕ) (p : ℕ) → looks_at keys g p ≤ sum_to (λ y. length (keys y)) p
read_most keys g p = sum_le (λ y. cond (nat_lt 0 (g y)) (length (keys y)) 0) (λ y. length (keys y)) p (λ y _. part (nat_lt 0 (g y)) (length (keys y)))
  where
    part : (b : Bool) (k : ℕ) → cond b k 0 ≤ k
    part true k = omega arith
    part false k = omega arith

-- the greatest moments stay
module _ (s s' : Setting) (count count' : ℕ) (keys keys' : BTreeMap ℕ ℕ) (floors ends floors' ends' : List ℕ) (g g' : Engine) (up : List ℕ) (looks : ℕ)
    (r : IsRepaired s count keys floors ends g)
    (r' : IsRepaired s' count' keys' floors' ends' g')
    (events : event_count s' ≡ event_count s)
    (rises : (x : ℕ) → x < length g.low.items → get_or g'.low.items x 0 ≡ get_or g.low.items x 0 + get_or up x 0)
    (stays : g'.high.items ≡ g.high.items)
    (looks_is : looks ≡ looks_at (keys_of Up g.store) (λ x. get_or up x 0) (length g.low.items))
  where
    pub cheap_up : IsCheap 0 s s' looks
    cheap_up =
        let none = none_read (keys_of Down g.store) (length g.low.items) in
        cheap s s' count count' keys keys' floors ends floors' ends' g g' up [] 0 looks r r' events rises
        (λ x _. (let h : get_or g'.high.items x 0 ≡ get_or g.high.items x 0 = ap (λ xs. get_or xs x 0) stays in let e : ◌≡◌ {A = ℕ} (get_or [] x 0) 0 = refl in omega (arith, h, e)))
        (omega (arith, none, looks_is))

-- nothing moves
pub cheap_still : (s : Setting) (count : ℕ) (keys : BTreeMap ℕ ℕ) (floors ends : List ℕ) (g : Engine) → IsRepaired s count keys floors ends g → IsCheap 0 s s 0
cheap_still s count keys floors ends g r =
    cheap_up s s count count keys keys floors ends floors ends g g [] 0 r r refl (λ x _. (let e : ◌≡◌ {A = ℕ} (get_or [] x 0) 0 = refl in omega (arith, e))) refl (sym (none_read (keys_of Up g.store) (length g.low.items)))

pub edges_are : (s : Setting) (count : ℕ) (keys : BTreeMap ℕ ℕ) (floors ends : List ℕ) (g : Engine) → IsRepaired s count keys floors ends g → edge_count s ≡ count + 2 * event_count s
edges_are s count keys floors ends g r = ap (λ n. n + 2 * event_count s) r.counted.many
