-- Between two moments with events nothing happens: the state stays, and there is no new fault.
use Rattle.std.proofs.Common.{◌≡◌, ◌≢◌, ℕ, zero, suc, ◌+◌, ◌≤◌, ◌<◌, Bool, true, false, ◌&&◌, ◌==◌, nat_le, nat_lt, List, [], ◌∷◌, Option, Some, None, ⊎_elim, inl, inr, refl, sym, ap, ◌∙◌, subst, arith}
use Rattle.std.specs.List.{position_from}
use Rattle.std.proofs.lemmas.Bool.{cases_Bool, cases_lt, and_left, and_right, and_cases, cond-true, cond-false, leb-true, ltb-true, le-leb, lt-ltb, eqb-true, ne_eqb, not_from_true, not-false, true≢false}
use Rattle.tp_task.specs.declared.events.Body.{Body}
use Rattle.tp_task.specs.declared.events.Body.TheVariants.{Instant, Durative}
use Rattle.tp_task.specs.declared.events.Cond.{Cond}
use Rattle.tp_task.specs.declared.events.GroundEvent.{GroundEvent}
use Rattle.tp_task.specs.State.{State, holds}
use Rattle.tp_task.specs.Happens.{Happens, atom_after, number_after}
use Rattle.tp_task.specs.Valid.{Planned, Placed, events, events_of, events_from, count_of, at}
use Rattle.tp_task.specs.Bounds.{In}
use Rattle.tp_task.specs.Verdict as fault
use Rattle.tp_task.specs.Verdict.{Fault, states, fault_or, fault_at, is_unlawful, is_broken}
use Rattle.tp_task.proofs.Bridge.{plus_zero}
use Rattle.tp_task.proofs.Picked.{picked_no}
use Rattle.tp_task.proofs.Numbered.{in_left, in_right}
use Rattle.tp_happen.specs.Bounded.{StaysSmall}
use Rattle.tp_validate.specs.Tick.{after_of, of_events}
use Rattle.tp_validate.proofs.Numbers.{numbered}
use Rattle.tp_validate.proofs.OneHappening.{happens}

none_found : {X : Type 0} (p : X → Bool) (i : ℕ) (xs : List X) → ((x : X) → In x xs → p x ≡ false) → position_from p i xs ≡ None
none_found p i [] h = refl
none_found p i (y ∷ ys) h = cond-false (p y) (Some i) (position_from p (i + 1) ys) (h y (inl refl)) ∙ none_found p (i + 1) ys (λ x k. h x (inr k))

none_passes : {X : Type 0} (p : X → Bool) (i : ℕ) (xs : List X) → position_from p i xs ≡ None → (x : X) → In x xs → p x ≡ false
none_passes p i [] h x k = absurd k
none_passes p i (y ∷ ys) h x k =
    ⊎_elim
    (λ e. absurd (let z = sym h ∙ cond-true (p y) (Some i) (position_from p (i + 1) ys) e in cc))
    (λ e. ⊎_elim (λ w. subst (λ z. p z ≡ false) (sym w) e) (λ j. none_passes p (i + 1) ys (sym (cond-false (p y) (Some i) (position_from p (i + 1) ys) e) ∙ h) x j) k)
    (cases_Bool (p y))

first_none : {X : Type 0} (name : X → Fault) (r : Option X) (other : Option Fault) → fault_or name r other ≡ None → (r ≡ None) × (other ≡ None)
first_none name (Some x) other h = absurd (cc)
first_none name None other h = (refl, h)

-- a test behind another
behind : (a q : Bool) → (a ≡ true → q ≡ false) → (a && q) ≡ false
behind a q h = ⊎_elim (λ e. and_right a q (h e)) (λ e. and_left a q e) (cases_Bool a)

passed : (a q : Bool) → (a && q) ≡ false → a ≡ true → q ≡ false
passed a q h e = ⊎_elim (λ z. absurd (true≢false (sym e ∙ z))) (λ z. z) (and_cases a q h)

none_here : (m : ℕ) (es : List Placed) → ((e : Placed) → In e es → e.moment ≢ m) → at m es ≡ []
none_here m [] f = refl
none_here m (e ∷ es) f = picked_no (λ x. x.moment == m) (λ x. x.timed.ticks) e es (ne_eqb e.moment m (f e (inl refl))) ∙ none_here m es (λ x i. f x (inr i))

and_true : (x : Bool) → (x && true) ≡ x
and_true true = refl
and_true false = refl

-- a step's first event is at its moment
first_event : (k : ℕ) (p : Planned) (b : Body) → (e : Placed) × In e (events_of k p b) × (e.moment ≡ p.moment)
first_event k p (Instant x) = (_, inl refl, refl)
first_event k p (Durative x y c) = (_, inl refl, refl)

event_of : (k : ℕ) (ps : List Planned) (p : Planned) → In p ps → (e : Placed) × In e (events_from k ps) × (e.moment ≡ p.moment)
event_of k [] p i = absurd i
event_of k (q ∷ ps) p (inl w) =
    let f = first_event k q q.body in
    (f.0, in_left f.0 (events_of k q q.body) (events_from (k + count_of q.body) ps) f.1, f.2 ∙ ap (λ (z : Planned). z.moment) (sym w))
event_of k (q ∷ ps) p (inr i) =
    let f = event_of (k + count_of q.body) ps p i in
    (f.0, in_right f.0 (events_of k q q.body) (events_from (k + count_of q.body) ps) f.1, f.2)

module _ (scale : ℕ) (initial : State) (plan : List Planned) where
  abbrev es : List Placed
  es = events plan

  abbrev s : ℕ → State
  s = states scale initial es

  -- no event happens at the moment
  abbrev Still : ℕ → Type 0
  Still k = (e : Placed) → In e es → e.moment ≢ k

  stays : (k : ℕ) → Still k → s (suc k) ≡ s k
  stays k f = λ i. record {
    atom = λ a. (ap (λ ts. atom_after (s k) ts a) (none_here k es f) ∙ and_true ((s k).atom a)) i;
    number = λ g. (ap (λ ts. number_after scale (s k) ts g) (none_here k es f) ∙ plus_zero ((s k).number g)) i;
  }

  pub same_until : (m n : ℕ) → m ≤ n → ((k : ℕ) → m ≤ k → k < n → Still k) → s n ≡ s m
  same_until m zero l f = let q : zero ≡ m = omega arith in ap s q
  same_until m (suc n) l f =
      ⊎_elim
      (λ h. stays n (f n (omega arith) (omega arith)) ∙ same_until m n (omega arith) (λ k a b. f k a (omega arith)))
      (λ h. let q : suc n ≡ m = omega arith in ap s q)
      (cases_lt m (suc n))

  held : (k : ℕ) (p : Planned) → In p plan → (x y : GroundEvent) (c : Cond) → p.body ≡ Durative x y c → ((j : ℕ) → suc j ≡ k → fault_at scale initial plan j ≡ None) → p.moment ≢ k → p.moment ≤ k → k < p.moment + p.duration → holds (s k) c ≡ true
  held zero p i x y c e prev apart low high = absurd (apart (omega arith))
  held (suc j) p i x y c e prev apart low high =
      let a = first_none fault.Duration _ _ (prev j refl) in
      let b = first_none fault.Undefined _ _ a.1 in
      let d = first_none fault.Condition _ _ b.1 in
      let g = first_none fault.Clash _ _ d.1 in
      let h = first_none (λ (q : ℕ × ℕ). fault.Interferes q.0 q.1) _ _ g.1 in
      let o = first_none fault.OverAll (position_from (λ (q : Planned). is_broken (s (suc j)) j q q.body) 0 plan) None h.1 in
      let unbroken : is_broken (s (suc j)) j p (Durative x y c) ≡ false = ap (is_broken (s (suc j)) j p) (sym e) ∙ none_passes (λ (q : Planned). is_broken (s (suc j)) j q q.body) 0 plan o.0 p i in
      not-false (holds (s (suc j)) c) (passed (nat_lt j (p.moment + p.duration)) _ (passed (nat_le p.moment j) _ unbroken (le-leb p.moment j (omega arith))) (lt-ltb j (p.moment + p.duration) (omega arith)))

  invariant_stays : (k : ℕ) → Still k → ((j : ℕ) → suc j ≡ k → fault_at scale initial plan j ≡ None) → (p : Planned) → In p plan → (b : Body) → p.body ≡ b → is_broken (s (suc k)) k p b ≡ false
  invariant_stays k f prev p i (Instant x) e = refl
  invariant_stays k f prev p i (Durative x y c) e =
      behind (nat_le p.moment k) _ (λ a. behind (nat_lt k (p.moment + p.duration)) _ (λ b.
      let w = event_of 0 plan p i in
      let apart : p.moment ≢ k = λ q. f w.0 w.1 (w.2 ∙ q) in
      let low = leb-true p.moment k a in
      let high = ltb-true k (p.moment + p.duration) b in
      not_from_true (holds (s (suc k)) c) (ap (λ z. holds z c) (stays k f) ∙ held k p i x y c e prev apart low high)))

  pub quiet : (k : ℕ) → Still k → ((j : ℕ) → suc j ≡ k → fault_at scale initial plan j ≡ None) → fault_at scale initial plan k ≡ None
  quiet k f prev =
      let d : position_from (λ (p : Planned). (p.moment == k) && is_unlawful scale (s k) p.duration p.body) 0 plan ≡ None =
      none_found _ 0 plan (λ p i. behind (p.moment == k) _ (λ q. let w = event_of 0 plan p i in absurd (f w.0 w.1 (w.2 ∙ eqb-true p.moment k q))))
      in
      let o : position_from (λ (p : Planned). is_broken (s (suc k)) k p p.body) 0 plan ≡ None = none_found _ 0 plan (λ p i. invariant_stays k f prev p i p.body refl) in
      let h : Happens scale (s k) (at k es) (s (suc k)) = subst (λ ts. Happens scale (s k) ts (after_of scale (s k) ts)) (sym (none_here k es f)) (record { conditions = tt; definedness = tt; unmixed = tt; separate = refl; atoms = λ a. refl; numbers = λ g. refl }) in
      ap (λ r. fault_or fault.Duration r (of_events scale (s k) k es (fault_or fault.OverAll (position_from (λ (p : Planned). is_broken (s (suc k)) k p p.body) 0 plan) None))) d
      ∙ (happens scale (s k) k es (numbered 0 plan) _ (s (suc k)) h
      ∙ ap (λ r. fault_or fault.OverAll r None) o)

  -- so up to the next moment with an event there is none
  pub quiet_until : (m : ℕ) → ((k : ℕ) → k < m → fault_at scale initial plan k ≡ None) → (n : ℕ) → ((k : ℕ) → m ≤ k → k < n → Still k) → (k : ℕ) → k < n → fault_at scale initial plan k ≡ None
  quiet_until m clear zero f k l = absurd (omega arith)
  quiet_until m clear (suc n) f k l =
      ⊎_elim
      (λ h. quiet_until m clear n (λ j a b. f j a (omega arith)) k h)
      (λ h. let q : n ≡ k = omega arith in ⊎_elim
      (λ a. clear k a)
      (λ a. quiet k (f k a (omega arith)) (λ j e. quiet_until m clear n (λ x y z. f x y (omega arith)) j (omega arith)))
      (cases_lt k m))
      (cases_lt k n)

  pub small_at_rest : (k : ℕ) → Still k → StaysSmall scale (s k) (at k es)
  small_at_rest k f = subst (λ ts. StaysSmall scale (s k) ts) (sym (none_here k es f)) (record { expressions = refl; sums = λ g. refl })
