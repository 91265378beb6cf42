-- An event among those of its agent.
use Rattle.std.proofs.Common.{◌≡◌, ℕ, zero, suc, ◌+◌, ◌<◌, Bool, true, false, cond, nat_eq, List, [], ◌∷◌, length, take, get_or, count_by, refl, sym, subst, arith}
use Rattle.std.proofs.lemmas.Bool.{eq-eqb}
use Rattle.std.proofs.lemmas.List.Sums.{sum_by-cons}
use Rattle.tp_agents.specs.Owners.{owner_of, agent_count, events_from, events_of, place_of}

pub owner_counted : (owners : List ℕ) (e : ℕ) → e < length owners → get_or owners e 0 < agent_count owners
owner_counted [] e lt = absurd (let f : ⊥ = omega arith in f)
owner_counted (o ∷ os) zero lt = omega arith
owner_counted (o ∷ os) (suc e) lt = omega (arith, owner_counted os e (omega arith))

-- the number stands at that place
pub record StandsAt (es : List ℕ) (place e : ℕ) : Type 0 where
  pub within : place < length es
  pub is : get_or es place 0 ≡ e

one_behind : (n c e : ℕ) (es : List ℕ) → StandsAt es c e → StandsAt (n ∷ es) (1 + c) e
one_behind n c e es h =
    let one : suc c ≡ 1 + c = omega arith in
    subst (λ k. StandsAt (n ∷ es) k e) one (record { within = omega (arith, h.within); is = h.is })

none_before : (c : ℕ) → c ≡ 0 + c
none_before c = omega arith

behind : (t : Bool) (n c e : ℕ) (es : List ℕ) → StandsAt es c e → StandsAt (cond t (n ∷ es) es) (cond t 1 0 + c) e
behind true n c e es h = one_behind n c e es h
behind false n c e es h = subst (λ k. StandsAt es k e) (none_before c) h

first_here : (t : Bool) (n : ℕ) (es : List ℕ) → t ≡ true → StandsAt (cond t (n ∷ es) es) 0 n
first_here true n es h = record { within = omega arith; is = refl }
first_here false n es h = absurd (let f : ⊥ = cc in f)

abbrev pub count_before : List ℕ → ℕ → ℕ → ℕ
count_before owners agent k = count_by (λ owner. nat_eq owner agent) (take k owners)

stands_from : (owners : List ℕ) (n k agent : ℕ) → k < length owners → get_or owners k 0 ≡ agent → StandsAt (events_from n owners agent) (count_before owners agent k) (n + k)
stands_from [] n k agent lt is = absurd (let f : ⊥ = omega arith in f)
stands_from (o ∷ os) n zero agent lt is =
    let here : n ≡ n + 0 = omega arith in
    subst (StandsAt (events_from n (o ∷ os) agent) 0) here (first_here (nat_eq o agent) n (events_from (suc n) os agent) (eq-eqb o agent is))
stands_from (o ∷ os) n (suc k) agent lt is =
    let rest : StandsAt (events_from (suc n) os agent) (count_before os agent k) (suc n + k) = stands_from os (suc n) k agent (omega arith) is in
    let moved : suc n + k ≡ n + suc k = omega arith in
    let count : cond (nat_eq o agent) 1 0 + count_before os agent k ≡ count_before (o ∷ os) agent (suc k) = sym (sum_by-cons (λ owner. cond (nat_eq owner agent) 1 0) o (take k os)) in
    subst (StandsAt (events_from n (o ∷ os) agent) (count_before (o ∷ os) agent (suc k))) moved
    (subst (λ c. StandsAt (events_from n (o ∷ os) agent) c (suc n + k)) count
    (behind (nat_eq o agent) n (count_before os agent k) (suc n + k) (events_from (suc n) os agent) rest))

zero_and : (e : ℕ) → 0 + e ≡ e
zero_and e = omega arith

-- an event stands at its place among those of its agent
pub stands_there : (owners : List ℕ) (e agent : ℕ) → e < length owners → owner_of owners e ≡ agent → StandsAt (events_of owners agent) (count_before owners agent e) e
stands_there owners e agent lt is = subst (StandsAt (events_of owners agent) (count_before owners agent e)) (zero_and e) (stands_from owners 0 e agent lt is)

pub stands_at_place : (owners : List ℕ) (e : ℕ) → e < length owners → StandsAt (events_of owners (owner_of owners e)) (place_of owners e) e
stands_at_place owners e lt = stands_there owners e (owner_of owners e) lt refl
