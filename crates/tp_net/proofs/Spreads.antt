-- How an amount spreads, link by link and point by point.
use Rattle.std.proofs.Common.{◌≡◌, ◌≢◌, ℕ, ◌+◌, ◌-◌, ◌<◌, ◌≤◌, List, length, refl, sym, ◌∙◌, ap, subst, inl, inr, ◌⊎◌, arith, get_or, set, get_or-set_other, length-set, cond, take, drop, ◌++◌}
use Rattle.std.proofs.lemmas.Grind.{get_or-set_at, common_steps}
use Rattle.std.proofs.lemmas.List.Sums.{sum_by-set}
use Rattle.std.proofs.lemmas.List.{get_or_default}
use Rattle.std.proofs.Math.ListN.{get_or-eq_default}
use Rattle.std.proofs.lemmas.Bool.Decides.{nat_tests}
use native.Mathlib.Decide.{dec_lt, ℕ_discrete}
use Rattle.std.specs.Prelude.{count_by, nat_eq}
use Rattle.tp_net.specs.declared.spread.Link.{Link}
use Rattle.tp_net.specs.Links.{MeetsLink, IsClosed, Spreading, IsNext, IsParent, IsSpread, link_at, no_link}

pub same_or : (a b : ℕ) → (a ≡ b) ⊎ (a ≢ b)
same_or a b = elim (ℕ_discrete a b) [ yes e ↦ inl e | no n ↦ inr n ]

pub below_or : (a b : ℕ) → (a < b) ⊎ (b ≤ a)
below_or a b = elim (dec_lt a b) [ yes e ↦ inl e | no n ↦ inr (omega (arith, n)) ]

-- a link that does not end at the point, or whose beginning has enough already, is seen
pub seen_more : (links : List Link) (seed amount point i : ℕ) (g r p : ℕ → ℕ)
    → Spreading links seed amount point (λ k. k < i) g r p
    → ((link_at links i).to ≡ point → MeetsLink g (link_at links i))
    → Spreading links seed amount point (λ k. k < i + 1) g r p
seen_more links seed amount point i g r p s met = record {
  seeded = s.seeded;
  first = s.first;
  order = s.order;
  positive = s.positive;
  closed = λ k within settled seen.
      elim (same_or k i) [
        | inl same ↦ elim (same_or (link_at links i).to point) [
          | inl here ↦ subst (λ j. MeetsLink g (link_at links j)) (sym same) (met here)
          | inr there ↦ s.closed k within settled (λ e. absurd (there (ap (λ j. (link_at links j).to) (sym same) ∙ e)))
        ]
        | inr other ↦ s.closed k within settled (λ e. let below : k < i + 1 = seen e in omega (arith, other))
      ];
  least = s.least;
  parents = s.parents;
}

-- the beginning of a link to the point gets more by it
module _ (links : List Link) (seed amount point i v : ℕ) (g r p g' p' : ℕ → ℕ)
    (s : Spreading links seed amount point (λ k. k < i) g r p)
    (within : i < length links)
    (settled : 0 < r point)
    (last : (x : ℕ) → 0 < r x → g point ≤ g x)
    (to_point : (link_at links i).to ≡ point)
    (unsettled : r (link_at links i).from ≡ 0)
    (value : v ≡ g point - (link_at links i).slack)
    (more : g (link_at links i).from < v)
    (here : g' (link_at links i).from ≡ v)
    (there : (x : ℕ) → x ≢ (link_at links i).from → g' x ≡ g x)
    (parent_here : p' (link_at links i).from ≡ i)
    (parent_there : (x : ℕ) → x ≢ (link_at links i).from → p' x ≡ p x)
  where
    not_from : (x : ℕ) → 0 < r x → x ≢ (link_at links i).from
    not_from x done e = let at_x : r x ≡ r (link_at links i).from = ap r e in absurd (omega arith)

    kept : (x : ℕ) → 0 < r x → g' x ≡ g x
    kept x done = there x (not_from x done)

    seed_settled : 0 < r seed
    seed_settled =
        elim (below_or 0 (r seed)) [
          | inl done ↦ done
          | inr none ↦
              let zero_rank : r seed ≡ 0 = omega arith in
              let other : point ≢ seed = λ e. (let at_seed : r point ≡ r seed = ap r e in absurd (omega arith)) in
              let nothing : g point ≡ 0 = s.first zero_rank point other in
              absurd (omega arith)
        ]

    raised : (x : ℕ) → g x ≤ g' x
    raised x =
        elim (same_or x (link_at links i).from) [
          | inl e ↦ (let a : g x ≡ g (link_at links i).from = ap g e in let b : g' x ≡ g' (link_at links i).from = ap g' e in omega arith)
          | inr ne ↦ (let a : g' x ≡ g x = there x ne in omega arith)
        ]

    parents_kept : (x q : ℕ) → g' x ≡ g x → IsParent links g r x q → IsParent links g' r x q
    parents_kept x q same old = record {
      within = old.within;
      begins = old.begins;
      settled = old.settled;
      amount = (let a : g' (link_at links q).to ≡ g (link_at links q).to = kept _ old.settled in let b : g x + (link_at links q).slack ≡ g (link_at links q).to = old.amount in omega arith);
      earlier = old.earlier;
    }

    new_parent : IsParent links g' r (link_at links i).from i
    new_parent = record {
      within = within;
      begins = refl;
      settled = (let a : r (link_at links i).to ≡ r point = ap r to_point in omega arith);
      amount = (let a : g' (link_at links i).to ≡ g' point = ap g' to_point in let b : g' point ≡ g point = kept point settled in omega arith);
      earlier = λ done. absurd (omega arith);
    }

    pub improved : Spreading links seed amount point (λ k. k < i + 1) g' r p'
    improved = record {
      seeded = kept seed seed_settled ∙ s.seeded;
      first = λ zero_rank. (let done : 0 < r seed = seed_settled in absurd (omega arith));
      order = λ x y done unsettled_y.
          let a : g' x ≡ g x = kept x done in
          elim (same_or y (link_at links i).from) [
            | inl e ↦ (let b : g' y ≡ g' (link_at links i).from = ap g' e in let c : g point ≤ g x = last x done in omega arith)
            | inr ne ↦ (let b : g' y ≡ g y = there y ne in let c : g y ≤ g x = s.order x y done unsettled_y in omega arith)
          ];
      positive = λ x done. (let a : g' x ≡ g x = kept x done in let b : 0 < g x = s.positive x done in omega arith);
      closed = λ k inside done seen.
          let a : g' (link_at links k).to ≡ g (link_at links k).to = kept _ done in
          elim (same_or k i) [
            | inl same ↦
                let b : g (link_at links k).to ≡ g point = ap (λ j. g (link_at links j).to) same ∙ ap g to_point in
                let c : g' (link_at links k).from ≡ v = ap (λ j. g' (link_at links j).from) same ∙ here in
                let d : (link_at links k).slack ≡ (link_at links i).slack = ap (λ j. (link_at links j).slack) same in
                omega arith
            | inr other ↦
                let b : g (link_at links k).to ≤ g (link_at links k).from + (link_at links k).slack = s.closed k inside done (λ e. (let below : k < i + 1 = seen e in omega (arith, other))) in
                let c : g (link_at links k).from ≤ g' (link_at links k).from = raised _ in
                omega arith
          ];
      least = λ h h_closed h_seed x.
          elim (same_or x (link_at links i).from) [
            | inl e ↦
                let a : g point ≤ h point = s.least h h_closed h_seed point in
                let b : h (link_at links i).to ≤ h (link_at links i).from + (link_at links i).slack = h_closed i no_link within in
                let c : h (link_at links i).to ≡ h point = ap h to_point in
                let d : g' x ≡ g' (link_at links i).from = ap g' e in
                let f : h x ≡ h (link_at links i).from = ap h e in
                omega arith
            | inr ne ↦ (let a : g' x ≡ g x = there x ne in let b : g x ≤ h x = s.least h h_closed h_seed x in omega arith)
          ];
      parents = λ x not_seed some.
          elim (same_or x (link_at links i).from) [
            | inl e ↦ subst (λ z. IsParent links g' r z (p' z)) (sym e) (subst (λ q. IsParent links g' r (link_at links i).from q) (sym parent_here) new_parent)
            | inr ne ↦
                let a : g' x ≡ g x = there x ne in
                let b : 0 < g x = omega arith in
                subst (λ q. IsParent links g' r x q) (sym (parent_there x ne)) (parents_kept x (p x) a (s.parents x not_seed b))
          ];
    }

pub read_written : (xs ys : List ℕ) (f v x : ℕ) → ys ≡ set xs f v → f < length xs → x ≡ f → get_or ys x 0 ≡ v
read_written xs ys f v x e within same = ap (λ (zs : List ℕ). get_or zs x 0) e ∙ get_or-set_at xs f x v 0 same within

pub read_other : (xs ys : List ℕ) (f v x : ℕ) → ys ≡ set xs f v → x ≢ f → get_or ys x 0 ≡ get_or xs x 0
read_other xs ys f v x e other = ap (λ (zs : List ℕ). get_or zs x 0) e ∙ rw get_or-set_other refl

-- one link to the point, over the lists
module _ (links : List Link) (point i v : ℕ) (amounts ranks parents amounts' parents' : List ℕ)
    (within : i < length links)
    (from_within : (link_at links i).from < length amounts)
    (same_len : length parents ≡ length amounts)
    (settled : 0 < get_or ranks point 0)
    (last : (x : ℕ) → 0 < get_or ranks x 0 → get_or amounts point 0 ≤ get_or amounts x 0)
    (to_point : (link_at links i).to ≡ point)
    (unsettled : get_or ranks (link_at links i).from 0 ≡ 0)
    (value : v ≡ get_or amounts point 0 - (link_at links i).slack)
    (more : get_or amounts (link_at links i).from 0 < v)
    (amounts_is : amounts' ≡ set amounts (link_at links i).from v)
    (parents_is : parents' ≡ set parents (link_at links i).from i)
  where
    amounts_here : get_or amounts' (link_at links i).from 0 ≡ v
    amounts_here = read_written amounts amounts' _ v _ amounts_is from_within refl

    amounts_there : (x : ℕ) → x ≢ (link_at links i).from → get_or amounts' x 0 ≡ get_or amounts x 0
    amounts_there x ne = read_other amounts amounts' _ v x amounts_is ne

    pub raised_state : (seed amount : ℕ)
        → Spreading links seed amount point (λ k. k < i) (λ x. get_or amounts x 0) (λ x. get_or ranks x 0) (λ x. get_or parents x 0)
        → Spreading links seed amount point (λ k. k < i + 1) (λ x. get_or amounts' x 0) (λ x. get_or ranks x 0) (λ x. get_or parents' x 0)
    raised_state seed amount s =
        let parents_within : (link_at links i).from < length parents = omega arith in
        improved links seed amount point i v (λ x. get_or amounts x 0) (λ x. get_or ranks x 0) (λ x. get_or parents x 0) (λ x. get_or amounts' x 0) (λ x. get_or parents' x 0)
        s within settled last to_point unsettled value more amounts_here amounts_there
        (read_written parents parents' _ i _ parents_is parents_within refl) (λ x ne. read_other parents parents' _ i x parents_is ne)

    pub raised_last : (x : ℕ) → 0 < get_or ranks x 0 → get_or amounts' point 0 ≤ get_or amounts' x 0
    raised_last x done =
        let settled_ne : (y : ℕ) → 0 < get_or ranks y 0 → y ≢ (link_at links i).from = λ y d e. (let at_y : get_or ranks y 0 ≡ get_or ranks (link_at links i).from 0 = ap (λ z. get_or ranks z 0) e in absurd (omega arith)) in
        let a : get_or amounts' point 0 ≡ get_or amounts point 0 = amounts_there point (settled_ne point settled) in
        let b : get_or amounts' x 0 ≡ get_or amounts x 0 = amounts_there x (settled_ne x done) in
        let d : get_or amounts point 0 ≤ get_or amounts x 0 = last x done in
        omega arith

-- what `relax` keeps while it goes through the links
pub record IsRelaxing (links : List Link) (point i : ℕ) (old_amounts ranks old_parents amounts parents : List ℕ) : Type 0 where
  pub parents_len : length parents ≡ length amounts
  pub last : (x : ℕ) → 0 < get_or ranks x 0 → get_or amounts point 0 ≤ get_or amounts x 0
  pub state : (seed amount : ℕ)
      → Spreading links seed amount point (λ k. k < 0) (λ x. get_or old_amounts x 0) (λ x. get_or ranks x 0) (λ x. get_or old_parents x 0)
      → Spreading links seed amount point (λ k. k < i) (λ x. get_or amounts x 0) (λ x. get_or ranks x 0) (λ x. get_or parents x 0)

-- nothing to write for this link
pub relaxing_kept : (links : List Link) (point i : ℕ) (old_amounts ranks old_parents amounts parents amounts' parents' : List ℕ)
    → IsRelaxing links point i old_amounts ranks old_parents amounts parents
    → amounts' ≡ amounts → parents' ≡ parents
    → ((link_at links i).to ≡ point → get_or amounts point 0 ≤ get_or amounts (link_at links i).from 0 + (link_at links i).slack)
    → IsRelaxing links point (i + 1) old_amounts ranks old_parents amounts' parents'
relaxing_kept links point i old_amounts ranks old_parents amounts parents amounts' parents' s ea ep met =
    subst (λ xs. IsRelaxing links point (i + 1) old_amounts ranks old_parents xs parents') (sym ea)
    (subst (λ xs. IsRelaxing links point (i + 1) old_amounts ranks old_parents amounts xs) (sym ep)
    (record {
      parents_len = s.parents_len;
      last = s.last;
      state = λ seed amount before. seen_more links seed amount point i (λ x. get_or amounts x 0) (λ x. get_or ranks x 0) (λ x. get_or parents x 0) (s.state seed amount before)
          (λ here. (let a : get_or amounts (link_at links i).to 0 ≡ get_or amounts point 0 = ap (λ z. get_or amounts z 0) here in let b : get_or amounts point 0 ≤ get_or amounts (link_at links i).from 0 + (link_at links i).slack = met here in omega arith));
    }))

-- a point with the most of those not settled is settled
module _ (links : List Link) (seed amount last point n : ℕ) (g r p r' : ℕ → ℕ)
    (s : Spreading links seed amount last (λ k. k < length links) g r p)
    (next : IsNext g r point)
    (above : (x : ℕ) → r x < n)
    (here : r' point ≡ n)
    (there : (x : ℕ) → x ≢ point → r' x ≡ r x)
  where
    was_settled : (x : ℕ) → x ≢ point → 0 < r' x → 0 < r x
    was_settled x ne done = let a : r' x ≡ r x = there x ne in omega arith

    settled_kept : (x : ℕ) → 0 < r x → r' x ≡ r x
    settled_kept x done = there x (λ e. (let a : r x ≡ r point = ap r e in let b : r point ≡ 0 = next.unsettled in absurd (omega arith)))

    pub settle_last : (x : ℕ) → 0 < r' x → g point ≤ g x
    settle_last x done =
        elim (same_or x point) [
          | inl e ↦ (let a : g x ≡ g point = ap g e in omega arith)
          | inr ne ↦ s.order x point (was_settled x ne done) next.unsettled
        ]

    parents_on : (x q : ℕ) → IsParent links g r x q → IsParent links g r' x q
    parents_on x q old =
        let a : r' (link_at links q).to ≡ r (link_at links q).to = settled_kept _ old.settled in
        let b : 0 < r (link_at links q).to = old.settled in
        record {
          within = old.within;
          begins = old.begins;
          settled = omega arith;
          amount = old.amount;
          earlier = λ done.
              elim (same_or x point) [
                | inl e ↦ (let d : r' x ≡ n = ap r' e ∙ here in let f : r (link_at links q).to < n = above _ in omega arith)
                | inr ne ↦ (let d : r' x ≡ r x = there x ne in let f : r (link_at links q).to < r x = old.earlier (omega arith) in omega arith)
              ];
        }

    pub settle : Spreading links seed amount point (λ k. k < 0) g r' p
    settle = record {
      seeded = s.seeded;
      first = λ zero_rank.
          let ne : seed ≢ point = λ e. (let a : r' seed ≡ n = ap r' e ∙ here in let b : r point < n = above point in absurd (omega arith)) in
          let z : r seed ≡ 0 = sym (there seed ne) ∙ zero_rank in
          let a : g point ≡ 0 = s.first z point (λ e. ne (sym e)) in
          let b : 0 < g point = next.positive in
          absurd (omega arith);
      order = λ x y done unsettled_y.
          let y_ne : y ≢ point = λ e. (let a : r' y ≡ n = ap r' e ∙ here in let b : r point < n = above point in absurd (omega arith)) in
          let y_open : r y ≡ 0 = sym (there y y_ne) ∙ unsettled_y in
          let a : g y ≤ g point = next.most y y_open in
          let b : g point ≤ g x = settle_last x done in
          omega arith;
      positive = λ x done.
          let b : g point ≤ g x = settle_last x done in
          let d : 0 < g point = next.positive in
          omega arith;
      closed = λ k inside done seen.
          let ne : (link_at links k).to ≢ point = λ e. (let a : k < 0 = seen e in absurd (omega arith)) in
          s.closed k inside (was_settled _ ne done) (λ _. inside);
      least = s.least;
      parents = λ x not_seed some. parents_on x (p x) (s.parents x not_seed some);
    }

-- which point is gone through does not matter once all links are seen
pub all_seen : (links : List Link) (seed amount point point' : ℕ) (g r p : ℕ → ℕ)
    → Spreading links seed amount point (λ k. k < length links) g r p → Spreading links seed amount point' (λ k. k < length links) g r p
all_seen links seed amount point point' g r p s = record {
  seeded = s.seeded;
  first = s.first;
  order = s.order;
  positive = s.positive;
  closed = λ k inside done _. s.closed k inside done (λ _. inside);
  least = s.least;
  parents = s.parents;
}

-- what `spread` keeps from point to point
pub record IsSettling (links : List Link) (points seed amount settled : ℕ) (amounts ranks parents : List ℕ) : Type 0 where
  pub amounts_len : length amounts ≡ points
  pub ranks_len : length ranks ≡ points
  pub parents_len : length parents ≡ points
  pub count : settled + count_by (λ r. nat_eq r 0) ranks ≡ points
  pub above : (x : ℕ) → get_or ranks x 0 ≤ settled
  pub state : Spreading links seed amount 0 (λ k. k < length links) (λ x. get_or amounts x 0) (λ x. get_or ranks x 0) (λ x. get_or parents x 0)

pub fewer_open : (ranks : List ℕ) (point n : ℕ) → point < length ranks → get_or ranks point 0 ≡ 0
    → count_by (λ r. nat_eq r 0) (set ranks point (n + 1)) + 1 ≡ count_by (λ r. nat_eq r 0) ranks
fewer_open ranks point n within zero_rank =
    let e = sum_by-set (λ r. cond (nat_eq r 0) 1 0) ranks point (n + 1) 0 within in
    let f : ◌≡◌ {A = ℕ} (cond (nat_eq (get_or ranks point 0) 0) 1 0) 1 = ap (λ r. cond (nat_eq r 0) 1 0) zero_rank in
    let g : ◌≡◌ {A = ℕ} (cond (nat_eq (n + 1) 0) 1 0) 0 = grind (arith, nat_tests) in
    omega (arith, e, f, g)

module _ (links : List Link) (points seed amount settled point : ℕ) (amounts ranks parents : List ℕ)
    (s : IsSettling links points seed amount settled amounts ranks parents)
    (within : point < length amounts)
    (next : IsNext (λ x. get_or amounts x 0) (λ x. get_or ranks x 0) point)
  where
    ranks_within : point < length ranks
    ranks_within = let a : length amounts ≡ points = s.amounts_len in let b : length ranks ≡ points = s.ranks_len in omega arith

    rank_here : get_or (set ranks point (settled + 1)) point 0 ≡ settled + 1
    rank_here = get_or-set_at ranks point point (settled + 1) 0 refl ranks_within

    rank_there : (x : ℕ) → x ≢ point → get_or (set ranks point (settled + 1)) x 0 ≡ get_or ranks x 0
    rank_there x ne = rw get_or-set_other refl

    above_now : (x : ℕ) → get_or ranks x 0 < settled + 1
    above_now x = let a : get_or ranks x 0 ≤ settled = s.above x in omega arith

    pub settled_state : Spreading links seed amount point (λ k. k < 0) (λ x. get_or amounts x 0) (λ x. get_or (set ranks point (settled + 1)) x 0) (λ x. get_or parents x 0)
    settled_state = settle links seed amount 0 point (settled + 1) (λ x. get_or amounts x 0) (λ x. get_or ranks x 0) (λ x. get_or parents x 0) (λ x. get_or (set ranks point (settled + 1)) x 0) s.state next above_now rank_here rank_there

    pub settled_more : (amounts' parents' : List ℕ) → length amounts' ≡ length amounts → length parents' ≡ length parents
        → Spreading links seed amount point (λ k. k < length links) (λ x. get_or amounts' x 0) (λ x. get_or (set ranks point (settled + 1)) x 0) (λ x. get_or parents' x 0)
        → IsSettling links points seed amount (settled + 1) amounts' (set ranks point (settled + 1)) parents'
    settled_more amounts' parents' ea ep after = record {
      amounts_len = ea ∙ s.amounts_len;
      ranks_len = simp length-set s.ranks_len;
      parents_len = ep ∙ s.parents_len;
      count = (let a = fewer_open ranks point settled ranks_within next.unsettled in let b = s.count in omega (arith, a, b));
      above = λ x.
          elim (same_or x point) [
            | inl e ↦ (let a : get_or (set ranks point (settled + 1)) x 0 ≡ settled + 1 = ap (λ z. get_or (set ranks point (settled + 1)) z 0) e ∙ rank_here in omega arith)
            | inr ne ↦ (let a : get_or (set ranks point (settled + 1)) x 0 ≡ get_or ranks x 0 = rank_there x ne in let b : get_or ranks x 0 ≤ settled = s.above x in omega arith)
          ];
      state = all_seen links seed amount point 0 _ _ _ after;
    }

-- a slice of a whole vector is written back
pub written_back : (xs ys : List ℕ) (n : ℕ) → n ≡ length xs → length ys ≡ length xs → take n (ys ++ drop (length ys) xs) ≡ ys
written_back xs ys n en el = grind (arith, common_steps)

pub something_within : (xs : List ℕ) (x : ℕ) → 0 < get_or xs x 0 → x < length xs
something_within xs x some =
    elim (below_or x (length xs)) [
      | inl below ↦ below
      | inr above ↦ (let a : get_or xs x 0 ≡ 0 = get_or-eq_default xs 0 above in absurd (omega arith))
    ]

pub closed_all : (links : List Link) (seed amount : ℕ) (amounts ranks parents : List ℕ) → IsSpread links seed amount amounts ranks parents → IsClosed (λ x. get_or amounts x 0) links
closed_all links seed amount amounts ranks parents s k d within =
    subst (λ l. MeetsLink (λ x. get_or amounts x 0) l) (get_or_default links k no_link d within)
    (elim (below_or 0 (get_or ranks (link_at links k).to 0)) [
      | inl done ↦ s.spreading.closed k within done (λ _. within)
      | inr none ↦ (let a : get_or amounts (link_at links k).to 0 ≡ 0 = s.ended _ (omega arith) in omega arith)
    ])
