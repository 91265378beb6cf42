use Rattle.std.proofs.Common.{◌≡◌, ◌≢◌, ℕ, ◌+◌, ◌-◌, ◌<◌, ◌≤◌, List, [], ◌∷◌, length, refl, sym, ◌∙◌, ap, subst, inl, inr, arith, get_or, set, get_or-set_other, length-set, suc, zero, cond, replicate, ◌++◌}
use Rattle.std.proofs.Math.ListN.{get_or-eq_default}
use Rattle.std.proofs.lemmas.List.{get_or-replicate, length-replicate, get_or_append_left, get_or_push}
use Rattle.std.proofs.lemmas.Grind.{common_steps}
use Rattle.tp_repair_engine.specs.declared.flow.Work.{Work}
use Rattle.tp_repair_engine.specs.Work.{IsOrder, IsReady, IsBegun}
use Rattle.std.specs.Prelude.{count_by, nat_eq, nat_lt}
use Rattle.tp_net.specs.declared.spread.Link.{Link}
use Rattle.tp_net.specs.Links.{MeetsLink, IsNext}
use Rattle.tp_repair_engine.specs.Flow.{Flowing, IsSource, AreListed, sum_to, looks_at, IsFlow}
use Rattle.tp_net.proofs.Spreads.{same_or, below_or, read_written, read_other, fewer_open}
use Rattle.std.proofs.lemmas.Grind.{get_or-set_at}
use Rattle.std.proofs.lemmas.Bool.Decides.{nat_tests}

-- a link whose beginning has enough already
pub flow_seen : (link : ℕ → Link) (keys : ℕ → List ℕ) (start : ℕ → ℕ) (point i : ℕ) (g r p : ℕ → ℕ)
    → Flowing link keys start point i g r p
    → MeetsLink g (link (get_or (keys point) i 0))
    → Flowing link keys start point (i + 1) g r p
flow_seen link keys start point i g r p s met = record {
  started = s.started;
  order = s.order;
  positive = s.positive;
  closed = λ y j done within seen.
      elim (same_or y point) [
        | inr other ↦ s.closed y j done within (λ e. absurd (other e))
        | inl same ↦ elim (same_or j i) [
          | inl here ↦ subst (λ z. MeetsLink g (link (get_or (keys z) j 0))) (sym same) (subst (λ z. MeetsLink g (link (get_or (keys point) z 0))) (sym here) met)
          | inr there ↦ s.closed y j done within (λ e. (let below : j < i + 1 = seen e in omega (arith, there, below)))
        ]
      ];
  least = s.least;
  parents = s.parents;
}

-- the beginning of a link gets more by it
module _ (link : ℕ → Link) (keys : ℕ → List ℕ) (start : ℕ → ℕ) (point i v f : ℕ) (g r p g' p' : ℕ → ℕ)
    (listed : AreListed link keys)
    (s : Flowing link keys start point i g r p)
    (within : i < length (keys point))
    (settled : 0 < r point)
    (last : (x : ℕ) → 0 < r x → g point ≤ g x)
    (from_is : (link (get_or (keys point) i 0)).from ≡ f)
    (to_point : (link (get_or (keys point) i 0)).to ≡ point)
    (unsettled : r f ≡ 0)
    (value : v ≡ g point - (link (get_or (keys point) i 0)).slack)
    (more : g f < v)
    (here : g' f ≡ v)
    (there : (x : ℕ) → x ≢ f → g' x ≡ g x)
    (parent_here : p' f ≡ get_or (keys point) i 0)
    (parent_there : (x : ℕ) → x ≢ f → p' x ≡ p x)
  where
    not_from : (x : ℕ) → 0 < r x → x ≢ f
    not_from x done e = let at_x : r x ≡ r f = ap r e in absurd (omega arith)

    kept : (x : ℕ) → 0 < r x → g' x ≡ g x
    kept x done = there x (not_from x done)

    raised : (x : ℕ) → g x ≤ g' x
    raised x =
        elim (same_or x f) [
          | inl e ↦ (let a : g x ≡ g f = ap g e in let b : g' x ≡ g' f = ap g' e in omega arith)
          | inr ne ↦ (let a : g' x ≡ g x = there x ne in omega arith)
        ]

    source_kept : (x q : ℕ) → g' x ≡ g x → IsSource link keys g r x q → IsSource link keys g' r x q
    source_kept x q same old = record {
      place = old.place;
      within = old.within;
      listed = old.listed;
      begins = old.begins;
      settled = old.settled;
      amount = (let a : g' (link q).to ≡ g (link q).to = kept _ old.settled in let b : g x + (link q).slack ≡ g (link q).to = old.amount in omega arith);
      earlier = old.earlier;
    }

    new_source : IsSource link keys g' r f (get_or (keys point) i 0)
    new_source = record {
      place = i;
      within = subst (λ z. i < length (keys z)) (sym to_point) within;
      listed = ap (λ z. get_or (keys z) i 0) to_point;
      begins = from_is;
      settled = (let a : r (link (get_or (keys point) i 0)).to ≡ r point = ap r to_point in omega arith);
      amount = (let a : g' (link (get_or (keys point) i 0)).to ≡ g' point = ap g' to_point in let b : g' point ≡ g point = kept point settled in omega arith);
      earlier = λ done. absurd (omega arith);
    }

    met_here : MeetsLink g' (link (get_or (keys point) i 0))
    met_here =
        let a : g' (link (get_or (keys point) i 0)).to ≡ g' point = ap g' to_point in
        let b : g' point ≡ g point = kept point settled in
        let c : g' (link (get_or (keys point) i 0)).from ≡ v = ap g' from_is ∙ here in
        omega arith

    to_done : (y j : ℕ) → 0 < r y → j < length (keys y) → 0 < r (link (get_or (keys y) j 0)).to
    to_done y j done inside = let a : r (link (get_or (keys y) j 0)).to ≡ r y = ap r (listed y j inside) in omega arith

    wider : (y j : ℕ) → MeetsLink g (link (get_or (keys y) j 0)) → 0 < r (link (get_or (keys y) j 0)).to → MeetsLink g' (link (get_or (keys y) j 0))
    wider y j met done =
        let a : g' (link (get_or (keys y) j 0)).to ≡ g (link (get_or (keys y) j 0)).to = kept _ done in
        let b : g (link (get_or (keys y) j 0)).from ≤ g' (link (get_or (keys y) j 0)).from = raised _ in
        let c : g (link (get_or (keys y) j 0)).to ≤ g (link (get_or (keys y) j 0)).from + (link (get_or (keys y) j 0)).slack = met in
        omega arith

    pub flow_raised : Flowing link keys start point (i + 1) g' r p'
    flow_raised = record {
      started = λ x. (let a : start x ≤ g x = s.started x in let b : g x ≤ g' x = raised x in omega arith);
      order = λ x y done unsettled_y.
          let a : g' x ≡ g x = kept x done in
          elim (same_or y f) [
            | inl e ↦ (let b : g' y ≡ g' f = ap g' e in let c : g point ≤ g x = last x done in omega arith)
            | inr ne ↦ (let b : g' y ≡ g y = there y ne in let c : g y ≤ g x = s.order x y done unsettled_y in omega arith)
          ];
      positive = λ x done. (let a : g' x ≡ g x = kept x done in let b : 0 < g x = s.positive x done in omega arith);
      closed = λ y j done inside seen.
          elim (same_or y point) [
            | inr other ↦ wider y j (s.closed y j done inside (λ e. absurd (other e))) (to_done y j done inside)
            | inl same ↦ elim (same_or j i) [
              | inl now ↦ subst (λ z. MeetsLink g' (link (get_or (keys z) j 0))) (sym same) (subst (λ z. MeetsLink g' (link (get_or (keys point) z 0))) (sym now) met_here)
              | inr later ↦ wider y j (s.closed y j done inside (λ e. (let below : j < i + 1 = seen e in omega (arith, later, below)))) (to_done y j done inside)
            ]
          ];
      least = λ h h_closed h_start x.
          elim (same_or x f) [
            | inl e ↦
                let a : g point ≤ h point = s.least h h_closed h_start point in
                let b : h (link (get_or (keys point) i 0)).to ≤ h (link (get_or (keys point) i 0)).from + (link (get_or (keys point) i 0)).slack = h_closed point i within in
                let c : h (link (get_or (keys point) i 0)).to ≡ h point = ap h to_point in
                let d : g' x ≡ g' f = ap g' e in
                let k : h x ≡ h (link (get_or (keys point) i 0)).from = ap h (e ∙ sym from_is) in
                omega arith
            | inr ne ↦ (let a : g' x ≡ g x = there x ne in let b : g x ≤ h x = s.least h h_closed h_start x in omega arith)
          ];
      parents = λ x some.
          elim (same_or x f) [
            | inl e ↦ inr (subst (λ z. IsSource link keys g' r z (p' z)) (sym e) (subst (λ q. IsSource link keys g' r f q) (sym parent_here) new_source))
            | inr ne ↦
                let a : g' x ≡ g x = there x ne in
                let b : 0 < g x = omega arith in
                elim (s.parents x b) [
                  | inl root ↦ inl (a ∙ root)
                  | inr source ↦ inr (subst (λ q. IsSource link keys g' r x q) (sym (parent_there x ne)) (source_kept x (p x) a source))
                ]
          ];
    }

-- what `relax` keeps while it goes through the list of a point
pub record IsFlowing (link : ℕ → Link) (list : List ℕ) (point i : ℕ) (old_amounts ranks old_parents amounts parents : List ℕ) : Type 0 where
  pub last : (x : ℕ) → 0 < get_or ranks x 0 → get_or amounts point 0 ≤ get_or amounts x 0
  pub state : (keys : ℕ → List ℕ) (start : ℕ → ℕ) → keys point ≡ list → AreListed link keys
      → Flowing link keys start point 0 (λ x. get_or old_amounts x 0) (λ x. get_or ranks x 0) (λ x. get_or old_parents x 0)
      → Flowing link keys start point i (λ x. get_or amounts x 0) (λ x. get_or ranks x 0) (λ x. get_or parents x 0)

pub flowing_kept : (link : ℕ → Link) (list : List ℕ) (point i : ℕ) (old_amounts ranks old_parents amounts parents amounts' parents' : List ℕ)
    → IsFlowing link list point i old_amounts ranks old_parents amounts parents
    → amounts' ≡ amounts → parents' ≡ parents
    → (link (get_or list i 0)).to ≡ point
    → get_or amounts point 0 ≤ get_or amounts (link (get_or list i 0)).from 0 + (link (get_or list i 0)).slack
    → IsFlowing link list point (i + 1) old_amounts ranks old_parents amounts' parents'
flowing_kept link list point i old_amounts ranks old_parents amounts parents amounts' parents' s ea ep ends met =
    subst (λ xs. IsFlowing link list point (i + 1) old_amounts ranks old_parents xs parents') (sym ea)
    (subst (λ xs. IsFlowing link list point (i + 1) old_amounts ranks old_parents amounts xs) (sym ep)
    (record {
      last = s.last;
      state = λ keys start list_is listed before.
          flow_seen link keys start point i (λ x. get_or amounts x 0) (λ x. get_or ranks x 0) (λ x. get_or parents x 0) (s.state keys start list_is listed before)
          (subst (λ (ks : List ℕ). MeetsLink (λ x. get_or amounts x 0) (link (get_or ks i 0))) (sym list_is)
          (let a : get_or amounts (link (get_or list i 0)).to 0 ≡ get_or amounts point 0 = ap (λ z. get_or amounts z 0) ends in omega (arith, a, met)));
    }))

module _ (link : ℕ → Link) (list : List ℕ) (point i v f : ℕ) (old_amounts ranks old_parents amounts parents amounts' parents' : List ℕ)
    (s : IsFlowing link list point i old_amounts ranks old_parents amounts parents)
    (within : i < length list)
    (from_within : f < length amounts)
    (same_len : length parents ≡ length amounts)
    (settled : 0 < get_or ranks point 0)
    (from_is : (link (get_or list i 0)).from ≡ f)
    (to_point : (link (get_or list i 0)).to ≡ point)
    (unsettled : get_or ranks f 0 ≡ 0)
    (value : v ≡ get_or amounts point 0 - (link (get_or list i 0)).slack)
    (more : get_or amounts f 0 < v)
    (amounts_is : amounts' ≡ set amounts f v)
    (parents_is : parents' ≡ set parents f (get_or list i 0))
  where
    pub flowing_raised : IsFlowing link list point (i + 1) old_amounts ranks old_parents amounts' parents'
    flowing_raised =
        let amounts_there : (x : ℕ) → x ≢ f → get_or amounts' x 0 ≡ get_or amounts x 0 = λ x ne. read_other amounts amounts' f v x amounts_is ne in
        let ne_from : (y : ℕ) → 0 < get_or ranks y 0 → y ≢ f = λ y d e. (let at_y : get_or ranks y 0 ≡ get_or ranks f 0 = ap (λ z. get_or ranks z 0) e in absurd (omega arith)) in
        record {
          last = λ x done.
              (let a : get_or amounts' point 0 ≡ get_or amounts point 0 = amounts_there point (ne_from point settled) in
              let b : get_or amounts' x 0 ≡ get_or amounts x 0 = amounts_there x (ne_from x done) in
              let d : get_or amounts point 0 ≤ get_or amounts x 0 = s.last x done in
              omega arith);
          state = λ keys start list_is listed before.
              flow_raised link keys start point i v f (λ x. get_or amounts x 0) (λ x. get_or ranks x 0) (λ x. get_or parents x 0) (λ x. get_or amounts' x 0) (λ x. get_or parents' x 0)
              listed (s.state keys start list_is listed before)
              (subst (λ (ks : List ℕ). i < length ks) (sym list_is) within) settled s.last
              (subst (λ (ks : List ℕ). (link (get_or ks i 0)).from ≡ f) (sym list_is) from_is)
              (subst (λ (ks : List ℕ). (link (get_or ks i 0)).to ≡ point) (sym list_is) to_point)
              unsettled
              (subst (λ (ks : List ℕ). v ≡ get_or amounts point 0 - (link (get_or ks i 0)).slack) (sym list_is) value)
              more (read_written amounts amounts' f v f amounts_is from_within refl) amounts_there
              (subst (λ (ks : List ℕ). get_or parents' f 0 ≡ get_or ks i 0) (sym list_is) (read_written parents parents' f (get_or list i 0) f parents_is (omega (arith, from_within, same_len)) refl))
              (λ x ne. read_other parents parents' f (get_or list i 0) x parents_is ne);
        }

pub sum_to_same : (f g : ℕ → ℕ) (n : ℕ) → ((y : ℕ) → y < n → f y ≡ g y) → sum_to f n ≡ sum_to g n
sum_to_same f g zero same = refl
sum_to_same f g (suc n) same =
    let a = sum_to_same f g n (λ y h. same y (omega (arith, h))) in
    let b = same n (omega arith) in
    omega (arith, a, b)

pub sum_to_zero : (f : ℕ → ℕ) (n : ℕ) → ((y : ℕ) → y < n → f y ≡ 0) → sum_to f n ≡ 0
sum_to_zero f zero none = refl
sum_to_zero f (suc n) none =
    let a = sum_to_zero f n (λ y h. none y (omega (arith, h))) in
    let b = none n (omega arith) in
    omega (arith, a, b)

pub sum_to_le : (f g : ℕ → ℕ) (n : ℕ) → ((y : ℕ) → y < n → f y ≤ g y) → sum_to f n ≤ sum_to g n
sum_to_le f g zero le = omega arith
sum_to_le f g (suc n) le =
    let a = sum_to_le f g n (λ y h. le y (omega (arith, h))) in
    let b = le n (omega arith) in
    omega (arith, a, b)

pub sum_to_change : (f g : ℕ → ℕ) (n p : ℕ) → p < n → ((y : ℕ) → y ≢ p → g y ≡ f y) → sum_to g n + f p ≡ sum_to f n + g p
sum_to_change f g zero p within other = absurd (omega (arith, within))
sum_to_change f g (suc n) p within other =
    elim (same_or p n) [
      | inl here ↦
          let a : sum_to g n ≡ sum_to f n = sum_to_same g f n (λ y h. other y (λ e. (let c : n ≡ y = sym here ∙ sym e in absurd (omega (arith, c, h))))) in
          let b : f p ≡ f n = ap f here in
          let c : g p ≡ g n = ap g here in
          omega (arith, a, b, c)
      | inr there ↦
          let a = sum_to_change f g n p (omega (arith, within, there)) other in
          let b : g n ≡ f n = other n (λ e. there (sym e)) in
          omega (arith, a, b)
    ]

-- a point with the most of those not settled is settled
module _ (link : ℕ → Link) (keys : ℕ → List ℕ) (start : ℕ → ℕ) (point n : ℕ) (g r p r' : ℕ → ℕ)
    (s : Flowing link keys start 0 (length (keys 0)) g r p)
    (next : IsNext g r point)
    (above : (x : ℕ) → r x < n)
    (here : r' point ≡ n)
    (there : (x : ℕ) → x ≢ point → r' x ≡ r x)
  where
    was_settled : (x : ℕ) → x ≢ point → 0 < r' x → 0 < r x
    was_settled x ne done = let a : r' x ≡ r x = there x ne in omega arith

    rank_kept : (x : ℕ) → 0 < r x → r' x ≡ r x
    rank_kept x done = there x (λ e. (let a : r x ≡ r point = ap r e in let b : r point ≡ 0 = next.unsettled in absurd (omega arith)))

    pub flow_last : (x : ℕ) → 0 < r' x → g point ≤ g x
    flow_last x done =
        elim (same_or x point) [
          | inl e ↦ (let a : g x ≡ g point = ap g e in omega arith)
          | inr ne ↦ s.order x point (was_settled x ne done) next.unsettled
        ]

    source_on : (x q : ℕ) → IsSource link keys g r x q → IsSource link keys g r' x q
    source_on x q old =
        let a : r' (link q).to ≡ r (link q).to = rank_kept _ old.settled in
        let b : 0 < r (link q).to = old.settled in
        record {
          place = old.place;
          within = old.within;
          listed = old.listed;
          begins = old.begins;
          settled = omega arith;
          amount = old.amount;
          earlier = λ done.
              elim (same_or x point) [
                | inl e ↦ (let d : r' x ≡ n = ap r' e ∙ here in let f : r (link q).to < n = above _ in omega arith)
                | inr ne ↦ (let d : r' x ≡ r x = there x ne in let f : r (link q).to < r x = old.earlier (omega arith) in omega arith)
              ];
        }

    pub flow_settle : Flowing link keys start point 0 g r' p
    flow_settle = record {
      started = s.started;
      order = λ x y done unsettled_y.
          let y_ne : y ≢ point = λ e. (let a : r' y ≡ n = ap r' e ∙ here in let b : r point < n = above point in absurd (omega arith)) in
          let y_open : r y ≡ 0 = sym (there y y_ne) ∙ unsettled_y in
          let a : g y ≤ g point = next.most y y_open in
          let b : g point ≤ g x = flow_last x done in
          omega arith;
      positive = λ x done.
          let b : g point ≤ g x = flow_last x done in
          let d : 0 < g point = next.positive in
          omega arith;
      closed = λ y j done inside seen.
          let ne : y ≢ point = λ e. (let a : j < 0 = seen e in absurd (omega arith)) in
          s.closed y j (was_settled y ne done) inside (λ e. subst (λ z. j < length (keys z)) e inside);
      least = s.least;
      parents = λ x some. elim (s.parents x some) [ inl root ↦ inl root | inr source ↦ inr (source_on x (p x) source) ];
    }

pub flow_all_seen : (link : ℕ → Link) (keys : ℕ → List ℕ) (start : ℕ → ℕ) (point : ℕ) (g r p : ℕ → ℕ)
    → Flowing link keys start point (length (keys point)) g r p → Flowing link keys start 0 (length (keys 0)) g r p
flow_all_seen link keys start point g r p s = record {
  started = s.started;
  order = s.order;
  positive = s.positive;
  closed = λ y j done inside _. s.closed y j done inside (λ e. subst (λ z. j < length (keys z)) e inside);
  least = s.least;
  parents = s.parents;
}

-- what `flow` keeps from point to point
pub record IsOnward (link : ℕ → Link) (keys : ℕ → List ℕ) (start : ℕ → ℕ) (points total settled looks : ℕ) (amounts ranks parents : List ℕ) : Type 0 where
  pub amounts_len : length amounts ≡ points
  pub ranks_len : length ranks ≡ points
  pub parents_len : length parents ≡ points
  pub count : settled + count_by (λ r. nat_eq r 0) ranks ≡ total
  pub above : (x : ℕ) → get_or ranks x 0 ≤ settled
  pub looks_is : looks ≡ looks_at keys (λ x. get_or ranks x 0) points
  pub state : Flowing link keys start 0 (length (keys 0)) (λ x. get_or amounts x 0) (λ x. get_or ranks x 0) (λ x. get_or parents x 0)

cond_none : (n k : ℕ) → n ≡ 0 → cond (nat_lt 0 n) k 0 ≡ 0
cond_none n k e = grind (arith, nat_tests)

cond_some : (n k : ℕ) → 0 < n → cond (nat_lt 0 n) k 0 ≡ k
cond_some n k h = grind (arith, nat_tests)

module _ (link : ℕ → Link) (keys : ℕ → List ℕ) (start : ℕ → ℕ) (points total settled looks point : ℕ) (amounts ranks parents : List ℕ)
    (s : IsOnward link keys start points total settled looks amounts ranks parents)
    (within : point < length amounts)
    (next : IsNext (λ x. get_or amounts x 0) (λ x. get_or ranks x 0) point)
  where
    ranks_within : point < length ranks
    ranks_within = let a : length amounts ≡ points = s.amounts_len in let b : length ranks ≡ points = s.ranks_len in omega arith

    rank_here : get_or (set ranks point (settled + 1)) point 0 ≡ settled + 1
    rank_here = get_or-set_at ranks point point (settled + 1) 0 refl ranks_within

    rank_there : (x : ℕ) → x ≢ point → get_or (set ranks point (settled + 1)) x 0 ≡ get_or ranks x 0
    rank_there x ne = rw get_or-set_other refl

    above_now : (x : ℕ) → get_or ranks x 0 < settled + 1
    above_now x = let a : get_or ranks x 0 ≤ settled = s.above x in omega arith

    pub onward_state : Flowing link keys start point 0 (λ x. get_or amounts x 0) (λ x. get_or (set ranks point (settled + 1)) x 0) (λ x. get_or parents x 0)
    onward_state = flow_settle link keys start point (settled + 1) (λ x. get_or amounts x 0) (λ x. get_or ranks x 0) (λ x. get_or parents x 0) (λ x. get_or (set ranks point (settled + 1)) x 0) s.state next above_now rank_here rank_there

    pub looks_more : looks + length (keys point) ≡ looks_at keys (λ x. get_or (set ranks point (settled + 1)) x 0) points
    looks_more =
        let f : ℕ → ℕ = λ y. cond (nat_lt 0 (get_or ranks y 0)) (length (keys y)) 0 in
        let g : ℕ → ℕ = λ y. cond (nat_lt 0 (get_or (set ranks point (settled + 1)) y 0)) (length (keys y)) 0 in
        let a : sum_to g points + f point ≡ sum_to f points + g point = sum_to_change f g points point (omega (arith, within, s.amounts_len)) (λ y ne. ap (λ z. cond (nat_lt 0 z) (length (keys y)) 0) (rank_there y ne)) in
        let b : f point ≡ 0 = cond_none (get_or ranks point 0) (length (keys point)) next.unsettled in
        let c : g point ≡ length (keys point) = cond_some (get_or (set ranks point (settled + 1)) point 0) (length (keys point)) (omega (arith, rank_here)) in
        let d : looks ≡ sum_to f points = s.looks_is in
        omega (arith, a, b, c, d)

    pub onward_more : (amounts' parents' : List ℕ) → length amounts' ≡ length amounts → length parents' ≡ length parents
        → Flowing link keys start point (length (keys point)) (λ x. get_or amounts' x 0) (λ x. get_or (set ranks point (settled + 1)) x 0) (λ x. get_or parents' x 0)
        → IsOnward link keys start points total (settled + 1) (looks + length (keys point)) amounts' (set ranks point (settled + 1)) parents'
    onward_more amounts' parents' ea ep after = record {
      amounts_len = ea ∙ s.amounts_len;
      ranks_len = simp length-set s.ranks_len;
      parents_len = ep ∙ s.parents_len;
      count = (let a = fewer_open ranks point settled ranks_within next.unsettled in let b = s.count in omega (arith, a, b));
      above = λ x.
          elim (same_or x point) [
            | inl e ↦ (let a : get_or (set ranks point (settled + 1)) x 0 ≡ settled + 1 = ap (λ z. get_or (set ranks point (settled + 1)) z 0) e ∙ rank_here in omega arith)
            | inr ne ↦ (let a : get_or (set ranks point (settled + 1)) x 0 ≡ get_or ranks x 0 = rank_there x ne in let b : get_or ranks x 0 ≤ settled = s.above x in omega arith)
          ];
      looks_is = looks_more;
      state = flow_all_seen link keys start point _ _ _ after;
    }

-- at the end
pub flow_ended : (link : ℕ → Link) (keys : ℕ → List ℕ) (start : ℕ → ℕ) (points total settled looks : ℕ) (amounts ranks parents : List ℕ)
    → IsOnward link keys start points total settled looks amounts ranks parents
    → ((x : ℕ) → get_or ranks x 0 ≡ 0 → get_or amounts x 0 ≡ 0)
    → IsFlow link keys start points looks amounts ranks parents
flow_ended link keys start points total settled looks amounts ranks parents s ended = record {
  amounts_len = s.amounts_len;
  ranks_len = s.ranks_len;
  parents_len = s.parents_len;
  flowing = s.state;
  ended = ended;
  looks_is = s.looks_is ∙ sum_to_same _ _ points (λ y within.
      elim (below_or 0 (get_or ranks y 0)) [
        | inl done ↦ (let a = s.state.positive y done in cond_some (get_or ranks y 0) (length (keys y)) done ∙ sym (cond_some (get_or amounts y 0) (length (keys y)) a))
        | inr none ↦ (let z : get_or ranks y 0 ≡ 0 = omega (arith, none) in cond_none (get_or ranks y 0) (length (keys y)) z ∙ sym (cond_none (get_or amounts y 0) (length (keys y)) (ended y z)))
      ]);
}

pub looks_within : (keys : ℕ → List ℕ) (g : ℕ → ℕ) (n : ℕ) → looks_at keys g n ≤ sum_to (λ y. length (keys y)) n
looks_within keys g n = sum_to_le _ _ n (λ y _.
    elim (below_or 0 (g y)) [
      | inl some ↦ (let a = cond_some (g y) (length (keys y)) some in omega (arith, a))
      | inr none ↦ (let a = cond_none (g y) (length (keys y)) (omega (arith, none)) in omega (arith, a))
    ])

-- no point is settled
pub order_none : (ranks order : List ℕ) → ((x : ℕ) → get_or ranks x 0 ≡ 0) → length order ≡ 0 → IsOrder ranks order
order_none ranks order zeros none = record {
  above = λ x. (let z = zeros x in omega (arith, z));
  each = λ x done. (let z = zeros x in absurd (omega (arith, z, done)));
  once = λ k inside. absurd (omega (arith, inside, none));
}

-- points are settled, or none is
pub onward_begins : (link : ℕ → Link) (keys : ℕ → List ℕ) (points : ℕ) (w : Work) → IsBegun link keys points w
    → IsOnward link keys (λ x. get_or w.amounts.items x 0) points (length w.order.items + count_by (λ r. nat_eq r 0) w.ranks.items) (length w.order.items) (looks_at keys (λ x. get_or w.ranks.items x 0) points) w.amounts.items w.ranks.items w.parents.items
onward_begins link keys points w b = record {
  amounts_len = b.places.amounts;
  ranks_len = b.places.ranks;
  parents_len = b.places.parents;
  count = refl;
  above = b.order.above;
  looks_is = refl;
  state = record {
    started = λ x. omega arith;
    order = b.first;
    positive = b.positive;
    closed = λ y j done inside _. b.closed y j done inside;
    least = λ h h_closed h_start x. h_start x;
    parents = λ x some. inl refl;
  };
}

-- nothing is settled yet
pub ready_begun : (link : ℕ → Link) (keys : ℕ → List ℕ) (points : ℕ) (w : Work) → IsReady points w → IsBegun link keys points w
ready_begun link keys points w r = record {
  places = r.places;
  order = order_none w.ranks.items w.order.items r.unsettled r.order;
  queue = r.queue;
  first = λ x y done open_y. (let z = r.unsettled x in absurd (omega (arith, z, done)));
  positive = λ x done. (let z = r.unsettled x in absurd (omega (arith, z, done)));
  closed = λ y j done inside. (let z = r.unsettled y in absurd (omega (arith, z, done)));
}

pub ready_looks : (keys : ℕ → List ℕ) (points : ℕ) (w : Work) → IsReady points w → looks_at keys (λ x. get_or w.ranks.items x 0) points ≡ 0
ready_looks keys points w r = sum_to_zero _ points (λ y _. cond_none (get_or w.ranks.items y 0) (length (keys y)) (r.unsettled y))

-- the point that was settled comes after the others
pub order_more : (ranks order order' : List ℕ) (point rank : ℕ) → IsOrder ranks order → order' ≡ order ++ point ∷ [] → rank ≡ length order + 1
    → point < length ranks → get_or ranks point 0 ≡ 0 → IsOrder (set ranks point rank) order'
order_more ranks order order' point rank s more rank_is within unsettled =
    let here : get_or (set ranks point rank) point 0 ≡ rank = get_or-set_at ranks point point rank 0 refl within in
    let there : (x : ℕ) → x ≢ point → get_or (set ranks point rank) x 0 ≡ get_or ranks x 0 = λ x ne. (rw get_or-set_other refl) in
    let len : length order' ≡ length order + 1 = grind (arith, common_steps, more) in
    record {
      above = λ x.
          elim (same_or x point) [
            | inl e ↦ (let a : get_or (set ranks point rank) x 0 ≡ rank = ap (λ z. get_or (set ranks point rank) z 0) e ∙ here in omega (arith, a, rank_is, len))
            | inr ne ↦ (let a = there x ne in let b = s.above x in omega (arith, a, b, len))
          ];
      each = λ x done.
          elim (same_or x point) [
            | inl e ↦
                let a : get_or (set ranks point rank) x 0 ≡ rank = ap (λ z. get_or (set ranks point rank) z 0) e ∙ here in
                let k : get_or (set ranks point rank) x 0 - 1 ≡ length order = omega (arith, a, rank_is) in
                let v : get_or (order ++ point ∷ []) (length order) 0 ≡ point = get_or_push order point 0 (length order) refl in
                ap (λ z. get_or order' z 0) k ∙ ap (λ (xs : List ℕ). get_or xs (length order) 0) more ∙ v ∙ sym e
            | inr ne ↦
                let a = there x ne in
                let some : 0 < get_or ranks x 0 = omega (arith, a, done) in
                let b = s.above x in
                let v : get_or (order ++ point ∷ []) (get_or ranks x 0 - 1) 0 ≡ get_or order (get_or ranks x 0 - 1) 0 = get_or_append_left order (point ∷ []) 0 (get_or ranks x 0 - 1) (omega (arith, some, b)) in
                ap (λ z. get_or order' (z - 1) 0) a ∙ ap (λ (xs : List ℕ). get_or xs (get_or ranks x 0 - 1) 0) more ∙ v ∙ s.each x some
          ];
      once = λ k inside.
          elim (same_or k (length order)) [
            | inl e ↦
                let v : get_or order' k 0 ≡ point = ap (λ z. get_or order' z 0) e ∙ ap (λ (xs : List ℕ). get_or xs (length order) 0) more ∙ get_or_push order point 0 (length order) refl in
                let l : length (set ranks point rank) ≡ length ranks = rw length-set refl in
                let r : get_or (set ranks point rank) (get_or order' k 0) 0 ≡ rank = ap (λ z. get_or (set ranks point rank) z 0) v ∙ here in (
                  omega (arith, v, l, within),
                  omega (arith, r, rank_is, e),
                )
            | inr ne ↦
                let before : k < length order = omega (arith, inside, len, ne) in
                let v : get_or order' k 0 ≡ get_or order k 0 = ap (λ (xs : List ℕ). get_or xs k 0) more ∙ get_or_append_left order (point ∷ []) 0 k before in
                let o = s.once k before in
                let l : length (set ranks point rank) ≡ length ranks = rw length-set refl in
                let other : get_or order k 0 ≢ point = λ e. (let a : get_or ranks (get_or order k 0) 0 ≡ get_or ranks point 0 = ap (λ z. get_or ranks z 0) e in absurd (omega (arith, a, o.1, unsettled))) in
                let r : get_or (set ranks point rank) (get_or order' k 0) 0 ≡ get_or ranks (get_or order k 0) 0 = ap (λ z. get_or (set ranks point rank) z 0) v ∙ there (get_or order k 0) other in (
                  omega (arith, v, l, o.0),
                  omega (arith, r, o.1),
                )
          ];
    }

pub zeros_at : (n : ℕ) (xs : List ℕ) → xs ≡ replicate n 0 → (x : ℕ) → get_or xs x 0 ≡ 0
zeros_at n xs e x =
    elim (below_or x n) [
      | inl below ↦ ap (λ (ys : List ℕ). get_or ys x 0) e ∙ get_or-replicate n x 0 0 below
      | inr above ↦ ap (λ (ys : List ℕ). get_or ys x 0) e ∙ get_or-eq_default (replicate n 0) 0 (omega (arith, above, length-replicate {A = ℕ} n 0))
    ]
