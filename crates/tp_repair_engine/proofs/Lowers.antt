-- The least and the greatest moments from the amounts that marked points have by the others.
use Rattle.std.proofs.Common.{◌≡◌, ℕ, ◌+◌, ◌-◌, ◌<◌, inl, inr, ◌⊎◌, List, length, get_or, refl, arith}
use Rattle.std.specs.Prelude.{pos, ◌+ℤ◌, ◌-ℤ◌, ◌<ℤ◌}
use Rattle.std.proofs.lemmas.Int.{ints}
use Rattle.tp_net.specs.declared.slacks.Arc.{Arc}
use Rattle.tp_net.specs.Graph.{IsSolution, arc_at, moment}
use Rattle.tp_net.specs.Links.{MeetsLink}
use Rattle.tp_net.specs.Moments.{IsStart}
use Rattle.tp_repair_engine.specs.declared.store.Direction.TheVariants.{Up, Down}
use Rattle.tp_repair_engine.specs.Flow.{link_of, links_of}
use Rattle.tp_repair_engine.specs.Loosened.{IsFreed, IsLowered, IsHeightened}
use Rattle.tp_repair_engine.proofs.Repairs.{are_up, are_down, slack_at_is}
use Rattle.tp_repair_engine.proofs.Frees.{all_links, each_link}
use Rattle.tp_repair_engine.proofs.Solves.{solved_low, solved_least, solved_high, solved_greatest}

-- an arc that is tight has no slack
tight_up : (arcs : List Arc) (low : List ℕ) → IsSolution arcs (moment low) → (k : ℕ) → k < length arcs → moment low (arc_at arcs k).to ≡ (moment low (arc_at arcs k).from +ℤ (arc_at arcs k).weight)
    → (link_of Up (λ x. get_or low x 0) (arc_at arcs k)).slack ≡ 0
tight_up arcs low s k within tight =
    let e = slack_at_is ((pos (get_or low (arc_at arcs k).from 0) +ℤ (arc_at arcs k).weight) -ℤ pos (get_or low (arc_at arcs k).to 0)) (omega (arith, ints, tight)) in
    omega (arith, ints, e, tight)

tight_down : (arcs : List Arc) (high : List ℕ) → IsSolution arcs (moment high) → (k : ℕ) → k < length arcs → moment high (arc_at arcs k).to ≡ (moment high (arc_at arcs k).from +ℤ (arc_at arcs k).weight)
    → (link_of Down (λ x. get_or high x 0) (arc_at arcs k)).slack ≡ 0
tight_down arcs high s k within tight =
    let e = slack_at_is ((pos (get_or high (arc_at arcs k).from 0) +ℤ (arc_at arcs k).weight) -ℤ pos (get_or high (arc_at arcs k).to 0)) (omega (arith, ints, tight)) in
    omega (arith, ints, e, tight)

module _ (arcs : List Arc) (low : List ℕ) (amount : ℕ) (arc : Arc) (start : IsStart arcs low amount) (positive : 0 < amount) where
  -- it did not hold it
  pub lowered_still : (arc.from ≡ 0) ⊎ (moment low arc.to <ℤ (moment low arc.from +ℤ arc.weight)) → IsLowered arcs low arc low
  lowered_still loose = record {
    len = refl;
    solution = start.solution;
    marks = λ _. 0;
    begins = elim loose [ inl z ↦ inl z | inr sl ↦ inr (inl sl) ];
    follows = λ k within tight some. absurd (omega (arith, some));
    least = λ t s stay x within. stay x within refl;
  }

  module _ (marks amounts low' : List ℕ)
      (seeded : 0 < get_or marks arc.from 0)
      (follow : (k : ℕ) → k < length arcs → MeetsLink (λ x. get_or marks x 0) (link_of Up (λ x. get_or low x 0) (arc_at arcs k)))
      (f : IsFreed Up arcs (length low) (λ x. get_or low x 0) (λ x. get_or marks x 0) amount (λ x. get_or amounts x 0))
      (len : length low' ≡ length low)
      (each : (x : ℕ) → x < length low → get_or low' x 0 ≡ (get_or low x 0 + get_or amounts x 0) - amount)
    where
      pub lowered_is : IsLowered arcs low arc low'
      lowered_is = record {
        len = len;
        solution = solved_low arcs (links_of Up (λ x. get_or low x 0) arcs) amount low amounts low' start.origin start.among (are_up (λ x. get_or low x 0) arcs start.solution.1)
            (λ x. get_or marks x 0) (all_links Up arcs (λ x. get_or low x 0) (λ x. get_or amounts x 0) f.closed) f.origin f.most
            (λ h closed at_origin free x. f.least h (each_link Up arcs (λ y. get_or low y 0) h closed) at_origin free x)
            start.solution start.reach positive len each;
        marks = λ x. get_or marks x 0;
        begins = inr (inr seeded);
        follows = λ k within tight some.
            (let z = tight_up arcs low start.solution k within tight in
            let m = follow k within in
            omega (arith, z, m, some));
        least = solved_least arcs (links_of Up (λ x. get_or low x 0) arcs) amount low amounts low' start.origin start.among (are_up (λ x. get_or low x 0) arcs start.solution.1)
            (λ x. get_or marks x 0) (all_links Up arcs (λ x. get_or low x 0) (λ x. get_or amounts x 0) f.closed) f.origin f.most
            (λ h closed at_origin free x. f.least h (each_link Up arcs (λ y. get_or low y 0) h closed) at_origin free x)
            start.solution start.reach positive len each;
      }

module _ (arcs : List Arc) (high : List ℕ) (amount : ℕ) (arc : Arc) (start : IsStart arcs high amount) (positive : 0 < amount) where
  pub heightened_still : (arc.to ≡ 0) ⊎ (moment high arc.to <ℤ (moment high arc.from +ℤ arc.weight)) → IsHeightened arcs high arc high
  heightened_still loose = record {
    len = refl;
    solution = start.solution;
    marks = λ _. 0;
    ends = elim loose [ inl z ↦ inl z | inr sl ↦ inr (inl sl) ];
    follows = λ k within tight some. absurd (omega (arith, some));
    greatest = λ t s stay x within. stay x within refl;
  }

  module _ (marks amounts high' : List ℕ)
      (seeded : 0 < get_or marks arc.to 0)
      (follow : (k : ℕ) → k < length arcs → MeetsLink (λ x. get_or marks x 0) (link_of Down (λ x. get_or high x 0) (arc_at arcs k)))
      (f : IsFreed Down arcs (length high) (λ x. get_or high x 0) (λ x. get_or marks x 0) amount (λ x. get_or amounts x 0))
      (len : length high' ≡ length high)
      (each : (x : ℕ) → x < length high → get_or high' x 0 ≡ (get_or high x 0 + amount) - get_or amounts x 0)
    where
      pub heightened_is : IsHeightened arcs high arc high'
      heightened_is = record {
        len = len;
        solution = solved_high arcs (links_of Down (λ x. get_or high x 0) arcs) amount high amounts high' start.origin start.among (are_down (λ x. get_or high x 0) arcs start.solution.1)
            (λ x. get_or marks x 0) (all_links Down arcs (λ x. get_or high x 0) (λ x. get_or amounts x 0) f.closed) f.origin f.most
            (λ h closed at_origin free x. f.least h (each_link Down arcs (λ y. get_or high y 0) h closed) at_origin free x)
            start.solution start.from positive len each;
        marks = λ x. get_or marks x 0;
        ends = inr (inr seeded);
        follows = λ k within tight some.
            (let z = tight_down arcs high start.solution k within tight in
            let m = follow k within in
            omega (arith, z, m, some));
        greatest = solved_greatest arcs (links_of Down (λ x. get_or high x 0) arcs) amount high amounts high' start.origin start.among (are_down (λ x. get_or high x 0) arcs start.solution.1)
            (λ x. get_or marks x 0) (all_links Down arcs (λ x. get_or high x 0) (λ x. get_or amounts x 0) f.closed) f.origin f.most
            (λ h closed at_origin free x. f.least h (each_link Down arcs (λ y. get_or high y 0) h closed) at_origin free x)
            start.solution start.from positive len each;
      }
