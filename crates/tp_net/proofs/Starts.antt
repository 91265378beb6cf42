-- From any schedule that is known the least and the greatest moments can be worked out.
use Rattle.std.proofs.Common.{◌≡◌, ℕ, zero, suc, ◌<◌, inl, inr, List, length, get_or, refl, ap, arith}
use Rattle.std.specs.Prelude.{pos, ◌-ℤ◌}
use Rattle.std.proofs.lemmas.Int.{ints}
use Rattle.tp_bounds.specs.declared.Edge.{Edge}
use Rattle.tp_bounds.specs.declared.Edge.TheVariants.{PastHigh, PastLow, Now, End}
use Rattle.tp_bounds.specs.Setting.{Setting, event_count, fixed_at, floor_of}
use Rattle.tp_bounds.specs.Schedule as bounds
use Rattle.tp_bounds.specs.Reasons.{at_least, at_most}
use Rattle.tp_net.specs.declared.slacks.Arc.{Arc}
use Rattle.tp_net.specs.Graph.{IsSolution, arc_at, moment}
use Rattle.tp_net.specs.Moments.{ReachOrigin, FromOrigin, IsStart}
use Rattle.tp_net.specs.Arcs.{AreArcs}
use Rattle.tp_net.specs.Kept.{IsFit}
use Rattle.tp_net.proofs.Listings.{schedule_there, events_of, arc_named, now_edge, end_edge, high_edge, low_edge}
use Rattle.tp_net.proofs.KeptMoments.{in_horizon, fixed_or, all_small, all_small_weight, all_join}

reach_of : (s : Setting) (names : List Edge) (arcs : List Arc) (moments : List ℕ) (amount : ℕ) → IsFit s → AreArcs s names arcs → bounds.IsSchedule s (events_of moments)
    → length moments ≡ suc (event_count s) → amount ≡ suc s.horizon → ReachOrigin arcs moments amount
reach_of s names arcs moments amount f a sch len is zero some within = absurd (omega (arith, some))
reach_of s names arcs moments amount f a sch len is (suc e) some within =
    let lt : e < event_count s = omega (arith, within, len) in
    let soon = in_horizon s (events_of moments) f sch e lt in
    elim (fixed_or (fixed_at s e)) [
      | inl p ↦
          (let x = a.all (PastLow e) (at_least e p.0) (low_edge s e p.0 p.1) tt in
          let at = arc_named (λ _. Unit {0}) s names arcs a (PastLow e) (at_least e p.0) (low_edge s e p.0 p.1) x.0 x.1 x.2 in
          let w : (arc_at arcs x.0).weight ≡ pos 0 -ℤ pos p.0 = ap (λ (y : Arc). y.weight) at in
          let past = sch.past e p.0 p.1 in
          (x.0, x.1, ap (λ (y : Arc). y.from) at, ap (λ (y : Arc). y.to) at, omega (arith, ints, w, past, is), omega (arith, ints, w)))
      | inr n ↦
          (let x = a.all (Now e) (at_least e (floor_of s e)) (now_edge s e lt n) tt in
          let at = arc_named (λ _. Unit {0}) s names arcs a (Now e) (at_least e (floor_of s e)) (now_edge s e lt n) x.0 x.1 x.2 in
          let w : (arc_at arcs x.0).weight ≡ pos 0 -ℤ pos (floor_of s e) = ap (λ (y : Arc). y.weight) at in
          (x.0, x.1, ap (λ (y : Arc). y.from) at, ap (λ (y : Arc). y.to) at, omega (arith, ints, w, soon, is), omega (arith, ints, w)))
    ]

from_of : (s : Setting) (names : List Edge) (arcs : List Arc) (moments : List ℕ) (amount : ℕ) → IsFit s → AreArcs s names arcs → bounds.IsSchedule s (events_of moments)
    → length moments ≡ suc (event_count s) → amount ≡ suc s.horizon → FromOrigin arcs moments amount
from_of s names arcs moments amount f a sch len is zero some within = absurd (omega (arith, some))
from_of s names arcs moments amount f a sch len is (suc e) some within =
    let lt : e < event_count s = omega (arith, within, len) in
    elim (fixed_or (fixed_at s e)) [
      | inl p ↦
          (let x = a.all (PastHigh e) (at_most e p.0) (high_edge s e p.0 p.1) tt in
          let at = arc_named (λ _. Unit {0}) s names arcs a (PastHigh e) (at_most e p.0) (high_edge s e p.0 p.1) x.0 x.1 x.2 in
          let w : (arc_at arcs x.0).weight ≡ pos p.0 = ap (λ (y : Arc). y.weight) at in
          let past = sch.past e p.0 p.1 in
          (x.0, x.1, ap (λ (y : Arc). y.from) at, ap (λ (y : Arc). y.to) at, omega (arith, ints, w, past, is)))
      | inr n ↦
          (let x = a.all (End e) (at_most e s.horizon) (end_edge s e lt n) tt in
          let at = arc_named (λ _. Unit {0}) s names arcs a (End e) (at_most e s.horizon) (end_edge s e lt n) x.0 x.1 x.2 in
          let w : (arc_at arcs x.0).weight ≡ pos s.horizon = ap (λ (y : Arc). y.weight) at in
          (x.0, x.1, ap (λ (y : Arc). y.from) at, ap (λ (y : Arc). y.to) at, omega (arith, ints, w, is)))
    ]

pub start : (s : Setting) (names : List Edge) (arcs : List Arc) (moments : List ℕ) (amount : ℕ) → IsFit s → AreArcs s names arcs → get_or moments 0 0 ≡ 0 → bounds.IsSchedule s (events_of moments)
    → length moments ≡ suc (event_count s) → amount ≡ suc s.horizon → IsStart arcs moments amount
start s names arcs moments amount f a origin sch len is =
    let solution : IsSolution arcs (moment moments) = schedule_there s names arcs a (moment moments) (events_of moments) (record { origin = ap pos origin; events = λ e. refl }) sch in
    record {
      origin = omega (arith, len);
      small = all_small s names arcs moments f a solution len;
      weights = all_small_weight s names arcs f a;
      among = all_join s names arcs (length moments) f a len;
      solution = solution;
      reach = reach_of s names arcs moments amount f a sch len is;
      from = from_of s names arcs moments amount f a sch len is;
    }
