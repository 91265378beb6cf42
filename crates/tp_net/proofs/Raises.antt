-- Now is raised.
use Rattle.std.proofs.Common.{◌≡◌, ℕ, suc, ◌<◌, ◌≤◌, List, [], ◌∷◌, ◌++◌, length, map, Some, refl, sym, ap, subst, ◌∙◌, arith}
use Rattle.std.specs.Prelude.{pos, ◌-ℤ◌, ◌≤ℤ◌}
use Rattle.std.proofs.lemmas.Int.{ints}
use Rattle.tp_bounds.specs.declared.Bound.{Bound}
use Rattle.tp_bounds.specs.declared.Edge.{Edge}
use Rattle.tp_bounds.specs.declared.Edge.TheVariants.{Own, New, PastHigh, PastLow, Now, End}
use Rattle.tp_bounds.specs.Setting.{Setting, floor_of}
use Rattle.tp_bounds.specs.Changes.{at_moment}
use Rattle.tp_bounds.specs.Reasons.{bound_of, at_least, is_open}
use Rattle.tp_bounds.proofs.Chains.{from_cond, opened}
use Rattle.tp_net.specs.Faults.{IsNow, Refutes}
use Rattle.tp_net.proofs.Laws as laws
use Rattle.tp_net.specs.declared.slacks.Arc.{Arc}
use Rattle.tp_net.specs.Moments.{AreExact, IsStart}
use Rattle.tp_net.specs.Arcs.{arc_of, name_at, AreArcs, floor_at, raised_by, AreRaised, AllWait, CannotWait, IsContrary, NamesCycle}
use Rattle.tp_net.specs.Kept.{IsFit, IsKept}
use Rattle.tp_net.proofs.Listings.{events_of, now_edge}
use Rattle.tp_net.proofs.Reasons.{reason_of, stand_more, stand_of, first_named}
use Rattle.tp_net.proofs.KeptMoments.{high_schedule, contrary_after}
use Rattle.tp_net.proofs.Starts.{start}

abbrev pub raised_bound : ℕ → List ℕ → Edge → Bound → Bound
raised_bound now lags (Own id) b = b
raised_bound now lags New b = b
raised_bound now lags (PastHigh e) b = b
raised_bound now lags (PastLow e) b = b
raised_bound now lags (Now e) b = record { from = b.from; to = b.to; w = pos 0 -ℤ pos (floor_at now lags e) }
raised_bound now lags (End e) b = b

pub raised_arc : (now : ℕ) (lags : List ℕ) (e : Edge) (b : Bound) → raised_by now lags e (arc_of b) ≡ arc_of (raised_bound now lags e b)
raised_arc now lags (Own id) b = refl
raised_arc now lags New b = refl
raised_arc now lags (PastHigh e) b = refl
raised_arc now lags (PastLow e) b = refl
raised_arc now lags (Now e) b = refl
raised_arc now lags (End e) b = refl

pub moved : (s : Setting) (now : ℕ) (e : Edge) (b : Bound) → bound_of s e ≡ Some b → bound_of (at_moment s now) e ≡ Some (raised_bound now s.lags e b)
moved s now (Own id) b h = h
moved s now New b h = h
moved s now (PastHigh e) b h = h
moved s now (PastLow e) b h = h
moved s now (Now e) b h =
    let m = from_cond (is_open s e) (at_least e (floor_of s e)) b h in
    let o = opened s e m.0 in
    now_edge (at_moment s now) e o.0 o.1 ∙ ap (λ (c : Bound). Some (record { from = c.from; to = c.to; w = pos 0 -ℤ pos (floor_at now s.lags e) })) m.1
moved s now (End e) b h = h

pub there_was : (s : Setting) (now : ℕ) (e : Edge) (c : Bound) → bound_of (at_moment s now) e ≡ Some c → (b : Bound) × (bound_of s e ≡ Some b)
there_was s now (Own id) b h = (b, h)
there_was s now New b h = (b, h)
there_was s now (PastHigh e) b h = (b, h)
there_was s now (PastLow e) b h = (b, h)
there_was s now (Now e) b h =
    let m = from_cond (is_open s e) (at_least e (floor_at now s.lags e)) b h in
    let o = opened s e m.0 in
    (at_least e (floor_of s e), now_edge s e o.0 o.1)
there_was s now (End e) b h = (b, h)

-- to the moment that is now
pub at_same : (s : Setting) (now : ℕ) → now ≡ s.clock → at_moment s now ≡ s
at_same s now is = ap (at_moment s) is

pub listed_raised : (s : Setting) (now : ℕ) (names : List Edge) (arcs raised : List Arc) → AreArcs s names arcs → AreRaised now s.lags names arcs raised → AreArcs (at_moment s now) names raised
listed_raised s now names arcs raised a r = record {
  len = a.len ∙ sym r.len;
  exist = λ k within.
      (let inside : k < length arcs = omega (arith, within, r.len) in
      let x = a.exist k inside in
      (raised_bound now s.lags (name_at names k) x.0, moved s now (name_at names k) x.0 x.1, r.each k inside ∙ (ap (raised_by now s.lags (name_at names k)) x.2 ∙ raised_arc now s.lags (name_at names k) x.0)));
  all = λ e c is q.
      (let b = there_was s now e c is in
      let x = a.all e b.0 b.1 tt in
      (x.0, omega (arith, x.1, r.len), x.2));
}

-- each edge is at least as tight as before
tighter : (s : Setting) (now : ℕ) → s.clock ≤ now → (e : Edge) (b : Bound) → bound_of s e ≡ Some b → (c : Bound) × (bound_of (at_moment s now) e ≡ Some c) × (c.from ≡ b.from) × (c.to ≡ b.to) × (c.w ≤ℤ b.w)
tighter s now le (Own id) b h = (b, h, refl, refl, omega (arith, ints))
tighter s now le New b h = (b, h, refl, refl, omega (arith, ints))
tighter s now le (PastHigh e) b h = (b, h, refl, refl, omega (arith, ints))
tighter s now le (PastLow e) b h = (b, h, refl, refl, omega (arith, ints))
tighter s now le (Now e) b h =
    let m = from_cond (is_open s e) (at_least e (floor_of s e)) b h in
    let w : pos 0 -ℤ pos (floor_of s e) ≡ b.w = ap (λ (c : Bound). c.w) m.1 in
    (record { from = b.from; to = b.to; w = pos 0 -ℤ pos (floor_at now s.lags e) }, moved s now (Now e) b h, refl, refl, omega (arith, ints, w, le))
tighter s now le (End e) b h = (b, h, refl, refl, omega (arith, ints))

pub contrary_raise : (s : Setting) (names : List Edge) (arcs : List Arc) (low high : List ℕ) (now e : ℕ) → IsKept s names arcs low high → now ≤ s.horizon → CannotWait s.fixed high s.lags now e
    → IsContrary names arcs low (arc_of (at_least e (floor_at now s.lags e)))
contrary_raise s names arcs low high now e k soon h = contrary_after s names arcs low high names e (floor_at now s.lags e) k refl h.event (omega (arith, soon)) h.early

pub refused_raise : (s : Setting) (names : List Edge) (arcs : List Arc) (low high : List ℕ) (now e : ℕ) (edges : List Edge)
    → IsKept s names arcs low high → s.clock ≤ now → CannotWait s.fixed high s.lags now e → NamesCycle names arcs (Now e) (arc_of (at_least e (floor_at now s.lags e))) edges
    → Refutes IsNow (at_moment s now) (at_moment s now) edges
refused_raise s names arcs low high now e edges k le late h =
    let stand = stand_more (at_moment s now) names arcs (Now e) (at_least e (floor_at now s.lags e)) (stand_of s (at_moment s now) names arcs k.listed (tighter s now le)) k.listed.len (now_edge (at_moment s now) e late.event late.free) in
    subst (λ es. Refutes IsNow (at_moment s now) (at_moment s now) es) (sym h.2)
    (laws.refutes IsNow (at_moment s now) (map (name_at (names ++ Now e ∷ [])) h.0)
    (reason_of (at_moment s now) (names ++ Now e ∷ []) (arcs ++ arc_of (at_least e (floor_at now s.lags e)) ∷ []) stand h.0 h.1.negative)
    (first_named IsNow names (Now e) arcs (arc_of (at_least e (floor_at now s.lags e))) h.0 k.listed.len (e, refl) h.1))

pub fit_raised : (s : Setting) (now : ℕ) → IsFit s → now ≤ s.horizon → IsFit (at_moment s now)
fit_raised s now h soon =
    record { from = h.from; to = h.to; weight = h.weight; past = h.past; lags = h.lags; lag = h.lag; events = h.events; horizon = h.horizon; in_time = soon; asks_nothing = h.asks_nothing }

module _ (s : Setting) (names : List Edge) (arcs : List Arc) (low high : List ℕ) (now : ℕ) (raised : List Arc)
    (k : IsKept s names arcs low high) (r : AreRaised now s.lags names arcs raised) (soon : now ≤ s.horizon)
  where
    a : AreArcs (at_moment s now) names raised
    a = listed_raised s now names arcs raised k.listed r

    pub start_raised : (amount : ℕ) → AllWait s.fixed high s.lags now → amount ≡ suc s.horizon → IsStart raised high amount
    start_raised amount wait is =
        start (at_moment s now) names raised high amount (fit_raised s now k.fit soon) a (let o = k.exact.greatest.solution.0 in omega (arith, ints, o))
        (laws.raised s now (events_of high) (high_schedule s names arcs low high k) wait) (sym k.exact.len ∙ k.points) is

    pub kept_raised : (low' high' : List ℕ) → length low' ≡ length high → AreExact raised low' high' → IsKept (at_moment s now) names raised low' high'
    kept_raised low' high' len exact = record { fit = fit_raised s now k.fit soon; listed = a; exact = exact; points = len ∙ (sym k.exact.len ∙ k.points) }
