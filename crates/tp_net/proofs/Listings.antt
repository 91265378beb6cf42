-- The schedules of the arcs are those of the setting.
use Rattle.std.proofs.Common.{◌≡◌, ℕ, zero, suc, ◌<◌, ◌⊎◌, inl, inr, List, [], ◌∷◌, ◌++◌, length, get_or, length-append, Some, None, true, refl, sym, ap, subst, ◌∙◌, arith, nat_lt}
use Rattle.std.specs.Prelude.{ℤ, pos}
use Rattle.std.specs.Option.{option_map}
use Rattle.std.proofs.lemmas.Int.{ints}
use Rattle.std.proofs.lemmas.Bool.Decides.{nat_tests}
use Rattle.std.proofs.lemmas.List.{get_or_default, get_or_append_left}
use Rattle.std.proofs.Math.Seq.{get_or-append_seam}
use Rattle.tp_net.proofs.Spreads.{same_or}
use Rattle.tp_bounds.specs.declared.Point.{Point}
use Rattle.tp_bounds.specs.declared.Point.TheVariants.{Origin, Event}
use Rattle.tp_bounds.specs.declared.Bound.{Bound}
use Rattle.tp_bounds.specs.declared.Edge.{Edge}
use Rattle.tp_bounds.specs.declared.Edge.TheVariants.{Own, New, PastHigh, PastLow, Now, End}
use Rattle.tp_bounds.specs.Setting.{Setting, event_count, fixed_at, floor_of}
use Rattle.tp_bounds.specs.Schedule as bounds
use Rattle.tp_bounds.specs.Schedule.{moment_of}
use Rattle.tp_bounds.specs.Reasons.{bound_of, at_least, at_most, is_open}
use Rattle.tp_bounds.proofs.Chains.{bound_met}
use Rattle.tp_net.specs.declared.slacks.Arc.{Arc}
use Rattle.tp_net.specs.Graph.{MeetsArc, IsSolution, arc_at, no_arc, moment}
use Rattle.tp_net.specs.Arcs.{number_of, arc_of, name_at, ListsArcs, AreArcs}

-- the points' moments u are the events' moments t
pub record Agrees (u : ℕ → ℤ) (t : ℕ → ℕ) : Type 0 where
  pub origin : u 0 ≡ pos 0
  pub events : (e : ℕ) → u (suc e) ≡ pos (t e)

pub agree_point : (u : ℕ → ℤ) (t : ℕ → ℕ) → Agrees u t → (p : Point) → u (number_of p) ≡ pos (moment_of t p)
agree_point u t a Origin = a.origin
agree_point u t a (Event e) = a.events e

pub met_there : (u : ℕ → ℤ) (t : ℕ → ℕ) → Agrees u t → (b : Bound) → bounds.Meets t b → MeetsArc u (arc_of b)
met_there u t a b h =
    let f = agree_point u t a b.from in
    let g = agree_point u t a b.to in
    omega (arith, ints, f, g, h)

pub met_back : (u : ℕ → ℤ) (t : ℕ → ℕ) → Agrees u t → (b : Bound) → MeetsArc u (arc_of b) → bounds.Meets t b
met_back u t a b h =
    let f = agree_point u t a b.from in
    let g = agree_point u t a b.to in
    omega (arith, ints, f, g, h)

open_of : (s : Setting) (e : ℕ) → e < event_count s → fixed_at s e ≡ None → is_open s e ≡ true
open_of s e lt is =
    let a : nat_lt e (event_count s) ≡ true = grind (arith, nat_tests, lt) in
    rw (a, is) refl

pub now_edge : (s : Setting) (e : ℕ) → e < event_count s → fixed_at s e ≡ None → bound_of s (Now e) ≡ Some (at_least e (floor_of s e))
now_edge s e lt is = rw (open_of s e lt is) refl

pub end_edge : (s : Setting) (e : ℕ) → e < event_count s → fixed_at s e ≡ None → bound_of s (End e) ≡ Some (at_most e s.horizon)
end_edge s e lt is = rw (open_of s e lt is) refl

pub high_edge : (s : Setting) (e m : ℕ) → fixed_at s e ≡ Some m → bound_of s (PastHigh e) ≡ Some (at_most e m)
high_edge s e m is = ap (option_map (at_most e)) is

pub low_edge : (s : Setting) (e m : ℕ) → fixed_at s e ≡ Some m → bound_of s (PastLow e) ≡ Some (at_least e m)
low_edge s e m is = ap (option_map (at_least e)) is

-- what meets each edge is a schedule
pub meets_all : (s : Setting) (t : ℕ → ℕ) → ((e : Edge) (b : Bound) → bound_of s e ≡ Some b → bounds.Meets t b) → bounds.IsSchedule s t
meets_all s t h =
    record {
      past = λ e m is. (
          let over : bounds.Meets t (at_most e m) = h (PastHigh e) (at_most e m) (high_edge s e m is) in
          let under : bounds.Meets t (at_least e m) = h (PastLow e) (at_least e m) (low_edge s e m is) in
          omega (arith, ints, over, under));
      floor = λ e lt is. (
          let under : bounds.Meets t (at_least e (floor_of s e)) = h (Now e) (at_least e (floor_of s e)) (now_edge s e lt is) in
          omega (arith, ints, under));
      end = λ e lt is. (
          let over : bounds.Meets t (at_most e s.horizon) = h (End e) (at_most e s.horizon) (end_edge s e lt is) in
          omega (arith, ints, over));
      in_force = λ id b is. h (Own (record { 0 = id })) b is;
      proposed = λ b is. h New b is;
    }

-- the arc of a name
pub arc_named : (P : Edge → Type 0) (s : Setting) (names : List Edge) (arcs : List Arc) → ListsArcs P s names arcs → (e : Edge) (b : Bound) → bound_of s e ≡ Some b
    → (k : ℕ) → k < length arcs → name_at names k ≡ e → arc_at arcs k ≡ arc_of b
arc_named P s names arcs a e b is k within named =
    let x = a.exist k within in
    let one : Some x.0 ≡ Some b = sym x.1 ∙ (ap (bound_of s) named ∙ is) in
    let one_is : x.0 ≡ b = cc in
    x.2 ∙ ap arc_of one_is

pub schedule_there : (s : Setting) (names : List Edge) (arcs : List Arc) → AreArcs s names arcs → (u : ℕ → ℤ) (t : ℕ → ℕ) → Agrees u t → bounds.IsSchedule s t → IsSolution arcs u
schedule_there s names arcs a u t same sch = (
  same.origin,
  λ k d within.
      (let x = a.exist k within in
      subst (MeetsArc u) (sym x.2 ∙ get_or_default arcs k no_arc d within) (met_there u t same x.0 (bound_met s t sch (name_at names k) x.0 x.1))),
)

pub schedule_back : (s : Setting) (names : List Edge) (arcs : List Arc) → AreArcs s names arcs → (u : ℕ → ℤ) (t : ℕ → ℕ) → Agrees u t → IsSolution arcs u → bounds.IsSchedule s t
schedule_back s names arcs a u t same sch = meets_all s t (λ e b is.
    (let x = a.all e b is tt in
    met_back u t same b (subst (MeetsArc u) (arc_named (λ _. Unit {0}) s names arcs a e b is x.0 x.1 x.2) (sch.1 x.0 no_arc x.1))))

-- the moments of the events in a list of those of the points
abbrev pub events_of : List ℕ → ℕ → ℕ
events_of moments e = get_or moments (suc e) 0

pub agree_list : (arcs : List Arc) (moments : List ℕ) → IsSolution arcs (moment moments) → Agrees (moment moments) (events_of moments)
agree_list arcs moments sch = record { origin = sch.0; events = λ e. refl }

-- the moments of the points, of those of the events
abbrev pub lift : (ℕ → ℕ) → ℕ → ℤ
lift t zero = pos 0
lift t (suc e) = pos (t e)

pub agree_lift : (t : ℕ → ℕ) → Agrees (lift t) t
agree_lift t = record { origin = refl; events = λ e. refl }

-- one more edge
pub listed_more : (P : Edge → Type 0) (s : Setting) (names : List Edge) (arcs : List Arc) (e : Edge) (b : Bound)
    → ListsArcs P s names arcs → bound_of s e ≡ Some b → ListsArcs (λ f. (f ≡ e) ⊎ P f) s (names ++ e ∷ []) (arcs ++ arc_of b ∷ [])
listed_more P s names arcs e b a is =
    let n = length-append arcs (arc_of b ∷ []) in
    let last : arc_at (arcs ++ arc_of b ∷ []) (length arcs) ≡ arc_of b = get_or-append_seam arcs (arc_of b) [] no_arc in
    record {
      len = rw (length-append names (e ∷ []), n, a.len) refl;
      exist = λ k within. (elim (same_or k (length arcs)) [
        | inl same ↦ (b, ap (bound_of s) (ap (λ j. name_at (names ++ e ∷ []) j) (same ∙ sym a.len) ∙ get_or-append_seam names e [] New) ∙ is, ap (λ j. arc_at (arcs ++ arc_of b ∷ []) j) same ∙ last)
        | inr ne ↦
            (let before : k < length arcs = omega (arith, within, n, ne) in
            let x = a.exist k before in
            (x.0, ap (bound_of s) (get_or_append_left names (e ∷ []) New k (subst (λ m. k < m) (sym a.len) before)) ∙ x.1, get_or_append_left arcs (arc_of b ∷ []) no_arc k before ∙ x.2))
      ]);
      all = λ f c has p. (elim p [
        | inl same ↦
            (length arcs, omega (arith, n), ap (λ j. name_at (names ++ e ∷ []) j) (sym a.len) ∙ (get_or-append_seam names e [] New ∙ sym same))
        | inr old ↦
            (let x = a.all f c has old in
            (x.0, omega (arith, n, x.1), get_or_append_left names (e ∷ []) New x.0 (subst (λ m. x.0 < m) (sym a.len) x.1) ∙ x.2))
      ]);
    }

pub listed_among : (P Q : Edge → Type 0) (s : Setting) (names : List Edge) (arcs : List Arc)
    → ListsArcs P s names arcs → ((e : Edge) (b : Bound) → bound_of s e ≡ Some b → Q e → P e) → ListsArcs Q s names arcs
listed_among P Q s names arcs a there = record { len = a.len; exist = a.exist; all = λ e b is q. a.all e b is (there e b is q) }
