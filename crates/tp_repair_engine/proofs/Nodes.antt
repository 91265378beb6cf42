-- The edges that there are, as lists and by key.
use Rattle.std.proofs.Common.{◌≡◌, ℕ, zero, suc, ◌<◌, List, [], ◌∷◌, length, refl, ◌∙◌, ap, arith}
use Rattle.std.specs.Prelude.{All, Option, Some, None, slice_index_or, ℤ, pos}
use Rattle.std.specs.BTreeMap.{BTreeMap}
use Rattle.std.proofs.lemmas.Int.{ints}
use Rattle.std.proofs.lemmas.Option.{none-some}
use Rattle.std.proofs.lemmas.List.Elements.{All-tail, All-cons, All-nil}
use Rattle.tp_bounds.specs.Setting.{Setting}
use Rattle.tp_bounds.specs.Reasons.{bound_of}
use Rattle.tp_net.specs.declared.slacks.Arc.{Arc}
use Rattle.tp_net.specs.Graph.{MeetsArc, IsSolution, IsLeast, IsGreatest, arc_at, no_arc, moment}
use Rattle.tp_net.specs.Moments.{AreExact}
use Rattle.tp_net.specs.Arcs.{name_at, AreArcs}
use Rattle.tp_repair_engine.specs.declared.store.Node.{Node}
use Rattle.tp_repair_engine.specs.Store.{arcs_of, names_of, kept_arcs}
use Rattle.tp_repair_engine.specs.Kept.{AreNodes}
use Rattle.tp_repair_engine.proofs.Stores.{arc_has}

pub all_kept : (P : Arc → Type 0) (slots : List (Option Node)) → All P (arcs_of slots) → All P (kept_arcs slots)
all_kept P [] all = All-nil P
all_kept P (None ∷ slots) all = all_kept P slots (All-tail P no_arc (arcs_of slots) all)
all_kept P (Some n ∷ slots) all = All-cons P n.arc (kept_arcs slots) (all 0 no_arc (omega arith)) (all_kept P slots (All-tail P n.arc (arcs_of slots) all))

pub all_arcs : (P : Arc → Type 0) (slots : List (Option Node)) → P no_arc → All P (kept_arcs slots) → All P (arcs_of slots)
all_arcs P [] free all = All-nil P
all_arcs P (None ∷ slots) free all = All-cons P no_arc (arcs_of slots) free (all_arcs P slots free all)
all_arcs P (Some n ∷ slots) free all = All-cons P n.arc (arcs_of slots) (all 0 no_arc (omega arith)) (all_arcs P slots free (All-tail P n.arc (kept_arcs slots) all))

pub all_by_key : (P : Arc → Type 0) (slots : List (Option Node)) → P no_arc → ((k : ℕ) (n : Node) → slice_index_or slots k None ≡ Some n → P n.arc) → All P (arcs_of slots)
all_by_key P [] free each = All-nil P
all_by_key P (None ∷ slots) free each = All-cons P no_arc (arcs_of slots) free (all_by_key P slots free (λ k n is. each (suc k) n is))
all_by_key P (Some n ∷ slots) free each = All-cons P n.arc (arcs_of slots) (each 0 n refl) (all_by_key P slots free (λ k m is. each (suc k) m is))

pub met_free : (t : ℕ → ℤ) → MeetsArc t no_arc
met_free t = omega (arith, ints)

-- the edges that there are have the solutions of the arcs under all keys
pub solution_kept : (slots : List (Option Node)) (t : ℕ → ℤ) → IsSolution (arcs_of slots) t → IsSolution (kept_arcs slots) t
solution_kept slots t s = (s.0, all_kept (MeetsArc t) slots s.1)

pub solution_arcs : (slots : List (Option Node)) (t : ℕ → ℤ) → IsSolution (kept_arcs slots) t → IsSolution (arcs_of slots) t
solution_arcs slots t s = (s.0, all_arcs (MeetsArc t) slots (met_free t) s.1)

pub solution_by_key : (slots : List (Option Node)) (t : ℕ → ℤ) → t 0 ≡ pos 0 → ((k : ℕ) (n : Node) → slice_index_or slots k None ≡ Some n → MeetsArc t n.arc) → IsSolution (arcs_of slots) t
solution_by_key slots t origin each = (origin, all_by_key (MeetsArc t) slots (met_free t) each)

pub key_met : (slots : List (Option Node)) (t : ℕ → ℤ) (k : ℕ) (n : Node) → slice_index_or slots k None ≡ Some n → IsSolution (arcs_of slots) t → MeetsArc t n.arc
key_met slots t k n is s = arc_has (MeetsArc t) slots k n is s.1

-- arcs with the same solutions leave the same moments
pub least_alike : (arcs arcs' : List Arc) (low : List ℕ) → ((t : ℕ → ℤ) → IsSolution arcs t → IsSolution arcs' t) → ((t : ℕ → ℤ) → IsSolution arcs' t → IsSolution arcs t) → IsLeast arcs low → IsLeast arcs' low
least_alike arcs arcs' low there back l = record { solution = there (moment low) l.solution; least = λ t s x within. l.least t (back t s) x within }

pub greatest_alike : (arcs arcs' : List Arc) (high : List ℕ) → ((t : ℕ → ℤ) → IsSolution arcs t → IsSolution arcs' t) → ((t : ℕ → ℤ) → IsSolution arcs' t → IsSolution arcs t) → IsGreatest arcs high → IsGreatest arcs' high
greatest_alike arcs arcs' high there back g = record { solution = there (moment high) g.solution; greatest = λ t s x within. g.greatest t (back t s) x within }

pub exact_alike : (arcs arcs' : List Arc) (low high : List ℕ) → ((t : ℕ → ℤ) → IsSolution arcs t → IsSolution arcs' t) → ((t : ℕ → ℤ) → IsSolution arcs' t → IsSolution arcs t) → AreExact arcs low high → AreExact arcs' low high
exact_alike arcs arcs' low high there back e = record { len = e.len; least = least_alike arcs arcs' low there back e.least; greatest = greatest_alike arcs arcs' high there back e.greatest }

pub exact_kept : (slots : List (Option Node)) (low high : List ℕ) → AreExact (arcs_of slots) low high → AreExact (kept_arcs slots) low high
exact_kept slots low high = exact_alike (arcs_of slots) (kept_arcs slots) low high (solution_kept slots) (solution_arcs slots)

pub exact_arcs : (slots : List (Option Node)) (low high : List ℕ) → AreExact (kept_arcs slots) low high → AreExact (arcs_of slots) low high
exact_arcs slots low high = exact_alike (kept_arcs slots) (arcs_of slots) low high (solution_arcs slots) (solution_kept slots)

-- each edge under a key has a number, and back
pub listed_key : (slots : List (Option Node)) (k : ℕ) (n : Node) → slice_index_or slots k None ≡ Some n
    → (j : ℕ) × (j < length (kept_arcs slots)) × (arc_at (kept_arcs slots) j ≡ n.arc) × (name_at (names_of slots) j ≡ n.name)
listed_key [] k n is = absurd (none-some n is)
listed_key (None ∷ slots) zero n is = absurd (none-some n is)
listed_key (None ∷ slots) (suc k) n is = listed_key slots k n is
listed_key (Some m ∷ slots) zero n is = let e : m ≡ n = cc in (0, omega arith, ap (λ (x : Node). x.arc) e, ap (λ (x : Node). x.name) e)
listed_key (Some m ∷ slots) (suc k) n is = let h = listed_key slots k n is in (suc h.0, omega (arith, h.1), h.2, h.3)

pub key_listed : (slots : List (Option Node)) (j : ℕ) → j < length (kept_arcs slots)
    → (k : ℕ) × (n : Node) × (slice_index_or slots k None ≡ Some n) × (arc_at (kept_arcs slots) j ≡ n.arc) × (name_at (names_of slots) j ≡ n.name)
key_listed [] j within = absurd (omega (arith, within))
key_listed (None ∷ slots) j within = let h = key_listed slots j within in (suc h.0, h.1, h.2, h.3, h.4)
key_listed (Some m ∷ slots) zero within = (0, m, refl, refl, refl)
key_listed (Some m ∷ slots) (suc j) within = let h = key_listed slots j (omega (arith, within)) in (suc h.0, h.1, h.2, h.3, h.4)

names_len : (slots : List (Option Node)) → length (names_of slots) ≡ length (kept_arcs slots)
names_len [] = refl
names_len (None ∷ slots) = names_len slots
names_len (Some m ∷ slots) = ap suc (names_len slots)

-- the nodes, as lists, are the edges of the setting
pub nodes_listed : (s : Setting) (keys : BTreeMap ℕ ℕ) (floors ends : List ℕ) (slots : List (Option Node)) → AreNodes s keys floors ends slots → AreArcs s (names_of slots) (kept_arcs slots)
nodes_listed s keys floors ends slots a = record {
  len = names_len slots;
  exist = λ j within.
      (let h = key_listed slots j within in
      let x = a.exist h.0 h.1 h.2 in
      (x.0, ap (bound_of s) h.4 ∙ x.1, h.3 ∙ x.2));
  all = λ e b is _.
      (let x = a.all e b is in
      let h = listed_key slots x.0 x.1 x.2 in
      (h.0, h.1, h.3 ∙ x.3));
}
