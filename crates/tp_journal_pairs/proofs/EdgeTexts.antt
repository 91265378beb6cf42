-- What is written for edges is read as these edges.
use Rattle.std.proofs.Common.{◌≡◌, ◌⊎◌, inl, inr, length-set, ℕ, zero, suc, ◌^◌, ◌<◌, ◌≤◌, List, [], ◌∷◌, ◌++◌, length, Option, Some, None, refl, ap, ◌∙◌, arith, flat_map, decimal, codes}
use Rattle.std.proofs.lemmas.Grind.{common_steps}
use Rattle.std.specs.Prelude.{slice_index_or}
use Rattle.std.specs.Option.{option_map, option_and_then}
use Rattle.std.specs.FinMap.{get}
use Rattle.tp_bounds.specs.declared.Bound.{Bound}
use Rattle.tp_bounds.proofs.Chains.{from_map, from_cond, opened}
use Rattle.tp_exec_machine.proofs.Ready.{unused_removed}
use Rattle.tp_exec_machine.specs.declared.command.Command.TheVariants.{Advance, Add, Withdraw, Window, Dispatch, Happened, Report}
use Rattle.tp_bounds.specs.declared.Edge.{Edge}
use Rattle.tp_bounds.specs.declared.Edge.TheVariants.{Own, New, PastHigh, PastLow, Now, End}
use Rattle.tp_bounds.specs.Setting.{Setting, event_count, fixed_at, floor_of}
use Rattle.tp_bounds.specs.Reasons.{IsReason, AreBounds, bound_of, at_most, at_least, is_open}
use Rattle.tp_exec_machine.specs.declared.command.Command.{Command}
use Rattle.tp_exec_machine.specs.Machine.{Machine}
use Rattle.tp_journal_pairs.specs.Sound.{IsSound}
use Rattle.tp_script.proofs.SpellLemmas.{Gap, word_then, solid_more, decimal_solid, moment_back, event_back}
use Rattle.tp_exec_machine.specs.Step.{asked}
use Rattle.tp_script.specs.Words.{words_of}
use Rattle.tp_script.specs.Transcript.{edge_text}
use Rattle.tp_journal_pairs.specs.Edges.{Fits_edge, Fit_edges, edge_of, edges_of, front_of, last_of}

-- ---- a reason's edges fit

below : (xs : List (Option ℕ)) (e x : ℕ) → slice_index_or xs e None ≡ Some x → e < length xs
below [] e x h = absurd (let f : ⊥ = cc in f)
below (y ∷ ys) zero x h = omega arith
below (y ∷ ys) (suc e) x h = let r : e < length ys = below ys e x h in omega arith

cases_lt : (a b : ℕ) → (a < b) ⊎ (b ≤ a)
cases_lt a zero = inr (omega arith)
cases_lt zero (suc b) = inl (omega arith)
cases_lt (suc a) (suc b) = elim (cases_lt a b) [ inl h ↦ inl (omega arith) | inr h ↦ inr (omega arith) ]

fits_in : (s : Setting) (next : ℕ) (e : Edge) (b : Bound) → ((id : ℕ) → next ≤ id → get s.bounds id ≡ None) → next < 2 ^ 32 → event_count s < 2 ^ 16 → bound_of s e ≡ Some b → Fits_edge e
fits_in s next (Own id) b free ids events is =
    elim (cases_lt id.0 next) [
      | inl lt ↦ omega arith
      | inr ge ↦ absurd (let none : get s.bounds id.0 ≡ None = free id.0 ge in let f : ⊥ = cc in f)
    ]
fits_in s next New b free ids events is = tt
fits_in s next (PastHigh e) b free ids events is =
    let p = from_map (at_most e) (fixed_at s e) b is in
    let lt : e < event_count s = below s.fixed e p.0 p.1 in omega arith
fits_in s next (PastLow e) b free ids events is =
    let p = from_map (at_least e) (fixed_at s e) b is in
    let lt : e < event_count s = below s.fixed e p.0 p.1 in omega arith
fits_in s next (Now e) b free ids events is =
    let p = from_cond (is_open s e) (at_least e (floor_of s e)) b is in
    let o = opened s e p.0 in
    let lt : e < event_count s = o.0 in omega arith
fits_in s next (End e) b free ids events is =
    let p = from_cond (is_open s e) (at_most e s.horizon) b is in
    let o = opened s e p.0 in
    let lt : e < event_count s = o.0 in omega arith

fits_all : (s : Setting) (next : ℕ) (es : List Edge) (bs : List Bound) → ((id : ℕ) → next ≤ id → get s.bounds id ≡ None) → next < 2 ^ 32 → event_count s < 2 ^ 16 → AreBounds s es bs → Fit_edges es
fits_all s next [] bs free ids events are = tt
fits_all s next (e ∷ es) [] free ids events are = absurd are
fits_all s next (e ∷ es) (b ∷ bs) free ids events are = (fits_in s next e b free ids events are.0, fits_all s next es bs free ids events are.1)

free_asked : (m : Machine) (c : Command) → ((id : ℕ) → m.next ≤ id → get m.setting.bounds id ≡ None) → (id : ℕ) → m.next ≤ id → get (asked m c).bounds id ≡ None
free_asked m (Advance to) free id ge = free id ge
free_asked m (Add b) free id ge = free id ge
free_asked m (Withdraw k) free id ge = unused_removed m.setting.bounds m.next k.0 free id ge
free_asked m (Window e) free id ge = free id ge
free_asked m (Dispatch e) free id ge = free id ge
free_asked m (Happened e t) free id ge = free id ge
free_asked m Report free id ge = free id ge

events_asked : (m : Machine) (c : Command) → event_count (asked m c) ≡ event_count m.setting
events_asked m (Advance to) = refl
events_asked m (Add b) = refl
events_asked m (Withdraw k) = refl
events_asked m (Window e) = refl
events_asked m (Dispatch e) = length-set m.setting.fixed e (Some m.setting.clock)
events_asked m (Happened e t) = length-set m.setting.fixed e (Some t)
events_asked m Report = refl

pub fits_reason : (m : Machine) (c : Command) (edges : List Edge) → IsSound m → m.next < 2 ^ 32 → event_count m.setting < 2 ^ 16 → IsReason (asked m c) edges → Fit_edges edges
fits_reason m c edges ready ids events is =
    let count : event_count (asked m c) < 2 ^ 16 = omega (arith, events_asked m c) in
    fits_all (asked m c) m.next edges is.bounds (free_asked m c ready.unused) ids count is.exist

pub front_back : (ds : List ℕ) (z : ℕ) → front_of (ds ++ z ∷ []) ≡ ds
front_back ds z = grind (arith, common_steps)

pub last_back : (ds : List ℕ) (z : ℕ) → last_of (ds ++ z ∷ []) ≡ z ∷ []
last_back ds z = grind (arith, common_steps)

pub edge_back : (e : Edge) → Fits_edge e → edge_of (edge_text e) ≡ Some e
edge_back (Own id) fit = ap (option_map (λ n. Own (record { 0 = n }))) (moment_back id.0 (omega arith))
edge_back New fit = refl
edge_back (PastHigh e) fit = rw (last_back (decimal e) 43, front_back (decimal e) 43, event_back e (omega arith)) refl
edge_back (PastLow e) fit = rw (last_back (decimal e) 45, front_back (decimal e) 45, event_back e (omega arith)) refl
edge_back (Now e) fit = ap (option_map (λ n. Now n)) (event_back e (omega arith))
edge_back (End e) fit = ap (option_map (λ n. End n)) (event_back e (omega arith))

pub edge_word : (e : Edge) (rest : List ℕ) → Fits_edge e → Gap rest → words_of (edge_text e ++ rest) ≡ edge_text e ∷ words_of rest
edge_word (Own id) rest fit gap = word_then 98 (decimal id.0) rest refl (decimal_solid id.0 (omega arith)) gap
edge_word New rest fit gap = word_then 110 (codes "ew") rest refl (refl, (refl, tt)) gap
edge_word (PastHigh e) rest fit gap = word_then 112 (codes "ast" ++ decimal e ++ codes "+") rest refl (refl, (refl, (refl, solid_more (decimal e) (codes "+") (decimal_solid e (omega arith)) (refl, tt)))) gap
edge_word (PastLow e) rest fit gap = word_then 112 (codes "ast" ++ decimal e ++ codes "-") rest refl (refl, (refl, (refl, solid_more (decimal e) (codes "-") (decimal_solid e (omega arith)) (refl, tt)))) gap
edge_word (Now e) rest fit gap = word_then 110 (codes "ow" ++ decimal e) rest refl (refl, (refl, decimal_solid e (omega arith))) gap
edge_word (End e) rest fit gap = word_then 101 (codes "nd" ++ decimal e) rest refl (refl, (refl, decimal_solid e (omega arith))) gap

pub gap_next : (es : List Edge) → Gap (flat_map (λ e. 32 ∷ edge_text e) es)
gap_next [] = tt
gap_next (e ∷ es) = refl

pub edges_back : (es : List Edge) → Fit_edges es → edges_of (words_of (flat_map (λ e. 32 ∷ edge_text e) es)) ≡ Some es
edges_back [] fit = refl
edges_back (e ∷ es) fit =
    ap edges_of (edge_word e (flat_map (λ d. 32 ∷ edge_text d) es) fit.0 (gap_next es))
    ∙ (ap (λ o. option_and_then (λ d. option_map (λ ds. d ∷ ds) (edges_of (words_of (flat_map (λ x. 32 ∷ edge_text x) es)))) o) (edge_back e fit.0)
    ∙ ap (λ o. option_map (λ ds. e ∷ ds) o) (edges_back es fit.1))
