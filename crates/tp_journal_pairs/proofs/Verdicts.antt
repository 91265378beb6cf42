-- What follows of an answer's text from what a check found.
use Rattle.std.proofs.Common.{◌≡◌, ◌≢◌, ◌↔◌, ℕ, suc, ◌^◌, ◌<◌, ◌≤◌, Bool, true, false, IsTrue, List, [], ◌∷◌, ◌++◌, length, Option, Some, None, MatchOption, Result, Ok, Err, IfOk, refl, ap, sym, subst, ◌∙◌, arith, rules, codes, drop, slice_get, is_some, ◌⊎◌, inl, inr, decimal, flat_map}
use Rattle.std.specs.declared.alloc.AllocError.{AllocError}
use Rattle.tp_bounds.specs.declared.BoundId.{BoundId}
use Rattle.tp_bounds.specs.declared.Bound.{Bound}
use Rattle.tp_bounds.specs.Schedule.{IsWindow, HasSchedule}
use Rattle.tp_bounds.specs.Setting.{event_count, fixed_at}
use Rattle.tp_exec_machine.specs.declared.command.Command.{Command}
use Rattle.tp_exec_machine.specs.declared.command.Kind.{Kind}
use Rattle.tp_exec_machine.specs.declared.command.Command.TheVariants.{Advance, Add, Withdraw, Window, Dispatch, Happened, Report as Tell}
use Rattle.tp_exec_machine.specs.declared.command.Answer.{Answer}
use Rattle.tp_exec_machine.specs.declared.command.Answer.TheVariants.{Accepted, Named, Told, Reported, Refused}
use Rattle.tp_exec_machine.specs.declared.command.Report.{Report}
use Rattle.tp_exec_machine.specs.declared.refusal.Refusal.{Refusal}
use Rattle.tp_exec_machine.specs.declared.refusal.Refusal.TheVariants.{NoEvent, Done, NoBound, Weight, Back, Moment, Full, Spent, Memory, Conflict}
use Rattle.tp_bounds.specs.declared.Edge.{Edge}
use Rattle.tp_bounds.specs.declared.Reason.{Reason}
use Rattle.tp_bounds.specs.Reasons.{IsReason, BeginsWith}
use Rattle.tp_bounds.specs.Changes.{at_moment, with_fixed}
use Rattle.tp_net.specs.Faults.{Refutes, IsNow, IsPastOf}
use Rattle.tp_net.proofs.Laws.{refutes, refutes_new}
use Rattle.tp_script.specs.Words.{words_of}
use Rattle.tp_journal_pairs.specs.Edges.{edges_of}
use Rattle.tp_journal_pairs.specs.Reasons.{may_conflict}
use Rattle.tp_journal_pairs.proofs.EdgeTexts.{edges_back, fits_reason}
use Rattle.tp_exec_machine.specs.Machine.{Machine}
use Rattle.tp_journal_pairs.specs.Sound.{IsSound}
use Rattle.tp_exec_machine.specs.Step.{Step, Decides, Refuses, Tells, IsReport, AreMoments, first_refusal, accepted, may_want_memory, asked, brings}
use Rattle.tp_script.specs.Transcript.{answer_text, edge_text, kind_text, moment_text}
use Rattle.tp_journal_pairs.specs.Allowed.{Allows, IsAllowed, IsJudged, verdict_of}
use Rattle.tp_journal_pairs.specs.Edges.{begins}

-- ---- a step, by whether a refusal applies

pub refused_step : (m new : Machine) (c : Command) (a : Answer) (r : Refusal) → first_refusal m c ≡ Some r → Step m c a new → a ≡ Refused r
refused_step m new c a r is step =
    (subst (λ o. MatchOption o (Decides m c a new) (λ q. (a ≡ Refused q) × (new ≡ m))) is step).0

pub step_refused : (m : Machine) (c : Command) (r : Refusal) → first_refusal m c ≡ Some r → Step m c (Refused r) m
step_refused m c r is =
    subst (λ o. MatchOption o (Decides m c (Refused r) m) (λ q. (Refused r ≡ Refused q) × (m ≡ m))) (sym is) (refl, refl)

pub decided_step : (m new : Machine) (c : Command) (a : Answer) → first_refusal m c ≡ None → Step m c a new → Decides m c a new
decided_step m new c a none step = subst (λ o. MatchOption o (Decides m c a new) (λ q. (a ≡ Refused q) × (new ≡ m))) none step

pub step_decided : (m new : Machine) (c : Command) (a : Answer) → first_refusal m c ≡ None → Decides m c a new → Step m c a new
step_decided m new c a none d = subst (λ o. MatchOption o (Decides m c a new) (λ q. (a ≡ Refused q) × (new ≡ m))) (sym none) d

-- ---- where a refusal applies whatever schedules remain

pub judged_refused : (m : Machine) (c : Command) (r : Refusal) (text : List ℕ) (same : Result Bool AllocError) → first_refusal m c ≡ Some r → IfOk same (λ b. IsTrue b ↔ (text ≡ answer_text (Refused r))) → IsJudged m c text m (verdict_of same)
judged_refused m c r text (Ok true) is h = (Refused r, step_refused m c r is, h.0 (let t : IsTrue true = search rules in t))
judged_refused m c r text (Ok false) is h =
    λ p. (let a : p.1.0 ≡ Refused r = refused_step m p.0 c p.1.0 r is p.1.1 in
    absurd (let f : IsTrue false = h.1 (p.1.2 ∙ ap answer_text a) in let g : ⊥ = search rules in g))
judged_refused m c r text (Err e) is h = tt

-- ---- where a command is carried out, all that it may tell has one text

advance_tells : (m : Machine) (t : ℕ) (a : Answer) → Tells m (Advance t) a → a ≡ Accepted
advance_tells m t Accepted h = refl
advance_tells m t (Named id) h = absurd h
advance_tells m t (Told low high) h = absurd h
advance_tells m t (Reported r) h = absurd h
advance_tells m t (Refused r) h = absurd h

withdraw_tells : (m : Machine) (id : BoundId) (a : Answer) → Tells m (Withdraw id) a → a ≡ Accepted
withdraw_tells m id Accepted h = refl
withdraw_tells m id (Named other) h = absurd h
withdraw_tells m id (Told low high) h = absurd h
withdraw_tells m id (Reported r) h = absurd h
withdraw_tells m id (Refused r) h = absurd h

dispatch_tells : (m : Machine) (e : ℕ) (a : Answer) → Tells m (Dispatch e) a → a ≡ Accepted
dispatch_tells m e Accepted h = refl
dispatch_tells m e (Named id) h = absurd h
dispatch_tells m e (Told low high) h = absurd h
dispatch_tells m e (Reported r) h = absurd h
dispatch_tells m e (Refused r) h = absurd h

happened_tells : (m : Machine) (e t : ℕ) (a : Answer) → Tells m (Happened e t) a → a ≡ Accepted
happened_tells m e t Accepted h = refl
happened_tells m e t (Named id) h = absurd h
happened_tells m e t (Told low high) h = absurd h
happened_tells m e t (Reported r) h = absurd h
happened_tells m e t (Refused r) h = absurd h

add_tells : (m : Machine) (b : Bound) (a : Answer) → Tells m (Add b) a → answer_text a ≡ codes "bound " ++ decimal m.next
add_tells m b Accepted h = absurd h
add_tells m b (Named id) h = ap (λ n. codes "bound " ++ decimal n) h
add_tells m b (Told low high) h = absurd h
add_tells m b (Reported r) h = absurd h
add_tells m b (Refused r) h = absurd h

window_tells : (m : Machine) (e : ℕ) (a : Answer) → Tells m (Window e) a → (low high : ℕ) × (a ≡ Told low high) × IsWindow m.setting e low high
window_tells m e Accepted h = absurd h
window_tells m e (Named id) h = absurd h
window_tells m e (Told low high) h = (low, high, refl, h)
window_tells m e (Reported r) h = absurd h
window_tells m e (Refused r) h = absurd h

report_tells : (m : Machine) (a : Answer) → Tells m Tell a → (r : Report) × (a ≡ Reported r) × IsReport m r
report_tells m Accepted h = absurd h
report_tells m (Named id) h = absurd h
report_tells m (Told low high) h = absurd h
report_tells m (Reported r) h = (r, refl, h)
report_tells m (Refused r) h = absurd h

lists_same : {X : Type 0} (xs ys : List X) → length xs ≡ length ys → ((k : ℕ) → k < length xs → slice_get xs k ≡ slice_get ys k) → xs ≡ ys
lists_same [] [] count h = refl
lists_same [] (y ∷ ys) count h = absurd (let f : ⊥ = omega arith in f)
lists_same (x ∷ xs) [] count h = absurd (let f : ⊥ = omega arith in f)
lists_same (x ∷ xs) (y ∷ ys) count h =
    let first : Some x ≡ Some y = h 0 (omega arith) in
    let head : x ≡ y = cc in
    let tail : xs ≡ ys = lists_same xs ys (omega arith) (λ k lt. h (suc k) (omega arith)) in
    cc

moments_same : (m : Machine) (xs ys : List (ℕ × Bool)) → AreMoments m.setting xs → AreMoments m.setting ys → xs ≡ ys
moments_same m xs ys p q =
    lists_same xs ys (p.count ∙ sym q.count) (λ k lt. (
    let there : k < event_count m.setting = omega (arith, p.count) in
    let t = p.schedule in
    let u = q.schedule in
    let f : t k ≤ u k = p.least.least u q.least.is k there in
    let g : u k ≤ t k = q.least.least t p.least.is k there in
    let same : t k ≡ u k = omega arith in
    p.each k there ∙ (ap (λ n. Some (n, is_some (fixed_at m.setting k))) same ∙ sym (q.each k there))))

report_text : ℕ → Kind → List (ℕ × Bool) → List ℕ
report_text n kind moments = codes "report " ++ decimal n ++ codes " " ++ kind_text kind ++ flat_map moment_text moments

reports_same : (m : Machine) (r q : Report) → IsReport m r → IsReport m q → answer_text (Reported r) ≡ answer_text (Reported q)
unfolding report_text
reports_same m r q p h =
    ap (λ n. report_text n r.kind r.moments.items) (p.now ∙ sym h.now)
    ∙ (ap (λ k. report_text q.now k r.moments.items) (p.kind ∙ sym h.kind)
    ∙ ap (λ ms. report_text q.now q.kind ms) (moments_same m r.moments.items q.moments.items p.moments h.moments))

windows_same : (m : Machine) (e low high lo hi : ℕ) → IsWindow m.setting e low high → IsWindow m.setting e lo hi → answer_text (Told low high) ≡ answer_text (Told lo hi)
windows_same m e low high lo hi w v =
    let a = v.inside low (w.occurs low (omega arith) w.ordered) in
    let b = w.inside lo (v.occurs lo (omega arith) v.ordered) in
    let c = v.inside high (w.occurs high w.ordered (omega arith)) in
    let d = w.inside hi (v.occurs hi v.ordered (omega arith)) in
    let first : low ≡ lo = omega (arith, a.0, b.0) in
    let last : high ≡ hi = omega (arith, c.1, d.1) in
    ap (λ n. answer_text (Told n high)) first ∙ ap (λ n. answer_text (Told lo n)) last

pub one_text : (m : Machine) (c : Command) (a b : Answer) → Tells m c a → Tells m c b → answer_text a ≡ answer_text b
one_text m (Advance t) a b p q = ap answer_text (advance_tells m t a p ∙ sym (advance_tells m t b q))
one_text m (Add x) a b p q = add_tells m x a p ∙ sym (add_tells m x b q)
one_text m (Withdraw id) a b p q = ap answer_text (withdraw_tells m id a p ∙ sym (withdraw_tells m id b q))
one_text m (Window e) a b p q =
    let x = window_tells m e a p in
    let y = window_tells m e b q in
    ap answer_text x.2 ∙ (windows_same m e x.0 x.1 y.0 y.1 x.3 y.3 ∙ sym (ap answer_text y.2))
one_text m (Dispatch e) a b p q = ap answer_text (dispatch_tells m e a p ∙ sym (dispatch_tells m e b q))
one_text m (Happened e t) a b p q = ap answer_text (happened_tells m e t a p ∙ sym (happened_tells m e t b q))
one_text m Tell a b p q =
    let x = report_tells m a p in
    let y = report_tells m b q in
    ap answer_text x.1 ∙ (reports_same m x.0 y.0 x.2 y.2 ∙ sym (ap answer_text y.1))

-- ---- where no refusal applies, a step refuses, or tells where a schedule remains

pub told_or_refused : (m new : Machine) (c : Command) (a : Answer) → Decides m c a new → ((r : Refusal) × (a ≡ Refused r) × Refuses m c r) ⊎ (Tells m c a × HasSchedule ((accepted m c).setting))
told_or_refused m new c Accepted d = inr (d.0, d.1)
told_or_refused m new c (Named id) d = inr (d.0, d.1)
told_or_refused m new c (Told low high) d = inr (d.0, d.1)
told_or_refused m new c (Reported r) d = inr (d.0, d.1)
told_or_refused m new c (Refused r) d = inl (r, refl, d.0)

refuses_why : (m : Machine) (c : Command) (r : Refusal) → Refuses m c r → (r ≡ Memory) ⊎ (HasSchedule ((accepted m c).setting) → ⊥)
refuses_why m c (Conflict reason) h = inr h.none
refuses_why m c Memory h = inl refl
refuses_why m c NoEvent h = absurd h
refuses_why m c Done h = absurd h
refuses_why m c NoBound h = absurd h
refuses_why m c Weight h = absurd h
refuses_why m c Back h = absurd h
refuses_why m c Moment h = absurd h
refuses_why m c Full h = absurd h
refuses_why m c Spent h = absurd h

says_refused : (r : Refusal) → begins (codes "refused") (answer_text (Refused r)) ≡ true
says_refused r = refl

wrong_telling : (m new : Machine) (c : Command) (a : Answer) (text : List ℕ) → first_refusal m c ≡ None → begins (codes "refused") text ≡ false → Step m c a new → a ≢ Refused Memory → text ≢ answer_text a → IsAllowed m c text → ⊥
wrong_telling m new c a text none telling step other differs p =
    elim (told_or_refused m p.0 c p.1.0 (decided_step m p.0 c p.1.0 none p.1.1)) [
      | inl r ↦
          let says : begins (codes "refused") text ≡ true = ap (begins (codes "refused")) (p.1.2 ∙ ap answer_text r.1) ∙ says_refused r.0 in
          let f : true ≡ false = sym says ∙ telling in
          let g : ⊥ = cc in g
      | inr t ↦
          elim (told_or_refused m new c a (decided_step m new c a none step)) [
            | inl q ↦ elim (refuses_why m c q.0 q.2) [
              | inl memory ↦ other (q.1 ∙ ap Refused memory)
              | inr none_left ↦ none_left t.1
            ]
            | inr q ↦ differs (p.1.2 ∙ one_text m c p.1.0 a t.0 q.0)
          ]
    ]

pub judged_telling : (m new : Machine) (c : Command) (a : Answer) (text : List ℕ) (same : Result Bool AllocError) → first_refusal m c ≡ None → begins (codes "refused") text ≡ false → Step m c a new → a ≢ Refused Memory → IfOk same (λ b. IsTrue b ↔ (text ≡ answer_text a)) → IsJudged m c text new (verdict_of same)
judged_telling m new c a text (Ok true) none telling step other h = (a, step, h.0 (let t : IsTrue true = search rules in t))
judged_telling m new c a text (Ok false) none telling step other h =
    λ p. wrong_telling m new c a text none telling step other (λ is. absurd (let f : IsTrue false = h.1 is in let g : ⊥ = search rules in g)) p
judged_telling m new c a text (Err e) none telling step other h = tt

-- ---- a refusal of a command that is well formed

refuted : (m : Machine) (c : Command) (edges : List Edge) → IsSound m → may_conflict c ≡ true → IsReason (asked m c) edges → BeginsWith (brings c) edges → Refutes (brings c) (asked m c) ((accepted m c).setting) edges
refuted m (Advance to) edges ready may is first = refutes IsNow (at_moment m.setting to) edges is first
refuted m (Add b) edges ready may is first = refutes_new m.setting m.next b edges (ready.unused m.next (omega arith)) is first
refuted m (Withdraw id) edges ready may is first = absurd (let f : ⊥ = cc in f)
refuted m (Window e) edges ready may is first = absurd (let f : ⊥ = cc in f)
refuted m (Dispatch e) edges ready may is first = refutes (IsPastOf e) (with_fixed m.setting e m.setting.clock) edges is first
refuted m (Happened e t) edges ready may is first = refutes (IsPastOf e) (with_fixed m.setting e t) edges is first
refuted m Tell edges ready may is first = absurd (let f : ⊥ = cc in f)

pub memory_allowed : (m : Machine) (c : Command) (text : List ℕ) → first_refusal m c ≡ None → IsTrue (may_want_memory c) → text ≡ codes "refused memory" → Allows m c text m
memory_allowed m c text none may is = (Refused Memory, step_decided m m c (Refused Memory) none (may, refl), is)

-- an answer that begins so has a reason, and it is the one that is read
pub record HasReason (m : Machine) (c : Command) (text : List ℕ) : Type 0 where
  pub reason : Reason
  pub refutes : Refutes (brings c) (asked m c) ((accepted m c).setting) reason.edges.items
  pub says : text ≡ answer_text (Refused (Conflict reason))

no_conflict : (a : Answer) → begins (codes "refused conflict") (answer_text a) ≡ true → (reason : Reason) × (a ≡ Refused (Conflict reason))
no_conflict Accepted h = absurd (let f : ⊥ = cc in f)
no_conflict (Named id) h = absurd (let f : ⊥ = cc in f)
no_conflict (Told low high) h = absurd (let f : ⊥ = cc in f)
no_conflict (Reported r) h = absurd (let f : ⊥ = cc in f)
no_conflict (Refused (Conflict reason)) h = (reason, refl)
no_conflict (Refused Memory) h = absurd (let f : ⊥ = cc in f)
no_conflict (Refused NoEvent) h = absurd (let f : ⊥ = cc in f)
no_conflict (Refused Done) h = absurd (let f : ⊥ = cc in f)
no_conflict (Refused NoBound) h = absurd (let f : ⊥ = cc in f)
no_conflict (Refused Weight) h = absurd (let f : ⊥ = cc in f)
no_conflict (Refused Back) h = absurd (let f : ⊥ = cc in f)
no_conflict (Refused Moment) h = absurd (let f : ⊥ = cc in f)
no_conflict (Refused Full) h = absurd (let f : ⊥ = cc in f)
no_conflict (Refused Spent) h = absurd (let f : ⊥ = cc in f)

refused_so : (m new : Machine) (c : Command) (reason : Reason) → Decides m c (Refused (Conflict reason)) new → Refutes (brings c) (asked m c) ((accepted m c).setting) reason.edges.items
refused_so m new c reason d = d.0

pub reason_of : (m : Machine) (c : Command) (text : List ℕ) → first_refusal m c ≡ None → begins (codes "refused conflict") text ≡ true → IsAllowed m c text → HasReason m c text
reason_of m c text none starts p =
    let a = no_conflict p.1.0 (sym (ap (begins (codes "refused conflict")) p.1.2) ∙ starts) in
    let d : Decides m c (Refused (Conflict a.0)) p.0 = subst (λ b. Decides m c b p.0) a.1 (decided_step m p.0 c p.1.0 none p.1.1) in
    record { reason = a.0; refutes = refused_so m p.0 c a.0 d; says = p.1.2 ∙ ap answer_text a.1 }

-- the reason that is read is the one of the answer
pub read_is : (m : Machine) (c : Command) (text : List ℕ) (edges : Option (List Edge)) → IsSound m → m.next < 2 ^ 32 → event_count m.setting < 2 ^ 16 → edges ≡ edges_of (words_of (drop 16 text)) → (h : HasReason m c text) → edges ≡ Some h.reason.edges.items
read_is m c text edges ready ids events is h =
    is ∙ (ap (λ t. edges_of (words_of (drop 16 t))) h.says ∙ edges_back h.reason.edges.items (fits_reason m c h.reason.edges.items ready ids events h.refutes.reason))

-- a reason, and its text, are allowed
pub reason_allowed : (m : Machine) (c : Command) (reason : Reason) (text : List ℕ) → first_refusal m c ≡ None → IsSound m → may_conflict c ≡ true → IsReason (asked m c) reason.edges.items → BeginsWith (brings c) reason.edges.items → text ≡ answer_text (Refused (Conflict reason)) → Allows m c text m
reason_allowed m c reason text none ready may is first says = (Refused (Conflict reason), step_decided m m c (Refused (Conflict reason)) none (refuted m c reason.edges.items ready may is first, refl), says)

conflict_text : List Edge → List ℕ
conflict_text edges = codes "refused " ++ codes "conflict" ++ flat_map (λ e. 32 ∷ edge_text e) edges

-- where that reason, or its text, is not right, no other is
pub wrong_reason : (m : Machine) (c : Command) (text : List ℕ) (reason : Reason) → first_refusal m c ≡ None → begins (codes "refused conflict") text ≡ true → IsSound m → m.next < 2 ^ 32 → event_count m.setting < 2 ^ 16 → edges_of (words_of (drop 16 text)) ≡ Some reason.edges.items → (Refutes (brings c) (asked m c) ((accepted m c).setting) reason.edges.items → text ≡ answer_text (Refused (Conflict reason)) → ⊥) → IsAllowed m c text → ⊥
unfolding conflict_text
wrong_reason m c text reason none starts ready ids events reads bad p =
    let h = reason_of m c text none starts p in
    let both : Some reason.edges.items ≡ Some h.reason.edges.items = read_is m c text (Some reason.edges.items) ready ids events (sym reads) h in
    let same : reason.edges.items ≡ h.reason.edges.items = cc in
    bad (subst (Refutes (brings c) (asked m c) ((accepted m c).setting)) (sym same) h.refutes) (h.says ∙ ap conflict_text (sym same))

pub wrong_unread : (m : Machine) (c : Command) (text : List ℕ) → first_refusal m c ≡ None → begins (codes "refused conflict") text ≡ true → IsSound m → m.next < 2 ^ 32 → event_count m.setting < 2 ^ 16 → edges_of (words_of (drop 16 text)) ≡ None → IsAllowed m c text → ⊥
wrong_unread m c text none starts ready ids events reads p =
    let h = reason_of m c text none starts p in
    let both : None ≡ Some h.reason.edges.items = read_is m c text None ready ids events (sym reads) h in
    let f : ⊥ = cc in f

pub judged_reason : (m : Machine) (c : Command) (text : List ℕ) (reason : Reason) (same : Result Bool AllocError) → first_refusal m c ≡ None → begins (codes "refused conflict") text ≡ true → IsSound m → m.next < 2 ^ 32 → event_count m.setting < 2 ^ 16 → edges_of (words_of (drop 16 text)) ≡ Some reason.edges.items → may_conflict c ≡ true → IsReason (asked m c) reason.edges.items → BeginsWith (brings c) reason.edges.items → IfOk same (λ b. IsTrue b ↔ (text ≡ answer_text (Refused (Conflict reason)))) → IsJudged m c text m (verdict_of same)
judged_reason m c text reason (Ok true) none starts ready ids events reads may is first h =
    reason_allowed m c reason text none ready may is first (h.0 (let t : IsTrue true = search rules in t))
judged_reason m c text reason (Ok false) none starts ready ids events reads may is first h =
    wrong_reason m c text reason none starts ready ids events reads (λ _ says. absurd (let f : IsTrue false = h.1 says in let g : ⊥ = search rules in g))
judged_reason m c text reason (Err e) none starts ready ids events reads may is first h = tt
