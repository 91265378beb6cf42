-- What each step of the machine keeps.
use Rattle.std.proofs.Common.{◌≡◌, ◌≢◌, ℕ, zero, suc, ◌<◌, ◌≤◌, ◌⊎◌, inl, inr, Bool, true, false, not, nat_lt, if◌then◌else◌, is_some, List, [], ◌∷◌, ◌++◌, length, set, get_or, Option, Some, None, MatchOption, refl, sym, ap, subst, ◌∙◌, arith, get_or-set_other, get_or-set_same}
use Rattle.std.proofs.Math.ListN.{length-set}
use Rattle.std.proofs.lemmas.List.{length_push}
use Rattle.std.proofs.lemmas.Bool.{cases_eq}
use Rattle.std.proofs.lemmas.Bool.Decides.{nat_tests}
use Rattle.tp_bounds.specs.Setting.{Setting, event_count, fixed_at, floor_of}
use Rattle.tp_bounds.specs.Schedule.{IsSchedule, HasSchedule}
use Rattle.tp_bounds.specs.OwnBounds.{IsWithin}
use Rattle.tp_net.proofs.Laws.{get_insert_other}
use Rattle.tp_exec_machine.specs.declared.command.Kind.{Kind}
use Rattle.tp_exec_machine.specs.declared.command.Kind.TheVariants.{Bare, Kept, Altered}
use Rattle.tp_exec_machine.specs.declared.command.Command.{Command}
use Rattle.tp_exec_machine.specs.declared.command.Command.TheVariants.{Advance, Add, Withdraw, Window, Dispatch, Happened, Report as Tell}
use Rattle.tp_exec_machine.specs.declared.command.Answer.{Answer}
use Rattle.tp_exec_machine.specs.declared.command.Answer.TheVariants.{Accepted, Named, Told, Reported, Refused}
use Rattle.tp_exec_machine.specs.declared.refusal.Refusal.{Refusal}
use Rattle.tp_exec_machine.specs.declared.refusal.Refusal.TheVariants.{NoEvent, Done, Back, Moment}
use Rattle.tp_exec_machine.specs.Machine.{Machine, kind_after}
use Rattle.tp_exec_machine.specs.Step.{Step, Decides, first_refusal, accepted}
use Rattle.tp_exec_machine.specs.Run.{Run}
use Rattle.tp_exec_machine.specs.OwnBounds.{KeepsTo, IsDone, moment_or_zero, dispatched_at, AreDispatched}
use Rattle.tp_exec_machine.proofs.Ready.{not_altered, get_removed_other}
use Rattle.tp_exec_machine.proofs.Runs.{either}

-- ---- a step leaves the state, or carries a well-formed command out where a schedule remains

pub record IsCarriedOut (old : Machine) (c : Command) (new : Machine) : Type 0 where
  pub formed : first_refusal old c ≡ None
  pub remains : HasSchedule ((accepted old c).setting)
  pub is : new ≡ accepted old c

decided_by : (old new : Machine) (c : Command) (a : Answer) → first_refusal old c ≡ None → Decides old c a new → (new ≡ old) ⊎ IsCarriedOut old c new
decided_by old new c (Refused r) none d = inl d.1
decided_by old new c Accepted none d = inr (record { formed = none; remains = d.1; is = d.2 })
decided_by old new c (Named id) none d = inr (record { formed = none; remains = d.1; is = d.2 })
decided_by old new c (Told low high) none d = inr (record { formed = none; remains = d.1; is = d.2 })
decided_by old new c (Reported r) none d = inr (record { formed = none; remains = d.1; is = d.2 })

-- where a refusal applies, the state stays
refused_same : (old new : Machine) (c : Command) (a : Answer) (r : Refusal) → first_refusal old c ≡ Some r → Step old c a new → new ≡ old
refused_same old new c a r is step =
    (subst (λ o. MatchOption o (Decides old c a new) (λ refusal. (a ≡ Refused refusal) × (new ≡ old))) is step).1

pub by_step : (old new : Machine) (c : Command) (a : Answer) → Step old c a new → (new ≡ old) ⊎ IsCarriedOut old c new
by_step old new c a step =
    elim (either old c a new (first_refusal old c) step) [
      | inl p ↦ decided_by old new c a p.0 p.1
      | inr p ↦ inl (refused_same old new c a p.0 p.1 step)
    ]

-- ---- what the own bounds keep

kept_before : (k : Kind) (own id : ℕ) → kind_after k own id ≡ Kept → (k ≡ Kept) × (own ≤ id)
kept_before Bare own id h = absurd (let f : ⊥ = cc in f)
kept_before Kept own id h =
    let q : nat_lt id own ≡ false = not_altered (nat_lt id own) h in
    (refl, let le : own ≤ id = grind (arith, nat_tests) in le)
kept_before Altered own id h = absurd (let f : ⊥ = cc in f)

module _ (n : ℕ) (wanted : (ℕ → ℕ) → Type 0) where
  keeps_accepted : (m : Machine) (c : Command) → KeepsTo n wanted m → KeepsTo n wanted (accepted m c)
  keeps_accepted m (Advance to) k = record { count = k.count; first = k.first; schedules = k.schedules }
  keeps_accepted m (Add b) k =
      record {
        count = k.count;
        first = let f = k.first in omega arith;
        schedules = λ is t w own. k.schedules is t w
            (λ id c lt g. own id c lt (get_insert_other m.setting.bounds m.next id b (λ same. absurd (let f : ⊥ = omega (arith, k.first) in f)) ∙ g));
      }
  keeps_accepted m (Withdraw id) k =
      record {
        count = k.count;
        first = k.first;
        schedules = λ is t w own.
            let p = kept_before m.kind m.own id.0 is in
            k.schedules p.0 t w
            (λ q c lt g. own q c lt (get_removed_other m.setting.bounds id.0 q (λ same. absurd (let f : ⊥ = omega (arith, p.1) in f)) ∙ g));
      }
  keeps_accepted m (Window e) k = k
  keeps_accepted m (Dispatch e) k =
      record { count = length-set m.setting.fixed e (Some m.setting.clock) ∙ k.count; first = k.first; schedules = k.schedules }
  keeps_accepted m (Happened e moment) k =
      record { count = length-set m.setting.fixed e (Some moment) ∙ k.count; first = k.first; schedules = k.schedules }
  keeps_accepted m Tell k = k

  pub step_keeps : (old new : Machine) (c : Command) (a : Answer) → KeepsTo n wanted old → Step old c a new → KeepsTo n wanted new
  step_keeps old new c a k step =
      elim (by_step old new c a step) [
        | inl same ↦ subst (KeepsTo n wanted) (sym same) k
        | inr p ↦ subst (KeepsTo n wanted) (sym p.is) (keeps_accepted old c k)
      ]

  pub run_keeps : (cs : List Command) (answers : List Answer) (old new : Machine) → KeepsTo n wanted old → Run old cs answers new → KeepsTo n wanted new
  run_keeps [] [] old new k run = subst (KeepsTo n wanted) (sym run) k
  run_keeps [] (a ∷ answers) old new k run = absurd run
  run_keeps (c ∷ cs) [] old new k run = absurd run
  run_keeps (c ∷ cs) (a ∷ answers) old new k run = run_keeps cs answers run.0 new (step_keeps old run.0 c a k run.1) run.2

-- ---- that a schedule remains, and nothing lies behind the horizon

pub record IsUnderWay (s : Setting) : Type 0 where
  pub in_time : s.clock ≤ s.horizon
  pub past : (e moment : ℕ) → fixed_at s e ≡ Some moment → moment ≤ s.horizon
  pub possible : HasSchedule s

by_if : {X : Type 0} (b : Bool) (r : X) (o : Option X) → (if b then Some r else o) ≡ None → (b ≡ false) × (o ≡ None)
by_if true r o h = absurd (let f : ⊥ = cc in f)
by_if false r o h = (refl, h)

by_else : {X : Type 0} (b : Bool) (r : X) (o : Option X) → (if b then o else Some r) ≡ None → (b ≡ true) × (o ≡ None)
by_else true r o h = (refl, h)
by_else false r o h = absurd (let f : ⊥ = cc in f)

not_false : (b : Bool) → not b ≡ false → b ≡ true
not_false true h = refl
not_false false h = absurd (let f : ⊥ = cc in f)

past_with : (xs : List (Option ℕ)) (e x horizon : ℕ) → e < length xs → x ≤ horizon → ((k m : ℕ) → get_or xs k None ≡ Some m → m ≤ horizon) → (k m : ℕ) → get_or (set xs e (Some x)) k None ≡ Some m → m ≤ horizon
past_with xs e x horizon lt le h k m is =
    elim (cases_eq k e) [
      | inl same ↦
          let f : Some x ≡ Some m = sym (get_or-set_same xs e (Some x) None lt) ∙ (ap (λ j. get_or (set xs e (Some x)) j None) (sym same) ∙ is) in
          let g : x ≡ m = cc in
          omega arith
      | inr ne ↦ h k m (sym (get_or-set_other xs e k (Some x) None ne) ∙ is)
    ]

accepted_under_way : (m : Machine) (c : Command) → first_refusal m c ≡ None → HasSchedule ((accepted m c).setting) → IsUnderWay m.setting → IsUnderWay ((accepted m c).setting)
accepted_under_way m (Advance to) none p u =
    let a = by_if (nat_lt to m.setting.clock) Back _ none in
    let b : nat_lt m.setting.horizon to ≡ false = (by_if (nat_lt m.setting.horizon to) Moment None a.1).0 in
    record { in_time = grind (arith, nat_tests); past = u.past; possible = p }
accepted_under_way m (Add b) none p u = record { in_time = u.in_time; past = u.past; possible = p }
accepted_under_way m (Withdraw id) none p u = record { in_time = u.in_time; past = u.past; possible = p }
accepted_under_way m (Window e) none p u = u
accepted_under_way m (Dispatch e) none p u =
    let a : nat_lt e (event_count m.setting) ≡ true = (by_else (nat_lt e (event_count m.setting)) NoEvent _ none).0 in
    let lt : e < event_count m.setting = grind (arith, nat_tests) in
    record { in_time = u.in_time; past = past_with m.setting.fixed e m.setting.clock m.setting.horizon lt u.in_time u.past; possible = p }
accepted_under_way m (Happened e moment) none p u =
    let a = by_if (not (nat_lt e (event_count m.setting))) NoEvent _ none in
    let there : nat_lt e (event_count m.setting) ≡ true = not_false (nat_lt e (event_count m.setting)) a.0 in
    let lt : e < event_count m.setting = grind (arith, nat_tests) in
    let b = by_if (is_some (fixed_at m.setting e)) Done _ a.1 in
    let d = by_if (nat_lt moment (floor_of m.setting e)) Back _ b.1 in
    let w : nat_lt m.setting.clock moment ≡ false = (by_if (nat_lt m.setting.clock moment) Moment None d.1).0 in
    let le : moment ≤ m.setting.clock = grind (arith, nat_tests) in
    record { in_time = u.in_time; past = past_with m.setting.fixed e moment m.setting.horizon lt (omega (arith, u.in_time)) u.past; possible = p }
accepted_under_way m Tell none p u = u

pub step_under_way : (old new : Machine) (c : Command) (a : Answer) → IsUnderWay old.setting → Step old c a new → IsUnderWay new.setting
step_under_way old new c a u step =
    elim (by_step old new c a step) [
      | inl same ↦ subst (λ (m : Machine). IsUnderWay m.setting) (sym same) u
      | inr p ↦ subst (λ (m : Machine). IsUnderWay m.setting) (sym p.is) (accepted_under_way old c p.formed p.remains u)
    ]

pub run_under_way : (cs : List Command) (answers : List Answer) (old new : Machine) → IsUnderWay old.setting → Run old cs answers new → IsUnderWay new.setting
run_under_way [] [] old new u run = subst (λ (m : Machine). IsUnderWay m.setting) (sym run) u
run_under_way [] (a ∷ answers) old new u run = absurd run
run_under_way (c ∷ cs) [] old new u run = absurd run
run_under_way (c ∷ cs) (a ∷ answers) old new u run = run_under_way cs answers run.0 new (step_under_way old run.0 c a u run.1) run.2

-- ---- a run that is done

some_moment : (o : Option ℕ) → o ≢ None → o ≡ Some (moment_or_zero o)
some_moment None h = absurd (h refl)
some_moment (Some m) h = refl

-- the moments at which all events were dispatched are a schedule that meets the own bounds, so they are as wanted
pub done_as_wanted : (n : ℕ) (wanted : (ℕ → ℕ) → Type 0) (m : Machine) → KeepsTo n wanted m → IsUnderWay m.setting → IsDone m.setting → m.kind ≡ Kept → (t : ℕ → ℕ) × wanted t × ((e : ℕ) → e < n → t e ≡ dispatched_at m.setting e)
done_as_wanted n wanted m k u done kept =
    let t = u.possible.0 in
    let s : IsSchedule m.setting t = u.possible.1 in
    let at : (e : ℕ) → e < n → t e ≡ dispatched_at m.setting e =
    λ e lt. s.past e (dispatched_at m.setting e) (some_moment (fixed_at m.setting e) (done e (subst (λ c. e < c) (sym k.count) lt))) in
    let within : IsWithin n m.setting.horizon t =
    λ e lt. subst (λ x. x ≤ m.setting.horizon) (sym (at e lt)) (u.past e (dispatched_at m.setting e) (some_moment (fixed_at m.setting e) (done e (subst (λ c. e < c) (sym k.count) lt)))) in
    (t, k.schedules kept t within (λ id b lt g. s.in_force id b g), at)

-- ---- the moments of a run

last_is : (xs : List ℕ) (m : ℕ) → get_or (xs ++ m ∷ []) (length xs) 0 ≡ m
last_is [] m = refl
last_is (x ∷ xs) m = last_is xs m

front_is : (xs : List ℕ) (m e : ℕ) → e < length xs → get_or (xs ++ m ∷ []) e 0 ≡ get_or xs e 0
front_is [] m e lt = absurd (let f : ⊥ = omega arith in f)
front_is (x ∷ xs) m zero lt = refl
front_is (x ∷ xs) m (suc e) lt = front_is xs m e (omega arith)

-- one more event is dispatched at its moment
pub dispatched_more : (s : Setting) (xs : List ℕ) (m : ℕ) → ((e : ℕ) → e < length xs → fixed_at s e ≡ Some (get_or xs e 0)) → fixed_at s (length xs) ≡ Some m → (e : ℕ) → e < length (xs ++ m ∷ []) → fixed_at s e ≡ Some (get_or (xs ++ m ∷ []) e 0)
dispatched_more s xs m h is e lt =
    elim (cases_eq e (length xs)) [
      | inl same ↦ ap (fixed_at s) same ∙ (is ∙ ap Some (sym (last_is xs m) ∙ ap (λ k. get_or (xs ++ m ∷ []) k 0) (sym same)))
      | inr ne ↦ let less : e < length xs = omega (arith, lt, length_push xs m) in h e less ∙ ap Some (sym (front_is xs m e less))
    ]

pub are_done : (s : Setting) (xs : List ℕ) → AreDispatched s xs → IsDone s
are_done s xs d e lt none =
    let f : None ≡ Some (get_or xs e 0) = sym none ∙ d.each e (subst (λ n. e < n) (sym d.count) lt) in
    let g : ⊥ = cc in
    g
