-- The lines of the pairs of a run are pairs of lines of the format.
use Rattle.std.proofs.Common.{◌≡◌, cond, ℕ, ◌+◌, ◌^◌, ◌<◌, ◌≤◌, Bool, true, false, ◌&&◌, List, [], ◌∷◌, Option, Some, None, MatchOption, refl, ap, sym, subst, ◌∙◌, arith, is_some, flat_map}
use Rattle.std.specs.Prelude.{nat_lt, nat_le, not, ℤ, pos, ◌-ℤ◌, int_le}
use Rattle.std.specs.FinMap.{len}
use Rattle.std.specs.Option.{option_map, option_and_then}
use Rattle.std.proofs.lemmas.Bool.Decides.{nat_tests}
use Rattle.std.proofs.lemmas.Int.{ints}
use Rattle.tp_bounds.specs.declared.Bound.{Bound}
use Rattle.tp_bounds.specs.declared.Point.{Point}
use Rattle.tp_bounds.specs.declared.Point.TheVariants.{Origin, Event}
use Rattle.tp_bounds.specs.Setting.{Setting, event_count, fixed_at, floor_of, HasPoint, IsInRange}
use Rattle.tp_bounds.specs.Lawful.{IsLawful, Suits}
use Rattle.tp_bounds.proofs.LawfulChanges.{lawful_put, lawful_taken, lawful_raised, lawful_fixed}
use Rattle.tp_exec_machine.specs.declared.command.Command.{Command}
use Rattle.tp_exec_machine.specs.declared.command.Command.TheVariants.{Advance, Add, Withdraw, Window, Dispatch, Happened, Report as Tell}
use Rattle.tp_exec_machine.specs.declared.command.Answer.{Answer}
use Rattle.tp_exec_machine.specs.declared.command.Answer.TheVariants.{Accepted, Named, Told as Shown, Reported, Refused}
use Rattle.tp_exec_machine.specs.declared.refusal.Refusal.{Refusal}
use Rattle.tp_exec_machine.specs.declared.refusal.Refusal.TheVariants.{NoEvent, Done, Weight, Back, Moment, Full, Spent}
use Rattle.tp_exec_machine.specs.Machine.{Machine}
use Rattle.tp_exec_machine.specs.Step.{Step, Decides, first_refusal, accepted, is_point_of, is_in_range}
use Rattle.tp_script.specs.Written.{IsSpelled}
use Rattle.tp_journal_pairs.specs.Journal.{Entry, question_line, answer_line, pair_lines, Has, Runs}
use Rattle.tp_journal_pairs.specs.Sound.{IsSound}
use Rattle.tp_journal_pairs.proofs.SoundLemmas.{step_sound}
use Rattle.tp_journal.specs.declared.form.Place.TheVariants.{Question, Reply}
use Rattle.tp_journal.specs.Form.{next_place, place_after}
use Rattle.tp_journal.specs.Laws.{IsWithin}
use Rattle.tp_journal.proofs.AnswerForms.{has_the_form, question_read}

-- ---- what a well-formed command tells

not_so : (b : Bool) (r : Refusal) (o : Option Refusal) → cond b (Some r) o ≡ None → (b ≡ false) × (o ≡ None)
not_so true r o h = absurd (let f : ⊥ = cc in f)
not_so false r o h = (refl, h)

so : (b : Bool) (r : Refusal) (o : Option Refusal) → cond b o (Some r) ≡ None → (b ≡ true) × (o ≡ None)
so true r o h = (refl, h)
so false r o h = absurd (let f : ⊥ = cc in f)

point_there : (s : Setting) (p : Point) → is_point_of (event_count s) p ≡ true → HasPoint s p
point_there s Origin h = tt
point_there s (Event e) h = let lt : e < event_count s = grind (arith, nat_tests, h) in lt

both_true : (a b : Bool) → not (a && b) ≡ false → (a ≡ true) × (b ≡ true)
both_true true true h = (refl, refl)
both_true true false h = absurd (let f : ⊥ = cc in f)
both_true false b h = absurd (let f : ⊥ = cc in f)

both_are : (a b : Bool) → (a && b) ≡ true → (a ≡ true) × (b ≡ true)
both_are true b h = (refl, h)
both_are false b h = absurd (let f : ⊥ = cc in f)

is_not : (b : Bool) → not b ≡ false → b ≡ true
is_not true h = refl
is_not false h = absurd (let f : ⊥ = cc in f)

in_range : (w : ℤ) → is_in_range w ≡ true → IsInRange w
in_range w h =
    let p = both_are (int_le (pos 0 -ℤ pos 2_000_000_000) w) (int_le w (pos 2_000_000_000)) h in
    record { not_low = omega (arith, ints, p.0); not_high = omega (arith, ints, p.1) }

-- ---- each state of a run is within its limits

record Within (s : Setting) (given most : ℕ) : Type 0 where
  pub lawful : IsLawful s
  pub next : given ≤ most

-- a bound that may be added suits the setting
pub suits_there : (m : Machine) (b : Bound) → first_refusal m (Add b) ≡ None → Suits m.setting b
suits_there m b none =
    let p = not_so (not (is_point_of (event_count m.setting) b.from && is_point_of (event_count m.setting) b.to)) NoEvent (cond (not (is_in_range b.w)) (Some Weight) (cond (nat_le m.limits.bounds (len m.setting.bounds)) (Some Full) (cond (nat_le m.limits.ids m.next) (Some Spent) None))) none in
    let q = not_so (not (is_in_range b.w)) Weight (cond (nat_le m.limits.bounds (len m.setting.bounds)) (Some Full) (cond (nat_le m.limits.ids m.next) (Some Spent) None)) p.1 in
    let ends = both_true (is_point_of (event_count m.setting) b.from) (is_point_of (event_count m.setting) b.to) p.0 in
    record { from = point_there m.setting b.from ends.0; to = point_there m.setting b.to ends.1; weight = in_range b.w (is_not (is_in_range b.w) q.0) }

added : (m : Machine) (b : Bound) → IsWithin m → first_refusal m (Add b) ≡ None → Within ((accepted m (Add b)).setting) (m.next + 1) m.limits.ids
added m b h none =
    let p = not_so (not (is_point_of (event_count m.setting) b.from && is_point_of (event_count m.setting) b.to)) NoEvent (cond (not (is_in_range b.w)) (Some Weight) (cond (nat_le m.limits.bounds (len m.setting.bounds)) (Some Full) (cond (nat_le m.limits.ids m.next) (Some Spent) None))) none in
    let q = not_so (not (is_in_range b.w)) Weight (cond (nat_le m.limits.bounds (len m.setting.bounds)) (Some Full) (cond (nat_le m.limits.ids m.next) (Some Spent) None)) p.1 in
    let r = not_so (nat_le m.limits.bounds (len m.setting.bounds)) Full (cond (nat_le m.limits.ids m.next) (Some Spent) None) q.1 in
    let t = not_so (nat_le m.limits.ids m.next) Spent None r.1 in
    record { lawful = lawful_put m.setting m.next b h.lawful (suits_there m b none); next = grind (arith, nat_tests, t.0) }

pub dispatched : (m : Machine) (e : ℕ) → IsWithin m → first_refusal m (Dispatch e) ≡ None → IsLawful ((accepted m (Dispatch e)).setting)
dispatched m e h none =
    let p = so (nat_lt e (event_count m.setting)) NoEvent (cond (is_some (fixed_at m.setting e)) (Some Done) None) none in
    let there : e < event_count m.setting = grind (arith, nat_tests, p.0) in
    lawful_fixed m.setting e m.setting.clock h.lawful there h.lawful.in_time

pub happened : (m : Machine) (e t : ℕ) → IsWithin m → first_refusal m (Happened e t) ≡ None → IsLawful ((accepted m (Happened e t)).setting)
happened m e t h none =
    let p = not_so (not (nat_lt e (event_count m.setting))) NoEvent (cond (is_some (fixed_at m.setting e)) (Some Done) (cond (nat_lt t (floor_of m.setting e)) (Some Back) (cond (nat_lt m.setting.clock t) (Some Moment) None))) none in
    let q = not_so (is_some (fixed_at m.setting e)) Done (cond (nat_lt t (floor_of m.setting e)) (Some Back) (cond (nat_lt m.setting.clock t) (Some Moment) None)) p.1 in
    let r = not_so (nat_lt t (floor_of m.setting e)) Back (cond (nat_lt m.setting.clock t) (Some Moment) None) q.1 in
    let u = not_so (nat_lt m.setting.clock t) Moment None r.1 in
    let is : nat_lt e (event_count m.setting) ≡ true = is_not (nat_lt e (event_count m.setting)) p.0 in
    let there : e < event_count m.setting = grind (arith, nat_tests, is) in
    let by_now : t ≤ m.setting.clock = grind (arith, nat_tests, u.0) in
    lawful_fixed m.setting e t h.lawful there (omega (arith, by_now, h.lawful.in_time))

pub advanced : (m : Machine) (t : ℕ) → IsWithin m → first_refusal m (Advance t) ≡ None → IsLawful ((accepted m (Advance t)).setting)
advanced m t h none =
    let p = not_so (nat_lt t m.setting.clock) Back (cond (nat_lt m.setting.horizon t) (Some Moment) None) none in
    let q = not_so (nat_lt m.setting.horizon t) Moment None p.1 in
    let in_time : t ≤ m.setting.horizon = grind (arith, nat_tests, q.0) in
    lawful_raised m.setting t h.lawful in_time

accepted_within : (m : Machine) (c : Command) → IsWithin m → first_refusal m c ≡ None → IsSound (accepted m c) → IsWithin (accepted m c)
accepted_within m (Advance to) h none sound = record { sound = sound; lawful = advanced m to h none; next = h.next; ids = h.ids }
accepted_within m (Add b) h none sound =
    let w = added m b h none in
    record { sound = sound; lawful = w.lawful; next = w.next; ids = h.ids }
accepted_within m (Withdraw id) h none sound = record { sound = sound; lawful = lawful_taken m.setting id.0 h.lawful; next = h.next; ids = h.ids }
accepted_within m (Window e) h none sound = h
accepted_within m (Dispatch e) h none sound = record { sound = sound; lawful = dispatched m e h none; next = h.next; ids = h.ids }
accepted_within m (Happened e t) h none sound = record { sound = sound; lawful = happened m e t h none; next = h.next; ids = h.ids }
accepted_within m Tell h none sound = h

decided_within : (m new : Machine) (c : Command) (a : Answer) → IsWithin m → first_refusal m c ≡ None → IsSound new → Decides m c a new → IsWithin new
decided_within m new c Accepted h none sound d = subst IsWithin (sym d.2) (accepted_within m c h none (subst IsSound d.2 sound))
decided_within m new c (Named id) h none sound d = subst IsWithin (sym d.2) (accepted_within m c h none (subst IsSound d.2 sound))
decided_within m new c (Shown low high) h none sound d = subst IsWithin (sym d.2) (accepted_within m c h none (subst IsSound d.2 sound))
decided_within m new c (Reported r) h none sound d = subst IsWithin (sym d.2) (accepted_within m c h none (subst IsSound d.2 sound))
decided_within m new c (Refused r) h none sound d = subst IsWithin (sym d.1) h

pub step_within : (m new : Machine) (c : Command) (a : Answer) → IsWithin m → Step m c a new → IsWithin new
step_within m new c a h step = by_refusal (first_refusal m c) refl step
  where
    by_refusal : (o : Option Refusal) → first_refusal m c ≡ o → MatchOption o (Decides m c a new) (λ r. (a ≡ Refused r) × (new ≡ m)) → IsWithin new
    by_refusal None none d = decided_within m new c a h none (step_sound m new c a h.sound step) d
    by_refusal (Some r) some d = subst IsWithin (sym d.1) h

-- ---- the lines of pairs

pair_goes : (version : ℕ) (question reply : List ℕ) (more : List (List ℕ)) → next_place (Question version) question ≡ Some (Reply version) → next_place (Reply version) reply ≡ Some (Question version) → place_after (Question version) (question ∷ reply ∷ more) ≡ place_after (Question version) more
pair_goes version question reply more a b =
    ap (option_and_then (λ next. place_after next (reply ∷ more))) a ∙ ap (option_and_then (λ next. place_after next more)) b

question_goes : (version : ℕ) (c : Command) (a : Answer) → IsSpelled c → Has version c → next_place (Question version) (question_line (Some (c, a))) ≡ Some (Reply version)
question_goes version c a spelled has = ap (option_map (λ asked. Reply version)) (question_read version c a spelled has)

reply_goes : (version : ℕ) (old new : Machine) (c : Command) (a : Answer) → IsWithin old → Step old c a new → next_place (Reply version) (answer_line (Some (c, a))) ≡ Some (Question version)
reply_goes version old new c a h step =
    let ids : old.next < 2 ^ 32 = omega (arith, h.next, h.ids) in
    ap (λ b. cond b (Some (Question version)) None) (has_the_form old new c a h.sound h.lawful ids step)

pub pairs_form : (version : ℕ) (old new : Machine) (entries : List Entry) → IsWithin old → Runs version old entries new → place_after (Question version) (flat_map pair_lines entries) ≡ Some (Question version)
pairs_form version old new [] h runs = refl
pairs_form version old new (None ∷ entries) h runs =
    pair_goes version (question_line None) (answer_line None) (flat_map pair_lines entries) refl refl ∙ pairs_form version old new entries h runs
pairs_form version old new (Some p ∷ entries) h runs =
    pair_goes version (question_line (Some p)) (answer_line (Some p)) (flat_map pair_lines entries)
    (question_goes version p.0 p.1 runs.1 runs.2)
    (reply_goes version old runs.0 p.0 p.1 h runs.3)
    ∙ pairs_form version runs.0 new entries (step_within old runs.0 p.0 p.1 h runs.3) runs.4
