-- The numbers of each answer of the machine are in range.
use Rattle.std.proofs.Common.{◌≡◌, ℕ, ◌^◌, ◌<◌, ◌≤◌, length, Option, Some, None, MatchOption, refl, sym, subst, arith}
use Rattle.tp_bounds.specs.Setting.{event_count}
use Rattle.tp_exec_machine.specs.declared.command.Command.{Command}
use Rattle.tp_exec_machine.specs.declared.command.Command.TheVariants.{Advance, Add, Withdraw, Window, Dispatch, Happened, Report as Tell}
use Rattle.tp_exec_machine.specs.declared.command.Answer.{Answer}
use Rattle.tp_exec_machine.specs.declared.command.Answer.TheVariants.{Accepted, Named, Told as Shown, Reported, Refused}
use Rattle.tp_exec_machine.specs.declared.command.Report.{Report}
use Rattle.tp_exec_machine.specs.declared.refusal.Refusal.{Refusal}
use Rattle.tp_exec_machine.specs.declared.refusal.Refusal.TheVariants.{NoEvent, Done, NoBound, Weight, Back, Moment, Full, Spent, Memory, Conflict}
use Rattle.tp_exec_machine.specs.Machine.{Machine}
use Rattle.tp_exec_machine.specs.Step.{Step, Decides, Refuses, Tells, first_refusal}
use Rattle.tp_journal_pairs.specs.Edges.{Fit_edges}
use Rattle.tp_journal_pairs.proofs.EdgeTexts.{fits_reason}
use Rattle.tp_journal.specs.Laws.{IsWithin}
use Rattle.tp_journal.proofs.FewEdges.{few_edges}
use Rattle.tp_journal.proofs.AnswerForms.{AreSoon, are_soon, soon, there_is, named_is, IsPlain, Plain, first_plain}

abbrev pub FitsRefusal : Refusal → Type 0
FitsRefusal NoEvent = Unit {0}
FitsRefusal Done = Unit {0}
FitsRefusal NoBound = Unit {0}
FitsRefusal Weight = Unit {0}
FitsRefusal Back = Unit {0}
FitsRefusal Moment = Unit {0}
FitsRefusal Full = Unit {0}
FitsRefusal Spent = Unit {0}
FitsRefusal Memory = Unit {0}
FitsRefusal (Conflict reason) =
    Fit_edges reason.edges.items × (length reason.edges.items ≤ 1_025)

abbrev pub IsFit : Answer → Type 0
IsFit Accepted = Unit {0}
IsFit (Named id) = id.0 < 2 ^ 32
IsFit (Shown low high) = (low ≤ 1_000_000_000) × (high ≤ 1_000_000_000)
IsFit (Reported r) =
    (r.now ≤ 1_000_000_000) × AreSoon r.moments.items × (length r.moments.items ≤ 1_024)
IsFit (Refused refusal) = FitsRefusal refusal

plain_fits : (r : Refusal) → IsPlain r → FitsRefusal r
plain_fits NoEvent h = tt
plain_fits Done h = tt
plain_fits NoBound h = tt
plain_fits Weight h = tt
plain_fits Back h = tt
plain_fits Moment h = tt
plain_fits Full h = tt
plain_fits Spent h = tt
plain_fits Memory h = tt
plain_fits (Conflict reason) h = absurd h

shown_fits : (m : Machine) (c : Command) (low high : ℕ) → IsWithin m → first_refusal m c ≡ None → Tells m c (Shown low high) → (low ≤ 1_000_000_000) × (high ≤ 1_000_000_000)
shown_fits m (Advance to) low high w none h = absurd h
shown_fits m (Add b) low high w none h = absurd h
shown_fits m (Withdraw id) low high w none h = absurd h
shown_fits m (Window e) low high w none h =
    let there : e < event_count m.setting = there_is (event_count m.setting) e none in
    let a = h.occurs low (omega arith) h.ordered in
    let b = h.occurs high h.ordered (omega arith) in
    (omega (arith, a.2, soon m.setting a.0 e w.lawful a.1 there), omega (arith, b.2, soon m.setting b.0 e w.lawful b.1 there))
shown_fits m (Dispatch e) low high w none h = absurd h
shown_fits m (Happened e t) low high w none h = absurd h
shown_fits m Tell low high w none h = absurd h

reported_fits : (m : Machine) (c : Command) (r : Report) → IsWithin m → Tells m c (Reported r) → (r.now ≤ 1_000_000_000) × AreSoon r.moments.items × (length r.moments.items ≤ 1_024)
reported_fits m (Advance to) r w h = absurd h
reported_fits m (Add b) r w h = absurd h
reported_fits m (Withdraw id) r w h = absurd h
reported_fits m (Window e) r w h = absurd h
reported_fits m (Dispatch e) r w h = absurd h
reported_fits m (Happened e t) r w h = absurd h
reported_fits m Tell r w h = (
  omega (arith, h.now, w.lawful.in_time, w.lawful.horizon),
  are_soon m.setting r.moments.items w.lawful h.moments,
  omega (arith, h.moments.count, w.lawful.events),
)

refuses_fits : (m : Machine) (c : Command) (r : Refusal) → IsWithin m → first_refusal m c ≡ None → Refuses m c r → FitsRefusal r
refuses_fits m c (Conflict reason) w none h = (
  fits_reason m c reason.edges.items w.sound (omega (arith, w.next, w.ids)) (omega (arith, w.lawful.events)) h.reason,
  few_edges m c reason.edges.items w none h.reason,
)
refuses_fits m c Memory w none h = tt
refuses_fits m c NoEvent w none h = tt
refuses_fits m c Done w none h = tt
refuses_fits m c NoBound w none h = tt
refuses_fits m c Weight w none h = tt
refuses_fits m c Back w none h = tt
refuses_fits m c Moment w none h = tt
refuses_fits m c Full w none h = tt
refuses_fits m c Spent w none h = tt

decided_fits : (m new : Machine) (c : Command) (a : Answer) → IsWithin m → first_refusal m c ≡ None → Decides m c a new → IsFit a
decided_fits m new c Accepted w none d = tt
decided_fits m new c (Named id) w none d = omega (arith, named_is m c id.0 d.0, w.next, w.ids)
decided_fits m new c (Shown low high) w none d = shown_fits m c low high w none d.0
decided_fits m new c (Reported r) w none d = reported_fits m c r w d.0
decided_fits m new c (Refused r) w none d = refuses_fits m c r w none d.0

pub step_fits : (old new : Machine) (command : Command) (answer : Answer) → IsWithin old → Step old command answer new → IsFit answer
step_fits old new command answer w step = by_refusal (first_refusal old command) refl step
  where
    by_refusal : (o : Option Refusal) → first_refusal old command ≡ o → MatchOption o (Decides old command answer new) (λ r. (answer ≡ Refused r) × (new ≡ old)) → IsFit answer
    by_refusal None none d = decided_fits old new command answer w none d
    by_refusal (Some r) some d = subst IsFit (sym d.0) (plain_fits r (subst Plain some (first_plain old command)))
