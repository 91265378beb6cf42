-- What is found of a journal in a file, and what is said of it.
use Rattle.std.proofs.Common.{◌≡◌, ◌∙◌, ◌≤◌, ℕ, List, [], Option, Some, None, Bool, true, false, refl, subst, sym, arith, inl, inr}
use Rattle.std.specs.Prelude.{IfSome, Err}
use Rattle.std.specs.Io.KnownBytes.{Appends}
use Rattle.tp_device.specs.Bytes.{AppendsPart}
use Rattle.std.proofs.KnownBytes.{Appends-nil}
use Rattle.std.proofs.lemmas.List.{length-replicate}
use Rattle.tp_bounds.specs.Setting.{event_count}
use Rattle.tp_net.specs.NewNet.{new_setting}
use Rattle.tp_exec_machine.specs.Machine.{Machine}
use Rattle.tp_cli_files.specs.Causes.{raised}
use Rattle.tp_cli_files.specs.FaultLines.{Tells}
use Rattle.tp_journal.specs.Telling.{IsHeadTold}
use Rattle.tp_journal.specs.declared.faults.JournalHead.{JournalHead}
use Rattle.tp_cli_audit.specs.AuditLines.{stop_status, stop_text, stop_unread}
use Rattle.tp_cli_audit.specs.Audits.{Hinders, HindersHead, IsFound, Says, found_line, is_journal, say_failures}
use Rattle.tp_cli_audit.specs.Bare.{EndsBareAudit, HindersBare, HindersTold, IsBareFound, IsToldFound, SaysAuditPart, SaysBare, SaysJournal, SaysWrong, StopsBareAudit, bare_machine}
use Rattle.tp_cli_audit.specs.declared.audit_lines.AuditStop.{AuditStop}
use Rattle.tp_cli_audit.specs.declared.audit_lines.AuditStop.TheVariants.{Open, Network, Memory, Read, Line, Head, Write}
use Rattle.tp_cli_audit.specs.declared.auditing.Found.{Found}
use Rattle.tp_cli_audit.specs.declared.auditing.Found.TheVariants.{Journal, Wrong}

-- ---- against the machine that a head tells

pub events_new : (n h : ℕ) → event_count (new_setting n h) ≡ n
events_new n h = length-replicate n None

pub told_found : (found : Found) (head : JournalHead) (m : Machine) (input : Option (List ℕ)) → m ≡ bare_machine head → head.own ≡ None → IsFound m input found → IsToldFound head input found
told_found found head m input is bare h = (bare, subst (λ k. IsFound k input found) is h)

pub told_hinders : (stop : AuditStop) (head : JournalHead) (input : Option (List ℕ)) → Hinders (bare_machine head) input stop → HindersTold head input stop
told_hinders Open head input h = tt
told_hinders Network head input h = tt
told_hinders Memory head input h = tt
told_hinders Read head input h = tt
told_hinders (Line n) head input h = h
told_hinders Head head input h = inr h
told_hinders Write head input h = absurd h

pub bare_found : (found : Found) (head : JournalHead) (input : Option (List ℕ)) → IfSome input (λ bytes. IsHeadTold bytes head) → IsToldFound head input found → IsBareFound input found
bare_found found head None told h = tt
bare_found found head (Some bytes) told h = record { head = head; told = told; bare = h.0; is = h.1 }

pub bare_hinders : (stop : AuditStop) (head : JournalHead) (input : Option (List ℕ)) → IfSome input (λ bytes. IsHeadTold bytes head) → HindersTold head input stop → HindersBare input stop
bare_hinders Open head input told h = tt
bare_hinders Network head input told h = tt
bare_hinders Memory head input told h = tt
bare_hinders Read head input told h = tt
bare_hinders (Line n) head input told h = h
bare_hinders Head head None told h = tt
bare_hinders Head head (Some bytes) told h = (head, told, h)
bare_hinders Write head input told h = absurd h

pub head_hinders : (stop : AuditStop) (input : Option (List ℕ)) → HindersHead input stop → HindersBare input stop
head_hinders Open input h = tt
head_hinders Network input h = absurd h
head_hinders Memory input h = tt
head_hinders Read input h = tt
head_hinders (Line n) input h = h
head_hinders Head input h = absurd h
head_hinders Write input h = absurd h

-- ---- what is said

says_journal : (found : Found) (input held now : Option (List ℕ)) → IsBareFound input found → true ≡ is_journal found → Appends held now (found_line found) → SaysJournal input held now
says_journal (Journal pairs) input held now h is wrote = (pairs, h, wrote)
says_journal (Wrong n) input held now h is wrote = absurd (let f : ⊥ = cc in f)

says_wrong : (found : Found) (input held now : Option (List ℕ)) → IsBareFound input found → false ≡ is_journal found → Appends held now (found_line found) → SaysWrong input held now
says_wrong (Journal pairs) input held now h is wrote = absurd (let f : ⊥ = cc in f)
says_wrong (Wrong n) input held now h is wrote = (n, h, wrote)

pub said : (b : Bool) (found : Found) (input held now : Option (List ℕ)) → IsBareFound input found → Says found held now b → SaysBare input held now b
said true found input held now h s = says_journal found input held now h s.0 s.1
said false found input held now h s = says_wrong found input held now h s.0 s.1

pub unsaid : (stop : AuditStop) (found : Found) (input held now : Option (List ℕ)) → IsBareFound input found → (stop ≡ Write) × AppendsPart held now (found_line found) → StopsBareAudit input held now stop
unsaid stop found input held now h s = subst (λ t. StopsBareAudit input held now t) (sym s.0) (found, h, s.1)

pub stops : (stop : AuditStop) (input held : Option (List ℕ)) → HindersBare input stop → StopsBareAudit input held held stop
stops Open input held h = refl
stops Network input held h = refl
stops Memory input held h = refl
stops Read input held h = refl
stops (Line n) input held h = (h, refl)
stops Head input held h = (h, refl)
stops Write input held h = absurd h

pub no_write : (stop : AuditStop) (input : Option (List ℕ)) (n : ℕ) → HindersBare input stop → say_failures {T = Bool} n (Err stop) ≡ n
no_write Open input n h = refl
no_write Network input n h = refl
no_write Memory input n h = refl
no_write Read input n h = refl
no_write (Line k) input n h = refl
no_write Head input n h = refl
no_write Write input n h = absurd h

-- ---- by the status

same_count : (stop : AuditStop) (n : ℕ) → say_failures {T = Bool} n (Err stop) ≡ say_failures {T = Unit {0}} n (Err stop)
same_count Open n = refl
same_count Network n = refl
same_count Memory n = refl
same_count Read n = refl
same_count (Line k) n = refl
same_count Head n = refl
same_count Write n = refl

pub ends : (stop : AuditStop) (input : Option (List ℕ)) (log text : List ℕ) (status line-status : ℕ) (held held-now : Option (List ℕ)) (unread unread-now output output-now failures : ℕ) (before : Option (List ℕ)) (failures-now : ℕ) (now : Option (List ℕ)) → StopsBareAudit input held held-now stop → status ≡ line-status → line-status ≡ stop_status stop → text ≡ stop_text log stop → output-now ≡ say_failures {T = Bool} output (Err stop) → unread-now ≡ raised (stop_unread stop) unread → Tells text failures before failures-now now → EndsBareAudit input log status held held-now unread unread-now output output-now failures before failures-now now
ends stop input log text status line-status held held-now unread unread-now output output-now failures before failures-now now cause is line spelled counted opened told =
    record {
      stop = stop;
      is = sym (is ∙ line);
      cause = cause;
      opened = opened;
      write = counted ∙ same_count stop output;
      told = subst (λ t. Tells t failures before failures-now now) spelled told;
    }

pub kept : (stop : AuditStop) (input held now : Option (List ℕ)) → StopsBareAudit input held now stop → stop_status stop ≡ 2 → now ≡ held
kept Open input held now h is = h
kept Network input held now h is = h
kept Memory input held now h is = h
kept Read input held now h is = h
kept (Line n) input held now h is = h.1
kept Head input held now h is = h.1
kept Write input held now h is = absurd (let f : ⊥ = omega (arith, is) in f)

unwritten : (input held now : Option (List ℕ)) → now ≡ held → SaysAuditPart input held now
unwritten input held now same = inl (subst (λ n. Appends held n []) (sym same) (Appends-nil held))

pub part : (stop : AuditStop) (input held now : Option (List ℕ)) → StopsBareAudit input held now stop → SaysAuditPart input held now
part Open input held now h = unwritten input held now h
part Network input held now h = unwritten input held now h
part Memory input held now h = unwritten input held now h
part Read input held now h = unwritten input held now h
part (Line n) input held now h = unwritten input held now h.1
part Head input held now h = unwritten input held now h.1
part Write input held now h = inr h

pub told : (stop : AuditStop) (n m : ℕ) → (stop_status stop ≡ 3 → ⊥) → m ≡ say_failures {T = Bool} n (Err stop) → m ≡ n
told Open n m other is = is
told Network n m other is = is
told Memory n m other is = is
told Read n m other is = is
told (Line k) n m other is = is
told Head n m other is = is
told Write n m other is = absurd (other refl)

pub within : (stop : AuditStop) (status : ℕ) → status ≡ stop_status stop → (2 ≤ status) × (status ≤ 3)
within Open status is = (omega (arith, is), omega (arith, is))
within Network status is = (omega (arith, is), omega (arith, is))
within Memory status is = (omega (arith, is), omega (arith, is))
within Read status is = (omega (arith, is), omega (arith, is))
within (Line k) status is = (omega (arith, is), omega (arith, is))
within Head status is = (omega (arith, is), omega (arith, is))
within Write status is = (omega (arith, is), omega (arith, is))
