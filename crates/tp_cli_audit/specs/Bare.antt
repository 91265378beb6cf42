-- The audit of a journal of a network of bounds alone.
use Rattle.std.specs.Prelude.{◌≡◌, ℕ, ◌<◌, ◌≤◌, ◌⊎◌, List, [], ◌∷◌, Option, Some, None, Bool, true, false, Err, IfSome}
use Rattle.std.specs.List.{All}
use Rattle.std.specs.Io.KnownBytes.{Appends}
use Rattle.tp_device.specs.Bytes.{AppendsPart}
use Rattle.tp_bounds.specs.Setting.{Setting}
use Rattle.tp_bounds.specs.Changes.{with_lag}
use Rattle.tp_exec_machine.specs.Machine.{Machine}
use Rattle.tp_cli_files.specs.Causes.{raised}
use Rattle.tp_cli_files.specs.FaultLines.{Tells}
use Rattle.tp_journal.specs.Auditing.{HasOtherHead}
use Rattle.tp_journal.specs.Telling.{IsHeadTold}
use Rattle.tp_journal.specs.declared.faults.JournalHead.{JournalHead}
use Rattle.tp_cli_bare.specs.Bare.{first_machine, first_setting}
use Rattle.tp_cli_audit.specs.AuditLines.{stop_status, stop_text, stop_unread}
use Rattle.tp_cli_audit.specs.Audits.{BreaksLog, IsFound, found_line, say_failures}
use Rattle.tp_cli_audit.specs.declared.audit_lines.AuditStop.{AuditStop}
use Rattle.tp_cli_audit.specs.declared.audit_lines.AuditStop.TheVariants.{Open, Network, Memory, Read, Line, Head, Write}
use Rattle.tp_cli_audit.specs.declared.auditing.Found.{Found}
use Rattle.tp_cli_audit.specs.declared.auditing.Found.TheVariants as found

-- ---- the network that a head tells

-- a lag is that of one of so many events, and in range
abbrev pub LagFits : ℕ → ℕ × ℕ → Type 0
LagFits events lag = (lag.0 < events) × (lag.1 ≤ 1_000_000_000)

-- a network can be so
pub record HeadFits (head : JournalHead) : Type 0 where
  pub events : head.events ≤ 1024
  pub horizon : head.horizon ≤ 1_000_000_000
  pub lags : All (LagFits head.events) head.lags.items

-- the head is that of a network of bounds alone, which can be so
pub record IsBareHead (head : JournalHead) : Type 0 where
  pub bare : head.own ≡ None
  pub fits : HeadFits head

-- with these lags, one after another
abbrev pub lagged : Setting → List (ℕ × ℕ) → Setting
lagged s [] = s
lagged s (lag ∷ lags) = lagged (with_lag s lag.0 lag.1) lags

abbrev pub head_numbers : JournalHead → ℕ × ℕ
head_numbers head = (head.events, head.horizon)

-- the machine in which the run of a network of bounds alone begins, as a head tells it
abbrev pub bare_machine : JournalHead → Machine
bare_machine head =
    first_machine (head_numbers head) (lagged (first_setting (head_numbers head)) head.lags.items)

-- ---- what is found

abbrev pub IsToldFound : JournalHead → Option (List ℕ) → Found → Type 0
IsToldFound head input found = (head.own ≡ None) × IsFound (bare_machine head) input found

-- The bytes have a head, of a network that came from no plan, and this was found against the machine that it tells
pub record HasFound (bytes : List ℕ) (found : Found) : Type 0 where
  pub head : JournalHead
  pub told : IsHeadTold bytes head
  pub bare : head.own ≡ None
  pub is : IsFound (bare_machine head) (Some bytes) found

abbrev pub IsBareFound : Option (List ℕ) → Found → Type 0
IsBareFound input found = IfSome input (λ bytes. HasFound bytes found)

-- The head is none of a journal of a network of bounds alone: it tells a network that came from a plan, or one that can't be, or the machine
-- that it tells has another
abbrev pub IsOtherHead : JournalHead → Option (List ℕ) → Type 0
IsOtherHead head input =
    (¬ IsBareHead head) ⊎ IfSome input (λ bytes. HasOtherHead (bare_machine head) bytes)

abbrev pub HindersTold : JournalHead → Option (List ℕ) → AuditStop → Type 0
HindersTold head input Open = Unit {0}
HindersTold head input Network = Unit {0}
HindersTold head input Memory = Unit {0}
HindersTold head input Read = Unit {0}
HindersTold head input (Line n) = BreaksLog input n
HindersTold head input Head = IsOtherHead head input
HindersTold head input Write = ⊥

abbrev pub HindersBare : Option (List ℕ) → AuditStop → Type 0
HindersBare input Open = Unit {0}
HindersBare input Network = Unit {0}
HindersBare input Memory = Unit {0}
HindersBare input Read = Unit {0}
HindersBare input (Line n) = BreaksLog input n
HindersBare input Head =
    IfSome input (λ bytes. (head : JournalHead) × IsHeadTold bytes head × IsOtherHead head input)
HindersBare input Write = ⊥

-- ---- what is written

-- the file is a journal, and that was written with the number of its pairs
abbrev pub SaysJournal : Option (List ℕ) → Option (List ℕ) → Option (List ℕ) → Type 0
SaysJournal input held now =
    (pairs : ℕ) × IsBareFound input (found.Journal pairs)
    × Appends held now (found_line (found.Journal pairs))

-- an answer in it is not allowed, and that was written with the number of its line
abbrev pub SaysWrong : Option (List ℕ) → Option (List ℕ) → Option (List ℕ) → Type 0
SaysWrong input held now =
    (n : ℕ) × IsBareFound input (found.Wrong n) × Appends held now (found_line (found.Wrong n))

abbrev pub SaysBare : Option (List ℕ) → Option (List ℕ) → Option (List ℕ) → Bool → Type 0
SaysBare input held now true = SaysJournal input held now
SaysBare input held now false = SaysWrong input held now

-- nothing was written, or a first part of the line of what was found
abbrev pub SaysAuditPart : Option (List ℕ) → Option (List ℕ) → Option (List ℕ) → Type 0
SaysAuditPart input held now =
    Appends held now [] ⊎ ((f : Found) × IsBareFound input f × AppendsPart held now (found_line f))

-- why nothing, or not all, was written
abbrev pub StopsBareAudit : Option (List ℕ) → Option (List ℕ) → Option (List ℕ) → AuditStop → Type 0
StopsBareAudit input held now Open = now ≡ held
StopsBareAudit input held now Network = now ≡ held
StopsBareAudit input held now Memory = now ≡ held
StopsBareAudit input held now Read = now ≡ held
StopsBareAudit input held now (Line n) = BreaksLog input n × (now ≡ held)
StopsBareAudit input held now Head =
    IfSome input (λ bytes. (head : JournalHead) × IsHeadTold bytes head × IsOtherHead head input)
    × (now ≡ held)
StopsBareAudit input held now Write =
    (f : Found) × IsBareFound input f × AppendsPart held now (found_line f)

-- What hindered it with that status was told, and it is as it tells. A file that can't be read and a failed write are ones that the
-- counts of failures tell of.
pub record EndsBareAudit (input : Option (List ℕ)) (log : List ℕ) (status : ℕ)
    (held held-now : Option (List ℕ)) (unread unread-now : ℕ) (output output-now : ℕ)
    (failures : ℕ)
    (before : Option (List ℕ)) (failures-now : ℕ) (now : Option (List ℕ)) : Type 0 where
  pub stop : AuditStop
  pub is : stop_status stop ≡ status
  pub cause : StopsBareAudit input held held-now stop
  pub opened : unread-now ≡ raised (stop_unread stop) unread
  pub write : output-now ≡ say_failures {T = Unit {0}} output (Err stop)
  pub told : Tells (stop_text log stop) failures before failures-now now
