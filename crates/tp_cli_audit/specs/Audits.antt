-- What the audit of a journal in a file finds, against an executive.
use Rattle.std.specs.Prelude.{◌≡◌, ℕ, ◌+◌, List, ◌++◌, Option, Bool, true, false, Result, Ok, Err, IfSome, codes, decimal}
use Rattle.std.specs.Io.KnownBytes.{Appends}
use Rattle.tp_exec_machine.specs.Machine.{Machine}
use Rattle.tp_script.specs.Pending.{Reading}
use Rattle.tp_journal_pairs.specs.Journal.{IsJournalText}
use Rattle.tp_journal.specs.Auditing.{BreaksLine, DisallowsAt, HasOtherHead}
use Rattle.tp_journal.specs.Replay.{LeadsTo}
use Rattle.tp_cli_audit.specs.declared.audit_lines.AuditStop.{AuditStop}
use Rattle.tp_cli_audit.specs.declared.audit_lines.AuditStop.TheVariants.{Open, Network, Memory, Read, Line, Head, Write}
use Rattle.tp_cli_audit.specs.declared.auditing.Found.{Found}
use Rattle.tp_cli_audit.specs.declared.auditing.Found.TheVariants.{Journal, Wrong}

-- Line n of the file breaks the format of journals: read from its first byte, at most 2^32 bytes
abbrev pub BreaksLog : Option (List ℕ) → ℕ → Type 0
BreaksLog input n =
    (start : Reading) × (after : Reading) × (start.rest ≡ input) × (start.taken ≡ 0)
    × (start.most ≡ 4_294_967_296) × (after.most ≡ 4_294_967_296) × BreaksLine start after n

-- What was found, where the file tells its bytes: they are a journal of the machine with so many pairs, or line n is an answer that it does
-- not allow
abbrev pub IsFound : Machine → Option (List ℕ) → Found → Type 0
IsFound machine input (Journal pairs) = IfSome input (λ bytes. IsJournalText machine bytes pairs)
IsFound machine input (Wrong n) = IfSome input (λ bytes. DisallowsAt machine bytes n)

-- where a journal was found, the machine comes to this one by it
abbrev pub Leads : Machine → Machine → Option (List ℕ) → Found → Type 0
Leads old new input (Journal pairs) = IfSome input (λ bytes. LeadsTo old bytes pairs new)
Leads old new input (Wrong n) = Unit {0}

-- what keeps an audit from an answer
abbrev pub Hinders : Machine → Option (List ℕ) → AuditStop → Type 0
Hinders machine input Open = Unit {0}
Hinders machine input Network = ⊥
Hinders machine input Memory = Unit {0}
Hinders machine input Read = Unit {0}
Hinders machine input (Line n) = BreaksLog input n
Hinders machine input Head = IfSome input (λ bytes. HasOtherHead machine bytes)
Hinders machine input Write = ⊥

-- what keeps a head from being read
abbrev pub HindersHead : Option (List ℕ) → AuditStop → Type 0
HindersHead input Open = Unit {0}
HindersHead input Network = ⊥
HindersHead input Memory = Unit {0}
HindersHead input Read = Unit {0}
HindersHead input (Line n) = BreaksLog input n
HindersHead input Head = ⊥
HindersHead input Write = ⊥

-- the line of what was found
abbrev pub found_line : Found → List ℕ
found_line (Journal pairs) = codes "audit ok " ++ (decimal pairs ++ codes "\n")
found_line (Wrong n) = codes "wrong " ++ (decimal n ++ codes "\n")

abbrev pub is_journal : Found → Bool
is_journal (Journal pairs) = true
is_journal (Wrong n) = false

-- the line of what was found was written, and the answer is whether it is a journal
abbrev pub Says : Found → Option (List ℕ) → Option (List ℕ) → Bool → Type 0
Says found held now said = (said ≡ is_journal found) × Appends held now (found_line found)

-- a write that failed is counted
abbrev pub say_failures : {T : Type 0} → ℕ → Result T AuditStop → ℕ
say_failures n (Ok x) = n
say_failures n (Err Open) = n
say_failures n (Err Network) = n
say_failures n (Err Memory) = n
say_failures n (Err Read) = n
say_failures n (Err (Line k)) = n
say_failures n (Err Head) = n
say_failures n (Err Write) = n + 1
