-- The journal that a run goes on from.
use Rattle.std.specs.Prelude.{◌≡◌, ℕ, List, ◌++◌, Option, IfSome}
use Rattle.tp_exec_machine.specs.Machine.{Machine}
use Rattle.tp_journal.specs.Auditing.{DisallowsAt}
use Rattle.tp_journal.specs.Replay.{IsTornPair, LeadsTo}
use Rattle.tp_cli_audit.specs.declared.audit_lines.AuditStop.{AuditStop}
use Rattle.tp_cli_audit.specs.declared.audit_lines.AuditStop.TheVariants.{Open, Network, Memory, Read, Line, Head, Write}
use Rattle.tp_cli_audit.specs.declared.old.Taken.{Taken}
use Rattle.tp_cli_audit.specs.declared.old.Taken.TheVariants.{Goes, Wrong}

-- these are the bytes of a file, where it tells them, up to the last whole pair: what is behind them is nothing, or a pair that was cut off
pub record IsKept (old : Option (List ℕ)) (kept : List ℕ) : Type 0 where
  pub torn : List ℕ
  pub whole : IfSome old (λ bytes. bytes ≡ kept ++ torn)
  pub is_torn : IsTornPair torn

-- the file gave no bytes
abbrev pub IsUnread : AuditStop → Type 0
IsUnread Open = Unit {0}
IsUnread Network = ⊥
IsUnread Memory = Unit {0}
IsUnread Read = Unit {0}
IsUnread (Line n) = ⊥
IsUnread Head = ⊥
IsUnread Write = ⊥

-- this is no failed write
abbrev pub IsQuiet : AuditStop → Type 0
IsQuiet Open = Unit {0}
IsQuiet Network = Unit {0}
IsQuiet Memory = Unit {0}
IsQuiet Read = Unit {0}
IsQuiet (Line n) = Unit {0}
IsQuiet Head = Unit {0}
IsQuiet Write = ⊥

-- the bytes are a journal of a machine that begins so, and the run is as that leaves it; or the answer on line n is not allowed
abbrev pub IsTaken : Machine → List ℕ → Taken → Type 0
IsTaken old kept (Goes run) =
    (pairs : ℕ) × LeadsTo old kept pairs run.executive × (run.kept.items ≡ kept)
IsTaken old kept (Wrong n) = DisallowsAt old kept n
