-- What a printer hands over.
use Rattle.std.specs.Prelude.{◌≡◌, ℕ, List, Option, Result, Ok, Err}
use Rattle.tp_device.specs.declared.Failed.{Failed}
use Rattle.tp_device.specs.Bytes.{Writes, failures_after}
use Rattle.tp_syntax_print.specs.declared.printer.Printer.{Printer}

-- what the writer holds, how often it has failed, and what came of the print so far
pub record Progress : Type 0 where
  pub held : Option (List ℕ)
  pub failures : ℕ
  pub outcome : Result (Unit {0}) Failed

abbrev pub progress : {W : Type 0} → (W → Option (List ℕ)) → (W → ℕ) → Printer W → Progress
progress held failures p = record { held = held p.writer.now; failures = failures p.writer.now; outcome = p.outcome }

-- the bytes, or where the writer fails some first part of them; nothing once it has failed
abbrev pub HandsOver :
    Result (Unit {0}) Failed → Progress → Progress → List ℕ → Type 0
HandsOver (Ok x) old new bytes =
    Writes old.held new.held bytes new.outcome × (new.failures ≡ failures_after old.failures new.outcome)
HandsOver (Err e) old new bytes = new ≡ old

-- the printer of the same writer, after this text
pub record Prints {W : Type 0} (held : W → Option (List ℕ)) (failures : W → ℕ) (old new : Printer W) (text : List ℕ) : Type 0 where
  pub same : new.writer.ghost_name ≡ old.writer.ghost_name
  pub written : HandsOver old.outcome (progress held failures old) (progress held failures new) text
