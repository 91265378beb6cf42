-- Fault lines that are written in parts.
use Rattle.std.proofs.Common.{◌≡◌, ◌+◌, ℕ, List, [], ◌++◌, Option, append_assoc, append-nil, ap, arith, codes, length, refl, subst, sym, take}
use Rattle.std.proofs.Math.Seq.{take-length}
use Rattle.std.specs.Prelude.{Result, Ok, Err, IsErrAnd}
use Rattle.std.specs.Io.KnownBytes.{Appends}
use Rattle.tp_device.specs.Bytes.{AppendsPart, Writes, failures_after}
use Rattle.tp_device.specs.declared.Failed.{Failed}
use Rattle.tp_device.proofs.Parts.{appends_is, part_first}
use Rattle.tp_cli_files.specs.FaultLines.{IsFaultText, Tells, TellsFault, detail_text, fault_text}
use Rattle.tp_cli_files.specs.declared.fault_lines.FaultLine.{FaultLine}

pub whole_part : (old new : Option (List ℕ)) (xs : List ℕ) → Appends old new xs → AppendsPart old new xs
whole_part old new xs h =
    record {
      count = length xs;
      within = omega arith;
      held = appends_is old new xs (take (length xs) xs) (sym (take-length xs)) h;
    }

-- where the first part is not written whole, a first part of all is written
pub stops_first : {T : Type 0} (Q : Failed → Type 0) (r : Result T Failed) (old new : Option (List ℕ)) (first rest : List ℕ) → IsErrAnd r Q → AppendsPart old new first → Writes old new (first ++ rest) r
stops_first Q (Ok x) old new first rest is part = absurd is
stops_first Q (Err e) old new first rest is part = part_first old new first rest _ refl part

pub tells : {T : Type 0} (r : Result T Failed) (text : List ℕ) (failures failures-now : ℕ) (before now : Option (List ℕ)) → Writes before now text r → failures-now ≡ failures_after failures r → Tells text failures before failures-now now
tells (Ok x) text failures failures-now before now written counted = record { part = whole_part before now text written; whole = λ same. written }
tells (Err e) text failures failures-now before now written counted =
    record {
      part = written;
      whole = λ same.
          let no : ⊥ = omega (arith, same, counted) in
          absurd no;
    }

pub is_fault_text : (line : FaultLine) → IsFaultText (fault_text line)
is_fault_text line =
    let head : List ℕ = line.part.now ++ (codes " " ++ line.words.now) in
    (head ++ detail_text line.detail, ap (λ t. codes "fault " ++ t) (sym (append_assoc head (detail_text line.detail) (codes "\n"))))

-- a fault line alone
pub tells_alone : (text : List ℕ) (failures failures-now : ℕ) (before now : Option (List ℕ)) → IsFaultText text → Tells text failures before failures-now now → TellsFault [] failures before failures-now now
tells_alone text failures failures-now before now is told =
    record { text = text; is = is; told = subst (λ t. Tells t failures before failures-now now) (sym (append-nil text)) told }
