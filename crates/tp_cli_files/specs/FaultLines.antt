-- What goes to the faults.
use Rattle.std.specs.Prelude.{◌≡◌, ℕ, List, [], ◌++◌, Option, ◌≤◌, ◌⊎◌, codes, decimal}
use Rattle.std.specs.Io.KnownBytes.{Appends}
use Rattle.tp_device.specs.Bytes.{AppendsPart}
use Rattle.tp_cli_files.specs.declared.fault_lines.Detail.{Detail}
use Rattle.tp_cli_files.specs.declared.fault_lines.Detail.TheVariants.{Nothing, Number, Line, Construct, Name}
use Rattle.tp_cli_files.specs.declared.fault_lines.FaultLine.{FaultLine}
use Rattle.tp_cli_files.specs.Faults.{row}
use Rattle.tp_cli_files.specs.declared.faults.Fault.{Fault}
use Rattle.tp_cli_files.specs.declared.faults.Fault.TheVariants.{ArgumentsWords}

-- what stands behind the number and the word of a fault
abbrev pub detail_text : Detail → List ℕ
detail_text Nothing = []
detail_text (Number n) = codes " " ++ decimal n
detail_text (Line n) = codes " " ++ decimal n
detail_text (Construct at what) = (codes " " ++ decimal at) ++ (codes " " ++ what.now)
detail_text (Name name) = codes " " ++ name.now

-- the line of a fault, with this behind
abbrev pub line_with : Fault → List ℕ → List ℕ
line_with fault behind = ((codes "fault " ++ (row fault).part) ++ (codes " " ++ (row fault).words))
    ++ (behind ++ codes "\n")

-- with nothing behind
abbrev pub line_of : Fault → List ℕ
line_of fault = line_with fault []

-- with a place behind, or the number of a line
abbrev pub line_at : Fault → ℕ → List ℕ
line_at fault at = line_with fault (codes " " ++ decimal at)

-- with a name
abbrev pub line_named : Fault → List ℕ → List ℕ
line_named fault name = line_with fault (codes " " ++ name)

abbrev pub head_text : FaultLine → List ℕ
head_text line = (codes "fault " ++ line.part.now) ++ (codes " " ++ line.words.now)

-- the line `fault PART NUMBER WORD ..`
abbrev pub fault_text : FaultLine → List ℕ
fault_text line = head_text line ++ (detail_text line.detail ++ codes "\n")

-- its status is that of a fault: refused input, or memory or a device that is wanting
abbrev pub IsFault : FaultLine → Type 0
IsFault line = (2 ≤ line.status) × (line.status ≤ 3)

-- a text was written whole where the writer did not fail, and else a first part of it
pub record Tells (text : List ℕ) (failures : ℕ) (before : Option (List ℕ)) (failures-now : ℕ)
    (now : Option (List ℕ)) : Type 0 where
  pub part : AppendsPart before now text
  pub whole : failures-now ≡ failures → Appends before now text

-- a text is a line that begins with `fault`
abbrev pub IsFaultText : List ℕ → Type 0
IsFaultText text = (words : List ℕ) × (text ≡ codes "fault " ++ (words ++ codes "\n"))

-- a fault line was told, and behind it this
pub record TellsFault (more : List ℕ) (failures : ℕ) (before : Option (List ℕ)) (failures-now : ℕ)
    (now : Option (List ℕ)) : Type 0 where
  pub text : List ℕ
  pub is : IsFaultText text
  pub told : Tells (text ++ more) failures before failures-now now

-- the same; only behind the line of words that are refused may something stand
abbrev pub TellsRefusal : ℕ → ℕ → Option (List ℕ) → ℕ → Option (List ℕ) → Type 0
TellsRefusal status failures before failures-now now =
    TellsFault [] failures before failures-now now
    ⊎ ((status ≡ 2) × ((more : List ℕ)
    × Tells (line_of ArgumentsWords ++ more)
    failures before failures-now now))
