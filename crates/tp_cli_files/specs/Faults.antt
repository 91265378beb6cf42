-- The table of faults.
use Rattle.std.specs.Prelude.{ℕ, List, codes}
use Rattle.tp_cli_files.specs.declared.faults.Part.{Part}
use Rattle.tp_cli_files.specs.declared.faults.Part.TheVariants as parts
use Rattle.tp_cli_files.specs.declared.faults.Fault.{Fault}
use Rattle.tp_cli_files.specs.declared.faults.Fault.TheVariants as faults

-- part, number and word of a fault's line, and the exit status
pub record Row : Type 0 where
  pub part : List ℕ
  pub words : List ℕ
  pub status : ℕ

abbrev pub part_text : Part → List ℕ
part_text parts.Domain = codes "domain"
part_text parts.Problem = codes "problem"
part_text parts.Ground = codes "ground"
part_text parts.Plan = codes "plan"
part_text parts.Check = codes "check"
part_text parts.Search = codes "search"
part_text parts.Net = codes "net"
part_text parts.Run = codes "run"
part_text parts.Split = codes "split"
part_text parts.Journal = codes "journal"
part_text parts.Draw = codes "draw"

-- 2 where the input is refused, 3 where memory or a device is wanting
abbrev pub refused : List ℕ → List ℕ → Row
refused part words = record { part = part; words = words; status = 2 }

abbrev pub out_of_order : List ℕ → List ℕ → Row
out_of_order part words = record { part = part; words = words; status = 3 }

abbrev pub row : Fault → Row
row faults.ArgumentsWords = refused (codes "arguments") (codes "1 words")
row faults.ArgumentsMemory = out_of_order (codes "arguments") (codes "2 memory")
row faults.FileRead = out_of_order (codes "file") (codes "1 read")
row faults.FileUtf8 = refused (codes "file") (codes "2 utf8")
row faults.FileTooLong = refused (codes "file") (codes "3 too-long")
row (faults.TextMemory part) = out_of_order (part_text part) (codes "2 text 1 memory")
row (faults.TextTooLong part) = refused (part_text part) (codes "2 text 2 too-long")
row (faults.TextBadByte part) = refused (part_text part) (codes "2 text 3 bad-byte")
row (faults.TextUnclosed part) = refused (part_text part) (codes "2 text 4 unclosed")
row (faults.TextExtra part) = refused (part_text part) (codes "2 text 5 extra")
row (faults.TextDepth part) = refused (part_text part) (codes "2 text 6 depth")
row (faults.TextEmpty part) = refused (part_text part) (codes "2 text 7 empty")
row (faults.Shape part) = refused (part_text part) (codes "3 shape")
row (faults.Unknown part) = refused (part_text part) (codes "4 unknown")
row (faults.Twice part) = refused (part_text part) (codes "5 twice")
row (faults.Types part) = refused (part_text part) (codes "6 types")
row (faults.LeftOut part) = refused (part_text part) (codes "7 left-out")
row faults.GroundTooMany = refused (codes "ground") (codes "2 too-many")
row faults.GroundRange = refused (codes "ground") (codes "3 range")
row faults.PlanLine = refused (codes "plan") (codes "2 line")
row faults.PlanNoAction = refused (codes "plan") (codes "3 no-action")
row faults.PlanNotTicks = refused (codes "plan") (codes "4 not-ticks")
row faults.PlanTooMany = refused (codes "plan") (codes "5 too-many")
row faults.PlanNoDuration = refused (codes "plan") (codes "6 no-duration")
row faults.PlanHorizon = refused (codes "plan") (codes "7 horizon")
row faults.CheckRange = refused (codes "check") (codes "2 range")
row faults.SearchRange = refused (codes "search") (codes "2 range")
row faults.NetTooMany = refused (codes "net") (codes "2 too-many")
row faults.SplitOwner = refused (codes "split") (codes "2 owner")
row faults.SplitConflict = refused (codes "split") (codes "3 conflict")
row faults.SplitAgent = refused (codes "split") (codes "4 agent")
row faults.SplitTooMany = refused (codes "split") (codes "5 too-many")
row faults.ScriptRead = out_of_order (codes "script") (codes "1 read")
row faults.ScriptWrite = out_of_order (codes "script") (codes "2 write")
row faults.ScriptMemory = out_of_order (codes "script") (codes "3 memory")
row faults.ScriptTooLong = refused (codes "script") (codes "4 too-long")
row faults.ScriptHead = refused (codes "script") (codes "5 head")
row faults.ScriptLog = out_of_order (codes "script") (codes "6 log")
row faults.JournalRead = out_of_order (codes "journal") (codes "2 read")
row faults.JournalLine = refused (codes "journal") (codes "3 line")
row faults.JournalHead = refused (codes "journal") (codes "5 head")
row (faults.Memory part) = out_of_order (part_text part) (codes "1 memory")
