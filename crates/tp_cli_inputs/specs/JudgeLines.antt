-- The lines of faults of texts, tasks and plans, and their exit statuses: 3 where memory or a device is wanting, and
-- else 2.
use Rattle.std.specs.Prelude.{ℕ, List, ◌++◌, Bool, false, codes, decimal}
use Rattle.tp_text.specs.declared.fault.TextFault.{TextFault}
use Rattle.tp_text.specs.declared.fault.TextFault.TheVariants as text_fault
use Rattle.tp_syntax_ast.specs.declared.fault.LeftOutPart.{LeftOutPart}
use Rattle.tp_syntax_ast.specs.declared.fault.LeftOutPart.TheVariants as left_out
use Rattle.tp_syntax_ast.specs.declared.fault.SyntaxFault.{SyntaxFault}
use Rattle.tp_syntax_ast.specs.declared.fault.SyntaxFault.TheVariants as syntax_fault
use Rattle.tp_task.specs.declared.fault.TooManyKind.{TooManyKind}
use Rattle.tp_task.specs.declared.fault.TooManyKind.TheVariants as kinds
use Rattle.tp_task.specs.declared.fault.GroundFault.{GroundFault}
use Rattle.tp_task.specs.declared.fault.GroundFault.TheVariants as ground_fault
use Rattle.tp_happen.specs.tp_plan_text.declared.reading.PlanFault.{PlanFault}
use Rattle.tp_happen.specs.tp_plan_text.declared.reading.PlanFault.TheVariants as plan_fault
use Rattle.tp_cli_files.specs.Causes.{file_unread}
use Rattle.tp_cli_files.specs.FaultLines.{line_at, line_named, line_of, line_with}
use Rattle.tp_cli_files.specs.declared.faults.Part.{Part}
use Rattle.tp_cli_files.specs.declared.faults.Part.TheVariants as parts
use Rattle.tp_cli_files.specs.declared.faults.Fault.TheVariants as faults
use Rattle.tp_cli_files.specs.FileFaults.{file_status, file_text}
use Rattle.tp_cli_files.specs.declared.files.FileFault.{FileFault}
use Rattle.tp_cli_files.specs.declared.files.FileFault.TheVariants as file_fault
use Rattle.tp_cli_inputs.specs.declared.judging.JudgeFault.{JudgeFault}
use Rattle.tp_cli_inputs.specs.declared.judging.JudgeFault.TheVariants.{DomainFile, Domain, ProblemFile, Problem, Task, PlanFile, Plan, Memory, Range}
use Rattle.tp_cli_inputs.specs.declared.plan_words.PlanWords.{PlanWords}

abbrev pub kind_text : TooManyKind → List ℕ
kind_text kinds.Objects = codes "objects"
kind_text kinds.Atoms = codes "atoms"
kind_text kinds.Fluents = codes "fluents"
kind_text kinds.Actions = codes "actions"

abbrev pub left_out_text : LeftOutPart → List ℕ
left_out_text left_out.When = codes "when"
left_out_text left_out.Division = codes "division"
left_out_text left_out.ScaleDown = codes "scale-down"
left_out_text left_out.Number = codes "number"
left_out_text left_out.AtEndDuration = codes "at-end-duration"
left_out_text left_out.DurationInCondition = codes "duration-in-condition"
left_out_text left_out.Continuous = codes "continuous"
left_out_text left_out.TimedLiteral = codes "timed-literal"
left_out_text left_out.Derived = codes "derived"
left_out_text left_out.Preference = codes "preference"
left_out_text left_out.Constraint = codes "constraint"
left_out_text left_out.ObjectFluent = codes "object-fluent"
left_out_text left_out.Either = codes "either"
left_out_text left_out.Operands = codes "operands"

abbrev pub text_status : TextFault → ℕ
text_status text_fault.Memory = 3
text_status _ = 2

-- a text that is no tree, by the part of the input that it is
abbrev pub text_text : Part → TextFault → List ℕ
text_text part text_fault.Memory = line_of (faults.TextMemory part)
text_text part text_fault.TooLong = line_of (faults.TextTooLong part)
text_text part (text_fault.BadByte at) = line_at (faults.TextBadByte part) at
text_text part (text_fault.Unclosed at) = line_at (faults.TextUnclosed part) at
text_text part (text_fault.Extra at) = line_at (faults.TextExtra part) at
text_text part (text_fault.Depth at) = line_at (faults.TextDepth part) at
text_text part text_fault.Empty = line_of (faults.TextEmpty part)

abbrev pub syntax_status : SyntaxFault → ℕ
syntax_status syntax_fault.Memory = 3
syntax_status (syntax_fault.Text fault) = text_status fault
syntax_status _ = 2

abbrev pub syntax_text : Part → SyntaxFault → List ℕ
syntax_text part syntax_fault.Memory = line_of (faults.Memory part)
syntax_text part (syntax_fault.Text fault) = text_text part fault
syntax_text part (syntax_fault.Shape at) = line_at (faults.Shape part) at
syntax_text part (syntax_fault.Unknown at) = line_at (faults.Unknown part) at
syntax_text part (syntax_fault.Twice at) = line_at (faults.Twice part) at
syntax_text part (syntax_fault.Types at) = line_at (faults.Types part) at
syntax_text part (syntax_fault.LeftOut at what) = line_with (faults.LeftOut part)
    ((codes " " ++ decimal at) ++ (codes " " ++ left_out_text what))

-- the file of a domain or a problem: one that is too long is a text that is
abbrev pub source_status : FileFault → ℕ
source_status fault = file_status fault

abbrev pub source_text : Part → FileFault → List ℕ → List ℕ
source_text part file_fault.Memory name = file_text part file_fault.Memory name
source_text part file_fault.Read name = file_text part file_fault.Read name
source_text part file_fault.Utf8 name = file_text part file_fault.Utf8 name
source_text part file_fault.TooLong name = line_of (faults.TextTooLong part)

abbrev pub ground_status : GroundFault → ℕ
ground_status ground_fault.Memory = 3
ground_status _ = 2

abbrev pub ground_text : GroundFault → List ℕ
ground_text ground_fault.Memory = line_of (faults.Memory parts.Ground)
ground_text (ground_fault.TooMany kind) = line_named faults.GroundTooMany (kind_text kind)
ground_text ground_fault.Range = line_of faults.GroundRange

abbrev pub plan_status : PlanFault → ℕ
plan_status plan_fault.Memory = 3
plan_status _ = 2

abbrev pub plan_text : PlanFault → List ℕ
plan_text plan_fault.Memory = line_of (faults.Memory parts.Plan)
plan_text (plan_fault.Line line) = line_at faults.PlanLine line
plan_text (plan_fault.NoAction line) = line_at faults.PlanNoAction line
plan_text (plan_fault.NotTicks line) = line_at faults.PlanNotTicks line
plan_text plan_fault.TooMany = line_of faults.PlanTooMany
plan_text (plan_fault.NoDuration line) = line_at faults.PlanNoDuration line
plan_text (plan_fault.Horizon line) = line_at faults.PlanHorizon line

abbrev pub judge_status : JudgeFault → ℕ
judge_status (DomainFile fault) = source_status fault
judge_status (Domain fault) = syntax_status fault
judge_status (ProblemFile fault) = source_status fault
judge_status (Problem fault) = syntax_status fault
judge_status (Task fault) = ground_status fault
judge_status (PlanFile fault) = file_status fault
judge_status (Plan fault) = plan_status fault
judge_status Memory = 3
judge_status Range = 2

abbrev pub judge_text : PlanWords → JudgeFault → List ℕ
judge_text w (DomainFile fault) = source_text parts.Domain fault w.domain.now
judge_text w (Domain fault) = syntax_text parts.Domain fault
judge_text w (ProblemFile fault) = source_text parts.Problem fault w.problem.now
judge_text w (Problem fault) = syntax_text parts.Problem fault
judge_text w (Task fault) = ground_text fault
judge_text w (PlanFile fault) = file_text parts.Plan fault w.plan.now
judge_text w (Plan fault) = plan_text fault
judge_text w Memory = line_of (faults.Memory parts.Check)
judge_text w Range = line_of faults.CheckRange

-- a file can't be read
abbrev pub judge_unread : JudgeFault → Bool
judge_unread (DomainFile fault) = file_unread fault
judge_unread (Domain fault) = false
judge_unread (ProblemFile fault) = file_unread fault
judge_unread (Problem fault) = false
judge_unread (Task fault) = false
judge_unread (PlanFile fault) = file_unread fault
judge_unread (Plan fault) = false
judge_unread Memory = false
judge_unread Range = false
