-- The status of a fault is that of refused input, or of memory or a device that is wanting.
use Rattle.std.proofs.Common.{◌≤◌, ℕ, arith}
use Rattle.tp_text.specs.declared.fault.TextFault.{TextFault}
use Rattle.tp_text.specs.declared.fault.TextFault.TheVariants as text_fault
use Rattle.tp_syntax_ast.specs.declared.fault.SyntaxFault.{SyntaxFault}
use Rattle.tp_syntax_ast.specs.declared.fault.SyntaxFault.TheVariants as syntax_fault
use Rattle.tp_task.specs.declared.fault.GroundFault.{GroundFault}
use Rattle.tp_task.specs.declared.fault.GroundFault.TheVariants as ground_fault
use Rattle.tp_happen.specs.tp_plan_text.declared.reading.PlanFault.{PlanFault}
use Rattle.tp_happen.specs.tp_plan_text.declared.reading.PlanFault.TheVariants as plan_fault
use Rattle.tp_deorder.specs.declared.DeorderFault.{DeorderFault}
use Rattle.tp_deorder.specs.declared.DeorderFault.TheVariants as deorder_fault
use Rattle.tp_script.specs.declared.serving.ServeFault.TheVariants as serving
use Rattle.tp_cli_files.specs.FileFaults.{file_status}
use Rattle.tp_cli_files.specs.declared.files.FileFault.{FileFault}
use Rattle.tp_cli_files.specs.declared.files.FileFault.TheVariants as file_fault
use Rattle.tp_cli_bare.specs.ServeLines.{bare_status}
use Rattle.tp_cli_bare.specs.declared.bare.BareFault.{BareFault}
use Rattle.tp_cli_bare.specs.declared.bare.BareFault.TheVariants as bare
use Rattle.tp_cli_inputs.specs.JudgeLines.{ground_status, judge_status, plan_status, syntax_status, text_status}
use Rattle.tp_cli_inputs.specs.declared.judging.JudgeFault.{JudgeFault}
use Rattle.tp_cli_inputs.specs.declared.judging.JudgeFault.TheVariants as judge_fault
use Rattle.tp_cli_run.specs.RunLines.{network_status, run_status}
use Rattle.tp_cli_run.specs.declared.run_lines.RunStop.{RunStop}
use Rattle.tp_cli_run.specs.declared.run_lines.RunStop.TheVariants.{Judging, Network, Answering, Write}

abbrev pub IsStatus : ℕ → Type 0
IsStatus n = (2 ≤ n) × (n ≤ 3)

pub two : IsStatus 2
two = (omega arith, omega arith)

pub three : IsStatus 3
three = (omega arith, omega arith)

file_is : (fault : FileFault) → IsStatus (file_status fault)
file_is file_fault.Memory = three
file_is file_fault.Read = three
file_is file_fault.Utf8 = two
file_is file_fault.TooLong = two

text_is : (fault : TextFault) → IsStatus (text_status fault)
text_is text_fault.Memory = three
text_is text_fault.TooLong = two
text_is (text_fault.BadByte at) = two
text_is (text_fault.Unclosed at) = two
text_is (text_fault.Extra at) = two
text_is (text_fault.Depth at) = two
text_is text_fault.Empty = two

syntax_is : (fault : SyntaxFault) → IsStatus (syntax_status fault)
syntax_is syntax_fault.Memory = three
syntax_is (syntax_fault.Text fault) = text_is fault
syntax_is (syntax_fault.Shape at) = two
syntax_is (syntax_fault.Unknown at) = two
syntax_is (syntax_fault.Twice at) = two
syntax_is (syntax_fault.Types at) = two
syntax_is (syntax_fault.LeftOut at what) = two

ground_is : (fault : GroundFault) → IsStatus (ground_status fault)
ground_is ground_fault.Memory = three
ground_is (ground_fault.TooMany kind) = two
ground_is ground_fault.Range = two

plan_is : (fault : PlanFault) → IsStatus (plan_status fault)
plan_is plan_fault.Memory = three
plan_is (plan_fault.Line line) = two
plan_is (plan_fault.NoAction line) = two
plan_is (plan_fault.NotTicks line) = two
plan_is plan_fault.TooMany = two
plan_is (plan_fault.NoDuration line) = two
plan_is (plan_fault.Horizon line) = two

pub judge_is : (fault : JudgeFault) → IsStatus (judge_status fault)
judge_is (judge_fault.DomainFile fault) = file_is fault
judge_is (judge_fault.Domain fault) = syntax_is fault
judge_is (judge_fault.ProblemFile fault) = file_is fault
judge_is (judge_fault.Problem fault) = syntax_is fault
judge_is (judge_fault.Task fault) = ground_is fault
judge_is (judge_fault.PlanFile fault) = file_is fault
judge_is (judge_fault.Plan fault) = plan_is fault
judge_is judge_fault.Memory = three
judge_is judge_fault.Range = two

pub network_is : (fault : DeorderFault) → IsStatus (network_status fault)
network_is deorder_fault.Memory = three
network_is deorder_fault.TooMany = two

pub bare_is : (fault : BareFault) → IsStatus (bare_status fault)
bare_is bare.Network = three
bare_is (bare.Serving serving.Read) = three
bare_is (bare.Serving serving.Write) = three
bare_is (bare.Serving serving.Memory) = three
bare_is (bare.Serving serving.TooLong) = two
bare_is (bare.Serving serving.Head) = two

pub run_is : (stop : RunStop) → IsStatus (run_status stop)
run_is (Judging fault) = judge_is fault
run_is (Network fault) = network_is fault
run_is (Answering fault) = bare_is fault
run_is Write = three
