use Rattle.std.proofs.Common.{codes, refl}
use Rattle.tp_device.proofs.Parts.{writes_after}
use Rattle.tp_happen.specs.tp_plan_text.PlanPrints.{plan_text}
use Rattle.tp_happen.specs.tp_plan_text.TaskWords.{readable}
use Rattle.tp_cli_files.proofs.FaultLemmas.{stops_first}
use Rattle.tp_cli_run.proofs.plan_of_run.write_lines.Goals as goal

pub returns-in_err-push_all-clause-bytes : goal.returns-in_err-push_all-clause-bytes
returns-in_err-push_all-clause-bytes g c =
    stops_first _ c.from_residual.result (g.O.Sink.held c.args.output.now) (g.O.Sink.held c.push_all.new.writer) (codes "plan\n") (plan_text (readable c.args.task.now) c.args.run.now) c.from_residual.ensures.1 c.in_err-push_all.ensures.bytes

pub returns-clause-bytes : goal.returns-clause-bytes
returns-clause-bytes g c =
    writes_after c.print_plan.result (g.O.Sink.held c.args.output.now) (g.O.Sink.held c.push_all.new.writer) (g.O.Sink.held c.print_plan.new.writer) (codes "plan\n") (plan_text (readable c.args.task.now) c.args.run.now) _ refl c.in_ok-push_all.ensures.bytes c.print_plan.ensures.bytes
