use Rattle.tp_exec_machine.specs.Machine.{Machine}
use Rattle.tp_script.specs.declared.serving.Served.{Served}
use Rattle.tp_cli_bare.proofs.BareLemmas.{serve_reads}
use Rattle.tp_task.specs.Bounds.{MeetsBounds}
use Rattle.tp_validate.specs.OfTask.{plan_of, scale_of, state_at}
use Rattle.tp_deorder.specs.Inequalities.{event_count_of}
use Rattle.tp_cli_run.proofs.AnswerLemmas.{answers_all, answers_none, answers_some, transcript_keeps}
use Rattle.tp_cli_run.proofs.answering.answer_lines.Goals as goal

pub returns-in-Ok-serve-clause-answers : goal.returns-in-Ok-serve-clause-answers
returns-in-Ok-serve-clause-answers g c =
    answers_all c.args.network.now c.in-Ok.executive c.serve.new.executive c.args.lines.now c.start.new.lines c.serve.new.lines _ _ c.in-Ok-serve.field-0 c.in-Ok.ensures.begins c.in-Ok-serve.ensures.serves

pub returns-in-Ok-serve-clause-came : goal.returns-in-Ok-serve-clause-came
returns-in-Ok-serve-clause-came g c =
    λ t steps net.
    let serves = c.in-Ok-serve.ensures.serves in
    transcript_keeps (event_count_of (plan_of t steps)) (MeetsBounds (scale_of t) (state_at t steps) (plan_of t steps)) serves.lines c.in-Ok.executive c.serve.new.executive serves.text (c.in-Ok.ensures.came t steps net) serves.ran

pub returns-in-Err-serve-clause-answers : goal.returns-in-Err-serve-clause-answers
returns-in-Err-serve-clause-answers g c =
    answers_some c.args.network.now c.in-Ok.executive c.serve.new.executive c.args.lines.now c.start.new.lines c.serve.new.lines _ _ c.in-Err-serve.fault c.in-Ok.ensures.begins c.in-Err-serve.ensures.serves

pub returns-in-Err-clause-answers : goal.returns-in-Err-clause-answers
returns-in-Err-clause-answers g c = answers_none c.in-Err.fault c.args.network.now c.args.lines.now c.start.new.lines _ c.in-Err.ensures.begins

pub returns-in-Err-serve-clause-read : goal.returns-in-Err-serve-clause-read
returns-in-Err-serve-clause-read g c = serve_reads Served Machine c.in-Err-serve.fault _ _ _ c.in-Err-serve.ensures.read c.in-Ok.ensures.read
