use Rattle.std.proofs.Common.{◌∙◌, ap, sym}
use Rattle.tp_script.specs.Serving.{read_failures}
use Rattle.std.specs.Prelude.{Ok, Err}
use Rattle.tp_exec_machine.specs.Machine.{Machine}
use Rattle.tp_script.specs.declared.serving.Served.{Served}
use Rattle.tp_cli_bare.proofs.BareLemmas.{answers_lines, answers_none, no_more_reads, no_write, same_failures, same_reads}
use Rattle.tp_cli_bare.proofs.bare.answer.Goals as goal

pub returns-in-Ok-clause-answers : goal.returns-in-Ok-clause-answers
returns-in-Ok-clause-answers g c =
    answers_lines c.serve.result c.of_network.result (c.args.events, c.args.horizon) c.in-Ok.executive c.serve.new.executive c.args.lines.now c.begin.new.lines c.serve.new.lines _ _ c.of_network.ensures c.in-Ok.ensures.begins c.serve.ensures.serves c.serve.ensures.all

pub returns-in-Ok-clause-told : goal.returns-in-Ok-clause-told
returns-in-Ok-clause-told g c = c.serve.ensures.write ∙ same_failures c.serve.result c.of_network.result _ c.of_network.ensures

pub returns-in-Err-clause-answers : goal.returns-in-Err-clause-answers
returns-in-Err-clause-answers g c = answers_none c.in-Err.fault (c.args.events, c.args.horizon) c.args.lines.now c.begin.new.lines _ c.in-Err.ensures.begins

pub returns-in-Err-clause-told : goal.returns-in-Err-clause-told
returns-in-Err-clause-told g c = sym (sym (no_write c.in-Err.fault _) ∙ c.in-Err.ensures.told _)

pub returns-in-Ok-clause-read : goal.returns-in-Ok-clause-read
returns-in-Ok-clause-read g c =
    c.serve.ensures.read ∙ (ap (λ n. read_failures n c.serve.result) c.in-Ok.ensures.read ∙ same_reads c.serve.result c.of_network.result _ c.of_network.ensures)

pub returns-in-Err-clause-read : goal.returns-in-Err-clause-read
returns-in-Err-clause-read g c = c.in-Err.ensures.read ∙ no_more_reads Machine Served c.in-Err.fault _
