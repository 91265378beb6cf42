use Rattle.std.proofs.Common.{ap}
use Rattle.tp_script.specs.Pending.{Reading}
use Rattle.tp_cli_run.proofs.AnswerLemmas.{lines_stop, lines_whole}
use Rattle.tp_cli_run.proofs.answering.answer.Goals as goal

pub returns-clause-whole : goal.returns-clause-whole
returns-clause-whole g c =
    lines_whole c.answer_lines-answered.result c.args.network.now _ _ _ c.new-lines.result c.answer_lines-answered.new.lines (ap (λ (l : Reading). l.rest) c.new-lines.ensures) (ap (λ (l : Reading). l.taken) c.new-lines.ensures) (ap (λ (l : Reading). l.most) c.new-lines.ensures) c.answer_lines-answered.ensures.answers

pub returns-clause-cause : goal.returns-clause-cause
returns-clause-cause g c =
    lines_stop c.answer_lines-answered.result c.args.network.now _ _ _ c.new-lines.result c.answer_lines-answered.new.lines (ap (λ (l : Reading). l.rest) c.new-lines.ensures) (ap (λ (l : Reading). l.taken) c.new-lines.ensures) (ap (λ (l : Reading). l.most) c.new-lines.ensures) c.answer_lines-answered.ensures.most c.answer_lines-answered.ensures.answers
