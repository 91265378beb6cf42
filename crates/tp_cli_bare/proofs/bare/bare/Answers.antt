use Rattle.std.proofs.Common.{subst}
use Rattle.std.specs.Prelude.{IfErr, OnErr, OnOk}
use Rattle.tp_script.specs.Pending.{Reading}
use Rattle.tp_cli_bare.specs.Bare.{AnswersAll, AnswersPart, BareStops}
use Rattle.tp_cli_bare.proofs.bare.bare.Goals as goal

pub returns-clause-all : goal.returns-clause-all
returns-clause-all g c =
    subst (λ (l : Reading). OnOk c.answer_all-served.result (AnswersAll l.rest (g.O.Sink.held c.args.output.now) (g.O.Sink.held c.answer_all-served.new.output))) c.new-lines.ensures c.answer_all-served.ensures.all

pub returns-clause-part : goal.returns-clause-part
returns-clause-part g c =
    subst (λ (l : Reading). OnErr c.answer_all-served.result (AnswersPart l.rest (g.O.Sink.held c.args.output.now) (g.O.Sink.held c.answer_all-served.new.output))) c.new-lines.ensures c.answer_all-served.ensures.part

pub returns-clause-cause : goal.returns-clause-cause
returns-clause-cause g c =
    subst (λ (l : Reading). IfErr c.answer_all-served.result (BareStops l.rest (g.O.Sink.held c.args.output.now) (g.O.Sink.held c.answer_all-served.new.output))) c.new-lines.ensures c.answer_all-served.ensures.cause
