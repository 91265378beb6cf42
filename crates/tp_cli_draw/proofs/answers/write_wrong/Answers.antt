use Rattle.std.proofs.Common.{◌∙◌, ap, refl, Bool}
use Rattle.std.specs.Prelude.{Err}
use Rattle.tp_cli_audit.specs.Audits.{say_failures}
use Rattle.tp_cli_draw.proofs.answers.write_wrong.Goals as goal

pub returns-in-Ok-clause-written : goal.returns-in-Ok-clause-written
returns-in-Ok-clause-written g c = (refl, c.in-Ok.ensures.said.1)

pub returns-in-Err-clause-part : goal.returns-in-Err-clause-part
returns-in-Err-clause-part g c = (refl, c.in-Err.ensures.part.1)

pub returns-in-Err-clause-failures : goal.returns-in-Err-clause-failures
returns-in-Err-clause-failures g c = c.in-Err.ensures.failures ∙ ap (λ s. say_failures {T = Bool} (g.O.Sink.failures c.args.output.now) (Err s)) c.in-Err.ensures.part.0
