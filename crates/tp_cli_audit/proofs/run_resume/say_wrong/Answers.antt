use Rattle.std.proofs.Common.{◌∙◌, ap, refl}
use Rattle.tp_cli_audit.specs.Audits.{say_failures}
use Rattle.std.specs.Prelude.{Bool, Err}
use Rattle.tp_cli_audit.proofs.run_resume.say_wrong.Goals as goal

pub returns-in-Ok-clause-said : goal.returns-in-Ok-clause-said
returns-in-Ok-clause-said g c = (refl, c.in-Ok.ensures.said.1)

pub returns-in-Err-clause-cause : goal.returns-in-Err-clause-cause
returns-in-Err-clause-cause g c = (refl, c.in-Err.ensures.part.1)

pub returns-in-Err-clause-failures : goal.returns-in-Err-clause-failures
returns-in-Err-clause-failures g c = c.in-Err.ensures.failures ∙ ap (λ s. say_failures {T = Bool} (g.O.Sink.failures c.args.output.now) (Err s)) c.in-Err.ensures.part.0
