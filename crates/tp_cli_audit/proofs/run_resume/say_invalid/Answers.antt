use Rattle.std.proofs.Common.{refl}
use Rattle.tp_cli_audit.proofs.run_resume.say_invalid.Goals as goal

pub returns-in-Ok-clause-said : goal.returns-in-Ok-clause-said
returns-in-Ok-clause-said g c = (refl, c.in-Ok.ensures.bytes)

pub returns-in-Err-clause-cause : goal.returns-in-Err-clause-cause
returns-in-Err-clause-cause g c = (refl, c.in-Err.ensures.bytes)
