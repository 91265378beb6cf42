use Rattle.tp_cli_audit.proofs.going.go_on_behind.Goals as goal

pub returns-in-Ok-clause-goes : goal.returns-in-Ok-clause-goes
returns-in-Ok-clause-goes g c = (c.in-Ok.field-0, c.in-Ok.ensures.goes)

pub returns-in-Err-clause-cause : goal.returns-in-Err-clause-cause
returns-in-Err-clause-cause g c = (_, c.in-Err.ensures.goes)
