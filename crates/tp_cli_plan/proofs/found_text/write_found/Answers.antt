use Rattle.tp_cli_plan.proofs.found_text.write_found.Goals as goal

pub returns-in-Unreachable-clause-bytes : goal.returns-in-Unreachable-clause-bytes
returns-in-Unreachable-clause-bytes g c = rw c.in-Unreachable.is c.push_all.ensures.bytes
