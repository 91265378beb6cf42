use Rattle.tp_cli_files.specs.FaultLines.{fault_text}
use Rattle.tp_cli_files.proofs.FaultLemmas.{is_fault_text, tells, tells_alone}
use Rattle.tp_cli_files.proofs.fault_lines.complain.Goals as goal

pub returns-clause-told : goal.returns-clause-told
returns-clause-told g c = tells c.write.result (fault_text c.args.line) _ _ _ _ c.write.ensures.bytes c.write.ensures.cause

pub returns-clause-fault : goal.returns-clause-fault
returns-clause-fault g c =
    tells_alone (fault_text c.args.line) _ _ _ _ (is_fault_text c.args.line) (tells c.write.result (fault_text c.args.line) _ _ _ _ c.write.ensures.bytes c.write.ensures.cause)
