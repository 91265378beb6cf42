use Rattle.std.proofs.Common.{◌++◌}
use Rattle.tp_cli_files.specs.FaultLines.{fault_text}
use Rattle.tp_cli_files.proofs.FaultLemmas.{tells}
use Rattle.tp_cli_files.proofs.fault_lines.complain_more.Goals as goal

pub returns-clause-told : goal.returns-clause-told
returns-clause-told g c = tells c.write_more.result (fault_text c.args.line ++ c.args.more.now) _ _ _ _ c.write_more.ensures.bytes c.write_more.ensures.cause
