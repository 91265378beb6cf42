use Rattle.std.proofs.Common.{codes}
use Rattle.clap.specs.Words.{found_of, rows_of}
use Rattle.tp_cli_args.proofs.RefusalLemmas.{none_asked}
use Rattle.tp_cli_args.proofs.arguments.asked_by.Goals as goal

pub returns-in-audit-clause-refused : goal.returns-in-audit-clause-refused
returns-in-audit-clause-refused c =
    none_asked c.audit_asked.result c.args.name.now (codes "audit") (rows_of (found_of c.args.matches.now)) c.in-audit.is c.audit_asked.ensures.refused

pub returns-in-split-clause-refused : goal.returns-in-split-clause-refused
returns-in-split-clause-refused c =
    none_asked c.split_asked.result c.args.name.now (codes "split") (rows_of (found_of c.args.matches.now)) c.in-split.is c.split_asked.ensures.refused
