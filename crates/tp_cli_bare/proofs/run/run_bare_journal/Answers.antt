use Rattle.std.proofs.Common.{◌∙◌, sym}
use Rattle.tp_cli_bare.proofs.LoggedLemmas.{part_then, refused_by}
use Rattle.tp_cli_bare.proofs.run.run_bare_journal.Goals as goal

pub returns-in-Err-clause-part : goal.returns-in-Err-clause-part
returns-in-Err-clause-part g c = λ other. part_then c.in-Err.stop _ _ _ _ _ c.in-Err.ensures.cause

pub returns-in-Err-clause-refused : goal.returns-in-Err-clause-refused
returns-in-Err-clause-refused g c =
    λ two. refused_by c.in-Err.stop _ _ _ _ _ c.in-Err.ensures.cause (sym (c.complain.ensures.status ∙ c.journal_stop_line.ensures.status) ∙ two)
