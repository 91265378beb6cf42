use Rattle.std.proofs.Common.{◌∙◌, ap, List, ℕ}
use Rattle.tp_cli_audit.specs.AuditLines.{stop_text}
use Rattle.tp_cli_draw.proofs.stops.journal_line.Goals as goal

pub returns-clause-text : goal.returns-clause-text
returns-clause-text c = c.audit_stop_line.ensures.text ∙ ap (λ (l : List ℕ). stop_text l c.args.stop) c.journal_of.ensures
