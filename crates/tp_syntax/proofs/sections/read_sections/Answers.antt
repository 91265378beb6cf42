use Rattle.tp_syntax.proofs.OnKeyed.{gives_made}
use Rattle.tp_syntax.proofs.OnSections.{made, sections_same}
use Rattle.tp_syntax.proofs.sections.read_sections.Goals as goal

pub returns : goal.returns
returns c = gives_made made _ _ _ (sections_same _) c.read_parts.ensures
