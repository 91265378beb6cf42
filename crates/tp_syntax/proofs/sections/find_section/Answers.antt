use Rattle.std.proofs.Common.{sym, ◌∙◌}
use Rattle.tp_syntax.proofs.OnSections.{section_same}
use Rattle.tp_syntax.proofs.sections.find_section.Goals as goal

pub returns : goal.returns
returns c = c.find_or_empty.ensures ∙ sym (section_same c.args.wanted c.args.parts.now)
