use Rattle.std.proofs.Common.{sym, ◌∙◌}
use Rattle.tp_syntax.proofs.OnProblemSections.{section_same}
use Rattle.tp_syntax.proofs.problem_sections.find_section.Goals as goal

pub returns : goal.returns
returns c = c.find_or_empty.ensures ∙ sym (section_same c.args.kind c.args.parts.now)
