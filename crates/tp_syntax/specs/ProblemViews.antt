-- What a section of a problem shows.
use Rattle.tp_syntax_ast.specs.Terms.{shapes}
use Rattle.tp_syntax_ast.specs.Problems as problems
use Rattle.tp_syntax_ast.specs.declared.words.ProblemSection.{ProblemSection}
use Rattle.tp_syntax.specs.KeyedParts.{SectionItem}

abbrev pub section_body_view : SectionItem ProblemSection → problems.ProblemSectionBody
section_body_view p = record { section = p.kind; body = shapes p.body.now }
