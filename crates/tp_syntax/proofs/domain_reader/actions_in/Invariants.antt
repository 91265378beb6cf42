use Rattle.std.proofs.Common.{◌≡◌, map, drop}
use Rattle.tp_syntax_ast.specs.Gives.{with_front}
use Rattle.tp_syntax_scope.specs.SymbolViews.{symbols_view}
use Rattle.tp_syntax_ast.specs.Domains.{actions_in}
use Rattle.tp_syntax_ast.specs.DomainViews.{action_view}
use Rattle.tp_syntax.specs.SectionViews.{section_body_view}
use Rattle.tp_syntax.proofs.domain_reader.actions_in.Given as goal

abbrev pub invariant-loop-part : goal.invariant-loop-part
invariant-loop-part l = with_front (map action_view l.actions.items) (actions_in (symbols_view l.symbols) (map section_body_view (drop l.part-index l.parts))) ≡ actions_in (symbols_view l.symbols) (map section_body_view l.parts)
