use Rattle.std.proofs.Common.{◌≡◌, ◌∷◌, map, drop, take, true}
use Rattle.tp_syntax_ast.specs.Symbols.{parent_view}
use Rattle.tp_syntax_ast.specs.Domains.{object, mentioned}
use Rattle.tp_syntax_types.specs.Among.{has_mark}
use Rattle.tp_syntax_ast.specs.Shared.{parent_in}
use Rattle.tp_syntax_ast.specs.Rows.{last_of}
use Rattle.tp_syntax_scope.specs.SignatureViews.{to_mention}
use Rattle.tp_syntax_scope.proofs.type_reader.mentioned.Given as goal

abbrev pub invariant-loop-place : goal.invariant-loop-place
invariant-loop-place l = record {
  done : to_mention l.done.items l.known (map parent_view (drop l.place l.types)) ≡ mentioned (object ∷ map (λ p. p.name) (map parent_view l.types)) (map parent_view l.types);
  known : has_mark l.known (last_of object (map parent_in (take l.place l.types))) ≡ true;
}
