-- What was said of an initial state, as sets keep it.
use Rattle.std.specs.Prelude.{List, Bool}
use Rattle.std.specs.Borrow.{Bor}
use Rattle.std.specs.List.{list_any}
use Rattle.tp_syntax_ast.specs.Terms.{Fact, atom_view}
use Rattle.tp_syntax_ast.specs.Problems.{Initial, holds, fails, has_value, same_fact}
use Rattle.tp_syntax_ast.specs.declared.term.Atom.{Atom}
use Rattle.tp_syntax.specs.declared.clash.Said.{Said}

-- whether one of these atoms passes
abbrev pub any_atom : (Fact → Bool) → List (Bor Atom) → Bool
any_atom p ks = list_any (λ k. p (atom_view k.now)) ks

-- whether an entry disagrees with what was said
abbrev pub clashes : Said → Initial → Bool
clashes s (holds f) = any_atom (same_fact f) s.failed.keys
clashes s (fails f) = any_atom (same_fact f) s.held.keys
clashes s (has_value f v) = any_atom (same_fact f) s.valued.keys
