-- Atoms that are lent, and the rows of what ':init' says that they hold.
use Rattle.std.specs.Prelude.{List, [], ◌∷◌, map, if◌then◌else◌}
use Rattle.std.specs.Borrow.{Bor}
use Rattle.std.specs.List.{flat_map}
use Rattle.std.specs.Str.{bytes_eq}
use Rattle.std.proofs.Common.{Vec, Global}
use Rattle.tp_syntax_ast.specs.Symbols.{Name}
use Rattle.tp_syntax_ast.specs.Terms.{Fact, atom_view}
use Rattle.tp_syntax_ast.specs.Problems.{Initial, holds, fails, has_value}
use Rattle.tp_syntax_ast.specs.declared.term.Atom.{Atom}
use Rattle.tp_ground_bindings.specs.Bindings.{object_for}
use Rattle.tp_ground_joins.specs.Views.{keyed_view}
use Rattle.tp_ground_joins.specs.declared.keyed.Keyed.{Keyed}

abbrev pub fact_seen : Bor Atom → Fact
fact_seen a = atom_view a.now

abbrev pub keyed_row : Vec Keyed Global → List Name
keyed_row v = map keyed_view v.items

-- the objects of an entry that says that an atom of this name holds
abbrev pub fact_of : Name → Initial → List (List Name)
fact_of n (holds f) = if bytes_eq f.name n then map (object_for []) f.arguments ∷ [] else []
fact_of n (fails f) = []
fact_of n (has_value f v) = []

abbrev pub facts_of : Name → List Initial → List (List Name)
facts_of n is = flat_map (fact_of n) is
