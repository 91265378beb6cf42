use Rattle.std.proofs.Common.{◌≡◌, ◌++◌, map, drop}
use Rattle.tp_syntax_ast.specs.Terms.{term_view, atom_view}
use Rattle.tp_ground_bindings.specs.Bindings.{object_for, words_in}
use Rattle.tp_ground_bindings.specs.Views.{env_view}
use Rattle.tp_ground_bindings.proofs.environment.words_in.Given as goal

abbrev pub invariant-loop-term : goal.invariant-loop-term
invariant-loop-term l = map (λ w. w.now) l.words.items ++ map (object_for (env_view l.env)) (map term_view (drop l.term-index l.atom.terms.items)) ≡ words_in (env_view l.env) (atom_view l.atom)
