use Rattle.std.proofs.Common.{◌||◌, Bool, Bor, refl, sym, ap, ◌∙◌}
use Rattle.tp_syntax_ast.specs.Problems.{clash}
use Rattle.tp_syntax.specs.Clashes.{clashes}
use Rattle.tp_syntax_ast.specs.DomainViews.{initial_view}
use Rattle.tp_syntax_ast.specs.declared.problem.Initial.{Initial}
use Rattle.tp_syntax_ast.specs.declared.term.Atom.{Atom}
use Rattle.tp_syntax_ast.specs.contracts.term.AtomPartialEq.TheImpl as atoms
use Rattle.tp_syntax.proofs.OnAtoms.{atom_is}
use Rattle.tp_syntax.proofs.OnClashes.{seen_is, held_put, failed_put, valued_put, not_new}
use Rattle.tp_syntax.proofs.clash.Said.add.Goals as goal

abbrev same_atom : Bor Atom → Bor Atom → Bool
same_atom x y = (atoms.ghosts).eq x.now y.now

pub returns-in_ok-insert-in-Holds-clause-clashes : goal.returns-in_ok-insert-in-Holds-clause-clashes
returns-in_ok-insert-in-Holds-clause-clashes c =
    c.contains.ensures ∙ seen_is same_atom (λ a b. atom_is a.now b.now) (record { ref_ptr = (0, 0); now = c.in-Holds.atom }) c.args.self.now.failed.keys
    ∙ ap (λ (e : Initial). clashes c.args.self.now (initial_view e)) (sym c.in-Holds.is)

pub returns-in_ok-insert-in-Holds-clause-noted : goal.returns-in_ok-insert-in-Holds-clause-noted
returns-in_ok-insert-in-Holds-clause-noted c = λ i.
    held_put same_atom (λ a b. atom_is a.now b.now) c.args.self.now (record { held = c.insert.new.self; failed = c.args.self.now.failed; valued = c.args.self.now.valued }) _ c.in_ok-insert-in-Holds.ensures.keys refl refl i
    ∙ ap (λ (e : Initial). clashes c.args.self.now i || clash i (initial_view e)) (sym c.in-Holds.is)

pub returns-in_ok-insert-in-Fails-clause-clashes : goal.returns-in_ok-insert-in-Fails-clause-clashes
returns-in_ok-insert-in-Fails-clause-clashes c =
    c.contains-in-Fails.ensures ∙ seen_is same_atom (λ a b. atom_is a.now b.now) (record { ref_ptr = (0, 0); now = c.in-Fails.atom }) c.args.self.now.held.keys
    ∙ ap (λ (e : Initial). clashes c.args.self.now (initial_view e)) (sym c.in-Fails.is)

pub returns-in_ok-insert-in-Fails-clause-noted : goal.returns-in_ok-insert-in-Fails-clause-noted
returns-in_ok-insert-in-Fails-clause-noted c = λ i.
    failed_put same_atom (λ a b. atom_is a.now b.now) c.args.self.now (record { held = c.args.self.now.held; failed = c.insert-in-Fails.new.self; valued = c.args.self.now.valued }) _ refl c.in_ok-insert-in-Fails.ensures.keys refl i
    ∙ ap (λ (e : Initial). clashes c.args.self.now i || clash i (initial_view e)) (sym c.in-Fails.is)

pub returns-in_ok-new-in-HasValue-clause-clashes : goal.returns-in_ok-new-in-HasValue-clause-clashes
returns-in_ok-new-in-HasValue-clause-clashes c =
    not_new _ _ c.in_ok-new-in-HasValue.ensures.added
    ∙ seen_is same_atom (λ a b. atom_is a.now b.now) (record { ref_ptr = (0, 0); now = c.in-HasValue.fluent }) c.args.self.now.valued.keys
    ∙ ap (λ (e : Initial). clashes c.args.self.now (initial_view e)) (sym c.in-HasValue.is)

pub returns-in_ok-new-in-HasValue-clause-noted : goal.returns-in_ok-new-in-HasValue-clause-noted
returns-in_ok-new-in-HasValue-clause-noted c = λ i.
    valued_put same_atom (λ a b. atom_is a.now b.now) c.args.self.now (record { held = c.args.self.now.held; failed = c.args.self.now.failed; valued = c.insert-in-HasValue.new.self }) _ c.in-HasValue.field-1 refl refl c.in_ok-new-in-HasValue.ensures.keys i
    ∙ ap (λ (e : Initial). clashes c.args.self.now i || clash i (initial_view e)) (sym c.in-HasValue.is)
