use Rattle.std.proofs.Common.{sym, vec_len, arith}
use Rattle.std.proofs.lemmas.Bool.{eqb-true, eqb-false}
use Rattle.tp_text.proofs.OnTrees.{one_tree}
use Rattle.tp_text.proofs.tree.Builder.step.Goals as goal

pub returns-then-not-is_empty-clause-refused : goal.returns-then-not-is_empty-clause-refused
returns-then-not-is_empty-clause-refused c more =
    let none = eqb-true (vec_len c.args.self.now.outer) 0 (sym c.if-is_empty.ensures) in
    let some = eqb-false (vec_len c.args.self.now.items) 0 (sym c.if-not-is_empty.ensures) in
    one_tree c.args.self.now.outer.items c.args.self.now.items.items _ more c.requires
    (omega (arith, c.args.self.now.outer.ok, none))
    (λ e. some (omega (arith, c.args.self.now.items.ok, e)))
