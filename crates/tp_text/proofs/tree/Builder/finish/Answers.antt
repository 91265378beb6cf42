use Rattle.std.proofs.Common.{refl, arith}
use Rattle.tp_text.specs.Trees.{built}
use Rattle.tp_text.proofs.OnTrees.{stays_open, nothing}
use Rattle.tp_text.proofs.tree.Builder.finish.Goals as goal

pub returns-in-len1-up-clause-refused : goal.returns-in-len1-up-clause-refused
returns-in-len1-up-clause-refused c =
    stays_open c.args.self _ (omega (arith, c.in-len1-up.len_at_least, c.as_slice.ensures.len, c.args.self.outer.ok)) refl

pub returns-clause-refused : goal.returns-clause-refused
returns-clause-refused c =
    nothing c.args.self.outer.items c.args.self.items.items (built c.args.self)
    (omega (arith, c.in_default.len_below, c.as_slice.ensures.len, c.args.self.outer.ok))
    (omega (arith, c.args.self.items.ok, c.in-None.ensures.cases.0)) refl
