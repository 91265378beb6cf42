use Rattle.std.proofs.Common.{Vec, Global, refl, arith, ap, ◌∙◌}
use Rattle.tp_text.specs.declared.tree.Tree.{Tree}
use Rattle.tp_text.proofs.OnTrees.{built_open, began}
use Rattle.tp_text.proofs.tree.Builder.begin.Goals as goal

pub returns-then-len-ge-MAX_DEPTH-clause-refused : goal.returns-then-len-ge-MAX_DEPTH-clause-refused
returns-then-len-ge-MAX_DEPTH-clause-refused c = (refl, omega (arith, built_open c.args.self.now))

pub returns-clause-ok : goal.returns-clause-ok
returns-clause-ok c =
    let items = λ (v : Vec Tree Global). v.items in
    began _ _ _ _ _ c.in_ok-push.ensures.items (ap items c.replace-items.ensures.value) (ap items c.replace-items.ensures.after ∙ c.new.ensures.items)

pub returns-clause-room : goal.returns-clause-room
returns-clause-room c = omega (arith, built_open c.args.self.now, c.args.self.now.outer.ok)
