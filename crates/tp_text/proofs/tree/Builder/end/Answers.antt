use Rattle.std.proofs.Common.{Vec, Global, arith, ap, ◌∙◌}
use Rattle.tp_text.specs.Lexemes.{left, right}
use Rattle.std.proofs.Common.{◌∷◌, [], ◌++◌}
use Rattle.tp_text.specs.Trees.{trees_written}
use Rattle.tp_text.specs.declared.tree.Tree.{Tree}
use Rattle.tp_text.proofs.OnTrees.{right_first, ended}
use Rattle.tp_text.proofs.tree.Builder.end.Goals as goal

pub returns-in_default-clause-refused : goal.returns-in_default-clause-refused
returns-in_default-clause-refused c more = right_first _ _ more c.requires.1 (omega (arith, c.args.self.now.outer.ok, c.in_default.ensures.cases.0))

pub returns-clause-ok : goal.returns-clause-ok
returns-clause-ok c =
    let items = λ (v : Vec Tree Global). v.items in
    ended _ _ c.in-Some.frame _ _ c.make_list.result c.in-Some.ensures.items
    (c.in_ok-push.ensures.items ∙ ap (λ (v : Vec Tree Global). v.items ++ c.make_list.result ∷ []) c.replace-inside.ensures.after)
    (c.make_list.ensures ∙ ap (λ (v : Vec Tree Global). left ∷ (trees_written v.items ++ right ∷ [])) c.replace-inside.ensures.value)
