-- Members of a list, as code takes them apart. For each reader f of members.
use Rattle.std.proofs.Common.{◌≡◌, ◌<◌, ◌≤◌, ◌-◌, List, [], ◌∷◌, length, take, drop, get_or, refl, ap, ◌∙◌, rules, arith}
use Rattle.tp_text.specs.Shapes.{Shape, leaf, node, Shapes, no_shapes, shape}
use Rattle.tp_text.specs.Trees.{shape_of}
use Rattle.tp_text.specs.declared.token.Token.{Token}
use Rattle.tp_text.specs.declared.token.Span.{Span}
use Rattle.tp_text.specs.declared.tree.Tree as trees
use Rattle.tp_text.specs.declared.tree.Tree.{Tree}
use Rattle.std.proofs.Common.{Vec, Global}
use Rattle.tp_syntax_ast.specs.Terms.{shapes}
use Rattle.tp_syntax_ast.proofs.OnLists.{peel, shape_List}

word_shape : (t : Token) → shape_of (trees.Word t) ≡ leaf t.text.now
word_shape t = search (rules, trees.the_lemmas)

pub no_trees : {B : Type 0} (f : Shapes → B) (xs : List Tree) → length xs < 1 → f (shapes xs) ≡ f no_shapes
no_trees f [] lt = refl
no_trees f (x ∷ xs) lt = absurd (omega arith)

pub a_first : {B : Type 0} (f : Shapes → B) (xs : List Tree) (first : Tree) → 1 ≤ length xs → first ≡ get_or xs 0 first → f (shapes xs) ≡ f (shape (shape_of first) (shapes (take (length xs - 1) (drop 1 xs))))
a_first f xs first le at_zero = ap f (peel xs first le at_zero)

pub a_first_word : {B : Type 0} (f : Shapes → B) (xs : List Tree) (first : Tree) (word : Token) → 1 ≤ length xs → first ≡ get_or xs 0 first → first ≡ trees.Word word → f (shapes xs) ≡ f (shape (leaf word.text.now) (shapes (take (length xs - 1) (drop 1 xs))))
a_first_word f xs first word le at_zero is = a_first f xs first le at_zero ∙ ap (λ (s : Shape). f (shape s (shapes (take (length xs - 1) (drop 1 xs))))) (ap shape_of is ∙ word_shape word)

pub a_first_list : {B : Type 0} (f : Shapes → B) (xs : List Tree) (first : Tree) (v : Vec Tree Global) (span : Span) → 1 ≤ length xs → first ≡ get_or xs 0 first → first ≡ trees.List v span → f (shapes xs) ≡ f (shape (node (shapes v.items)) (shapes (take (length xs - 1) (drop 1 xs))))
a_first_list f xs first v span le at_zero is = a_first f xs first le at_zero ∙ ap (λ (s : Shape). f (shape s (shapes (take (length xs - 1) (drop 1 xs))))) (ap shape_of is ∙ shape_List v span)
