-- A tree that is a list, as code takes it apart. For each reader f that reads a list by its members.
use Rattle.std.proofs.Common.{◌≡◌, ◌<◌, ◌≤◌, ◌-◌, List, [], ◌∷◌, length, take, drop, get_or, Vec, Global, Option, sym, ap, ◌∙◌, rules, arith}
use Rattle.std.proofs.lemmas.List.{take_rest}
use Rattle.tp_text.specs.Shapes.{Shape, leaf, node, Shapes, no_shapes, shape}
use Rattle.tp_text.specs.Trees.{shape_of}
use Rattle.tp_text.specs.declared.token.Token.{Token}
use Rattle.tp_text.specs.declared.token.Span.{Span}
use Rattle.tp_text.specs.declared.tree.Tree as trees
use Rattle.tp_text.specs.declared.tree.Tree.{Tree}
use Rattle.tp_syntax_ast.specs.Terms.{shapes}

pub shape_List : (v : Vec Tree Global) (span : Span) → shape_of (trees.List v span) ≡ node (shapes v.items)
shape_List v span = search (rules, trees.the_lemmas)

-- the first of a list
pub at_first : (xs : List Tree) (first : Tree) → 1 ≤ length xs → first ≡ get_or xs 0 first → xs ≡ first ∷ drop 1 xs
at_first [] first le is = absurd (omega arith)
at_first (x ∷ xs) first le is = ap (λ (y : Tree). y ∷ xs) (sym is)

shape_Word : (t : Token) → shape_of (trees.Word t) ≡ leaf t.text.now
shape_Word t = search (rules, trees.the_lemmas)

pub peel : (xs : List Tree) (first : Tree) → 1 ≤ length xs → first ≡ get_or xs 0 first → shapes xs ≡ shape (shape_of first) (shapes (take (length xs - 1) (drop 1 xs)))
peel xs first le is = ap shapes (at_first xs first le is) ∙ ap (λ (ys : List Tree). shape (shape_of first) (shapes ys)) (sym (take_rest xs 1))

pub a_word : {A : Type 0} (f : Shape → Option A) (t : Tree) (word : Token) → t ≡ trees.Word word → f (shape_of t) ≡ f (leaf word.text.now)
a_word f t word is = ap (λ (u : Tree). f (shape_of u)) is ∙ ap f (shape_Word word)

pub a_list : {A : Type 0} (f : Shape → Option A) (t : Tree) (v : Vec Tree Global) (span : Span) (xs : List Tree) → t ≡ trees.List v span → xs ≡ v.items → f (shape_of t) ≡ f (node (shapes xs))
a_list f t v span xs is items = ap (λ (u : Tree). f (shape_of u)) is ∙ ap f (shape_List v span) ∙ ap (λ (ys : List Tree). f (node (shapes ys))) (sym items)

pub empty_list : {A : Type 0} (f : Shape → Option A) (t : Tree) (v : Vec Tree Global) (span : Span) (xs : List Tree) → t ≡ trees.List v span → xs ≡ v.items → length xs < 1 → f (shape_of t) ≡ f (node no_shapes)
empty_list f t v span [] is items lt = a_list f t v span [] is items
empty_list f t v span (x ∷ xs) is items lt = absurd (omega arith)

pub list_first : {A : Type 0} (f : Shape → Option A) (t : Tree) (v : Vec Tree Global) (span : Span) (xs : List Tree) (first : Tree) (w : Vec Tree Global) (inner : Span) → t ≡ trees.List v span → xs ≡ v.items → 1 ≤ length xs → first ≡ get_or xs 0 first → first ≡ trees.List w inner
    → f (shape_of t) ≡ f (node (shape (node (shapes w.items)) (shapes (take (length xs - 1) (drop 1 xs)))))
list_first f t v span xs first w inner is items le at_zero is_list =
    a_list f t v span xs is items
    ∙ ap (λ (ss : Shapes). f (node ss)) (peel xs first le at_zero)
    ∙ ap (λ (s : Shape). f (node (shape s (shapes (take (length xs - 1) (drop 1 xs)))))) (ap shape_of is_list ∙ shape_List w inner)

pub word_first : {A : Type 0} (f : Shape → Option A) (t : Tree) (v : Vec Tree Global) (span : Span) (xs : List Tree) (first : Tree) (word : Token) → t ≡ trees.List v span → xs ≡ v.items → 1 ≤ length xs → first ≡ get_or xs 0 first → first ≡ trees.Word word
    → f (shape_of t) ≡ f (node (shape (leaf word.text.now) (shapes (take (length xs - 1) (drop 1 xs)))))
word_first f t v span xs first word is items le at_zero is_word =
    a_list f t v span xs is items
    ∙ ap (λ (ss : Shapes). f (node ss)) (peel xs first le at_zero)
    ∙ ap (λ (s : Shape). f (node (shape s (shapes (take (length xs - 1) (drop 1 xs)))))) (ap shape_of is_word ∙ shape_Word word)
