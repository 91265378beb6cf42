use Rattle.std.proofs.Common.{◌≡◌, ℕ, List, Bool, true, false, Option, None, option_map, refl, sym, ap, ◌∙◌, rules}
use Rattle.tp_text.specs.Shapes.{leaf, node, Shapes, no_shapes, shape}
use Rattle.tp_text.specs.Trees.{shape_of}
use Rattle.tp_text.specs.declared.tree.Tree.{Tree}
use Rattle.tp_syntax_ast.specs.Gives.{◌>>=◌}
use Rattle.tp_syntax_ast.specs.Terms.{shapes, atom_view}
use Rattle.tp_syntax_ast.proofs.Loops.{IsEach}
use Rattle.tp_syntax_ast.specs.Words.{operator_of}
use Rattle.tp_syntax_ast.specs.Symbols.{Symbols, atom_in}
use Rattle.tp_syntax_ast.specs.Expressions.{Terms, Expression, fluent, word_expression, is_operator, computed, expression_of, expressions_of}
use Rattle.tp_syntax_ast.specs.declared.words.Operator.{Operator}
use Rattle.tp_syntax_ast.specs.ExprViews.{expr_view}
use Rattle.tp_syntax_ast.specs.declared.expr.Expr.{the_lemmas}
use Rattle.tp_syntax_ast.specs.declared.term.Atom.{Atom}
use Rattle.tp_syntax_ast.specs.declared.expr.Expr as exprs

pub fluent_view : (a : Atom) → expr_view (exprs.Fluent a) ≡ fluent (atom_view a)
fluent_view a = search (rules, the_lemmas)

module _ (σ : Symbols) (may : Terms) where
  pub each_expression : IsEach (λ (t : Tree). expression_of σ may (shape_of t)) (λ ts. expressions_of σ may (shapes ts))
  unfolding expression_of
  each_expression = record { none = refl; more = λ x xs. refl }

  pub at_word : (w : List ℕ) → expression_of σ may (leaf w) ≡ word_expression may.duration w
  unfolding expression_of
  at_word w = refl

  pub at_nothing : expression_of σ may (node no_shapes) ≡ None
  unfolding expression_of
  at_nothing = refl

  pub at_list : (ss rest : Shapes) → expression_of σ may (node (shape (node ss) rest)) ≡ None
  unfolding expression_of
  at_list ss rest = refl

  by_word : (w : List ℕ) (rest : Shapes) (b : Bool) → is_operator (operator_of w) ≡ b → expression_of σ may (node (shape (leaf w) rest)) ≡ elim b as (λ v. Option Expression) [ true ↦ expressions_of σ may rest >>= computed (operator_of w) | false ↦ option_map fluent (atom_in σ σ.functions may.scope w rest) ]
  unfolding expression_of
  by_word w rest b e = ap (λ (v : Bool). elim v as (λ u. Option Expression) [ true ↦ expressions_of σ may rest >>= computed (operator_of w) | false ↦ option_map fluent (atom_in σ σ.functions may.scope w rest) ]) e

  pub at_operator : (w : List ℕ) (rest : Shapes) (o : Operator) → o ≡ operator_of w → is_operator o ≡ true → expression_of σ may (node (shape (leaf w) rest)) ≡ (expressions_of σ may rest >>= computed o)
  at_operator w rest o is joins = by_word w rest true (ap is_operator (sym is) ∙ joins) ∙ ap (λ (p : Operator). expressions_of σ may rest >>= computed p) (sym is)

  pub at_fluent : (w : List ℕ) (rest : Shapes) (o : Operator) → o ≡ operator_of w → is_operator o ≡ false → expression_of σ may (node (shape (leaf w) rest)) ≡ option_map fluent (atom_in σ σ.functions may.scope w rest)
  at_fluent w rest o is joins = by_word w rest false (ap is_operator (sym is) ∙ joins)
