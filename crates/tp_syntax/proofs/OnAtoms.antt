-- When two atoms are equal.
use Rattle.std.proofs.Common.{◌≡◌, List, [], ◌∷◌, map, Bool, ◌&&◌, String, Global, string_bytes, refl, ap, ◌∙◌}
use Rattle.std.specs.Str.{bytes_eq}
use Rattle.std.specs.String.{string_eq}
use lib.Pointwise.{pointwise}
use Rattle.tp_syntax_ast.specs.Terms.{term_view, atom_view}
use Rattle.tp_syntax_ast.specs.Problems.{same_argument, same_arguments, same_fact}
use Rattle.tp_syntax_ast.specs.declared.term.Atom.{Atom}
use Rattle.tp_syntax_ast.specs.declared.term.Term.{Term}
use Rattle.tp_syntax_ast.specs.declared.term.Term.TheVariants.{Object, Variable}
use Rattle.tp_syntax_ast.specs.contracts.term.AtomPartialEq.TheImpl as atoms
use Rattle.tp_syntax_ast.specs.contracts.term.TermPartialEq.TheImpl as terms

text_is : (n m : String Global) → string_eq n m ≡ bytes_eq (string_bytes n) (string_bytes m)
text_is n m = refl

term_is : (a b : Term) → (terms.ghosts).eq a b ≡ same_argument (term_view a) (term_view b)
term_is (Object n) (Object m) = text_is n m
term_is (Object n) (Variable m) = refl
term_is (Variable n) (Object m) = refl
term_is (Variable n) (Variable m) = text_is n m

terms_are : (as_ bs : List Term) → pointwise (λ a b. (terms.ghosts).eq a b) as_ bs ≡ same_arguments (map term_view as_) (map term_view bs)
terms_are [] [] = refl
terms_are [] (b ∷ bs) = refl
terms_are (a ∷ as_) [] = refl
terms_are (a ∷ as_) (b ∷ bs) =
    ap (λ (v : Bool). v && pointwise (λ x y. (terms.ghosts).eq x y) as_ bs) (term_is a b) ∙ ap (λ (v : Bool). same_argument (term_view a) (term_view b) && v) (terms_are as_ bs)

pub atom_is : (a b : Atom) → (atoms.ghosts).eq a b ≡ same_fact (atom_view a) (atom_view b)
atom_is a b =
    ap (λ (v : Bool). v && pointwise (λ x y. (terms.ghosts).eq x y) a.terms.items b.terms.items) (text_is a.name b.name)
    ∙ ap (λ (v : Bool). bytes_eq (string_bytes a.name) (string_bytes b.name) && v) (terms_are a.terms.items b.terms.items)
