-- Predicates and functions.
use Rattle.std.proofs.Common.{◌≡◌, ℕ, ◌<◌, ◌≤◌, ◌-◌, List, [], ◌∷◌, ◌++◌, length, take, drop, get_or, Bool, true, false, ◌&&◌, Option, Some, None, option_map, refl, sym, ap, ◌∙◌, arith, append-nil}
use Rattle.tp_text.specs.Shapes.{Shape, leaf, node, Shapes, no_shapes, shape}
use Rattle.tp_text.specs.Trees.{shape_of}
use Rattle.tp_text.specs.declared.tree.Tree.{Tree}
use Rattle.tp_syntax_ast.specs.Gives.{◌>>=◌, with_front, Fails}
use Rattle.tp_syntax_ast.specs.Terms.{shapes, name_of}
use Rattle.tp_syntax_ast.specs.Symbols.{Name, Parent, Declared, SignatureView}
use Rattle.tp_syntax_ast.specs.TypedLists.{is_dash, parameters_of}
use Rattle.tp_syntax_ast.specs.Domains.{signature_at, signatures_of, is_number, numeric_signatures, after_number}
use Rattle.tp_syntax_ast.specs.declared.fault.SyntaxFault.{SyntaxFault}
use Rattle.tp_syntax_ast.proofs.Loops.{IsEach}
use Rattle.tp_syntax_ast.proofs.OnFaults.{fails_from}
use Rattle.tp_syntax_ast.proofs.OnFirsts.{no_trees, a_first}
use Rattle.tp_syntax_ast.proofs.OnGives.{joins_front, keeps_front}

abbrev pub signature_with : Name → List Declared → SignatureView
signature_with n vs = record { name = n; parameters = vs }

module _ (types : List Parent) where
  pub each_signature : IsEach (λ (t : Tree). signature_at types (shape_of t)) (λ ts. signatures_of types (shapes ts))
  unfolding signatures_of
  each_signature = record { none = refl; more = λ x xs. refl }

  pub at_word : (w : List ℕ) → signature_at types (leaf w) ≡ None
  unfolding signature_at
  at_word w = refl

  pub at_nothing : signature_at types (node no_shapes) ≡ None
  unfolding signature_at
  at_nothing = refl

  pub at_list : (ss rest : Shapes) → signature_at types (node (shape (node ss) rest)) ≡ None
  unfolding signature_at
  at_list ss rest = refl

  pub at_signature : (w : List ℕ) (vars : Shapes) → signature_at types (node (shape (leaf w) vars)) ≡ (name_of w >>= λ n. option_map (signature_with n) (parameters_of types vars))
  unfolding signature_at
  at_signature w vars = refl

  a_dash : (b : Bool) (s : Shape) (ss : Shapes) → (b && is_dash s) ≡ true → numeric_signatures types b (shape s ss) ≡ after_number types ss
  unfolding numeric_signatures
  a_dash b s ss is = ap (λ (v : Bool). elim v as (λ u. Option (List SignatureView)) [ true ↦ after_number types ss | false ↦ signature_at types s >>= λ f. option_map (λ fs. f ∷ fs) (numeric_signatures types true ss) ]) is

  a_signature : (b : Bool) (s : Shape) (ss : Shapes) → (b && is_dash s) ≡ false → numeric_signatures types b (shape s ss) ≡ (signature_at types s >>= λ f. option_map (λ fs. f ∷ fs) (numeric_signatures types true ss))
  unfolding numeric_signatures
  a_signature b s ss is = ap (λ (v : Bool). elim v as (λ u. Option (List SignatureView)) [ true ↦ after_number types ss | false ↦ signature_at types s >>= λ f. option_map (λ fs. f ∷ fs) (numeric_signatures types true ss) ]) is

  nothing_after : after_number types no_shapes ≡ None
  unfolding numeric_signatures
  nothing_after = refl

  number_after : (s : Shape) (ss : Shapes) → is_number s ≡ true → after_number types (shape s ss) ≡ numeric_signatures types false ss
  unfolding numeric_signatures
  number_after s ss is = ap (λ (v : Bool). elim v as (λ u. Option (List SignatureView)) [ true ↦ numeric_signatures types false ss | false ↦ None ]) is

  none_after : (s : Shape) (ss : Shapes) → is_number s ≡ false → after_number types (shape s ss) ≡ None
  unfolding numeric_signatures
  none_after s ss is = ap (λ (v : Bool). elim v as (λ u. Option (List SignatureView)) [ true ↦ numeric_signatures types false ss | false ↦ None ]) is

  pub numeric_begins : (ss : Shapes) (front : List SignatureView) → front ≡ [] → with_front front (numeric_signatures types false ss) ≡ numeric_signatures types false ss
  numeric_begins ss front none = ap (λ (fs : List SignatureView). with_front fs (numeric_signatures types false ss)) none ∙ keeps_front (numeric_signatures types false ss)

  module _ (front : List SignatureView) (b : Bool) (xs : List Tree) (first : Tree) (total : Option (List SignatureView)) (le : 1 ≤ length xs) (at_zero : first ≡ get_or xs 0 first) (so_far : with_front front (numeric_signatures types b (shapes xs)) ≡ total) where
    here : with_front front (numeric_signatures types b (shape (shape_of first) (shapes (take (length xs - 1) (drop 1 xs))))) ≡ total
    here = sym (a_first (λ ss. with_front front (numeric_signatures types b ss)) xs first le at_zero) ∙ so_far

    signature_here : (b && is_dash (shape_of first)) ≡ false → with_front front (signature_at types (shape_of first) >>= λ f. option_map (λ fs. f ∷ fs) (numeric_signatures types true (shapes (take (length xs - 1) (drop 1 xs))))) ≡ total
    signature_here is = ap (with_front front) (sym (a_signature b (shape_of first) _ is)) ∙ here

    pub signature_fails : (e : SyntaxFault) → (b && is_dash (shape_of first)) ≡ false → Fails e (signature_at types (shape_of first)) → Fails e total
    signature_fails e is h = fails_from e (signature_at types (shape_of first)) total (λ none. sym (signature_here is) ∙ ap (λ (o : Option SignatureView). with_front front (o >>= λ f. option_map (λ fs. f ∷ fs) (numeric_signatures types true (shapes (take (length xs - 1) (drop 1 xs)))))) none) h

    pub signature_goes_on : (f : SignatureView) (new : List SignatureView) → (b && is_dash (shape_of first)) ≡ false → signature_at types (shape_of first) ≡ Some f → new ≡ front ++ f ∷ [] → with_front new (numeric_signatures types true (shapes (take (length xs - 1) (drop 1 xs)))) ≡ total
    signature_goes_on f new is found pushed =
        let rest = numeric_signatures types true (shapes (take (length xs - 1) (drop 1 xs))) in
        ap (λ (fs : List SignatureView). with_front fs rest) pushed
        ∙ sym (joins_front front f rest)
        ∙ ap (λ (o : Option SignatureView). with_front front (o >>= λ g. option_map (λ fs. g ∷ fs) rest)) (sym found)
        ∙ signature_here is

    dash_here : (b && is_dash (shape_of first)) ≡ true → with_front front (after_number types (shapes (take (length xs - 1) (drop 1 xs)))) ≡ total
    dash_here is = ap (with_front front) (sym (a_dash b (shape_of first) _ is)) ∙ here

    pub dash_last : (b && is_dash (shape_of first)) ≡ true → length (take (length xs - 1) (drop 1 xs)) < 1 → total ≡ None
    dash_last is none = sym (dash_here is) ∙ no_trees (λ ss. with_front front (after_number types ss)) (take (length xs - 1) (drop 1 xs)) none ∙ ap (with_front front) nothing_after

    kind_here : (ys : List Tree) (kind : Tree) → take (length xs - 1) (drop 1 xs) ≡ ys → (b && is_dash (shape_of first)) ≡ true → 1 ≤ length ys → kind ≡ get_or ys 0 kind → with_front front (after_number types (shape (shape_of kind) (shapes (take (length ys - 1) (drop 1 ys))))) ≡ total
    kind_here ys kind rest is more at_next =
        sym (a_first (λ ss. with_front front (after_number types ss)) ys kind more at_next)
        ∙ ap (λ (zs : List Tree). with_front front (after_number types (shapes zs))) (sym rest)
        ∙ dash_here is

    pub dash_fails : (ys : List Tree) (kind : Tree) → take (length xs - 1) (drop 1 xs) ≡ ys → (b && is_dash (shape_of first)) ≡ true → 1 ≤ length ys → kind ≡ get_or ys 0 kind → is_number (shape_of kind) ≡ false → total ≡ None
    dash_fails ys kind rest is more at_next other = sym (kind_here ys kind rest is more at_next) ∙ ap (with_front front) (none_after (shape_of kind) _ other)

    pub dash_goes_on : (ys : List Tree) (kind : Tree) → take (length xs - 1) (drop 1 xs) ≡ ys → (b && is_dash (shape_of first)) ≡ true → 1 ≤ length ys → kind ≡ get_or ys 0 kind → is_number (shape_of kind) ≡ true → with_front front (numeric_signatures types false (shapes (take (length ys - 1) (drop 1 ys)))) ≡ total
    dash_goes_on ys kind rest is more at_next number = ap (with_front front) (sym (number_after (shape_of kind) _ number)) ∙ kind_here ys kind rest is more at_next

  pub numeric_over : (front : List SignatureView) (b : Bool) (xs : List Tree) (total : Option (List SignatureView)) → length xs < 1 → with_front front (numeric_signatures types b (shapes xs)) ≡ total → total ≡ Some front
  unfolding numeric_signatures
  numeric_over front b (x ∷ xs) total lt so_far = absurd (omega arith)
  numeric_over front b [] total lt so_far = sym so_far ∙ ap Some (append-nil front)
