-- A tree level by level, and that no tree writes the front of what another writes.
use Rattle.std.proofs.Common.{◌≡◌, ◌+◌, ◌<◌, List, [], ◌∷◌, ◌++◌, length, map, Vec, Global, refl, sym, ap, ◌∙◌, arith, rules, append_assoc, append-nil}
use Rattle.tp_text.specs.Lexemes.{Lexeme, left, right, word}
use Rattle.tp_text.specs.Shapes.{Shape, leaf, node, Shapes, no_shapes, shape, written, all_written, lexemes_only, SpellsOneTree}
use Rattle.tp_text.specs.Trees.{shapes_of, shape_of, tree_written, trees_written, frames_written, lefts, rights, IsNoTree, IsOneTree, IsOpen, built, CannotGoOn, HasNoTree}
use Rattle.tp_text.specs.declared.fault.TextFault.{TextFault}
use Rattle.tp_text.specs.declared.fault.TextFault.TheVariants as faults
use Rattle.tp_text.specs.declared.token.Span.{Span}
use Rattle.tp_text.specs.declared.tree.Frame.{Frame}
use Rattle.tp_text.specs.declared.tree.Builder.{Builder}
use Rattle.tp_text.specs.declared.tree.Tree as trees
use Rattle.tp_text.specs.declared.tree.Tree.{Tree, the_lemmas}

pub shape_List : (v : Vec Tree Global) (span : Span) → shape_of (trees.List v span) ≡ node (shapes_of (map shape_of v.items))
shape_List v span = search (rules, the_lemmas)

-- trees side by side write what their shapes write
pub all_written_of : (ts : List Tree) → all_written (shapes_of (map shape_of ts)) ≡ trees_written ts
all_written_of [] = refl
all_written_of (x ∷ ts) = ap (λ (ms : List Lexeme). tree_written x ++ ms) (all_written_of ts)

pub list_written : (v : Vec Tree Global) (span : Span) → tree_written (trees.List v span) ≡ left ∷ (trees_written v.items ++ right ∷ [])
list_written v span = ap written (shape_List v span) ∙ ap (λ (ms : List Lexeme). left ∷ (ms ++ right ∷ [])) (all_written_of v.items)

-- ---- no tree writes the front of what another writes

-- what a tree writes begins with no ')'
no_right : (a : Shape) (x y : List Lexeme) → written a ++ x ≡ right ∷ y → ⊥
no_right (leaf w) x y e = cc
no_right (node ss) x y e = cc

mutual
  pub same_rest : (a b : Shape) (x y : List Lexeme) → written a ++ x ≡ written b ++ y → x ≡ y
  same_rest (leaf v) (leaf w) x y e = cc
  same_rest (leaf v) (node bs) x y e = absurd cc
  same_rest (node ss) (leaf w) x y e = absurd cc
  same_rest (node ss) (node bs) x y e =
      let e' : left ∷ (all_written ss ++ right ∷ [] ++ x) ≡ left ∷ (all_written bs ++ right ∷ [] ++ y) = e in
      let inner : all_written ss ++ right ∷ [] ++ x ≡ all_written bs ++ right ∷ [] ++ y = cc in
      same_rests ss bs x y (sym (append_assoc (all_written ss) (right ∷ []) x) ∙ inner ∙ append_assoc (all_written bs) (right ∷ []) y)

  same_rests : (ss bs : Shapes) (x y : List Lexeme) → all_written ss ++ (right ∷ x) ≡ all_written bs ++ (right ∷ y) → x ≡ y
  same_rests no_shapes no_shapes x y e = cc
  same_rests no_shapes (shape b bs) x y e = absurd (no_right b (all_written bs ++ (right ∷ y)) x (sym (append_assoc (written b) (all_written bs) (right ∷ y)) ∙ sym e))
  same_rests (shape a ss) no_shapes x y e = absurd (no_right a (all_written ss ++ (right ∷ x)) y (sym (append_assoc (written a) (all_written ss) (right ∷ x)) ∙ e))
  same_rests (shape a ss) (shape b bs) x y e =
      same_rests ss bs x y (same_rest a b (all_written ss ++ (right ∷ x)) (all_written bs ++ (right ∷ y)) (sym (append_assoc (written a) (all_written ss) (right ∷ x)) ∙ e ∙ append_assoc (written b) (all_written bs) (right ∷ y)))

-- and that trees which write the same are the same
mutual
  pub same_tree : (a b : Shape) (x y : List Lexeme) → written a ++ x ≡ written b ++ y → a ≡ b
  same_tree (leaf v) (leaf w) x y e = cc
  same_tree (leaf v) (node bs) x y e = absurd cc
  same_tree (node ss) (leaf w) x y e = absurd cc
  same_tree (node ss) (node bs) x y e =
      let e' : left ∷ (all_written ss ++ right ∷ [] ++ x) ≡ left ∷ (all_written bs ++ right ∷ [] ++ y) = e in
      let inner : all_written ss ++ right ∷ [] ++ x ≡ all_written bs ++ right ∷ [] ++ y = cc in
      ap node (same_trees ss bs x y (sym (append_assoc (all_written ss) (right ∷ []) x) ∙ inner ∙ append_assoc (all_written bs) (right ∷ []) y))

  same_trees : (ss bs : Shapes) (x y : List Lexeme) → all_written ss ++ (right ∷ x) ≡ all_written bs ++ (right ∷ y) → ss ≡ bs
  same_trees no_shapes no_shapes x y e = refl
  same_trees no_shapes (shape b bs) x y e = absurd (no_right b (all_written bs ++ (right ∷ y)) x (sym (append_assoc (written b) (all_written bs) (right ∷ y)) ∙ sym e))
  same_trees (shape a ss) no_shapes x y e = absurd (no_right a (all_written ss ++ (right ∷ x)) y (sym (append_assoc (written a) (all_written ss) (right ∷ x)) ∙ e))
  same_trees (shape a ss) (shape b bs) x y e =
      let whole : written a ++ (all_written ss ++ (right ∷ x)) ≡ written b ++ (all_written bs ++ (right ∷ y)) = sym (append_assoc (written a) (all_written ss) (right ∷ x)) ∙ e ∙ append_assoc (written b) (all_written bs) (right ∷ y) in
      let first = same_tree a b (all_written ss ++ (right ∷ x)) (all_written bs ++ (right ∷ y)) whole in
      let rest = same_trees ss bs x y (same_rest a b (all_written ss ++ (right ∷ x)) (all_written bs ++ (right ∷ y)) whole) in
      cc

-- a text spells at most one tree
pub spells_one_tree : SpellsOneTree
spells_one_tree text s u is other =
    let same = sym is.1 ∙ other.1 in
    let ps : is.0 ≡ other.0 = cc in
    let both : written s ≡ written u = sym is.2 ∙ ap lexemes_only ps ∙ other.2 in
    same_tree s u [] [] (ap (λ (ms : List Lexeme). ms ++ []) both)

-- nothing stands after a tree
pub none_after : (t : Shape) (m : Lexeme) (more : List Lexeme) → IsNoTree (written t ++ m ∷ more)
none_after t m more s e =
    let same : [] ≡ m ∷ more = same_rest s t [] (m ∷ more) (append-nil (written s) ∙ e) in
    cc

-- ---- counts of parentheses

pub lefts-append : (a b : List Lexeme) → lefts (a ++ b) ≡ lefts a + lefts b
lefts-append [] b = omega arith
lefts-append (left ∷ a) b = omega (arith, lefts-append a b)
lefts-append (right ∷ a) b = lefts-append a b
lefts-append (word w ∷ a) b = lefts-append a b

pub rights-append : (a b : List Lexeme) → rights (a ++ b) ≡ rights a + rights b
rights-append [] b = omega arith
rights-append (left ∷ a) b = rights-append a b
rights-append (right ∷ a) b = omega (arith, rights-append a b)
rights-append (word w ∷ a) b = rights-append a b

mutual
  pub balanced : (s : Shape) → lefts (written s) ≡ rights (written s)
  balanced (leaf w) = refl
  balanced (node ss) = omega (arith, all_balanced ss, lefts-append (all_written ss) (right ∷ []), rights-append (all_written ss) (right ∷ []))

  pub all_balanced : (ss : Shapes) → lefts (all_written ss) ≡ rights (all_written ss)
  all_balanced no_shapes = refl
  all_balanced (shape s ss) = omega (arith, balanced s, all_balanced ss, lefts-append (written s) (all_written ss), rights-append (written s) (all_written ss))

trees_balanced : (ts : List Tree) → lefts (trees_written ts) ≡ rights (trees_written ts)
trees_balanced [] = refl
trees_balanced (t ∷ ts) = omega (arith, balanced (shape_of t), trees_balanced ts, lefts-append (tree_written t) (trees_written ts), rights-append (tree_written t) (trees_written ts))

frames_open : (fs : List Frame) → lefts (frames_written fs) ≡ rights (frames_written fs) + length fs
frames_open [] = refl
frames_open (f ∷ fs) = omega (arith, trees_balanced f.items.items, frames_open fs, lefts-append (trees_written f.items.items) (left ∷ frames_written fs), rights-append (trees_written f.items.items) (left ∷ frames_written fs))

-- as many lists are open as there are frames
pub built_open : (b : Builder) → lefts (built b) ≡ rights (built b) + length b.outer.items
built_open b = omega (arith, frames_open b.outer.items, trees_balanced b.items.items, lefts-append (frames_written b.outer.items) (trees_written b.items.items), rights-append (frames_written b.outer.items) (trees_written b.items.items))

-- ---- the steps of a builder

frames_written_push : (fs : List Frame) (f : Frame) → frames_written (fs ++ f ∷ []) ≡ frames_written fs ++ (trees_written f.items.items ++ left ∷ [])
frames_written_push [] f = refl
frames_written_push (g ∷ fs) f =
    ap (λ (ms : List Lexeme). trees_written g.items.items ++ left ∷ ms) (frames_written_push fs f)
    ∙ sym (append_assoc (trees_written g.items.items) (left ∷ frames_written fs) (trees_written f.items.items ++ left ∷ []))

pub began : (fs fs' : List Frame) (f : Frame) (ts ts' : List Tree) → fs' ≡ fs ++ f ∷ [] → f.items.items ≡ ts → ts' ≡ [] → frames_written fs' ++ trees_written ts' ≡ frames_written fs ++ trees_written ts ++ left ∷ []
began fs fs' f ts ts' pushed had none =
    rw (pushed, none) (append-nil (frames_written (fs ++ f ∷ []))
    ∙ frames_written_push fs f
    ∙ sym (append_assoc (frames_written fs) (trees_written f.items.items) (left ∷ []))
    ∙ ap (λ (us : List Tree). frames_written fs ++ trees_written us ++ left ∷ []) had)

trees_written_push : (ts : List Tree) (t : Tree) → trees_written (ts ++ t ∷ []) ≡ trees_written ts ++ tree_written t
trees_written_push [] t = append-nil (tree_written t)
trees_written_push (u ∷ ts) t = ap (λ (ms : List Lexeme). tree_written u ++ ms) (trees_written_push ts t) ∙ sym (append_assoc (tree_written u) (trees_written ts) (tree_written t))

pub ended : (fs fs' : List Frame) (f : Frame) (ts ts' : List Tree) (t : Tree) → fs ≡ fs' ++ f ∷ [] → ts' ≡ f.items.items ++ t ∷ [] → tree_written t ≡ left ∷ (trees_written ts ++ right ∷ []) → frames_written fs' ++ trees_written ts' ≡ frames_written fs ++ trees_written ts ++ right ∷ []
ended fs fs' f ts ts' t popped pushed made =
    let here : trees_written ts' ≡ trees_written f.items.items ++ (left ∷ (trees_written ts ++ right ∷ [])) = ap trees_written pushed ∙ trees_written_push f.items.items t ∙ ap (λ (ms : List Lexeme). trees_written f.items.items ++ ms) made in
    let before : frames_written fs ≡ frames_written fs' ++ (trees_written f.items.items ++ left ∷ []) = ap frames_written popped ∙ frames_written_push fs' f in
    rw (here, before) (simp append_assoc)

pub one_tree : (fs : List Frame) (ts : List Tree) (m : Lexeme) (more : List Lexeme) → IsOneTree fs ts → length fs ≡ 0 → (length ts ≡ 0 → ⊥) → IsNoTree (frames_written fs ++ trees_written ts ++ m ∷ more)
one_tree (f ∷ fs) ts m more one none some = absurd (omega arith)
one_tree [] [] m more one none some = absurd (some refl)
one_tree [] (t ∷ u ∷ ts) m more one none some = absurd (omega arith)
one_tree [] (t ∷ []) m more one none some = λ s e. none_after (shape_of t) m more s (e ∙ ap (λ (ms : List Lexeme). ms ++ m ∷ more) (append-nil (tree_written t)))

-- a ')' comes first
pub right_first : (fs : List Frame) (ts : List Tree) (more : List Lexeme) → IsOpen fs ts → length fs ≡ 0 → IsNoTree (frames_written fs ++ trees_written ts ++ right ∷ more)
right_first (f ∷ fs) ts more opened none = absurd (omega arith)
right_first [] ts more opened none = λ s e. no_right s [] more (append-nil (written s) ∙ e ∙ ap (λ (us : List Tree). trees_written us ++ right ∷ more) opened)

-- a list stays open
pub stays_open : (b : Builder) (ms : List Lexeme) → 0 < length b.outer.items → built b ≡ ms → IsNoTree ms
stays_open b ms some all s e =
    let same : written s ≡ built b = e ∙ sym all in
    omega (arith, balanced s, built_open b, ap lefts same, ap rights same)

no_lexeme : (s : Shape) → written s ≡ [] → ⊥
no_lexeme (leaf w) e = cc
no_lexeme (node ss) e = cc

-- nothing was read
pub nothing : (fs : List Frame) (ts : List Tree) (ms : List Lexeme) → length fs < 1 → length ts ≡ 0 → frames_written fs ++ trees_written ts ≡ ms → IsNoTree ms
nothing (f ∷ fs) ts ms no_frames no_trees all = absurd (omega arith)
nothing [] (t ∷ ts) ms no_frames no_trees all = absurd (omega arith)
nothing [] [] ms no_frames no_trees all = λ s e. no_lexeme s (e ∙ sym all)

-- what a step says of the lexemes so far is so of all lexemes
pub refused_for_all : (ms more : List Lexeme) (m : Lexeme) (all : List Lexeme) (e : TextFault) → ms ++ m ∷ more ≡ all → CannotGoOn ms m e → HasNoTree all e
refused_for_all ms more m all faults.Memory is h = tt
refused_for_all ms more m all faults.TooLong is h = absurd h
refused_for_all ms more m all (faults.BadByte at) is h = absurd h
refused_for_all ms more m all (faults.Unclosed at) is h = absurd h
refused_for_all ms more m all (faults.Extra at) is h = λ s e. h more s (e ∙ sym is)
refused_for_all ms more m all (faults.Depth at) is h = (ms, more, sym is ∙ ap (λ (n : Lexeme). ms ++ n ∷ more) h.0, h.1)
refused_for_all ms more m all faults.Empty is h = absurd h
