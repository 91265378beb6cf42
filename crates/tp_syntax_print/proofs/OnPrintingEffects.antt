-- Effects, timed conditions and timed effects are read again from what is printed.
use Rattle.std.proofs.Common.{◌≡◌, ℕ, List, Bool, true, Option, Some, option_map, codes, refl, ap, ◌∙◌, subst}
use Rattle.tp_text.specs.Shapes.{Shape, leaf, node, Shapes, no_shapes, shape}
use Rattle.tp_text.specs.Texts.{IsWord, HasWords}
use Rattle.tp_syntax_ast.specs.Gives.{◌>>=◌}
use Rattle.tp_syntax_ast.specs.Words.{lower, is_word, effect_word_of, joint_of, specifier_of}
use Rattle.tp_syntax_ast.specs.Lists.{only, both}
use Rattle.tp_syntax_ast.specs.Terms.{Fact}
use Rattle.tp_syntax_ast.specs.Symbols.{Declared, SignatureView, Symbols, atom_in}
use Rattle.tp_syntax_ast.specs.Expressions.{Expression, terms_for, expression_of}
use Rattle.tp_syntax_ast.specs.Conditions.{Condition, condition_of}
use Rattle.tp_syntax_ast.specs.Parts.{Joined, Reader, one, joined_of}
use Rattle.tp_syntax_ast.specs.Effects.{SimpleEffect, adds, deletes, writes, atom_at, deleted, written, changed, simple_effect_of, Effect, effect_of, Timed, specifier_at, specified_tree, specified, timed_condition_of, effect_at, timed_effect_of}
use Rattle.tp_syntax_print.specs.Printing.{one_shape, two_shapes, argument_shapes, fact_shape, expression_shape, condition_shape, simple_effect_shape, effect_shape, specifier_word, specifier_place, timed_shape}
use Rattle.tp_syntax_print.specs.Words.{writing_word}
use Rattle.tp_syntax_ast.specs.declared.words.Writing.{Writing}
use Rattle.tp_syntax_ast.specs.declared.words.Writing.TheVariants as writings
use Rattle.tp_syntax_ast.specs.declared.words.TimeSpecifier.{TimeSpecifier}
use Rattle.tp_syntax_ast.specs.declared.words.TimeSpecifier.TheVariants.{AtStart, OverAll, AtEnd}
use Rattle.tp_syntax_ast.specs.declared.words.EffectWord.{EffectWord}
use Rattle.tp_syntax_ast.specs.declared.words.EffectWord.TheVariants.{Not, Assign, Increase, Decrease, ScaleUp, ScaleDown, When, Other}
use Rattle.tp_syntax_ast.specs.declared.words.Joint.TheVariants.{One}
use Rattle.tp_syntax_print.proofs.OnPrintingWords.{bind_some, map_some, no_some, lower_lower, keyword}
use Rattle.tp_syntax_print.proofs.OnPrintingExprs.{Again, atom_again, expression_again}
use Rattle.tp_syntax_print.proofs.OnPrintingConds.{condition_again}
use Rattle.tp_syntax_print.proofs.OnPrintingParts.{joint_again, JoinedAgain, at_one, joined_again}

change_again : (w : List ℕ) → effect_word_of (lower w) ≡ effect_word_of w
unfolding effect_word_of is_word
change_again w = rw (lower_lower w) refl

joint_not : joint_of (codes "not") ≡ One
unfolding joint_of is_word
joint_not = refl

change_not : effect_word_of (codes "not") ≡ Not
unfolding effect_word_of is_word
change_not = refl

abbrev writing_change : Writing → EffectWord
writing_change writings.Assign = Assign
writing_change writings.Increase = Increase
writing_change writings.Decrease = Decrease
writing_change writings.ScaleUp = ScaleUp

joint_writing : (op : Writing) → joint_of (writing_word op) ≡ One
unfolding joint_of is_word
joint_writing writings.Assign = refl
joint_writing writings.Increase = refl
joint_writing writings.Decrease = refl
joint_writing writings.ScaleUp = refl

change_writing : (op : Writing) → effect_word_of (writing_word op) ≡ writing_change op
unfolding effect_word_of is_word
change_writing writings.Assign = refl
change_writing writings.Increase = refl
change_writing writings.Decrease = refl
change_writing writings.ScaleUp = refl

writing_is_word : (op : Writing) → IsWord (writing_word op)
writing_is_word writings.Assign = keyword (codes "assign") refl
writing_is_word writings.Increase = keyword (codes "increase") refl
writing_is_word writings.Decrease = keyword (codes "decrease") refl
writing_is_word writings.ScaleUp = keyword (codes "scale-up") refl

-- ---- atoms as trees

record FactAgain (σ : Symbols) (signatures : List SignatureView) (scope : List Declared) (f : Fact) : Type 0 where
  again : atom_at σ signatures scope (fact_shape f) ≡ Some f
  words : HasWords (fact_shape f)

fact_again : (σ : Symbols) (signatures : List SignatureView) (scope : List Declared) (s : Shape) (f : Fact) → atom_at σ signatures scope s ≡ Some f → FactAgain σ signatures scope f
unfolding atom_at
fact_again σ signatures scope (leaf w) f h = no_some h
fact_again σ signatures scope (node no_shapes) f h = no_some h
fact_again σ signatures scope (node (shape (node ss) rest)) f h = no_some h
fact_again σ signatures scope (node (shape (leaf w) rest)) f h =
    let a = atom_again σ signatures scope w rest f h in
    record { again = a.again; words = (a.word, a.words) }

-- ---- effects

module _ (σ : Symbols) (duration : Bool) (scope : List Declared) where
  EffectAgain : SimpleEffect → Type 0
  EffectAgain x = JoinedAgain σ.types (simple_effect_of σ duration) simple_effect_shape scope (one x)

  added : (w : List ℕ) (rest : Shapes) (x : SimpleEffect) → effect_word_of w ≡ Other → joint_of w ≡ One → option_map adds (atom_in σ σ.predicates scope w rest) ≡ Some x → EffectAgain x
  unfolding EffectAgain simple_effect_of changed
  added w rest x is joins h =
      let m = map_some adds (atom_in σ σ.predicates scope w rest) x h in
      let a = atom_again σ σ.predicates scope w rest m.0 m.1 in
      let n = m.0.name in
      let args = argument_shapes m.0.arguments in
      let change : effect_word_of n ≡ Other = ap effect_word_of a.name ∙ change_again w ∙ is in
      let joint : joint_of n ≡ One = ap joint_of a.name ∙ joint_again w ∙ joins in
      subst EffectAgain m.2 (record {
        again = at_one σ.types (simple_effect_of σ duration) simple_effect_shape scope n args (adds m.0) joint (ap (λ (k : EffectWord). changed k σ duration scope n args) change ∙ ap (option_map adds) a.again);
        words = (a.word, a.words);
      })

  removed : (rest : Shapes) (x : SimpleEffect) → deleted σ scope rest ≡ Some x → EffectAgain x
  unfolding EffectAgain simple_effect_of changed deleted only
  removed rest x h =
      let b = bind_some (only rest) (λ s. option_map deletes (atom_at σ σ.predicates scope s)) x h in
      let m = map_some deletes (atom_at σ σ.predicates scope b.0) x b.2 in
      let a = fact_again σ σ.predicates scope b.0 m.0 m.1 in
      let args = one_shape (fact_shape m.0) in
      subst EffectAgain m.2 (record {
        again = at_one σ.types (simple_effect_of σ duration) simple_effect_shape scope (codes "not") args (deletes m.0) joint_not (ap (λ (k : EffectWord). changed k σ duration scope (codes "not") args) change_not ∙ ap (option_map deletes) a.again);
        words = (keyword (codes "not") refl, (a.words, tt));
      })

  written_reads : (op : Writing) (f : Fact) (y : Expression) → FactAgain σ σ.functions scope f → Again σ (terms_for scope duration) y → changed (writing_change op) σ duration scope (writing_word op) (two_shapes (fact_shape f) (expression_shape y)) ≡ Some (writes op f y)
  unfolding changed written both only
  written_reads writings.Assign f y a e = ap (λ o. o >>= λ g. option_map (writes writings.Assign g) (expression_of σ (terms_for scope duration) (expression_shape y))) a.again ∙ ap (option_map (writes writings.Assign f)) e.again
  written_reads writings.Increase f y a e = ap (λ o. o >>= λ g. option_map (writes writings.Increase g) (expression_of σ (terms_for scope duration) (expression_shape y))) a.again ∙ ap (option_map (writes writings.Increase f)) e.again
  written_reads writings.Decrease f y a e = ap (λ o. o >>= λ g. option_map (writes writings.Decrease g) (expression_of σ (terms_for scope duration) (expression_shape y))) a.again ∙ ap (option_map (writes writings.Decrease f)) e.again
  written_reads writings.ScaleUp f y a e = ap (λ o. o >>= λ g. option_map (writes writings.ScaleUp g) (expression_of σ (terms_for scope duration) (expression_shape y))) a.again ∙ ap (option_map (writes writings.ScaleUp f)) e.again

  set : (op : Writing) (rest : Shapes) (x : SimpleEffect) → written σ (terms_for scope duration) op rest ≡ Some x → EffectAgain x
  unfolding EffectAgain simple_effect_of written
  set op rest x h =
      let p = bind_some (both rest) (λ q. atom_at σ σ.functions scope q.0 >>= λ a. option_map (writes op a) (expression_of σ (terms_for scope duration) q.1)) x h in
      let b = bind_some (atom_at σ σ.functions scope p.0.0) (λ a. option_map (writes op a) (expression_of σ (terms_for scope duration) p.0.1)) x p.2 in
      let m = map_some (writes op b.0) (expression_of σ (terms_for scope duration) p.0.1) x b.2 in
      let a = fact_again σ σ.functions scope p.0.0 b.0 b.1 in
      let e = expression_again σ (terms_for scope duration) p.0.1 m.0 m.1 in
      let args = two_shapes (fact_shape b.0) (expression_shape m.0) in
      subst EffectAgain m.2 (record {
        again = at_one σ.types (simple_effect_of σ duration) simple_effect_shape scope (writing_word op) args (writes op b.0 m.0) (joint_writing op) (ap (λ (k : EffectWord). changed k σ duration scope (writing_word op) args) (change_writing op) ∙ written_reads op b.0 m.0 a e);
        words = (writing_is_word op, (a.words, (e.words, tt)));
      })

  changed_again : (k : EffectWord) (w : List ℕ) (rest : Shapes) (x : SimpleEffect) → effect_word_of w ≡ k → joint_of w ≡ One → changed k σ duration scope w rest ≡ Some x → EffectAgain x
  unfolding changed
  changed_again Other w rest x is joins h = added w rest x is joins h
  changed_again Not w rest x is joins h = removed rest x h
  changed_again Assign w rest x is joins h = set writings.Assign rest x h
  changed_again Increase w rest x is joins h = set writings.Increase rest x h
  changed_again Decrease w rest x is joins h = set writings.Decrease rest x h
  changed_again ScaleUp w rest x is joins h = set writings.ScaleUp rest x h
  changed_again ScaleDown w rest x is joins h = no_some h
  changed_again When w rest x is joins h = no_some h

  simple_effect_again : (w : List ℕ) (rest : Shapes) (x : SimpleEffect) → joint_of w ≡ One → simple_effect_of σ duration scope w rest ≡ Some x → EffectAgain x
  unfolding simple_effect_of
  simple_effect_again w rest x joins h = changed_again (effect_word_of w) w rest x refl joins h

  simple_effect_is : (w : List ℕ) (rest : Shapes) (x : SimpleEffect) → joint_of w ≡ One → simple_effect_of σ duration scope w rest ≡ Some x → JoinedAgain σ.types (simple_effect_of σ duration) simple_effect_shape scope (one x)
  unfolding EffectAgain
  simple_effect_is w rest x joins h = simple_effect_again w rest x joins h

pub effect_again : (σ : Symbols) (duration : Bool) (scope : List Declared) (s : Shape) (e : Effect) → effect_of σ duration scope s ≡ Some e → JoinedAgain σ.types (simple_effect_of σ duration) simple_effect_shape scope e
effect_again σ duration scope s e h = joined_again σ.types (simple_effect_of σ duration) simple_effect_shape (simple_effect_is σ duration) scope s e h

-- ---- at time specifiers

joint_specifier : (m : TimeSpecifier) → joint_of (specifier_word m) ≡ One
unfolding joint_of is_word
joint_specifier AtStart = refl
joint_specifier OverAll = refl
joint_specifier AtEnd = refl

specifier_is_word : (m : TimeSpecifier) → IsWord (specifier_word m)
specifier_is_word AtStart = keyword (codes "at") refl
specifier_is_word OverAll = keyword (codes "over") refl
specifier_is_word AtEnd = keyword (codes "at") refl

place_is_word : (m : TimeSpecifier) → IsWord (specifier_place m)
place_is_word AtStart = keyword (codes "start") refl
place_is_word OverAll = keyword (codes "all") refl
place_is_word AtEnd = keyword (codes "end") refl

specifier_reads : (m : TimeSpecifier) (s : Shape) → specified_tree (specifier_word m) (two_shapes (leaf (specifier_place m)) s) ≡ Some (m, s)
unfolding specified_tree specifier_at specifier_of both only is_word
specifier_reads AtStart s = refl
specifier_reads OverAll s = refl
specifier_reads AtEnd s = refl

module _ {A : Type 0} (σ : Symbols) (inner : List Declared → TimeSpecifier → Shape → Option A) (tree : A → Shape) (inner_again : (scope : List Declared) (m : TimeSpecifier) (s : Shape) (x : A) → inner scope m s ≡ Some x → (inner scope m (tree x) ≡ Some x) × HasWords (tree x)) where
  abbrev reader : Reader (Timed A)
  reader = λ within. specified (inner within)

  timed : (m : TimeSpecifier) (x : A) → Timed A
  timed m x = record { specifier = m; what = x }

  timed_one : (scope : List Declared) (w : List ℕ) (rest : Shapes) (x : Timed A) → joint_of w ≡ One → specified (inner scope) w rest ≡ Some x → JoinedAgain σ.types reader (timed_shape tree) scope (one x)
  unfolding specified timed
  timed_one scope w rest x joins h =
      let b = bind_some (specified_tree w rest) (λ p. option_map (timed p.0) (inner scope p.0 p.1)) x h in
      let m = map_some (timed b.0.0) (inner scope b.0.0 b.0.1) x b.2 in
      let a = inner_again scope b.0.0 b.0.1 m.0 m.1 in
      let args = two_shapes (leaf (specifier_place b.0.0)) (tree m.0) in
      subst (λ (y : Timed A). JoinedAgain σ.types reader (timed_shape tree) scope (one y)) m.2 (record {
        again =
            at_one σ.types reader (timed_shape tree) scope (specifier_word b.0.0) args (timed b.0.0 m.0) (joint_specifier b.0.0)
            (ap (λ o. o >>= λ p. option_map (timed p.0) (inner scope p.0 p.1)) (specifier_reads b.0.0 (tree m.0)) ∙ ap (option_map (timed b.0.0)) a.0);
        words = (specifier_is_word b.0.0, (place_is_word b.0.0, (a.1, tt)));
      })

  pub timed_again : (scope : List Declared) (s : Shape) (j : Joined (Timed A)) → joined_of σ.types (λ within. specified (inner within)) scope s ≡ Some j → JoinedAgain σ.types (λ within. specified (inner within)) (timed_shape tree) scope j
  timed_again scope s j h = joined_again σ.types reader (timed_shape tree) timed_one scope s j h

condition_inner : (σ : Symbols) (scope : List Declared) (m : TimeSpecifier) (s : Shape) (c : Condition) → condition_of σ scope s ≡ Some c → (condition_of σ scope (condition_shape c) ≡ Some c) × HasWords (condition_shape c)
condition_inner σ scope m s c h = let a = condition_again σ scope s c h in (a.again, a.words)

pub timed_condition_again : (σ : Symbols) (scope : List Declared) (s : Shape) (j : Joined (Timed Condition)) → timed_condition_of σ scope s ≡ Some j → JoinedAgain σ.types (λ within. specified (λ m. condition_of σ within)) (timed_shape condition_shape) scope j
timed_condition_again σ scope s j h = timed_again σ (λ within m. condition_of σ within) condition_shape (condition_inner σ) scope s j h

effect_inner : (σ : Symbols) (scope : List Declared) (m : TimeSpecifier) (s : Shape) (e : Effect) → effect_at σ scope m s ≡ Some e → (effect_at σ scope m (effect_shape e) ≡ Some e) × HasWords (effect_shape e)
effect_inner σ scope AtStart s e h = let a = effect_again σ true scope s e h in (a.again, a.words)
effect_inner σ scope OverAll s e h = no_some h
effect_inner σ scope AtEnd s e h = let a = effect_again σ true scope s e h in (a.again, a.words)

pub timed_effect_again : (σ : Symbols) (scope : List Declared) (s : Shape) (j : Joined (Timed Effect)) → timed_effect_of σ scope s ≡ Some j → JoinedAgain σ.types (λ within. specified (effect_at σ within)) (timed_shape effect_shape) scope j
timed_effect_again σ scope s j h = timed_again σ (effect_at σ) effect_shape (effect_inner σ) scope s j h
