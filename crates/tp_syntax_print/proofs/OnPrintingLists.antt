-- Typed lists that were read are read again from each item with its own types.
use Rattle.std.proofs.Common.{◌≡◌, ℕ, List, [], ◌∷◌, Bool, true, false, ◌&&◌, not, Option, Some, option_map, codes, refl, sym, ap, ◌∙◌, subst, ◌⊎◌, inl, inr}
use Rattle.std.specs.List.{list_any, AllByRecursion}
use Rattle.std.specs.Str.{bytes_eq}
use Rattle.std.proofs.lemmas.Slice.Eq.{bytes_eq-Decides}
use Rattle.tp_text.specs.Shapes.{Shape, leaf, node, Shapes, no_shapes, shape}
use Rattle.tp_text.specs.Texts.{IsWord, HasWords, AllHaveWords}
use Rattle.tp_syntax_ast.specs.Gives.{◌>>=◌, provided}
use Rattle.tp_syntax_ast.specs.Words.{is_word}
use Rattle.tp_syntax_ast.specs.Terms.{is_name, is_variable, name_of}
use Rattle.tp_syntax_ast.specs.Symbols.{Name, Declared, Parent}
use Rattle.tp_syntax_ast.specs.TypedLists.{is_dash, begins_dash, item_at, name_at, names_of, is_either, some_of, either_of, type_at, Typing, joined, unless, typing_of, after_dash, run_of, typed_list, are_declared, parameters_of, parameters_at}
use Rattle.tp_syntax_ast.specs.Domains.{objects_in}
use Rattle.tp_syntax_print.specs.Printing.{name_shapes, types_shape, typed_shapes}
use Rattle.tp_syntax_ast.specs.declared.words.Items.{Items}
use Rattle.tp_syntax_ast.specs.declared.words.Items.TheVariants.{Variables, Names}
use Rattle.tp_syntax_print.proofs.OnPrintingWords.{some_is, bind_some, map_some, provided_some, no_some, cond_some, IsName, IsVariable, name_read, name_again, variable_read, variable_again, name_word, variable_word, keyword}

-- ---- items

abbrev IsItem : Items → Name → Type 0
IsItem Variables n = IsVariable n
IsItem Names n = IsName n

item_read : (k : Items) (s : Shape) (n : Name) → item_at k s ≡ Some n → IsItem k n
unfolding item_at
item_read Variables (leaf w) n h = (variable_read w n h).1
item_read Names (leaf w) n h = (name_read w n h).1
item_read Variables (node ss) n h = no_some h
item_read Names (node ss) n h = no_some h

item_again : (k : Items) (n : Name) → IsItem k n → item_at k (leaf n) ≡ Some n
unfolding item_at
item_again Variables n is = variable_again n is
item_again Names n is = name_again n is

item_word : (k : Items) (n : Name) → IsItem k n → IsWord n
item_word Variables n is = variable_word n is.signature
item_word Names n is = name_word n is.signature

pub bytes_same : (a b : List ℕ) → bytes_eq a b ≡ true → a ≡ b
bytes_same a b h = (bytes_eq-Decides a b).0 h

differs : (b : Bool) (P : Type 0) → (b ≡ true → P) → (P → ⊥) → b ≡ false
differs true P to never = absurd (never (to refl))
differs false P to never = refl

pub bytes_differ : (a b : List ℕ) → (a ≡ b → ⊥) → bytes_eq a b ≡ false
bytes_differ a b never = differs (bytes_eq a b) (a ≡ b) (bytes_same a b) never

no_dash : (k : Items) (n : Name) → IsItem k n → n ≡ codes "-" → ⊥
no_dash Variables n is e = let f : false ≡ true = ap is_variable (sym e) ∙ is.signature in cc
no_dash Names n is e = let f : false ≡ true = ap is_name (sym e) ∙ is.signature in cc

item_no_dash : (k : Items) (n : Name) → IsItem k n → is_dash (leaf n) ≡ false
unfolding is_dash
item_no_dash k n is = bytes_differ n (codes "-") (no_dash k n is)

-- ---- types

name_at_read : (s : Shape) (n : Name) → name_at s ≡ Some n → IsName n
unfolding name_at
name_at_read (leaf w) n h = (name_read w n h).1
name_at_read (node ss) n h = no_some h

names_read : (ss : Shapes) (ns : List Name) → names_of ss ≡ Some ns → AllByRecursion IsName ns
unfolding names_of
names_read no_shapes ns h = subst (AllByRecursion IsName) (some_is [] ns h) tt
names_read (shape s ss) ns h =
    let b = bind_some (name_at s) (λ n. option_map (λ ms. n ∷ ms) (names_of ss)) ns h in
    let m = map_some (λ ms. b.0 ∷ ms) (names_of ss) ns b.2 in
    subst (AllByRecursion IsName) m.2 (name_at_read s b.0 b.1, names_read ss m.0 m.1)

names_again : (ns : List Name) → AllByRecursion IsName ns → names_of (name_shapes ns) ≡ Some ns
unfolding names_of name_at
names_again [] h = refl
names_again (n ∷ ns) h =
    ap (λ o. o >>= λ m. option_map (λ ms. m ∷ ms) (names_of (name_shapes ns))) (name_again n h.0)
    ∙ ap (option_map (λ ms. n ∷ ms)) (names_again ns h.1)

names_words : (ns : List Name) → AllByRecursion IsName ns → AllHaveWords (name_shapes ns)
names_words [] h = tt
names_words (n ∷ ns) h = (name_word n h.0.signature, names_words ns h.1)

pub record AreTypes (k : Items) (ts : List Name) : Type 0 where
  pub again : type_at k (types_shape ts) ≡ Some ts
  pub words : HasWords (types_shape ts)

pub one_type : (k : Items) (n : Name) → IsName n → AreTypes k (n ∷ [])
unfolding type_at
one_type Variables n is = record { again = ap (option_map (λ m. m ∷ [])) (name_again n is); words = name_word n is.signature }
one_type Names n is = record { again = ap (option_map (λ m. m ∷ [])) (name_again n is); words = name_word n is.signature }

some_types : (ns ts : List Name) → AllByRecursion IsName ns → some_of ns ≡ Some ts → AreTypes Variables ts
unfolding type_at either_of is_either is_word
some_types [] ts are h = no_some h
some_types (n ∷ []) ts are h = subst (AreTypes Variables) (some_is (n ∷ []) ts h) (one_type Variables n are.0)
some_types (n ∷ m ∷ ns) ts are h =
    subst (AreTypes Variables) (some_is (n ∷ m ∷ ns) ts h) (record {
      again = ap (λ o. o >>= some_of) (names_again (n ∷ m ∷ ns) are);
      words = (keyword (codes "either") refl, names_words (n ∷ m ∷ ns) are);
    })

type_read : (k : Items) (s : Shape) (ts : List Name) → type_at k s ≡ Some ts → AreTypes k ts
unfolding type_at either_of
type_read Variables (leaf w) ts h =
    let m = map_some (λ n. n ∷ []) (name_of w) ts h in
    subst (AreTypes Variables) m.2 (one_type Variables m.0 (name_read w m.0 m.1).1)
type_read Names (leaf w) ts h =
    let m = map_some (λ n. n ∷ []) (name_of w) ts h in
    subst (AreTypes Names) m.2 (one_type Names m.0 (name_read w m.0 m.1).1)
type_read Variables (node no_shapes) ts h = no_some h
type_read Variables (node (shape s ss)) ts h =
    let c = cond_some (is_either s) (names_of ss >>= some_of) ts h in
    let b = bind_some (names_of ss) some_of ts c.1 in
    some_types b.0 ts (names_read ss b.0 b.1) b.2
type_read Names (node ss) ts h = no_some h

object_type : (k : Items) → AreTypes k (codes "object" ∷ [])
unfolding type_at name_of
object_type Variables = record { again = refl; words = keyword (codes "object") refl }
object_type Names = record { again = refl; words = keyword (codes "object") refl }

-- ---- lists

pub record IsTyped (k : Items) (d : Declared) : Type 0 where
  pub name : IsItem k d.name
  pub types : AreTypes k d.types

unfoldable pub AreTyped : Items → List Declared → Type 0
AreTyped k ds = AllByRecursion (IsTyped k) ds

unless_some : (b : Bool) (o : Option Typing) (r : Typing) → unless b o ≡ Some r → o ≡ Some r
unless_some true o r h = no_some h
unless_some false o r h = h

module _ (k : Items) where
  Read : Typing → Type 0
  Read r = AllByRecursion (IsTyped k) r.0 × AreTypes k r.1

  by_dash : (b : Bool) (x y : Option Typing) (r : Typing) → elim b as (λ v. Option Typing) [ true ↦ x | false ↦ y ] ≡ Some r → (x ≡ Some r) ⊎ (y ≡ Some r)
  by_dash true x y r h = inl h
  by_dash false x y r h = inr h

  mutual
    unfolding typing_of Read

    typing_read : (ss : Shapes) (r : Typing) → typing_of k ss ≡ Some r → Read r
    typing_read no_shapes r h = subst Read (some_is ([], codes "object" ∷ []) r h) (tt, object_type k)
    typing_read (shape s ss) r h =
        elim (by_dash (is_dash s) (after_dash k ss) (item_at k s >>= λ v. option_map (joined v) (typing_of k ss)) r h) [
          | inl a ↦ after_read ss r a
          | inr i ↦
              let b = bind_some (item_at k s) (λ v. option_map (joined v) (typing_of k ss)) r i in
              let m = map_some (joined b.0) (typing_of k ss) r b.2 in
              let more = typing_read ss m.0 m.1 in
              subst Read m.2 ((record { name = item_read k s b.0 b.1; types = more.1 }, more.0), more.1)
        ]

    after_read : (ss : Shapes) (r : Typing) → after_dash k ss ≡ Some r → Read r
    after_read no_shapes r h = no_some h
    after_read (shape t ss) r h =
        let b = bind_some (type_at k t) (λ ts. option_map (λ q. (q.0, ts)) (unless (begins_dash ss) (typing_of k ss))) r h in
        let m = map_some (λ (q : Typing). (q.0, b.0)) (unless (begins_dash ss) (typing_of k ss)) r b.2 in
        let more = typing_read ss m.0 (unless_some (begins_dash ss) (typing_of k ss) m.0 m.1) in
        subst Read m.2 (more.0, type_read k t b.0 b.1)

  pub typed_list_read : (ss : Shapes) (ds : List Declared) → typed_list k ss ≡ Some ds → AreTyped k ds
  unfolding typed_list AreTyped Read
  typed_list_read ss ds h =
      let m = map_some (λ (r : Typing). r.0) (run_of k ss) ds h in
      subst (AllByRecursion (IsTyped k)) m.2 (typing_read ss m.0 (unless_some (begins_dash ss) (typing_of k ss) m.0 m.1)).0

  abbrev shown : List Declared → Typing
  shown [] = ([], codes "object" ∷ [])
  shown (d ∷ ds) = (d ∷ ds, d.types)

  shown_items : (ds : List Declared) → (shown ds).0 ≡ ds
  shown_items [] = refl
  shown_items (d ∷ ds) = refl

  begins_item : (ds : List Declared) → AllByRecursion (IsTyped k) ds → begins_dash (typed_shapes ds) ≡ false
  begins_item [] h = refl
  begins_item (d ∷ ds) h = item_no_dash k d.name h.0.name

  at_item : (s : Shape) (ss : Shapes) → is_dash s ≡ false → typing_of k (shape s ss) ≡ (item_at k s >>= λ v. option_map (joined v) (typing_of k ss))
  unfolding typing_of
  at_item s ss e = ap (λ (b : Bool). elim b as (λ v. Option Typing) [ true ↦ after_dash k ss | false ↦ item_at k s >>= λ v. option_map (joined v) (typing_of k ss) ]) e

  at_dash : (ss : Shapes) → typing_of k (shape (leaf (codes "-")) ss) ≡ after_dash k ss
  unfolding typing_of is_dash
  at_dash ss = refl

  behind : (t : Shape) (ts : List Name) (ss : Shapes) (r : Typing) → type_at k t ≡ Some ts → begins_dash ss ≡ false → typing_of k ss ≡ Some r → after_dash k (shape t ss) ≡ Some (r.0, ts)
  unfolding typing_of
  behind t ts ss r typed begins more =
      ap (λ o. o >>= λ us. option_map (λ q. (q.0, us)) (unless (begins_dash ss) (typing_of k ss))) typed
      ∙ ap (λ (b : Bool). option_map (λ (q : Typing). (q.0, ts)) (unless b (typing_of k ss))) begins
      ∙ ap (option_map (λ (q : Typing). (q.0, ts))) more

  nothing : typing_of k no_shapes ≡ Some ([], codes "object" ∷ [])
  unfolding typing_of
  nothing = refl

  typing_again : (ds : List Declared) → AllByRecursion (IsTyped k) ds → typing_of k (typed_shapes ds) ≡ Some (shown ds)
  typing_again [] h = nothing
  typing_again (d ∷ ds) h =
      at_item (leaf d.name) (shape (leaf (codes "-")) (shape (types_shape d.types) (typed_shapes ds))) (item_no_dash k d.name h.0.name)
      ∙ ap (λ o. o >>= λ v. option_map (joined v) (typing_of k (shape (leaf (codes "-")) (shape (types_shape d.types) (typed_shapes ds))))) (item_again k d.name h.0.name)
      ∙ ap (option_map (joined d.name)) (at_dash (shape (types_shape d.types) (typed_shapes ds)) ∙ behind (types_shape d.types) d.types (typed_shapes ds) (shown ds) h.0.types.again (begins_item ds h.1) (typing_again ds h.1))
      ∙ ap (λ (es : List Declared). Some (d ∷ es, d.types)) (shown_items ds)

  pub typed_list_again : (ds : List Declared) → AreTyped k ds → typed_list k (typed_shapes ds) ≡ Some ds
  unfolding typed_list AreTyped
  typed_list_again ds h =
      ap (λ (b : Bool). option_map (λ (r : Typing). r.0) (unless b (typing_of k (typed_shapes ds)))) (begins_item ds h)
      ∙ ap (option_map (λ (r : Typing). r.0)) (typing_again ds h)
      ∙ ap (λ (es : List Declared). Some es) (shown_items ds)

  pub typed_words : (ds : List Declared) → AreTyped k ds → AllHaveWords (typed_shapes ds)
  unfolding AreTyped
  typed_words [] h = tt
  typed_words (d ∷ ds) h = (item_word k d.name h.0.name, (keyword (codes "-") refl, (h.0.types.words, typed_words ds h.1)))

-- ---- variables and objects

pub parameters_again : (types : List Parent) (ss : Shapes) (vs : List Declared) → parameters_of types ss ≡ Some vs → (parameters_of types (typed_shapes vs) ≡ Some vs) × AllHaveWords (typed_shapes vs)
unfolding parameters_of
parameters_again types ss vs h =
    let test : List Declared → Bool = λ us. are_declared types us && not (list_any (λ v. bytes_eq v.name (codes "?duration")) us) in
    let b = bind_some (typed_list Variables ss) (λ us. provided (test us) us) vs h in
    let p = provided_some (test b.0) b.0 vs b.2 in
    let typed = subst (AreTyped Variables) p.1 (typed_list_read Variables ss b.0 b.1) in (
      ap (λ o. o >>= λ us. provided (test us) us) (typed_list_again Variables vs typed)
          ∙ ap (λ (t : Bool). provided t vs) (ap test (sym p.1) ∙ p.0),
      typed_words Variables vs typed,
    )

pub variables_again : (types : List Parent) (s : Shape) (vs : List Declared) → parameters_at types s ≡ Some vs → (parameters_at types (node (typed_shapes vs)) ≡ Some vs) × AllHaveWords (typed_shapes vs)
variables_again types (leaf w) vs h = no_some h
variables_again types (node ss) vs h = parameters_again types ss vs h

pub objects_again : (types : List Parent) (ss : Shapes) (ds : List Declared) → objects_in types ss ≡ Some ds → (objects_in types (typed_shapes ds) ≡ Some ds) × AllHaveWords (typed_shapes ds)
unfolding objects_in
objects_again types ss ds h =
    let b = bind_some (typed_list Names ss) (λ es. provided (are_declared types es) es) ds h in
    let p = provided_some (are_declared types b.0) b.0 ds b.2 in
    let typed = subst (AreTyped Names) p.1 (typed_list_read Names ss b.0 b.1) in (
      ap (λ o. o >>= λ es. provided (are_declared types es) es) (typed_list_again Names ds typed)
          ∙ ap (λ (t : Bool). provided t ds) (ap (are_declared types) (sym p.1) ∙ p.0),
      typed_words Names ds typed,
    )
