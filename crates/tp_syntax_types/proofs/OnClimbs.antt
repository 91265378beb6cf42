-- Types that are one of some names, or below one of them.
use Rattle.std.proofs.Common.{◌≡◌, ℕ, ◌+◌, List, [], ◌∷◌, ◌++◌, ◌<◌, length, map, take, drop, get_or, cond, Bool, true, false, ◌||◌, ◌&&◌, Some, None, Bor, String, Global, string_bytes, refl, sym, ap, ◌∙◌}
use Rattle.std.specs.List.{list_any}
use Rattle.std.specs.Str.{bytes_eq}
use Rattle.std.proofs.lemmas.Bool.{or_parts}
use Rattle.std.proofs.lemmas.List.{take_more, drop_more, map-append}
use Rattle.std.proofs.lemmas.List.Folds.{list_any-append}
use Rattle.tp_syntax_ast.specs.Symbols.{Name, Parent, parent_of, at_or_below, types_fit}
use Rattle.tp_syntax_types.specs.Among.{has_mark, AreAmong}
use Rattle.tp_syntax_types.specs.NameSets.{same_text, insert_key}
use Rattle.std.specs.Cmp.Lexicographic.{bytes_decides}
use Rattle.tp_syntax_types.proofs.OnTypes.{goes_up, is_there, is_highest}

or_left : (a b : Bool) → a ≡ true → (a || b) ≡ true
or_left a b h = ap (λ (v : Bool). v || b) h

or_right : (a b : Bool) → b ≡ true → (a || b) ≡ true
or_right true b h = refl
or_right false b h = h

or_none : (a b : Bool) → a ≡ false → b ≡ false → (a || b) ≡ false
or_none a b h k = ap (λ (v : Bool). v || b) h ∙ k

or_false : (a b : Bool) → (a || (b || false)) ≡ (a || b)
or_false true b = refl
or_false false true = refl
or_false false false = refl

or_known : (a b : Bool) → (b ≡ true → a ≡ true) → a ≡ (a || b)
or_known true b h = refl
or_known false false h = refl
or_known false true h = h refl

module _ (ds : List Parent) where
  here_first : (m : ℕ) (ps : List Name) (t p : Name) (b : Bool) → bytes_eq t p ≡ b → (b || list_any (bytes_eq t) ps) ≡ true → (list_any (bytes_eq t) ps ≡ true → list_any (λ q. at_or_below ds m t q) ps ≡ true) → list_any (λ q. at_or_below ds m t q) (p ∷ ps) ≡ true
  here_first m ps t p true is h rest = or_left (at_or_below ds m t p) (list_any (λ q. at_or_below ds m t q) ps) (is_there ds m t p is)
  here_first m ps t p false is h rest = or_right (at_or_below ds m t p) (list_any (λ q. at_or_below ds m t q) ps) (rest h)

  -- one of the names
  pub found : (m : ℕ) (ps : List Name) (t : Name) → list_any (bytes_eq t) ps ≡ true → list_any (λ q. at_or_below ds m t q) ps ≡ true
  found m [] t h = cc
  found m (p ∷ ps) t h = here_first m ps t p (bytes_eq t p) refl h (found m ps t)

  -- none of them, with nothing above it
  pub highest : (m : ℕ) (ps : List Name) (t : Name) → list_any (bytes_eq t) ps ≡ false → parent_of t ds ≡ None → list_any (λ q. at_or_below ds m t q) ps ≡ false
  highest m [] t h none = refl
  highest m (p ∷ ps) t h none =
      let e = or_parts (bytes_eq t p) (list_any (bytes_eq t) ps) h in
      or_none (at_or_below ds m t p) (list_any (λ q. at_or_below ds m t q) ps) (is_highest ds m t p e.0 none) (highest m ps t e.1 none)

  -- none of them, with a parent
  pub one_up : (left k : ℕ) (ps : List Name) (t q : Name) → left ≡ k + 1 → list_any (bytes_eq t) ps ≡ false → parent_of t ds ≡ Some q → list_any (λ p. at_or_below ds left t p) ps ≡ list_any (λ p. at_or_below ds k q p) ps
  one_up left k [] t q is h up = refl
  one_up left k (p ∷ ps) t q is h up =
      let e = or_parts (bytes_eq t p) (list_any (bytes_eq t) ps) h in
      ap (λ (b : Bool). b || list_any (λ r. at_or_below ds left t r) ps) (goes_up ds left k t p q is e.0 up)
      ∙ ap (λ (b : Bool). at_or_below ds k q p || b) (one_up left k ps t q is e.1 up)

  pub at_zero : (left : ℕ) (ps : List Name) (t : Name) → left ≡ 0 → list_any (λ p. at_or_below ds left t p) ps ≡ list_any (bytes_eq t) ps
  at_zero left [] t is = refl
  at_zero left (p ∷ ps) t is =
      ap (λ (n : ℕ). at_or_below ds n t p || list_any (λ r. at_or_below ds left t r) ps) is
      ∙ ap (λ (b : Bool). bytes_eq t p || b) (at_zero left ps t is)

-- ---- one more name

marked_once : (n : Name) (ks : List (Bor (List ℕ))) (k : Bor (List ℕ)) (b : Bool) → has_mark ks k.now ≡ b → has_mark (cond b ks (ks ++ k ∷ [])) n ≡ (has_mark ks n || bytes_eq n k.now)
marked_once n ks k false is = list_any-append (λ j. bytes_eq n j.now) ks (k ∷ []) ∙ or_false (has_mark ks n) (bytes_eq n k.now)
marked_once n ks k true is = or_known (has_mark ks n) (bytes_eq n k.now) (λ t. ap (has_mark ks) ((bytes_decides n k.now).0 t) ∙ is)

one_more : (n : Name) (ks : List (Bor (List ℕ))) (k : Bor (List ℕ)) → has_mark (insert_key same_text ks k) n ≡ (has_mark ks n || bytes_eq n k.now)
one_more n ks k = marked_once n ks k (has_mark ks k.now) refl

pub among_more : (ps : List Name) (ks js : List (Bor (List ℕ))) (k : Bor (List ℕ)) (m : Name) → m ≡ k.now → js ≡ insert_key same_text ks k → AreAmong ps ks → AreAmong (ps ++ m ∷ []) js
among_more ps ks js k m is grown are = λ n.
    ap (λ (ls : List (Bor (List ℕ))). has_mark ls n) grown
    ∙ one_more n ks k
    ∙ ap (λ (b : Bool). b || bytes_eq n k.now) (are n)
    ∙ sym (list_any-append (bytes_eq n) ps (m ∷ []) ∙ or_false (list_any (bytes_eq n) ps) (bytes_eq n m) ∙ ap (λ (x : Name). list_any (bytes_eq n) ps || bytes_eq n x) is)

-- ---- lists of texts, one after another

-- the names of a list's front, and one more of them
pub front_more : (ss : List (String Global)) (i : ℕ) (s : String Global) (n : Name) → i < length ss → s ≡ get_or ss i s → n ≡ string_bytes s → map string_bytes (take i ss) ++ n ∷ [] ≡ map string_bytes (take (i + 1) ss)
front_more ss i s n lt at is =
    ap (λ (m : Name). map string_bytes (take i ss) ++ m ∷ []) (is ∙ ap (λ (t : String Global). string_bytes t) at)
    ∙ sym (ap (map string_bytes) (take_more ss i s lt) ∙ map-append string_bytes (take i ss) (get_or ss i s ∷ []))

-- one more of a list's names
pub rest_more : (ds : List Parent) (ps : List Name) (ss : List (String Global)) (i : ℕ) (s : String Global) (b : Bool) → i < length ss → s ≡ get_or ss i s → b ≡ list_any (λ p. at_or_below ds (length ds) (string_bytes s) p) ps → types_fit ds (map string_bytes (drop i ss)) ps ≡ (b && types_fit ds (map string_bytes (drop (i + 1) ss)) ps)
rest_more ds ps ss i s b lt at is =
    ap (λ (us : List (String Global)). types_fit ds (map string_bytes us) ps) (drop_more ss i s lt)
    ∙ ap (λ (u : String Global). list_any (λ p. at_or_below ds (length ds) (string_bytes u) p) ps && types_fit ds (map string_bytes (drop (i + 1) ss)) ps) (sym at)
    ∙ ap (λ (v : Bool). v && types_fit ds (map string_bytes (drop (i + 1) ss)) ps) (sym is)
