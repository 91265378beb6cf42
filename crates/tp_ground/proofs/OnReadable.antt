-- Labels that begin with different names, or go on with different words, are different, and so each is found where it stands.
use Rattle.std.proofs.Common.{◌≡◌, ℕ, zero, suc, ◌+◌, ◌<◌, Bool, true, false, cond, ◌&&◌, ◌||◌, List, [], ◌∷◌, ◌++◌, map, filter, length, get_or, Some, refl, sym, ap, ◌∙◌, subst, arith, true≢false}
use Rattle.std.proofs.Math.Bool.{and-false}
use Rattle.std.proofs.lemmas.Bool.{and_from}
use Rattle.std.proofs.lemmas.Slice.Eq.{bytes_eq-Decides}
use Rattle.std.specs.List.{flat_map, list_any, list_all, AllByRecursion, position_from}
use Rattle.std.specs.Str.{bytes_eq}
use Rattle.tp_syntax_ast.specs.Words.{IsLower}
use Rattle.tp_syntax_ast.specs.Terms.{is_name}
use Rattle.tp_syntax_ast.specs.Symbols.{Name, Declared, types_fit}
use Rattle.tp_syntax_ast.specs.TypedLists.{has_twice}
use Rattle.tp_task.specs.Words.{Words, same_words}
use Rattle.tp_ground_bindings.specs.Bindings.{Universe, choices, bindings}
use Rattle.tp_ground.specs.OwnNames.{IsOwnName}
use Rattle.tp_task.specs.Readable.{are_names, AreReadable}

-- ---- lists

all_append : {A : Type 0} (P : A → Type 0) (xs ys : List A) → AllByRecursion P xs → AllByRecursion P ys → AllByRecursion P (xs ++ ys)
all_append P [] ys all more = more
all_append P (x ∷ xs) ys all more = (all.0, all_append P xs ys all.1 more)

all_map : {A B : Type 0} (f : A → B) (P : A → Type 0) (Q : B → Type 0) → ((x : A) → P x → Q (f x)) → (xs : List A) → AllByRecursion P xs → AllByRecursion Q (map f xs)
all_map f P Q step [] h = tt
all_map f P Q step (x ∷ xs) h = (step x h.0, all_map f P Q step xs h.1)

all_at : {A : Type 0} (P : A → Type 0) (xs : List A) (i : ℕ) (d : A) → AllByRecursion P xs → i < length xs → P (get_or xs i d)
all_at P [] i d h lt = absurd (omega arith)
all_at P (x ∷ xs) zero d h lt = h.0
all_at P (x ∷ xs) (suc i) d h lt = all_at P xs i d h.1 (omega arith)

neither : (a b : Bool) → (a || b) ≡ false → (a ≡ false) × (b ≡ false)
neither true b h = absurd (true≢false h)
neither false b h = (refl, h)

-- ---- names that differ

same_name : (n : Name) → bytes_eq n n ≡ true
same_name n = (bytes_eq-Decides n n).1 refl

other_way : (a b : Name) → bytes_eq a b ≡ false → bytes_eq b a ≡ false
other_way a b differ = by (bytes_eq b a) refl
  where
    by : (t : Bool) → bytes_eq b a ≡ t → t ≡ false
    by true e = absurd (true≢false (sym ((bytes_eq-Decides a b).1 (sym ((bytes_eq-Decides b a).0 e))) ∙ differ))
    by false e = refl

same_words_refl : (w : Words) → same_words w w ≡ true
same_words_refl [] = refl
same_words_refl (n ∷ w) = and_from (bytes_eq n n) (same_words w w) (same_name n) (same_words_refl w)

-- ---- labels that differ

Apart : Words → List Words → Type 0
Apart w vs = AllByRecursion (λ v. same_words v w ≡ false) vs

Once : List Words → Type 0
Once [] = Unit {0}
Once (w ∷ ws) = Apart w ws × Once ws

found : (ws : List Words) → Once ws → (i k : ℕ) → i < length ws → position_from (same_words (get_or ws i [])) k ws ≡ Some (k + i)
unfolding Once Apart
found [] o i k lt = absurd (omega arith)
found (w ∷ ws) o zero k lt =
    ap (λ t. cond t (Some k) (position_from (same_words w) (k + 1) ws)) (same_words_refl w)
    ∙ ap Some (let e : k ≡ k + 0 = omega arith in e)
found (w ∷ ws) o (suc i) k lt =
    ap (λ t. cond t (Some k) (position_from (same_words (get_or ws i [])) (k + 1) ws)) (all_at (λ v. same_words v w ≡ false) ws i [] o.0 (omega arith))
    ∙ found ws o.1 i (k + 1) (omega arith)
    ∙ ap Some (let e : k + 1 + i ≡ k + suc i = omega arith in e)

once_append : (xs ys : List Words) → Once xs → Once ys → AllByRecursion (λ w. Apart w ys) xs → Once (xs ++ ys)
unfolding Once Apart
once_append [] ys a b h = b
once_append (x ∷ xs) ys a b h = (all_append (λ v. same_words v x ≡ false) xs ys a.0 h.0, once_append xs ys a.1 b h.1)

once_fronted : (n : Name) (rests : List Words) → Once rests → Once (map (λ r. n ∷ r) rests)
unfolding Once Apart
once_fronted n [] o = tt
once_fronted n (r ∷ rs) o =
    (all_map (λ v. n ∷ v) (λ v. same_words v r ≡ false) (λ v. same_words v (n ∷ r) ≡ false) (λ v h. ap (λ t. bytes_eq n n && t) h ∙ and-false (bytes_eq n n)) rs o.0, once_fronted n rs o.1)

-- ---- names in lower case

AreOwn : Words → Type 0
AreOwn w = AllByRecursion IsOwnName w

lower_words : (w : Words) → AreOwn w → AllByRecursion IsLower w
unfolding AreOwn
lower_words [] h = tt
lower_words (n ∷ w) h = (h.0.lower, lower_words w h.1)

all_names : (w : Words) → AreOwn w → list_all is_name w ≡ true
unfolding AreOwn
all_names [] h = refl
all_names (n ∷ w) h = and_from (is_name n) (list_all is_name w) h.0.signature (all_names w h.1)

-- a label has a name
record IsOwnLabel (w : Words) : Type 0 where
  pub names : are_names w ≡ true
  pub lower : AllByRecursion IsLower w

-- ---- labels made of a name and each of some rests

module _ {X : Type 0} (name : X → Name) (rests : X → List Words) where
  other_name : (n : Name) (r : Words) (x : X) (vs : List Words) → bytes_eq n (name x) ≡ false → Apart (n ∷ r) (map (λ v. name x ∷ v) vs)
  unfolding Apart
  other_name n r x [] differ = tt
  other_name n r x (v ∷ vs) differ = (ap (λ t. t && same_words v r) (other_way n (name x) differ), other_name n r x vs differ)

  apart_from : (n : Name) (r : Words) (xs : List X) → list_any (bytes_eq n) (map name xs) ≡ false → Apart (n ∷ r) (flat_map (λ x. map (λ r. name x ∷ r) (rests x)) xs)
  unfolding Apart
  apart_from n r [] differ = tt
  apart_from n r (x ∷ xs) differ =
      let both = neither (bytes_eq n (name x)) (list_any (bytes_eq n) (map name xs)) differ in
      all_append (λ v. same_words v (n ∷ r) ≡ false) (map (λ v. name x ∷ v) (rests x)) (flat_map (λ x. map (λ r. name x ∷ r) (rests x)) xs)
      (other_name n r x (rests x) both.0) (apart_from n r xs both.1)

  all_apart : (n : Name) (rs : List Words) (xs : List X) → list_any (bytes_eq n) (map name xs) ≡ false → AllByRecursion (λ w. Apart w (flat_map (λ x. map (λ r. name x ∷ r) (rests x)) xs)) (map (λ r. n ∷ r) rs)
  all_apart n [] xs differ = tt
  all_apart n (r ∷ rs) xs differ = (apart_from n r xs differ, all_apart n rs xs differ)

  once_blocks : ((x : X) → Once (rests x)) → (xs : List X) → has_twice (map name xs) ≡ false → Once (flat_map (λ x. map (λ r. name x ∷ r) (rests x)) xs)
  unfolding Once
  once_blocks each [] differ = tt
  once_blocks each (x ∷ xs) differ =
      let both = neither (list_any (bytes_eq (name x)) (map name xs)) (has_twice (map name xs)) differ in
      once_append (map (λ r. name x ∷ r) (rests x)) (flat_map (λ x. map (λ r. name x ∷ r) (rests x)) xs)
      (once_fronted (name x) (rests x) (each x)) (once_blocks each xs both.1) (all_apart (name x) (rests x) xs both.0)

  own_blocks : (P : Words → Type 0) → ((n : Name) (r : Words) → IsOwnName n → AreOwn r → P (n ∷ r)) → ((x : X) → AllByRecursion AreOwn (rests x)) → (xs : List X) → AllByRecursion IsOwnName (map name xs) → AllByRecursion P (flat_map (λ x. map (λ r. name x ∷ r) (rests x)) xs)
  own_blocks P step each [] h = tt
  own_blocks P step each (x ∷ xs) h =
      all_append P (map (λ r. name x ∷ r) (rests x)) (flat_map (λ x. map (λ r. name x ∷ r) (rests x)) xs)
      (all_map (λ r. name x ∷ r) AreOwn P (λ r are. step (name x) r h.0 are) (rests x) (each x)) (own_blocks P step each xs h.1)

-- ---- labels of which some are kept

module _ {Y : Type 0} (label : Y → Words) (keep : Y → Bool) where
  all_few : (P : Words → Type 0) (ys : List Y) → AllByRecursion P (map label ys) → AllByRecursion P (map label (filter keep ys))
  all_few P [] h = tt
  all_few P (y ∷ ys) h = by (keep y) h.0 (all_few P ys h.1)
    where
      by : (b : Bool) → P (label y) → AllByRecursion P (map label (filter keep ys)) → AllByRecursion P (map label (cond b (y ∷ filter keep ys) (filter keep ys)))
      by true first rest = (first, rest)
      by false first rest = rest

  once_few : (ys : List Y) → Once (map label ys) → Once (map label (filter keep ys))
  unfolding Once Apart
  once_few [] o = tt
  once_few (y ∷ ys) o = by (keep y) (all_few (λ v. same_words v (label y) ≡ false) ys o.0) (once_few ys o.1)
    where
      by : (b : Bool) → AllByRecursion (λ v. same_words v (label y) ≡ false) (map label (filter keep ys)) → Once (map label (filter keep ys)) → Once (map label (cond b (y ∷ filter keep ys) (filter keep ys)))
      by true first rest = (first, rest)
      by false first rest = rest

-- labels of names, each of which stands once, are found where they stand
readable_of : (ls : List Words) → Once ls → AllByRecursion IsOwnLabel ls → AreReadable ls
readable_of ls once own = record {
  names = λ i lt. (all_at IsOwnLabel ls i [] own lt).names;
  lower = λ i lt. (all_at IsOwnLabel ls i [] own lt).lower;
  found = λ i lt. found ls once i 0 lt ∙ ap Some (let e : 0 + i ≡ i = omega arith in e);
}

-- ---- the objects of a variable

themselves : (ns : List Name) → map (λ n. n) ns ≡ ns
themselves [] = refl
themselves (n ∷ ns) = ap (λ (ms : List Name). n ∷ ms) (themselves ns)

module _ (t : Declared → Bool) where
  not_among : (n : Name) (ds : List Declared) → list_any (bytes_eq n) (map (λ d. d.name) ds) ≡ false → list_any (bytes_eq n) (map (λ d. d.name) (filter t ds)) ≡ false
  not_among n [] differ = refl
  not_among n (d ∷ ds) differ =
      let both = neither (bytes_eq n d.name) (list_any (bytes_eq n) (map (λ d. d.name) ds)) differ in
      by (t d) both.0 (not_among n ds both.1)
    where
      by : (b : Bool) → bytes_eq n d.name ≡ false → list_any (bytes_eq n) (map (λ d. d.name) (filter t ds)) ≡ false → list_any (bytes_eq n) (map (λ d. d.name) (cond b (d ∷ filter t ds) (filter t ds))) ≡ false
      by true first rest = ap (λ s. s || list_any (bytes_eq n) (map (λ d. d.name) (filter t ds))) first ∙ rest
      by false first rest = rest

  once_kept : (ds : List Declared) → has_twice (map (λ d. d.name) ds) ≡ false → has_twice (map (λ d. d.name) (filter t ds)) ≡ false
  once_kept [] differ = refl
  once_kept (d ∷ ds) differ =
      let both = neither (list_any (bytes_eq d.name) (map (λ d. d.name) ds)) (has_twice (map (λ d. d.name) ds)) differ in
      by (t d) (not_among d.name ds both.0) (once_kept ds both.1)
    where
      by : (b : Bool) → list_any (bytes_eq d.name) (map (λ d. d.name) (filter t ds)) ≡ false → has_twice (map (λ d. d.name) (filter t ds)) ≡ false → has_twice (map (λ d. d.name) (cond b (d ∷ filter t ds) (filter t ds))) ≡ false
      by true first rest = ap (λ s. s || has_twice (map (λ d. d.name) (filter t ds))) first ∙ rest
      by false first rest = rest

  own_kept : (ds : List Declared) → AllByRecursion IsOwnName (map (λ d. d.name) ds) → AllByRecursion IsOwnName (map (λ d. d.name) (filter t ds))
  own_kept [] h = tt
  own_kept (d ∷ ds) h = by (t d) h.0 (own_kept ds h.1)
    where
      by : (b : Bool) → IsOwnName d.name → AllByRecursion IsOwnName (map (λ d. d.name) (filter t ds)) → AllByRecursion IsOwnName (map (λ d. d.name) (cond b (d ∷ filter t ds) (filter t ds)))
      by true first rest = (first, rest)
      by false first rest = rest

-- ---- the labels of ground actions

module _ (u : Universe) (own : AllByRecursion IsOwnName (map (λ o. o.name) u.objects)) (once : has_twice (map (λ o. o.name) u.objects) ≡ false) where
  once_bindings : (ps : List Declared) → Once (bindings u ps)
  unfolding Once Apart
  once_bindings [] = (tt, tt)
  once_bindings (p ∷ ps) =
      once_blocks (λ (n : Name). n) (λ n. bindings u ps) (λ n. once_bindings ps) (choices u p)
      (ap has_twice (themselves (choices u p)) ∙ once_kept (λ o. types_fit u.types o.types p.types) u.objects once)

  own_bindings : (ps : List Declared) → AllByRecursion AreOwn (bindings u ps)
  unfolding AreOwn
  own_bindings [] = (tt, tt)
  own_bindings (p ∷ ps) =
      own_blocks (λ (n : Name). n) (λ n. bindings u ps) AreOwn (λ n r a b. (a, b)) (λ n. own_bindings ps) (choices u p)
      (subst (AllByRecursion IsOwnName) (sym (themselves (choices u p))) (own_kept (λ o. types_fit u.types o.types p.types) u.objects own))

  module _ {A : Type 0} (name : A → Name) (parameters : A → List Declared) (as_ : List A) (named : AllByRecursion IsOwnName (map name as_)) (each_once : has_twice (map name as_) ≡ false) where
    labels : List Words
    labels = flat_map (λ a. map (λ os. name a ∷ os) (bindings u (parameters a))) as_

    all_once : Once labels
    unfolding labels
    all_once = once_blocks name (λ a. bindings u (parameters a)) (λ a. once_bindings (parameters a)) as_ each_once

    all_own : AllByRecursion IsOwnLabel labels
    unfolding labels AreOwn
    all_own = own_blocks name (λ a. bindings u (parameters a)) IsOwnLabel step (λ a. own_bindings (parameters a)) as_ named
      where
        step : (n : Name) (r : Words) → IsOwnName n → AreOwn r → IsOwnLabel (n ∷ r)
        step n r a b = record { names = all_names (n ∷ r) (a, b); lower = lower_words (n ∷ r) (a, b) }

    pub labels_readable : AreReadable (flat_map (λ a. map (λ os. name a ∷ os) (bindings u (parameters a))) as_)
    unfolding labels
    labels_readable = readable_of labels all_once all_own

    pub kept_readable : {Y : Type 0} (label : Y → Words) (keep : Y → Bool) (ys : List Y) → map label ys ≡ flat_map (λ a. map (λ os. name a ∷ os) (bindings u (parameters a))) as_ → AreReadable (map label (filter keep ys))
    unfolding labels
    kept_readable label keep ys e =
        readable_of (map label (filter keep ys)) (once_few label keep ys (subst Once (sym e) all_once))
        (all_few label keep IsOwnLabel ys (subst (AllByRecursion IsOwnLabel) (sym e) all_own))
