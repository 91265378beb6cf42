-- The section of types is read again from what is printed: those that were declared by their mention stand there too.
use Rattle.std.proofs.Common.{◌≡◌, ℕ, List, [], ◌∷◌, ◌++◌, map, filter, Bool, true, false, cond, not, ◌&&◌, ◌||◌, Some, codes, refl, sym, ap, ◌∙◌, subst, append-nil}
use Rattle.std.specs.List.{list_all, list_any, AllByRecursion}
use Rattle.std.specs.Str.{bytes_eq}
use Rattle.std.proofs.lemmas.Slice.Eq.{bytes_eq-Decides}
use Rattle.std.proofs.lemmas.Bool.{and_parts, and_from, not-true}
use Rattle.std.proofs.lemmas.List.{map-append}
use Rattle.tp_text.specs.Shapes.{leaf, Shapes, shape}
use Rattle.tp_text.specs.Texts.{AllHaveWords}
use Rattle.tp_syntax_ast.specs.Gives.{◌>>=◌, provided}
use Rattle.tp_syntax_ast.specs.Terms.{name_of}
use Rattle.tp_syntax_ast.specs.Symbols.{Name, Declared, Parent}
use Rattle.tp_syntax_ast.specs.TypedLists.{type_at, typed_list, has_twice}
use Rattle.tp_syntax_ast.specs.Domains.{object, above, type_below, is_object, mentioned, with_mentioned, no_cycle, types_from, types_in}
use Rattle.tp_syntax_print.specs.Printing.{typed_shapes, type_shapes}
use Rattle.tp_syntax_ast.specs.declared.words.Items.TheVariants.{Names}
use Rattle.tp_syntax_print.proofs.OnPrintingWords.{bind_some, map_some, provided_some, no_some, IsName, name_read}
use Rattle.tp_syntax_print.proofs.OnPrintingLists.{bytes_differ, AreTypes, one_type, IsTyped, AreTyped, typed_list_read, typed_list_again, typed_words}

-- ---- names among names

same_bytes : (a : List ℕ) → bytes_eq a a ≡ true
same_bytes a = (bytes_eq-Decides a a).1 refl

abbrev Among : List Name → Name → Bool
Among ns n = list_any (bytes_eq n) ns

true_or : (a b : Bool) → b ≡ true → (a || b) ≡ true
true_or true b h = refl
true_or false b h = h

or_true : (a b : Bool) → a ≡ true → (a || b) ≡ true
or_true true b h = refl
or_true false b h = absurd (let f : false ≡ true = h in cc)

or_false : (a b : Bool) → a ≡ false → b ≡ false → (a || b) ≡ false
or_false true b h k = absurd (let f : true ≡ false = h in cc)
or_false false b h k = k

left_false : (a b : Bool) → (a || b) ≡ false → a ≡ false
left_false true b h = absurd (let f : true ≡ false = h in cc)
left_false false b h = refl

right_false : (a b : Bool) → (a || b) ≡ false → b ≡ false
right_false true b h = absurd (let f : true ≡ false = h in cc)
right_false false b h = h

-- in another order
shifted : (x k r : Bool) → ((x || k) || r) ≡ true → (k || (x || r)) ≡ true
shifted true true r h = refl
shifted true false r h = refl
shifted false k r h = h

either_step : (b a m r : Bool) → ((a || m) ≡ true → r ≡ true) → ((b || a) || m) ≡ true → (b || r) ≡ true
either_step true a m r next h = refl
either_step false a m r next h = next h

symmetric : (a b : List ℕ) → bytes_eq a b ≡ false → bytes_eq b a ≡ false
symmetric a b h = bytes_differ b a (λ e. let f : false ≡ true = sym h ∙ ap (λ (c : List ℕ). bytes_eq a c) e ∙ same_bytes a in cc)

among_either : (n : Name) (ns ms : List Name) → (Among ns n || Among ms n) ≡ true → Among (ns ++ ms) n ≡ true
among_either n [] ms h = h
among_either n (m ∷ ns) ms h = either_step (bytes_eq n m) (Among ns n) (Among ms n) (Among (ns ++ ms) n) (λ k. among_either n ns ms k) h

among_neither : (n : Name) (ns ms : List Name) → Among ns n ≡ false → Among ms n ≡ false → Among (ns ++ ms) n ≡ false
among_neither n [] ms h k = k
among_neither n (m ∷ ns) ms h k = or_false (bytes_eq n m) (Among (ns ++ ms) n) (left_false (bytes_eq n m) (Among ns n) h) (among_neither n ns ms (right_false (bytes_eq n m) (Among ns n) h) k)

-- no name of the second list is among those of the first
abbrev Apart : List Name → List Name → Type 0
Apart xs ys = AllByRecursion (λ y. Among xs y ≡ false) ys

apart_first : (x : Name) (xs ys : List Name) → Apart (x ∷ xs) ys → Among ys x ≡ false
apart_first x xs [] h = refl
apart_first x xs (y ∷ ys) h = or_false (bytes_eq x y) (Among ys x) (symmetric y x (left_false (bytes_eq y x) (Among xs y) h.0)) (apart_first x xs ys h.1)

apart_rest : (x : Name) (xs ys : List Name) → Apart (x ∷ xs) ys → Apart xs ys
apart_rest x xs [] h = tt
apart_rest x xs (y ∷ ys) h = (right_false (bytes_eq y x) (Among xs y) h.0, apart_rest x xs ys h.1)

twice_append : (xs ys : List Name) → has_twice xs ≡ false → has_twice ys ≡ false → Apart xs ys → has_twice (xs ++ ys) ≡ false
twice_append [] ys h k apart = k
twice_append (x ∷ xs) ys h k apart =
    or_false (Among (xs ++ ys) x) (has_twice (xs ++ ys))
    (among_neither x xs ys (left_false (Among xs x) (has_twice xs) h) (apart_first x xs ys apart))
    (twice_append xs ys (right_false (Among xs x) (has_twice xs) h) k (apart_rest x xs ys apart))

-- ---- types that are mentioned

abbrev names : List Parent → List Name
names ps = map (λ p. p.name) ps

record IsMentioned (known : List Name) (m : Parent) : Type 0 where
  fresh : Among known m.name ≡ false
  top : m.parent ≡ object
  name : IsName m.name

record HasNames (p : Parent) : Type 0 where
  name : IsName p.name
  parent : IsName p.parent

known_less : (n : Name) (known : List Name) (ms : List Parent) → AllByRecursion (IsMentioned (n ∷ known)) ms → AllByRecursion (IsMentioned known) ms
known_less n known [] h = tt
known_less n known (m ∷ ms) h = (record { fresh = right_false (bytes_eq m.name n) (Among known m.name) h.0.fresh; top = h.0.top; name = h.0.name }, known_less n known ms h.1)

not_first : (n : Name) (known : List Name) (ms : List Parent) → AllByRecursion (IsMentioned (n ∷ known)) ms → Among (names ms) n ≡ false
not_first n known [] h = refl
not_first n known (m ∷ ms) h = or_false (bytes_eq n m.name) (Among (names ms) n) (symmetric m.name n (left_false (bytes_eq m.name n) (Among known m.name) h.0.fresh)) (not_first n known ms h.1)

abbrev Covered : List Name → List Parent → List Parent → Type 0
Covered known ms ps = AllByRecursion (λ p. (Among known p.parent || Among (names ms) p.parent) ≡ true) ps

covers_more : (n : Name) (known : List Name) (ms ps : List Parent) → Covered (n ∷ known) ms ps → Covered known (record { name = n; parent = object } ∷ ms) ps
covers_more n known ms [] h = tt
covers_more n known ms (p ∷ ps) h = (shifted (bytes_eq p.parent n) (Among known p.parent) (Among (names ms) p.parent) h.0, covers_more n known ms ps h.1)

record Mentions (known : List Name) (ps ms : List Parent) : Type 0 where
  each : AllByRecursion (IsMentioned known) ms
  once : has_twice (names ms) ≡ false
  covered : Covered known ms ps

mentions_step : (b : Bool) (known : List Name) (p : Parent) (ps : List Parent) → Among known p.parent ≡ b → IsName p.parent → Mentions known ps (mentioned known ps) → Mentions (p.parent ∷ known) ps (mentioned (p.parent ∷ known) ps)
    → Mentions known (p ∷ ps) (cond b (mentioned known ps) (record { name = p.parent; parent = object } ∷ mentioned (p.parent ∷ known) ps))
mentions_step true known p ps is name with_known with_more = record {
  each = with_known.each;
  once = with_known.once;
  covered = (or_true (Among known p.parent) (Among (names (mentioned known ps)) p.parent) is, with_known.covered);
}
mentions_step false known p ps is name with_known with_more =
    let ms = mentioned (p.parent ∷ known) ps in record {
      each = (record { fresh = is; top = refl; name = name }, known_less p.parent known ms with_more.each);
      once = or_false (Among (names ms) p.parent) (has_twice (names ms)) (not_first p.parent known ms with_more.each) with_more.once;
      covered = (
        true_or (Among known p.parent) (bytes_eq p.parent p.parent || Among (names ms) p.parent) (or_true (bytes_eq p.parent p.parent) (Among (names ms) p.parent) (same_bytes p.parent)),
        covers_more p.parent known ms ps with_more.covered,
      );
    }

mentions : (ps : List Parent) (known : List Name) → AllByRecursion HasNames ps → Mentions known ps (mentioned known ps)
mentions [] known h = record { each = tt; once = refl; covered = tt }
mentions (p ∷ ps) known h = mentions_step (Among known p.parent) known p ps refl h.0.parent (mentions ps known h.1) (mentions ps (p.parent ∷ known) h.1)

none_mentioned : (known : List Name) (ts : List Parent) → AllByRecursion (λ p. Among known p.parent ≡ true) ts → mentioned known ts ≡ []
none_mentioned known [] h = refl
none_mentioned known (t ∷ ts) h = ap (λ (b : Bool). cond b (mentioned known ts) (record { name = t.parent; parent = object } ∷ mentioned (t.parent ∷ known) ts)) h.0 ∙ none_mentioned known ts h.1

-- ---- 'object' is left out

abbrev plain : Parent → Bool
plain p = not (is_object p)

abbrev ArePlain : List Parent → Type 0
ArePlain ps = AllByRecursion (λ p. is_object p ≡ false) ps

plain_step : (b : Bool) (p : Parent) (ps : List Parent) → is_object p ≡ b → ArePlain ps → ArePlain (cond (not b) (p ∷ ps) ps)
plain_step true p ps is h = h
plain_step false p ps is h = (is, h)

plain_left : (ps : List Parent) → ArePlain (filter plain ps)
plain_left [] = tt
plain_left (p ∷ ps) = plain_step (is_object p) p (filter plain ps) refl (plain_left ps)

all_plain : (ps : List Parent) → ArePlain ps → filter plain ps ≡ ps
all_plain [] h = refl
all_plain (p ∷ ps) h = ap (λ (b : Bool). cond (not b) (p ∷ filter plain ps) (filter plain ps)) h.0 ∙ ap (λ (qs : List Parent). p ∷ qs) (all_plain ps h.1)

among_step : (b : Bool) (n m : Name) (p : Parent) (ps : List Parent) → bytes_eq n p.name ≡ false → Among (names ps) n ≡ false → Among (names (cond b (p ∷ ps) ps)) n ≡ false
among_step true n m p ps h k = or_false (bytes_eq n p.name) (Among (names ps) n) h k
among_step false n m p ps h k = k

among_left : (n : Name) (ps : List Parent) → Among (names ps) n ≡ false → Among (names (filter plain ps)) n ≡ false
among_left n [] h = refl
among_left n (p ∷ ps) h = among_step (plain p) n n p (filter plain ps) (left_false (bytes_eq n p.name) (Among (names ps) n) h) (among_left n ps (right_false (bytes_eq n p.name) (Among (names ps) n) h))

twice_step : (b : Bool) (p : Parent) (ps : List Parent) → Among (names ps) p.name ≡ false → has_twice (names ps) ≡ false → has_twice (names (cond b (p ∷ ps) ps)) ≡ false
twice_step true p ps h k = or_false (Among (names ps) p.name) (has_twice (names ps)) h k
twice_step false p ps h k = k

twice_left : (ps : List Parent) → has_twice (names ps) ≡ false → has_twice (names (filter plain ps)) ≡ false
twice_left [] h = refl
twice_left (p ∷ ps) h = twice_step (plain p) p (filter plain ps) (among_left p.name ps (left_false (Among (names ps) p.name) (has_twice (names ps)) h)) (twice_left ps (right_false (Among (names ps) p.name) (has_twice (names ps)) h))

names_step : (b : Bool) (p : Parent) (ps : List Parent) → HasNames p → AllByRecursion HasNames ps → AllByRecursion HasNames (cond b (p ∷ ps) ps)
names_step true p ps h k = (h, k)
names_step false p ps h k = k

names_left : (ps : List Parent) → AllByRecursion HasNames ps → AllByRecursion HasNames (filter plain ps)
names_left [] h = tt
names_left (p ∷ ps) h = names_step (plain p) p (filter plain ps) h.0 (names_left ps h.1)

-- ---- those that stand there with those that are mentioned

object_name : IsName object
object_name = record { signature = refl; is_lower = refl }

all_append : {X : Type 0} (P : X → Type 0) (xs ys : List X) → AllByRecursion P xs → AllByRecursion P ys → AllByRecursion P (xs ++ ys)
all_append P [] ys h k = k
all_append P (x ∷ xs) ys h k = (h.0, all_append P xs ys h.1 k)

mentioned_plain : (known : List Name) (ms : List Parent) → AllByRecursion (IsMentioned (object ∷ known)) ms → ArePlain ms
mentioned_plain known [] h = tt
mentioned_plain known (m ∷ ms) h = (left_false (bytes_eq m.name object) (Among known m.name) h.0.fresh, mentioned_plain known ms h.1)

mentioned_names : (known : List Name) (ms : List Parent) → AllByRecursion (IsMentioned known) ms → AllByRecursion HasNames ms
mentioned_names known [] h = tt
mentioned_names known (m ∷ ms) h = (record { name = h.0.name; parent = subst IsName (sym h.0.top) object_name }, mentioned_names known ms h.1)

mentioned_apart : (known : List Name) (ms : List Parent) → AllByRecursion (IsMentioned (object ∷ known)) ms → Apart known (names ms)
mentioned_apart known [] h = tt
mentioned_apart known (m ∷ ms) h = (right_false (bytes_eq m.name object) (Among known m.name) h.0.fresh, mentioned_apart known ms h.1)

covered_known : (known : List Name) (ms ps : List Parent) → Covered known ms ps → AllByRecursion (λ p. Among (known ++ names ms) p.parent ≡ true) ps
covered_known known ms [] h = tt
covered_known known ms (p ∷ ps) h = (among_either p.parent known (names ms) h.0, covered_known known ms ps h.1)

top_known : (known more : List Name) (ms : List Parent) → AllByRecursion (IsMentioned known) ms → AllByRecursion (λ p. Among (object ∷ more) p.parent ≡ true) ms
top_known known more [] h = tt
top_known known more (m ∷ ms) h = (subst (λ (n : Name). Among (object ∷ more) n ≡ true) (sym h.0.top) refl, top_known known more ms h.1)

plain_below : (ts : List Parent) → ArePlain ts → list_all (λ p. not (is_object p) || bytes_eq p.parent object) ts ≡ true
plain_below [] h = refl
plain_below (t ∷ ts) h = and_from (not (is_object t) || bytes_eq t.parent object) (list_all (λ p. not (is_object p) || bytes_eq p.parent object) ts) (ap (λ (b : Bool). not b || bytes_eq t.parent object) h.0) (plain_below ts h.1)

record TypesAgain (ts : List Parent) : Type 0 where
  again : types_from ts ≡ Some ts
  names : AllByRecursion HasNames ts

completed : (ps : List Parent) → AllByRecursion HasNames ps → has_twice (names ps) ≡ false → no_cycle (with_mentioned (filter plain ps)) ≡ true → TypesAgain (with_mentioned (filter plain ps))
completed ps are once cycle =
    let qs = filter plain ps in
    let known = object ∷ names qs in
    let ms = mentioned known qs in
    let ts = qs ++ ms in
    let all = mentions qs known (names_left ps are) in
    let same : names ts ≡ names qs ++ names ms = map-append (λ (p : Parent). p.name) qs ms in
    let no_object : ArePlain ts = all_append (λ p. is_object p ≡ false) qs ms (plain_left ps) (mentioned_plain (names qs) ms all.each) in
    let twice : has_twice (names ts) ≡ false = ap has_twice same ∙ twice_append (names qs) (names ms) (twice_left ps once) all.once (mentioned_apart (names qs) ms all.each) in
    let in_order : AllByRecursion (λ p. Among (object ∷ (names qs ++ names ms)) p.parent ≡ true) ts = all_append (λ p. Among (object ∷ (names qs ++ names ms)) p.parent ≡ true) qs ms (covered_known known ms qs all.covered) (top_known known (names qs ++ names ms) ms all.each) in
    let nothing : mentioned (object ∷ names ts) ts ≡ [] = ap (λ (l : List Name). mentioned (object ∷ l) ts) same ∙ none_mentioned (object ∷ (names qs ++ names ms)) ts in_order in
    let complete : with_mentioned ts ≡ ts = ap (λ (l : List Parent). ts ++ l) nothing ∙ append-nil ts in
    let kept : with_mentioned (filter plain ts) ≡ ts = ap with_mentioned (all_plain ts no_object) ∙ complete in
    record {
      again =
          ap (λ (us : List Parent). provided (not (has_twice (names ts)) && (list_all (λ p. not (is_object p) || bytes_eq p.parent object) ts && no_cycle us)) us) kept
          ∙ ap (λ (b : Bool). provided b ts) (and_from (not (has_twice (names ts))) (list_all (λ p. not (is_object p) || bytes_eq p.parent object) ts && no_cycle ts) (ap not twice) (and_from (list_all (λ p. not (is_object p) || bytes_eq p.parent object) ts) (no_cycle ts) (plain_below ts no_object) cycle));
      names = all_append HasNames qs ms (names_left ps are) (mentioned_names known ms all.each);
    }

types_from_again : (ps ts : List Parent) → AllByRecursion HasNames ps → types_from ps ≡ Some ts → TypesAgain ts
types_from_again ps ts are h =
    let us = with_mentioned (filter plain ps) in
    let p = provided_some (not (has_twice (names ps)) && (list_all (λ q. not (is_object q) || bytes_eq q.parent object) ps && no_cycle us)) us ts h in
    let a = and_parts (not (has_twice (names ps))) (list_all (λ q. not (is_object q) || bytes_eq q.parent object) ps && no_cycle us) p.0 in
    let b = and_parts (list_all (λ q. not (is_object q) || bytes_eq q.parent object) ps) (no_cycle us) a.1 in
    subst TypesAgain p.1 (completed ps are (not-true (has_twice (names ps)) a.0) b.1)

-- ---- as a typed list

above_name : (ts : List Name) → AreTypes Names ts → IsName (above ts)
unfolding type_at
above_name [] are = no_some are.again
above_name (t ∷ []) are =
    let m = map_some (λ n. n ∷ []) (name_of t) (t ∷ []) are.again in
    subst (λ (ns : List Name). IsName (above ns)) m.2 (name_read t m.0 m.1).1
above_name (t ∷ u ∷ ts) are = no_some are.again

below_names : (ds : List Declared) → AllByRecursion (IsTyped Names) ds → AllByRecursion HasNames (map type_below ds)
below_names [] h = tt
below_names (d ∷ ds) h = (record { name = h.0.name; parent = above_name d.types h.0.types }, below_names ds h.1)

abbrev declared : Parent → Declared
declared p = record { name = p.name; types = p.parent ∷ [] }

declared_typed : (ts : List Parent) → AllByRecursion HasNames ts → AllByRecursion (IsTyped Names) (map declared ts)
declared_typed [] h = tt
declared_typed (t ∷ ts) h = (record { name = h.0.name; types = one_type Names t.parent h.0.parent }, declared_typed ts h.1)

declared_shapes : (ts : List Parent) → typed_shapes (map declared ts) ≡ type_shapes ts
declared_shapes [] = refl
declared_shapes (t ∷ ts) = ap (λ (ss : Shapes). shape (leaf t.name) (shape (leaf (codes "-")) (shape (leaf t.parent) ss))) (declared_shapes ts)

declared_below : (ts : List Parent) → map type_below (map declared ts) ≡ ts
declared_below [] = refl
declared_below (t ∷ ts) = ap (λ (us : List Parent). t ∷ us) (declared_below ts)

pub types_again : (ss : Shapes) (ts : List Parent) → types_in ss ≡ Some ts → (types_in (type_shapes ts) ≡ Some ts) × AllHaveWords (type_shapes ts)
unfolding types_in AreTyped
types_again ss ts h =
    let b = bind_some (typed_list Names ss) (λ ds. types_from (map type_below ds)) ts h in
    let a = types_from_again (map type_below b.0) ts (below_names b.0 (typed_list_read Names ss b.0 b.1)) b.2 in
    let typed = declared_typed ts a.names in (
      ap (λ (us : Shapes). typed_list Names us >>= λ ds. types_from (map type_below ds)) (sym (declared_shapes ts))
          ∙ ap (λ o. o >>= λ ds. types_from (map type_below ds)) (typed_list_again Names (map declared ts) typed)
          ∙ ap types_from (declared_below ts)
          ∙ a.again,
      subst AllHaveWords (declared_shapes ts) (typed_words Names (map declared ts) typed),
    )
