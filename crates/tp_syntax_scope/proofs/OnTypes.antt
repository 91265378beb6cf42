-- Types that are declared by their mention alone.
use Rattle.std.proofs.Common.{◌≡◌, ℕ, List, [], ◌∷◌, ◌++◌, map, Bool, true, false, ◌||◌, ◌&&◌, cond, not, filter, Some, None, Bor, refl, sym, ap, ◌∙◌, subst, append_assoc, ◌+◌, ◌<◌, length, take, get_or, string_bytes}
use Rattle.std.proofs.lemmas.List.{take_more, map-append}
use Rattle.std.specs.List.{list_any, list_all}
use Rattle.tp_syntax_ast.specs.Gives.{provided}
use Rattle.tp_syntax_ast.specs.TypedLists.{has_twice}
use Rattle.std.specs.Str.{bytes_eq}
use Rattle.std.specs.Cmp.Lexicographic.{bytes_decides}
use Rattle.std.proofs.lemmas.List.Folds.{list_any-append}
use Rattle.tp_syntax_types.specs.NameSets.{insert_key}
use Rattle.tp_syntax_ast.specs.Symbols.{Name, Parent, parent_view}
use Rattle.tp_syntax_ast.specs.declared.types.TypeName.{TypeName}
use Rattle.tp_syntax_ast.specs.Domains.{object, is_object, mentioned, with_mentioned, no_cycle, types_from}
use Rattle.tp_syntax_scope.specs.SignatureViews.{Knows, names_in, to_mention}

abbrev same_text : Bor (List ℕ) → Bor (List ℕ) → Bool
same_text x y = bytes_eq x.now y.now

abbrev has_key : Name → List (Bor (List ℕ)) → Bool
has_key n ks = list_any (λ k. bytes_eq n k.now) ks

or_false : (a b : Bool) → (a || (b || false)) ≡ (a || b)
or_false true b = refl
or_false false true = refl
or_false false false = refl

or_known : (a b : Bool) → (b ≡ true → a ≡ true) → a ≡ (a || b)
or_known true b h = refl
or_known false false h = refl
or_known false true h = h refl

inserted : (n : Name) (ks : List (Bor (List ℕ))) (k : Bor (List ℕ)) (b : Bool) → has_key k.now ks ≡ b → has_key n (cond b ks (ks ++ k ∷ [])) ≡ (has_key n ks || bytes_eq n k.now)
inserted n ks k false is = list_any-append (λ j. bytes_eq n j.now) ks (k ∷ []) ∙ or_false (has_key n ks) (bytes_eq n k.now)
inserted n ks k true is = or_known (has_key n ks) (bytes_eq n k.now) (λ t. ap (λ m. has_key m ks) ((bytes_decides n k.now).0 t) ∙ is)

-- one more key
pub key_inserted : (n : Name) (ks : List (Bor (List ℕ))) (k : Bor (List ℕ)) → has_key n (insert_key same_text ks k) ≡ (has_key n ks || bytes_eq n k.now)
key_inserted n ks k = inserted n ks k (has_key k.now ks) refl

-- one more name
pub knows_more : (ks : List (Bor (List ℕ))) (k : Bor (List ℕ)) (ns : List Name) → Knows ks ns → Knows (insert_key same_text ks k) (ns ++ k.now ∷ [])
knows_more ks k ns known = λ n.
    key_inserted n ks k ∙ ap (λ b. b || bytes_eq n k.now) (known n)
    ∙ sym (list_any-append (bytes_eq n) ns (k.now ∷ []) ∙ or_false (list_any (bytes_eq n) ns) (bytes_eq n k.now))

-- which names are known matters, not their order
pub mentioned_same : (ks js : List Name) → ((n : Name) → list_any (bytes_eq n) ks ≡ list_any (bytes_eq n) js) → (ps : List Parent) → mentioned ks ps ≡ mentioned js ps
mentioned_same ks js same [] = refl
mentioned_same ks js same (p ∷ ps) =
    let new : Parent = record { name = p.parent; parent = object } in
    ap (λ b. cond b (mentioned ks ps) (new ∷ mentioned (p.parent ∷ ks) ps)) (same p.parent)
    ∙ ap (λ (qs : List Parent). cond (list_any (bytes_eq p.parent) js) qs (new ∷ mentioned (p.parent ∷ ks) ps)) (mentioned_same ks js same ps)
    ∙ ap (λ (qs : List Parent). cond (list_any (bytes_eq p.parent) js) (mentioned js ps) (new ∷ qs)) (mentioned_same (p.parent ∷ ks) (p.parent ∷ js) (λ n. ap (λ b. bytes_eq n p.parent || b) (same n)) ps)

-- keys as names
pub names_any : (n : Name) (ks : List (Bor (List ℕ))) → list_any (bytes_eq n) (names_in ks) ≡ has_key n ks
names_any n [] = refl
names_any n (k ∷ ks) = ap (λ b. bytes_eq n k.now || b) (names_any n ks)

pub from_known : (ks : List (Bor (List ℕ))) (ns : List Name) → Knows ks ns → (ps : List Parent) → mentioned (names_in ks) ps ≡ mentioned ns ps
from_known ks ns known ps = mentioned_same (names_in ks) ns (λ n. names_any n ks ∙ known n) ps

or_turn : (a b : Bool) → (a || b) ≡ (b || a)
or_turn true true = refl
or_turn true false = refl
or_turn false true = refl
or_turn false false = refl

-- a parent that is known
pub mention_known : (ks : List (Bor (List ℕ))) (k : Bor (List ℕ)) (p : Parent) (ps : List Parent) → p.parent ≡ k.now → has_key k.now ks ≡ true → mentioned (names_in (insert_key same_text ks k)) ps ≡ mentioned (names_in ks) (p ∷ ps)
mention_known ks k p ps is known =
    let new : Parent = record { name = p.parent; parent = object } in
    ap (λ b. mentioned (names_in (cond b ks (ks ++ k ∷ []))) ps) known
    ∙ sym (ap (λ b. cond b (mentioned (names_in ks) ps) (new ∷ mentioned (p.parent ∷ names_in ks) ps)) (names_any p.parent ks ∙ ap (λ n. has_key n ks) is ∙ known))

-- a parent that is new
pub mention_new : (ks : List (Bor (List ℕ))) (k : Bor (List ℕ)) (p : Parent) (ps : List Parent) → p.parent ≡ k.now → has_key k.now ks ≡ false → record { name = k.now; parent = object } ∷ mentioned (names_in (insert_key same_text ks k)) ps ≡ mentioned (names_in ks) (p ∷ ps)
mention_new ks k p ps is fresh =
    let new : Parent = record { name = p.parent; parent = object } in
    let here : Parent = record { name = k.now; parent = object } in
    ap (λ (qs : List Parent). here ∷ qs) (mentioned_same (names_in (insert_key same_text ks k)) (k.now ∷ names_in ks) (λ n. names_any n (insert_key same_text ks k) ∙ key_inserted n ks k ∙ or_turn (has_key n ks) (bytes_eq n k.now) ∙ ap (λ b. bytes_eq n k.now || b) (sym (names_any n ks))) ps)
    ∙ ap (λ (m : Name). record { name = m; parent = object } ∷ mentioned (m ∷ names_in ks) ps) (sym is)
    ∙ sym (ap (λ b. cond b (mentioned (names_in ks) ps) (new ∷ mentioned (p.parent ∷ names_in ks) ps)) (names_any p.parent ks ∙ ap (λ n. has_key n ks) is ∙ fresh))

abbrev names : List TypeName → List Name
names ts = map (λ p. p.name) (map parent_view ts)

names-append : (xs ys : List TypeName) → names (xs ++ ys) ≡ names xs ++ names ys
names-append xs ys = ap (map (λ (p : Parent). p.name)) (map-append parent_view xs ys) ∙ map-append (λ (p : Parent). p.name) (map parent_view xs) (map parent_view ys)

pub knows_next : (ks : List (Bor (List ℕ))) (k : Bor (List ℕ)) (ts : List TypeName) (i : ℕ) (t : TypeName) → i < length ts → t ≡ get_or ts i t → k.now ≡ string_bytes t.name → Knows ks (object ∷ names (take i ts)) → Knows (insert_key same_text ks k) (object ∷ names (take (i + 1) ts))
knows_next ks k ts i t lt at is known =
    let grown : names (take i ts) ++ k.now ∷ [] ≡ names (take (i + 1) ts) =
    ap (λ (n : Name). names (take i ts) ++ n ∷ []) (is ∙ ap (λ (u : TypeName). string_bytes u.name) at)
    ∙ sym (ap names (take_more ts i t lt) ∙ names-append (take i ts) (get_or ts i t ∷ [])) in
    subst (Knows (insert_key same_text ks k)) (ap (λ (ns : List Name). object ∷ ns) grown) (knows_more ks k (object ∷ names (take i ts)) known)

pub not_false : (b : Bool) → not b ≡ false → b ≡ true
not_false true h = refl
not_false false h = cc

pub mention_kept : (done : List TypeName) (ks js : List (Bor (List ℕ))) (k : Bor (List ℕ)) (p : Parent) (ps : List Parent) → js ≡ insert_key same_text ks k → p.parent ≡ k.now → has_key k.now ks ≡ true → to_mention done js ps ≡ to_mention done ks (p ∷ ps)
mention_kept done ks js k p ps grown is known =
    ap (λ (ls : List (Bor (List ℕ))). to_mention done ls ps) grown
    ∙ ap (λ (qs : List Parent). map parent_view done ++ qs) (mention_known ks k p ps is known)

pub mention_pushed : (done new : List TypeName) (t : TypeName) (ks js : List (Bor (List ℕ))) (k : Bor (List ℕ)) (p : Parent) (ps : List Parent) → new ≡ done ++ t ∷ [] → parent_view t ≡ record { name = k.now; parent = object } → js ≡ insert_key same_text ks k → p.parent ≡ k.now → has_key k.now ks ≡ false → to_mention new js ps ≡ to_mention done ks (p ∷ ps)
mention_pushed done new t ks js k p ps pushed made grown is fresh =
    let rest = mentioned (names_in (insert_key same_text ks k)) ps in
    ap (λ (ls : List (Bor (List ℕ))). to_mention new ls ps) grown
    ∙ ap (λ (ts : List TypeName). map parent_view ts ++ rest) pushed
    ∙ ap (λ (qs : List Parent). qs ++ rest) (map-append parent_view done (t ∷ []))
    ∙ append_assoc (map parent_view done) (parent_view t ∷ []) rest
    ∙ ap (λ (q : Parent). map parent_view done ++ (q ∷ rest)) made
    ∙ ap (λ (qs : List Parent). map parent_view done ++ qs) (mention_new ks k p ps is fresh)

pub types_twice : (ps : List Parent) → has_twice (map (λ p. p.name) ps) ≡ true → types_from ps ≡ None
types_twice ps twice = ap (λ b. provided (not b && (list_all (λ p. not (is_object p) || bytes_eq p.parent object) ps && no_cycle (with_mentioned (filter (λ p. not (is_object p)) ps)))) (with_mentioned (filter (λ p. not (is_object p)) ps))) twice

pub types_made : (ps types : List Parent) → has_twice (map (λ p. p.name) ps) ≡ false → list_all (λ p. not (is_object p) || bytes_eq p.parent object) ps ≡ true → types ≡ with_mentioned (filter (λ p. not (is_object p)) ps) → no_cycle types ≡ true → types_from ps ≡ Some types
types_made ps types once highest made straight =
    let all = with_mentioned (filter (λ (p : Parent). not (is_object p)) ps) in
    ap (λ b. provided (not b && (list_all (λ p. not (is_object p) || bytes_eq p.parent object) ps && no_cycle all)) all) once
    ∙ ap (λ b. provided (true && (b && no_cycle all)) all) highest
    ∙ ap (λ b. provided (true && (true && b)) all) (ap no_cycle (sym made) ∙ straight)
    ∙ ap Some (sym made)

pub knows_same : (ks js : List (Bor (List ℕ))) (ns : List Name) → ks ≡ js → Knows js ns → Knows ks ns
knows_same ks js ns is known = subst (λ (ls : List (Bor (List ℕ))). Knows ls ns) (sym is) known

pub knows_put : (ks js : List (Bor (List ℕ))) (k : Bor (List ℕ)) (ts : List TypeName) (i : ℕ) (t : TypeName) → js ≡ insert_key same_text ks k → i < length ts → t ≡ get_or ts i t → k.now ≡ string_bytes t.name → Knows ks (object ∷ names (take i ts)) → Knows js (object ∷ names (take (i + 1) ts))
knows_put ks js k ts i t grown lt at is known = knows_same js _ (object ∷ names (take (i + 1) ts)) grown (knows_next ks k ts i t lt at is known)

-- ---- parents that are known before they are mentioned

or_true : (a b : Bool) → b ≡ true → (a || b) ≡ true
or_true true b h = refl
or_true false b h = h

pub mention_skipped : (done : List TypeName) (ks : List (Bor (List ℕ))) (k : Bor (List ℕ)) (p : Parent) (ps : List Parent) → p.parent ≡ k.now → has_key k.now ks ≡ true → to_mention done ks ps ≡ to_mention done ks (p ∷ ps)
mention_skipped done ks k p ps is known = mention_kept done ks ks k p ps (sym (ap (λ b. cond b ks (ks ++ k ∷ [])) known)) is known

pub key_put : (ks js : List (Bor (List ℕ))) (k : Bor (List ℕ)) → js ≡ insert_key same_text ks k → has_key k.now js ≡ true
key_put ks js k grown = ap (has_key k.now) grown ∙ key_inserted k.now ks k ∙ or_true (has_key k.now ks) _ ((bytes_decides k.now k.now).1 refl)

pub object_known : (ks : List (Bor (List ℕ))) (ns : List Name) → Knows ks (object ∷ ns) → has_key object ks ≡ true
object_known ks ns known = known object ∙ ap (λ b. b || list_any (bytes_eq object) ns) ((bytes_decides object object).1 refl)

pub not_true_is : (b : Bool) → not b ≡ true → b ≡ false
not_true_is true h = cc
not_true_is false h = refl
