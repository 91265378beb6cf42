-- Objects that were looked for before.
use Rattle.std.proofs.Common.{◌≡◌, ℕ, zero, suc, ◌<◌, Bool, true, false, ◌&&◌, if◌then◌else◌, List, [], ◌∷◌, ◌++◌, map, length, get_or, string_bytes, refl, ap, ◌∙◌, arith}
use Rattle.std.specs.List.{list_all}
use Rattle.std.proofs.lemmas.Bool.{and_from}
use Rattle.tp_syntax_ast.specs.Symbols.{Name}
use Rattle.tp_task.specs.Words.{same_words}
use Rattle.tp_task.proofs.OnWords.{same_words_are, same_words_self}
use Rattle.tp_ground_bindings.specs.Bindings.{Universe, choices}
use Rattle.tp_ground_bindings.specs.KnownChoices.{of_types, is_known}
use Rattle.tp_ground_bindings.specs.declared.objects.Known.{Known}

both : (a b : Bool) → (a && b) ≡ true → (a ≡ true) × (b ≡ true)
both true b h = (refl, h)
both false b h = cc

module _ {A : Type 0} (p : A → Bool) where
  pub all_there : (xs : List A) (i : ℕ) (x : A) → i < length xs → x ≡ get_or xs i x → list_all p xs ≡ true → p x ≡ true
  all_there [] i x lt item h = absurd (omega arith)
  all_there (y ∷ ys) zero x lt item h = ap p item ∙ (both (p y) (list_all p ys) h).0
  all_there (y ∷ ys) (suc i) x lt item h = all_there ys i x (omega arith) item (both (p y) (list_all p ys) h).1

  pub all_and : (xs : List A) (x : A) → list_all p xs ≡ true → p x ≡ true → list_all p (xs ++ x ∷ []) ≡ true
  all_and [] x h k = and_from (p x) true k refl
  all_and (y ∷ ys) x h k =
      let parts = both (p y) (list_all p ys) h in
      and_from (p y) (list_all p (ys ++ x ∷ [])) parts.0 (all_and ys x parts.1 k)

-- what is known of the types that were looked for
pub known_here : (u : Universe) (ks : List Known) (i : ℕ) (k : Known) (ts : List Name) → i < length ks → k ≡ get_or ks i k → list_all (is_known u) ks ≡ true → same_words (map string_bytes k.types.now) ts ≡ true → map (λ o. o.now) k.names.items ≡ choices u (of_types ts)
known_here u ks i k ts lt item h same =
    same_words_are (map (λ o. o.now) k.names.items) (choices u (of_types (map string_bytes k.types.now))) (all_there (is_known u) ks i k lt item h)
    ∙ ap (λ ys. choices u (of_types ys)) (same_words_are (map string_bytes k.types.now) ts same)

-- what was looked for just now
pub is_known_now : (u : Universe) (ts : List Name) (k : Known) → map string_bytes k.types.now ≡ ts → map (λ o. o.now) k.names.items ≡ choices u (of_types ts) → is_known u k ≡ true
is_known_now u ts k types names =
    ap (λ ys. same_words (map (λ o. o.now) k.names.items) (choices u (of_types ys))) types
    ∙ ap (λ ns. same_words ns (choices u (of_types ts))) names
    ∙ same_words_self (choices u (of_types ts))

-- after a try to add what is known
pub all_pushed : {A : Type 0} (p : A → Bool) (b : Bool) (xs ys : List A) (x : A) → ys ≡ (if b then (xs ++ x ∷ []) else xs) → list_all p xs ≡ true → p x ≡ true → list_all p ys ≡ true
all_pushed p true xs ys x is h k = ap (list_all p) is ∙ all_and p xs x h k
all_pushed p false xs ys x is h k = ap (list_all p) is ∙ h
