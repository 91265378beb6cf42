-- Rows by their first names, as one more is put among them.
use Rattle.std.proofs.Common.{◌≡◌, ℕ, Bool, true, false, cond, append-nil, List, [], ◌∷◌, ◌++◌, map, Option, Some, None, Bor, refl, sym, ap, ◌∙◌, if◌then◌else◌}
use Rattle.std.specs.BTreeMap.{BTreeMap, get_by}
use Rattle.std.specs.Cmp.Lexicographic.{bytes_decides, nat_list_eq_equiv, slice_cmp}
use Rattle.std.specs.Ordering.{nat_cmp}
use Rattle.std.specs.List.{cons_option}
use Rattle.std.specs.Str.{bytes_eq}
use Rattle.tp_syntax_ast.specs.Symbols.{Name}
use Rattle.tp_task.specs.Words.{Words}
use Rattle.tp_ground_named.specs.Picks.{tail_after, row_words}
use Rattle.tp_ground_named.specs.Groups.{Tails, tail_words, behind}

abbrev pub tails_at : BTreeMap (Bor (List ℕ)) Tails → Name → Option Tails
tails_at groups n = get_by (λ k. slice_cmp nat_cmp n k.now) groups

-- one more behind a name
pub put_behind : (t m u : BTreeMap (Bor (List ℕ)) Tails) (name : Name) (v : Tails) (w : Words) → ((n : Name) → tails_at m n ≡ cond (bytes_eq name n) None (tails_at t n)) → ((n : Name) → tails_at u n ≡ cond (bytes_eq name n) (Some v) (tails_at m n)) → map row_words v.items ≡ behind t name ++ w ∷ [] → (n : Name) → behind u n ≡ cond (bytes_eq name n) (behind t n ++ w ∷ []) (behind t n)
put_behind t m u name v w removed inserted grown n =
    ap tail_words (inserted n ∙ ap (λ o. cond (bytes_eq name n) (Some v) o) (removed n)) ∙ by (bytes_eq name n) refl
  where
    by : (b : Bool) → bytes_eq name n ≡ b → tail_words (cond b (Some v) (cond b None (tails_at t n))) ≡ cond b (behind t n ++ w ∷ []) (behind t n)
    by true e = grown ∙ ap (λ k. behind t k ++ w ∷ []) ((bytes_decides name n).0 e)
    by false e = refl

-- one more row
pub row_behind : (old new : List Words) (n v : Name) (w : Words) → new ≡ cond (bytes_eq v n) (old ++ w ∷ []) old → new ≡ old ++ cons_option (tail_after n (v ∷ w)) []
row_behind old new n v w is =
    is ∙ ap (λ b. cond b (old ++ w ∷ []) old) (nat_list_eq_equiv.symm v n) ∙ by (bytes_eq n v)
  where
    by : (b : Bool) → cond b (old ++ w ∷ []) old ≡ old ++ cons_option (if b then Some w else None) []
    by true = refl
    by false = sym (append-nil old)
