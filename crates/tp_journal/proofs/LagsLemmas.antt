-- Whether an executive has lags.
use Rattle.std.proofs.Common.{◌≡◌, ◌≢◌, ℕ, zero, suc, ◌+◌, ◌<◌, List, [], ◌∷◌, length, get_or, Bool, true, false, cond, refl, ap, sym, ◌∙◌, arith}
use Rattle.std.specs.Prelude.{nat_eq}
use Rattle.std.proofs.lemmas.Bool.{ne_eqb}
use Rattle.tp_journal_pairs.specs.Journal.{lags_from}

pub no_lags : (e : ℕ) (ls : List ℕ) → ((k : ℕ) → k < length ls → get_or ls k 0 ≡ 0) → lags_from e ls ≡ []
no_lags e [] none = refl
no_lags e (l ∷ ls) none =
    ap (λ (x : ℕ). cond (nat_eq x 0) (lags_from (e + 1) ls) ((e, x) ∷ lags_from (e + 1) ls)) (none 0 (omega arith)) ∙ no_lags (e + 1) ls (λ k lt. none (suc k) (omega arith))

some_put : (b : Bool) (p : ℕ × ℕ) (rest : List (ℕ × ℕ)) → rest ≢ [] → cond b rest (p ∷ rest) ≢ []
some_put true p rest some is = some is
some_put false p rest some is = let f : ⊥ = cc in f

pub some_lags : (e : ℕ) (ls : List ℕ) (k : ℕ) → k < length ls → get_or ls k 0 ≢ 0 → lags_from e ls ≢ []
some_lags e [] k lt some is = let f : ⊥ = omega arith in f
some_lags e (l ∷ ls) zero lt some is =
    let here : cond (nat_eq l 0) (lags_from (e + 1) ls) ((e, l) ∷ lags_from (e + 1) ls) ≡ (e, l) ∷ lags_from (e + 1) ls = ap (λ b. cond b (lags_from (e + 1) ls) ((e, l) ∷ lags_from (e + 1) ls)) (ne_eqb l 0 some) in
    let bad : (e, l) ∷ lags_from (e + 1) ls ≡ [] = sym here ∙ is in
    let f : ⊥ = cc in f
some_lags e (l ∷ ls) (suc k) lt some is = some_put (nat_eq l 0) (e, l) (lags_from (e + 1) ls) (some_lags (e + 1) ls k (omega arith) some) is
