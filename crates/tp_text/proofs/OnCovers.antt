use Rattle.std.proofs.Common.{◌≡◌, ℕ, ◌<◌, List, [], ◌∷◌, ◌++◌, length, drop, Ok, refl, sym, ap, ◌∙◌, subst, arith, append-nil}
use Rattle.tp_text.specs.Lexemes.{placed}
use Rattle.tp_text.specs.Tokens.{Covers}
use Rattle.tp_text.specs.declared.token.Token.{Token}

pub none_behind : (rest : List ℕ) (at : ℕ) → length rest < 1 → placed at rest ≡ Ok []
unfolding placed
none_behind [] at lt = refl
none_behind (b ∷ bs) at lt = absurd (omega arith)

pub covered : (text rest : List ℕ) (at : ℕ) (ts : List Token) → rest ≡ drop at text → placed at rest ≡ Ok [] → ((more : List Token) → Covers text at more → Covers text 0 (ts ++ more)) → Covers text 0 ts
covered text rest at ts here none h = subst (λ (us : List Token). Covers text 0 us) (append-nil ts) (h [] (ap (placed at) (sym here) ∙ none))
