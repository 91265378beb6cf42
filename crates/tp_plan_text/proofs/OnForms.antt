-- Lemmas on the forms of lines.
use Rattle.std.proofs.Common.{◌≡◌, ℕ, ◌≤◌, Bool, ◌&&◌, List, [], ◌∷◌, ◌++◌, length, map, refl, ap, ◌∙◌, arith, Option, Some, None, Bor}
use Rattle.std.specs.List.{list_all}
use Rattle.tp_syntax_ast.specs.Terms.{is_name}
use Rattle.tp_task.specs.Readable.{are_names}
use Rattle.tp_plan_text.specs.PlanLexemes.{Lexeme}

-- words before those that follow
abbrev pub with_words : List (List ℕ) → Option (List (List ℕ) × List Lexeme) → Option (List (List ℕ) × List Lexeme)
with_words ws None = None
with_words ws (Some p) = Some (ws ++ p.0, p.1)

pub no_words : (o : Option (List (List ℕ) × List Lexeme)) → with_words [] o ≡ o
no_words None = refl
no_words (Some p) = refl

seen_names : (ws : List (Bor (List ℕ))) → list_all (λ w. is_name w.now) ws ≡ list_all is_name (map (λ w. w.now) ws)
seen_names [] = refl
seen_names (w ∷ ws) = ap (λ b. is_name w.now && b) (seen_names ws)

pub names_seen : (ws : List (Bor (List ℕ))) (r : Bool) → 1 ≤ length ws → r ≡ list_all (λ w. is_name w.now) ws → r ≡ are_names (map (λ w. w.now) ws)
names_seen [] r le is = absurd (let no : ⊥ = omega arith in no)
names_seen (w ∷ ws) r le is = is ∙ seen_names (w ∷ ws)
