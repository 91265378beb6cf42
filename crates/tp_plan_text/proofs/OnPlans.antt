-- Lemmas on the lines of plan texts.
use Rattle.std.proofs.Common.{◌≡◌, ℕ, ◌+◌, ◌<◌, ◌≤◌, cond, List, [], ◌∷◌, ◌++◌, length, take, drop, get_or, map, All, refl, sym, ap, ◌∙◌, subst, arith, take-append-drop, Ok}
use Rattle.std.specs.List.{AllByRecursion}
use Rattle.std.proofs.lemmas.Bool.{ne_eqb}
use Rattle.std.proofs.lemmas.List.{drop_more, take_all}
use Rattle.std.proofs.lemmas.List.Elements.{recursion_from_All}
use Rattle.tp_plan_text.specs.declared.plans.Step.{Step}
use Rattle.tp_plan_text.specs.PlanTexts.{ReadableTask, before_lines, lines_of, full_lines, step_of, refusal, refusal_from}

-- a line that ends at an LF
pub line_cut : (w rest : List ℕ) → AllByRecursion (λ b. b ≡ 10 → ⊥) w → lines_of (w ++ 10 ∷ rest) ≡ w ∷ lines_of rest
line_cut [] rest free = refl
line_cut (b ∷ w) rest free =
    ap (λ t. cond t ([] ∷ lines_of (w ++ 10 ∷ rest)) (before_lines b (lines_of (w ++ 10 ∷ rest)))) (ne_eqb b 10 free.0)
    ∙ ap (before_lines b) (line_cut w rest free.1)

line_all : (b : ℕ) (w : List ℕ) → AllByRecursion (λ b. b ≡ 10 → ⊥) (b ∷ w) → lines_of (b ∷ w) ≡ (b ∷ w) ∷ []
line_all b [] free = ap (λ t. cond t ([] ∷ []) ((b ∷ []) ∷ [])) (ne_eqb b 10 free.0)
line_all b (c ∷ w) free =
    ap (λ t. cond t ([] ∷ lines_of (c ∷ w)) (before_lines b (lines_of (c ∷ w)))) (ne_eqb b 10 free.0)
    ∙ ap (before_lines b) (line_all c w free.1)

pub line_found : (bytes : List ℕ) (n : ℕ) → n < length bytes → get_or bytes n 0 ≡ 10 → All (λ b. b ≡ 10 → ⊥) (take n bytes) → lines_of bytes ≡ take n bytes ∷ lines_of (drop (n + 1) bytes)
line_found bytes n lt is free =
    ap lines_of (sym (take-append-drop n bytes) ∙ ap (λ t. take n bytes ++ t) (drop_more bytes n 0 lt ∙ ap (λ b. b ∷ drop (n + 1) bytes) is))
    ∙ line_cut (take n bytes) (drop (n + 1) bytes) (recursion_from_All (λ b. b ≡ 10 → ⊥) (take n bytes) free)

pub line_whole : (bytes : List ℕ) (n : ℕ) → 0 < length bytes → length bytes ≤ n → All (λ b. b ≡ 10 → ⊥) (take n bytes) → lines_of bytes ≡ bytes ∷ []
line_whole [] n lt le free = absurd (let no : ⊥ = omega arith in no)
line_whole (b ∷ w) n lt le free =
    line_all b w (recursion_from_All (λ b. b ≡ 10 → ⊥) (b ∷ w) (subst (λ t. All (λ b. b ≡ 10 → ⊥) t) (take_all n (b ∷ w) le) free))

module _ (task : ReadableTask) where
  -- what was read so far: steps of the lines before those that are left
  pub record HasRead (all rest : List (List ℕ)) (steps : List Step) (number : ℕ) : Type 0 where
    pub spelled : map (step_of task) (full_lines all) ≡ map Ok steps ++ map (step_of task) (full_lines rest)
    pub left : refusal task all ≡ refusal_from task (number + 1) (length steps) rest
