-- What a command with its values is asked for in vain: nothing that it may ask for has its own files.
use Rattle.std.specs.Prelude.{◌≡◌, ◌≤◌, ℕ, List, [], ◌∷◌, Some, None, codes}
use Rattle.std.specs.Borrow.{Bor}
use Rattle.clap.specs.Words.{Row, Text, first_of, one_of}
use Rattle.tp_cli_inputs.specs.declared.draw_words.DrawWords.{DrawWords}
use Rattle.tp_cli_inputs.specs.declared.plan_words.PlanWords.{PlanWords}
use Rattle.tp_cli_plan.specs.declared.search_words.SearchWords.{SearchWords}
use Rattle.tp_cli_args.specs.Requests.{HasScale, IsApart, IsDrawWords, IsPlanWords, IsSearchWords, Spells, file_names, inputs}

abbrev plan_files : PlanWords → List Text
plan_files w = w.domain.now ∷ w.problem.now ∷ w.plan.now ∷ []

-- `bare`: answers alone, with their journal, or behind an earlier one
abbrev pub NoBare : List Row → Type 0
NoBare rows =
    (first_of (codes "journal") rows ≡ None → first_of (codes "resume") rows ≡ None → ⊥)
    × ((log : Bor Text) → first_of (codes "journal") rows ≡ Some log.now
    → first_of (codes "resume") rows ≡ None → IsApart [] log.now → ⊥)
    × ((old log : Bor Text) → first_of (codes "journal") rows ≡ Some log.now
    → first_of (codes "resume") rows ≡ Some old.now → inputs (old.now ∷ []) ≤ 0
    → IsApart (old.now ∷ []) log.now → ⊥)

-- `check` and `net`
abbrev pub NoPlanOf : List Row → Type 0
NoPlanOf rows = (w : PlanWords) → IsPlanWords rows w → inputs (plan_files w) ≤ 1 → ⊥

-- `run`, in the same three ways as `bare`
abbrev pub NoRun : List Row → Type 0
NoRun rows =
    ((w : PlanWords) → IsPlanWords rows w → first_of (codes "journal") rows ≡ None
    → first_of (codes "resume") rows ≡ None → inputs (plan_files w) ≤ 0 → ⊥)
    × ((w : PlanWords) (log : Bor Text) → IsPlanWords rows w
    → first_of (codes "journal") rows ≡ Some log.now → first_of (codes "resume") rows ≡ None
    → inputs (plan_files w) ≤ 0 → IsApart (plan_files w) log.now → ⊥)
    × ((w : PlanWords) (old log : Bor Text) → IsPlanWords rows w
    → first_of (codes "journal") rows ≡ Some log.now
    → first_of (codes "resume") rows ≡ Some old.now → inputs (old.now ∷ plan_files w) ≤ 0
    → IsApart (old.now ∷ plan_files w) log.now → ⊥)

-- `plan` and `solve`, with their greatest budgets
abbrev pub NoSearch : ℕ → List Row → Type 0
NoSearch greatest rows = (w : SearchWords) → IsSearchWords greatest rows w
    → inputs (w.domain.now ∷ w.problem.now ∷ []) ≤ 1 → ⊥

-- `audit`, of a journal alone, or with a plan
abbrev pub NoAudit : List Row → Type 0
NoAudit rows =
    ((log : Bor Text) → first_of (codes "LOG") rows ≡ Some log.now
    → first_of (codes "DOMAIN") rows ≡ None → HasScale rows → ⊥)
    × ((log : Bor Text) (w : PlanWords) → first_of (codes "LOG") rows ≡ Some log.now
    → IsPlanWords rows w → inputs (log.now ∷ plan_files w) ≤ 1 → ⊥)

-- `split`, of all agents, or of one
abbrev pub NoSplit : List Row → Type 0
NoSplit rows =
    ((w : PlanWords) (owners : Bor Text) → IsPlanWords rows w
    → first_of (codes "OWNERS") rows ≡ Some owners.now → first_of (codes "part") rows ≡ None
    → inputs (w.domain.now ∷ w.problem.now ∷ w.plan.now ∷ owners.now ∷ []) ≤ 1 → ⊥)
    × ((w : PlanWords) (owners : Bor Text) (agent : ℕ) → IsPlanWords rows w
    → first_of (codes "OWNERS") rows ≡ Some owners.now
    → Spells (one_of (codes "part") rows) agent → agent ≤ 1023
    → inputs (w.domain.now ∷ w.problem.now ∷ w.plan.now ∷ owners.now ∷ []) ≤ 1 → ⊥)

abbrev pub NoDraw : List Row → Type 0
NoDraw rows = (w : DrawWords) → IsDrawWords rows w
    → inputs (w.domain.now ∷ w.problem.now ∷ w.plan.now ∷ file_names w.journal) ≤ 1 → ⊥
