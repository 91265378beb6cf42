-- The names and objects for which the lines of a plan text ask.
use Rattle.std.specs.Prelude.{ℕ, ◌+◌, List, [], ◌∷◌, ◌++◌, nat_le, if◌then◌else◌, Option, Some, None}
use Rattle.tp_task.specs.Words.{Words}
use Rattle.tp_plan_text.specs.PlanLexemes.{lexemes, is_bare}
use Rattle.tp_plan_text.specs.PlanForms.{Form, form_of}
use Rattle.tp_plan_text.specs.PlanTexts.{lines_in}

abbrev pub form_names : Option Form → List Words
form_names None = []
form_names (Some f) = f.words ∷ []

-- the action's name and its objects, if the line has a form
abbrev pub line_names : List ℕ → List Words
line_names line = form_names (form_of (lexemes line))

-- The same of lines behind so many that are not empty, as far as they can be steps: the 513th is one too many, whatever it holds.
abbrev pub names_from : ℕ → List (List ℕ) → List Words
names_from count [] = []
names_from count (l ∷ ls) =
    if is_bare (lexemes l) then names_from count ls
    else (if nat_le 512 count then [] else line_names l ++ names_from (count + 1) ls)

abbrev pub plan_names : List ℕ → List Words
plan_names text = names_from 0 (lines_in text)
