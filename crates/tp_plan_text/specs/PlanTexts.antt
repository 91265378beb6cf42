-- What a plan text says of a task: the steps that its lines spell, and the first line at fault.
use Rattle.std.specs.Prelude.{◌≡◌, ℕ, ◌+◌, ◌==◌, Bool, true, false, ◌&&◌, ◌||◌, nat_le, nat_lt, if◌then◌else◌, List, [], ◌∷◌, map, Option, Some, None, Result, Ok, Err}
use Rattle.std.specs.Char.{to_ascii_lowercase}
use Rattle.std.specs.List.{list_all}
use Rattle.tp_text.specs.Numbers.{ticks_of}
use Rattle.tp_text.specs.Scales.{scale_ticks}
use Rattle.tp_text.specs.declared.number.Scale.{Scale}
use Rattle.tp_task.specs.declared.task.ActionId.{ActionId}
use Rattle.tp_plan_text.specs.declared.plans.Step.{Step}
use Rattle.tp_plan_text.specs.declared.reading.Wrong.{Wrong}
use Rattle.tp_plan_text.specs.declared.reading.Wrong.TheVariants as wrong
use Rattle.tp_plan_text.specs.declared.reading.PlanFault.{PlanFault}
use Rattle.tp_plan_text.specs.declared.reading.PlanFault.TheVariants.{Memory, Line, NoAction, NotTicks, TooMany, NoDuration, Horizon}
use Rattle.tp_plan_text.specs.PlanLexemes.{lexemes, is_bare}
use Rattle.tp_plan_text.specs.PlanForms.{Form, form_of, is_well_formed}

-- What plan texts need of a task: its scale and horizon, how many ground actions it has, the one of some words, whether an
-- action is durative, and its words.
pub record ReadableTask : Type 0 where
  pub scale : Scale
  pub horizon : ℕ
  pub count : ℕ
  pub action : List (List ℕ) → Option ActionId
  pub is_durative : ActionId → Bool
  pub words : ActionId → List (List ℕ)

-- a byte before the lines of what follows it
abbrev pub before_lines : ℕ → List (List ℕ) → List (List ℕ)
before_lines b [] = (b ∷ []) ∷ []
before_lines b (l ∷ ls) = (b ∷ l) ∷ ls

-- a line ends at LF. A last one without LF counts if it has a byte
abbrev pub lines_of : List ℕ → List (List ℕ)
lines_of [] = []
lines_of (b ∷ bs) = if b == 10 then [] ∷ lines_of bs else before_lines b (lines_of bs)

-- lines that have a lexeme
abbrev pub full_lines : List (List ℕ) → List (List ℕ)
full_lines [] = []
full_lines (l ∷ ls) = if is_bare (lexemes l) then full_lines ls else l ∷ full_lines ls

-- The step of an action that starts at a time and lasts some time, if these are ticks and it ends within the horizon.
abbrev pub timed : ℕ → ActionId → Option ℕ → Option ℕ → Result Step Wrong
timed horizon a None d = Err wrong.Ticks
timed horizon a (Some t) None = Err wrong.Ticks
timed horizon a (Some t) (Some d) =
    if nat_le (t + d) horizon then Ok (record { tick = t; action = a; duration = d })
    else Err wrong.Horizon

-- A durative action needs a duration. That of another is not looked at.
abbrev pub lasting : ℕ → ℕ → Form → ActionId → Bool → Option (List ℕ) → Result Step Wrong
lasting scale horizon f a true None = Err wrong.Duration
lasting scale horizon f a true (Some d) = timed horizon a (ticks_of scale f.time) (ticks_of scale d)
lasting scale horizon f a false d = timed horizon a (ticks_of scale f.time) (Some 0)

abbrev pub acting : ReadableTask → Form → Option ActionId → Result Step Wrong
acting task f None = Err wrong.Action
acting task f (Some a) =
    lasting (scale_ticks task.scale) task.horizon f a (task.is_durative a) f.duration

-- the step that a form spells, or what is wrong with it
abbrev pub form_step : ReadableTask → Form → Result Step Wrong
form_step task f = if is_well_formed f then acting task f (task.action f.words) else Err wrong.Form

abbrev pub formed : ReadableTask → Option Form → Result Step Wrong
formed task None = Err wrong.Form
formed task (Some f) = form_step task f

-- the step that a line spells, or what is wrong with it
abbrev pub step_of : ReadableTask → List ℕ → Result Step Wrong
step_of task line = formed task (form_of (lexemes line))

-- lines that are not empty spell these steps, one each, in order
abbrev pub LinesSpell : ReadableTask → List (List ℕ) → List Step → Type 0
LinesSpell task ls steps = map (step_of task) (full_lines ls) ≡ map Ok steps

-- what is said of a line at fault
abbrev pub fault_at : ℕ → Wrong → PlanFault
fault_at n wrong.Form = Line n
fault_at n wrong.Action = NoAction n
fault_at n wrong.Duration = NoDuration n
fault_at n wrong.Ticks = NotTicks n
fault_at n wrong.Horizon = Horizon n

abbrev pub fault_or : ℕ → Result Step Wrong → Option PlanFault → Option PlanFault
fault_or n (Ok s) others = others
fault_or n (Err w) others = Some (fault_at n w)

-- The first refusal of lines that are numbered from n and stand behind so many that are not empty: a line at fault is refused for its
-- fault, and the 513th that is not empty is one too many, whatever it holds.
abbrev pub refusal_from : ReadableTask → ℕ → ℕ → List (List ℕ) → Option PlanFault
refusal_from task n count [] = None
refusal_from task n count (l ∷ ls) =
    if is_bare (lexemes l) then refusal_from task (n + 1) count ls
    else (if nat_le 512 count then Some TooMany
    else fault_or n (step_of task l) (refusal_from task (n + 1) (count + 1) ls))

-- The first refusal of lines, numbered from 1.
abbrev pub refusal : ReadableTask → List (List ℕ) → Option PlanFault
refusal task ls = refusal_from task 1 0 ls

-- A fault is the first refusal of lines, unless it is out of memory.
abbrev pub LinesAreRefused : ReadableTask → List (List ℕ) → PlanFault → Type 0
LinesAreRefused task ls Memory = Unit {0}
LinesAreRefused task ls fault = refusal task ls ≡ Some fault

-- the lines of a text, whose case is not significant
abbrev pub lines_in : List ℕ → List (List ℕ)
lines_in text = lines_of (map to_ascii_lowercase text)

-- A text spells the steps of a plan.
abbrev pub SpellsPlan : ReadableTask → List ℕ → List Step → Type 0
SpellsPlan task text steps = LinesSpell task (lines_in text) steps

-- a step's action is the task's, and if it is instantaneous the step lasts no tick
abbrev pub is_known : ReadableTask → Step → Bool
is_known task s = nat_lt s.action.0 task.count && (task.is_durative s.action || s.duration == 0)

abbrev pub AreKnown : ReadableTask → List Step → Type 0
AreKnown task steps = list_all (is_known task) steps ≡ true

-- A fault is the first refusal of a text, unless it is out of memory. A text that is read has none.
abbrev pub IsRefused : ReadableTask → List ℕ → PlanFault → Type 0
IsRefused task text fault = LinesAreRefused task (lines_in text) fault

abbrev pub IsAccepted : ReadableTask → List ℕ → Type 0
IsAccepted task text = refusal task (lines_in text) ≡ None
