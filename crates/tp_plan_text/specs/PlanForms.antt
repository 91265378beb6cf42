-- The form of a line of a plan text: TIME `:` `(` NAME ARG .. `)`, with or without `[` DURATION `]`.
use Rattle.std.specs.Prelude.{◌≡◌, ℕ, List, [], ◌∷◌, ◌++◌, map, Bool, true, ◌==◌, ◌&&◌, if◌then◌else◌, Option, Some, None, option_map}
use Rattle.std.specs.Option.{option_and_then}
use Rattle.tp_text.specs.Numbers.{has_time_form}
use Rattle.tp_task.specs.Readable.{are_names}
use Rattle.tp_plan_text.specs.PlanLexemes.{Lexeme, word, sign, is_bare, word_first, sign_first}
use Rattle.tp_plan_text.specs.declared.forms.Form as shown

pub record Form : Type 0 where
  pub time : List ℕ
  pub words : List (List ℕ)
  pub duration : Option (List ℕ)

abbrev pub bracketed : Option (List ℕ) → List Lexeme
bracketed None = []
bracketed (Some d) = sign 91 ∷ word d ∷ sign 93 ∷ []

-- The lexemes that a form writes.
abbrev pub written : Form → List Lexeme
written f = word f.time ∷ sign 58 ∷ sign 40 ∷ (map word f.words ++ (sign 41 ∷ bracketed f.duration))

-- what a form of the code is
abbrev pub form_view : shown.Form → Form
form_view f =
    record {
      time = f.time.now;
      words = map (λ w. w.now) f.words.items;
      duration = option_map (λ d. d.now) f.duration;
    }

-- TIME, `:`, `(`, and what follows
abbrev pub head_of : List Lexeme → Option (List ℕ × List Lexeme)
head_of ms =
    option_and_then (λ (t : List ℕ × List Lexeme). option_and_then (λ (a : List Lexeme).
    option_map (λ (b : List Lexeme). (t.0, b)) (sign_first 40 a)) (sign_first 58 t.1)) (word_first ms)

abbrev pub with_word :
    List ℕ → Option (List (List ℕ) × List Lexeme) → Option (List (List ℕ) × List Lexeme)
with_word w None = None
with_word w (Some p) = Some (w ∷ p.0, p.1)

-- words up to `)`, and what follows
abbrev pub words_of : List Lexeme → Option (List (List ℕ) × List Lexeme)
words_of [] = None
words_of (word w ∷ ms) = with_word w (words_of ms)
words_of (sign b ∷ ms) = if b == 41 then Some ([], ms) else None

-- nothing, or `[`, a word, `]` and then nothing
abbrev pub bracket_of : List Lexeme → Option (List ℕ)
bracket_of ms =
    option_and_then (λ (a : List Lexeme). option_and_then (λ (d : List ℕ × List Lexeme). option_and_then
    (λ (b : List Lexeme). if is_bare b then Some d.0 else None) (sign_first 93 d.1)) (word_first a))
    (sign_first 91 ms)

abbrev pub end_of : List Lexeme → Option (Option (List ℕ))
end_of ms = if is_bare ms then Some None else option_map Some (bracket_of ms)

-- the form whose lexemes these are
abbrev pub form_of : List Lexeme → Option Form
form_of ms =
    option_and_then (λ (h : List ℕ × List Lexeme).
    option_and_then (λ (w : List (List ℕ) × List Lexeme). option_map (λ (d : Option (List ℕ)).
    record { time = h.0; words = w.0; duration = d }) (end_of w.1)) (words_of h.1)) (head_of ms)

abbrev pub is_duration : Option (List ℕ) → Bool
is_duration None = true
is_duration (Some d) = has_time_form d

-- the times have the form of times, and the action's words are names
abbrev pub is_well_formed : Form → Bool
is_well_formed f = has_time_form f.time && (are_names f.words && is_duration f.duration)

-- lexemes are those of a form exactly if the form writes them
abbrev pub FormsAreWritten : Type 0
FormsAreWritten =
    (ms : List Lexeme) (f : Form) → (form_of ms ≡ Some f → ms ≡ written f)
    × (ms ≡ written f → form_of ms ≡ Some f)
