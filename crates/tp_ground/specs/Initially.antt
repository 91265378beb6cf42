-- What is true, and which values there are, at first.
use Rattle.std.specs.Prelude.{ℕ, Bool, false, ◌||◌, ◌==◌, List, [], ◌∷◌, if◌then◌else◌, Option, Some, None, ℤ}
use Rattle.tp_syntax_ast.specs.Problems as problems
use Rattle.tp_syntax_ast.specs.Problems.{Initial}
use Rattle.tp_task.specs.Words.{Words, same_words}
use Rattle.tp_ground_bindings.specs.Bindings.{words_in}
use Rattle.tp_task.specs.Tables.{Tables, words_at}
use Rattle.tp_ground_bodies.specs.Mentions.{Mentions, an_atom, a_fluent}
use Rattle.tp_ground.specs.declared.beginning.NumberedInitial.{NumberedInitial}
use Rattle.tp_ground.specs.declared.beginning.NumberedInitial.TheVariants as numbered

-- an entry of ':init', in which the atom or the fluent stands by its words
pub data GroundInitial : Type 0 where
  holds : Words → GroundInitial
  fails : Words → GroundInitial
  has_value : Words → ℤ → GroundInitial

abbrev pub initial_in : Initial → GroundInitial
initial_in (problems.holds f) = holds (words_in [] f)
initial_in (problems.fails f) = fails (words_in [] f)
initial_in (problems.has_value f v) = has_value (words_in [] f) v

abbrev pub of_initial : GroundInitial → Mentions
of_initial (holds w) = an_atom w
of_initial (fails w) = an_atom w
of_initial (has_value w v) = a_fluent w

-- an atom of which no entry says that it holds is false
abbrev pub is_initially_true : List GroundInitial → Words → Bool
is_initially_true [] w = false
is_initially_true (holds v ∷ is) w = same_words w v || is_initially_true is w
is_initially_true (fails v ∷ is) w = is_initially_true is w
is_initially_true (has_value v n ∷ is) w = is_initially_true is w

abbrev pub or_else : {A : Type 0} → Option A → Option A → Option A
or_else (Some x) o = Some x
or_else None o = o

-- the value that the last entry for a fluent gives it; a fluent for which there is none has no value
abbrev pub initial_value : List GroundInitial → Words → Option ℤ
initial_value [] w = None
initial_value (holds v ∷ is) w = initial_value is w
initial_value (fails v ∷ is) w = initial_value is w
initial_value (has_value v n ∷ is) w =
    or_else (initial_value is w) (if same_words w v then Some n else None)

-- ---- by number

abbrev pub named_initial : Tables → NumberedInitial → GroundInitial
named_initial t (numbered.Holds i) = holds (words_at t.atoms i)
named_initial t (numbered.Fails i) = fails (words_at t.atoms i)
named_initial t (numbered.HasValue i n) = has_value (words_at t.fluents i) n

abbrev pub true_at : List NumberedInitial → ℕ → Bool
true_at [] j = false
true_at (numbered.Holds i ∷ is) j = (j == i) || true_at is j
true_at (numbered.Fails i ∷ is) j = true_at is j
true_at (numbered.HasValue i n ∷ is) j = true_at is j

abbrev pub value_at : List NumberedInitial → ℕ → Option ℤ
value_at [] j = None
value_at (numbered.Holds i ∷ is) j = value_at is j
value_at (numbered.Fails i ∷ is) j = value_at is j
value_at (numbered.HasValue i n ∷ is) j = or_else (value_at is j) (if j == i then Some n else None)
