-- A state as it is stored: the scale of the task's time, the truth of each atom and the number of each fluent.
use Rattle.std.specs.Prelude.{◌≡◌, ℕ, Bool, false, List, length, Option, None, ℤ, slice_index_or}
use Rattle.tp_task.specs.State as spec
use Rattle.tp_task.specs.Happens.{EventOfStep}
use Rattle.tp_task.specs.Fits.{event_fits}
use Rattle.tp_task.specs.declared.task.Task.{Task}
use Rattle.tp_text.specs.Scales.{scale_ticks}

pub record Stored : Type 0 where
  pub scale : ℕ
  pub atoms : List Bool
  pub numbers : List (Option ℤ)

-- the state that it stands for
abbrev pub state_of : Stored → spec.State
state_of s =
    record {
      atom = λ a. slice_index_or s.atoms a false;
      number = λ f. slice_index_or s.numbers f None;
    }

-- the atoms and fluents that an event changes are the state's
abbrev pub fits_in : Stored → EventOfStep → Bool
fits_in s t = event_fits (length s.atoms) (length s.numbers) t.event

-- the state in which a task begins
abbrev pub first_of : Task → Stored
first_of t =
    record {
      scale = scale_ticks t.scale;
      atoms = t.initial_atoms.items;
      numbers = t.initial_numbers.items;
    }

-- the two are states of one task
pub record OfOneTask (s t : Stored) : Type 0 where
  pub scale : t.scale ≡ s.scale
  pub atoms : length t.atoms ≡ length s.atoms
  pub numbers : length t.numbers ≡ length s.numbers
