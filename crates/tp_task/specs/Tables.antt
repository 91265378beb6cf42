-- The numbers of atoms and fluents: their places in tables.
use Rattle.std.specs.Prelude.{◌≡◌, ℕ, ◌<◌, List, [], length, refl, slice_index_or}
use Rattle.std.specs.Coded.{Coded, code_by, coded×, coded_ℕ, coded_list}
use Rattle.tp_task.specs.Words.{Words}
use Rattle.tp_task.specs.declared.fault.GroundFault.{GroundFault}
use Rattle.tp_task.specs.declared.fault.GroundFault.TheVariants as faults
use Rattle.tp_task.specs.declared.fault.TooManyKind.{TooManyKind}
use Rattle.tp_task.specs.declared.fault.TooManyKind.TheVariants as kinds
use Rattle.tp_task.specs.Labels.{with_label}

-- The atoms and the fluents that are numbered, how many each may be, and the actions in order.
pub record Tables : Type 0 where
  pub atoms : List Words
  pub fluents : List Words
  pub actions : List Words
  pub most : ℕ

abbrev pub coded_words : Coded (List Words)
coded_words = coded_list (coded_list (coded_list coded_ℕ))

abbrev pub coded_tables : Coded Tables
coded_tables =
    code_by (List Words × (List Words × (List Words × ℕ)))
    (coded× coded_words (coded× coded_words (coded× coded_words coded_ℕ)))
    (λ t. (t.atoms, (t.fluents, (t.actions, t.most))))
    (λ p. record { atoms = p.0; fluents = p.1.0; actions = p.1.1.0; most = p.1.1.1 })
    (λ _. refl)

-- tables of the same atoms and fluents, with these actions
abbrev pub with_actions : Tables → List Words → Tables
with_actions t actions =
    record { atoms = t.atoms; fluents = t.fluents; actions = actions; most = t.most }

-- the words at a number
abbrev pub words_at : List Words → ℕ → Words
words_at ws i = slice_index_or ws i []

-- Why these atoms and fluents cannot all be numbered: there are more than so many. Out of memory says nothing.
abbrev pub CannotNumber : ℕ → List Words → List Words → GroundFault → Type 0
CannotNumber most atoms fluents faults.Memory = Unit {0}
CannotNumber most atoms fluents (faults.TooMany kinds.Atoms) = most < length atoms
CannotNumber most atoms fluents (faults.TooMany kinds.Fluents) = most < length fluents
CannotNumber most atoms fluents (faults.TooMany kinds.Objects) = ⊥
CannotNumber most atoms fluents (faults.TooMany kinds.Actions) = ⊥
CannotNumber most atoms fluents faults.Range = ⊥

-- Why a label cannot be added to labels of a kind: there are as many as there may be, and it is new.
abbrev pub IsFull : TooManyKind → ℕ → List (List ℕ) → List ℕ → GroundFault → Type 0
IsFull kind most labels label faults.Memory = Unit {0}
IsFull kind most labels label (faults.TooMany k) =
    (k ≡ kind) × (most < length (with_label labels label))
IsFull kind most labels label faults.Range = ⊥
