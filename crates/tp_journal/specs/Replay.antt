-- Where the run of a journal ends, and a journal whose last pair was cut off.
use Rattle.std.specs.Prelude.{◌≡◌, ◌⊎◌, ℕ, ◌≤◌, List, [], ◌∷◌, ◌++◌, length}
use Rattle.std.specs.List.{All}
use Rattle.tp_exec_machine.specs.Machine.{Machine}
use Rattle.tp_script.specs.Reading.{Free}
use Rattle.tp_journal_pairs.specs.Journal.{IsJournal, longest_line, text_of}

-- the bytes are a journal of an executive that begins in one state, with so many pairs, and it comes to the other
abbrev pub LeadsTo : Machine → List ℕ → ℕ → Machine → Type 0
LeadsTo old bytes pairs new =
    (version : ℕ) × (lines : List (List ℕ)) × IsJournal version old lines pairs new
    × (bytes ≡ text_of lines) × All (λ line. length line ≤ longest_line) lines

-- What may stand behind whole pairs where a journal was cut off: nothing; or what begins as a question does, and has no more than the end
-- of its line in it: a beginning of a pair's two lines
abbrev pub IsTornPair : List ℕ → Type 0
IsTornPair torn =
    (torn ≡ []) ⊎ ((rest : List ℕ) × (torn ≡ 62 ∷ rest) × (Free torn
    ⊎ ((line more : List ℕ) × (torn ≡ line ++ 10 ∷ more) × Free line × Free more)))
