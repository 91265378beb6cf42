-- The writing of what a search came to.
use Rattle.std.specs.Prelude.{◌≡◌, ℕ, List, Option, Bool}
use Rattle.std.specs.Io.KnownBytes.{Appends}
use Rattle.tp_device.specs.Bytes.{AppendsPart}
use Rattle.tp_search.specs.declared.found.Found.{Found}
use Rattle.tp_cli_plan.specs.FoundText.{found_text, is_plan}
use Rattle.tp_cli_plan.specs.declared.stops.SearchStop.{SearchStop}
use Rattle.tp_cli_plan.specs.declared.stops.SearchStop.TheVariants.{Write}

-- its text was written, and the answer is whether that is a plan
abbrev pub TellsFound : Found → Option (List ℕ) → Option (List ℕ) → Bool → Type 0
TellsFound found before now planned =
    (planned ≡ is_plan found) × Appends before now (found_text found)

-- it was not written whole
abbrev pub StopsTelling : Found → Option (List ℕ) → Option (List ℕ) → SearchStop → Type 0
StopsTelling found before now stop = (stop ≡ Write) × AppendsPart before now (found_text found)
