-- What numbering puts into a collection: behind what the collection showed it shows what is written out, in every table that
-- comes after.
use Rattle.std.specs.Prelude.{◌≡◌, List, ◌++◌, map, Result, Ok, Err}
use Rattle.std.proofs.Common.{Vec, Global}
use Rattle.tp_task.specs.Tables.{Tables}
use Rattle.tp_ground_bodies.specs.Mentions.{Mentions}
use Rattle.tp_ground_bodies.specs.Lowered.{Notes, Extends, Overflows}
use Rattle.tp_task.specs.declared.fault.GroundFault.{GroundFault}

-- A list shows what each of its items says.
abbrev pub list_shows : {C Y : Type 0} → (Tables → C → Y) → Tables → Vec C Global → List Y → Type 0
list_shows named t v ys = map (named t) v.items ≡ ys

-- The collection shows what it showed before, and behind that ys.
pub record IsGathered {C Y : Type 0} (shows : Tables → C → List Y → Type 0) (old new : Tables)
    (before after : C) (ys : List Y) (m : Mentions) : Type 0 where
  pub notes : Notes old new m
  pub shown :
      (later : Tables) (xs : List Y)
      → Extends new later → shows later before xs → shows later after (xs ++ ys)

-- After a fault nothing is said of the collection.
abbrev pub Gathers :
    {C Y : Type 0}
    → (Tables → C → List Y → Type 0)
    → Tables → Result (Unit {0}) GroundFault → Tables
    → C → C → List Y → Mentions → Type 0
Gathers shows old (Ok _) new before after ys m = IsGathered shows old new before after ys m
Gathers shows old (Err e) new before after ys m = Overflows old m e

-- A collection of its own shows ys.
pub record IsMade {C Y : Type 0} (shows : Tables → C → List Y → Type 0) (old new : Tables)
    (made : C) (ys : List Y) (m : Mentions) : Type 0 where
  pub notes : Notes old new m
  pub shown : (later : Tables) → Extends new later → shows later made ys

abbrev pub Makes :
    {C Y : Type 0}
    → (Tables → C → List Y → Type 0)
    → Tables → Result C GroundFault → Tables → List Y → Mentions → Type 0
Makes shows old (Ok c) new ys m = IsMade shows old new c ys m
Makes shows old (Err e) new ys m = Overflows old m e
