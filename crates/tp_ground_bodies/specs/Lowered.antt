-- What numbering an expression, a condition or an action gives: something that says what is written out, in every table
-- that comes after.
use Rattle.std.specs.Prelude.{◌≡◌, Result, Ok, Err}
use Rattle.tp_task.specs.Words.{with_all}
use Rattle.tp_task.specs.Labels.{Grows}
use Rattle.tp_task.specs.Tables.{Tables, CannotNumber}
use Rattle.tp_ground_bodies.specs.Mentions.{Mentions}
use Rattle.tp_task.specs.declared.fault.GroundFault.{GroundFault}

-- once these are numbered too
pub record Notes (old new : Tables) (m : Mentions) : Type 0 where
  pub atoms : new.atoms ≡ with_all old.atoms m.atoms
  pub fluents : new.fluents ≡ with_all old.fluents m.fluents
  pub actions : new.actions ≡ old.actions
  pub most : new.most ≡ old.most

-- the atoms and fluents that had numbers keep them
pub record Extends (old new : Tables) : Type 0 where
  pub atoms : Grows old.atoms new.atoms
  pub fluents : Grows old.fluents new.fluents

-- What was mentioned is numbered, and x says y in these tables and in all that extend them.
pub record IsLowered {X Y : Type 0} (named : Tables → X → Y) (old new : Tables) (x : X) (y : Y)
    (m : Mentions) : Type 0 where
  pub notes : Notes old new m
  pub says : (later : Tables) → Extends new later → named later x ≡ y

-- Greater is mentioned than may be numbered. Out of memory says nothing.
abbrev pub Overflows : Tables → Mentions → GroundFault → Type 0
Overflows old m e =
    CannotNumber old.most (with_all old.atoms m.atoms)
    (with_all old.fluents m.fluents) e

abbrev pub Lowers :
    {X Y : Type 0}
    → (Tables → X → Y)
    → Tables → Result X GroundFault → Tables → Y → Mentions → Type 0
Lowers named old (Ok x) new y m = IsLowered named old new x y m
Lowers named old (Err e) new y m = Overflows old m e
