-- What the changes of an event show.
use Rattle.std.specs.Prelude.{ℕ, List}
use Rattle.std.proofs.Common.{Vec, Global}
use Rattle.tp_task.specs.Tables.{Tables, words_at}
use Rattle.tp_task.specs.Words.{Words}
use Rattle.tp_ground_bodies.specs.Written.{GroundEffect, GroundWrite, added, deleted, written}
use Rattle.tp_ground_bodies.specs.ReadBack.{named_write}
use Rattle.tp_task.specs.declared.events.NumericEffect.{NumericEffect}
use Rattle.tp_ground_bodies.specs.Gathered.{list_shows}
use Rattle.tp_ground_bodies.specs.declared.changes.Changes.{Changes}

abbrev pub shows_atoms : Tables → Vec ℕ Global → List Words → Type 0
shows_atoms = list_shows (λ t a. words_at t.atoms a)

abbrev pub shows_writes : Tables → Vec NumericEffect Global → List GroundWrite → Type 0
shows_writes = list_shows named_write

-- these are the adds, the deletes and the writes of some simple effects
pub record ShowsChanges (t : Tables) (c : Changes) (os : List GroundEffect) : Type 0 where
  pub adds : shows_atoms t c.adds (added os)
  pub deletes : shows_atoms t c.deletes (deleted os)
  pub writes : shows_writes t c.writes (written os)

abbrev pub shows_changes : Tables → Changes → List GroundEffect → Type 0
shows_changes t c os = ShowsChanges t c os
