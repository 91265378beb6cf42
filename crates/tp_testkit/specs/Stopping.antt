-- Where a device stops, and what contracts see of devices that do.
use Rattle.std.specs.Prelude.{ℕ, ◌-◌, min, nat_eq, if◌then◌else◌, List, length, Option, Some, None, Result, Ok, Err}
use Rattle.tp_testkit.specs.declared.stops.Stop.{Stop}
use Rattle.tp_testkit.specs.declared.stops.Stop.TheVariants.{Never, Bytes, Call}

-- how many of so many bytes go through in a call; none, if it fails
abbrev pub share_of : Stop → ℕ → Option ℕ
share_of Never count = Some count
share_of (Bytes room) count = if nat_eq room 0 then None else Some (min room count)
share_of (Call calls) count = if nat_eq calls 0 then None else Some count

-- where a device stops after a call in which so many bytes went through
abbrev pub stop_after : Stop → ℕ → Stop
stop_after Never count = Never
stop_after (Bytes room) count = Bytes (room - count)
stop_after (Call calls) count = if nat_eq calls 0 then Never else Call (calls - 1)

-- how many bytes a call let through
abbrev pub passed : {E : Type 0} → Result ℕ E → ℕ
passed (Ok count) = count
passed (Err e) = 0

-- a source: the bytes that it has left, how many a call gives at most, where it stops, how often it has failed
pub record Giving : Type 0 where
  pub left : List ℕ
  pub most : ℕ
  pub stop : Stop
  pub failures : ℕ

-- how many bytes a call may give into a buffer of so many
abbrev pub room_of : Giving → ℕ → ℕ
room_of g buffer = min (min g.most buffer) (length g.left)

-- a sink: the bytes that it holds, how many a call takes at most, where it stops, how often it has failed
pub record Taking : Type 0 where
  pub held : List ℕ
  pub most : ℕ
  pub stop : Stop
  pub failures : ℕ
