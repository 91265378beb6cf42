-- One step of the machine: a command, its answer, and the state after it.
use Rattle.std.specs.Prelude.{◌≡◌, ◌↔◌, ℕ, ◌+◌, ◌<◌, ◌≤◌, Bool, true, false, not, ◌&&◌, nat_lt, nat_le, if◌then◌else◌, IsTrue, List, length, slice_get, is_some, Option, Some, None, MatchOption, Result, Ok, Err, ℤ, pos, ◌-ℤ◌, int_le}
use Rattle.std.specs.List.{All}
use Rattle.std.specs.FinMap.{get, len}
use Rattle.tp_bounds.specs.declared.Point.{Point}
use Rattle.tp_bounds.specs.declared.Point.TheVariants.{Origin, Event}
use Rattle.tp_bounds.specs.declared.Edge.{Edge}
use Rattle.tp_bounds.specs.Setting.{Setting, event_count, fixed_at, floor_of}
use Rattle.tp_bounds.specs.Schedule.{IsSchedule, HasSchedule, IsWindow}
use Rattle.tp_bounds.specs.Changes.{with_bound, without_bound, proposing, at_moment, with_fixed}
use Rattle.tp_net.specs.Faults.{Refutes, IsNew, IsNow, IsPastOf}
use Rattle.tp_exec_machine.specs.declared.command.Command.{Command}
use Rattle.tp_exec_machine.specs.declared.command.Command.TheVariants.{Advance, Add, Withdraw, Window, Dispatch, Happened, Report as Tell}
use Rattle.tp_exec_machine.specs.declared.command.Answer.{Answer}
use Rattle.tp_exec_machine.specs.declared.command.Answer.TheVariants.{Accepted, Named, Told, Reported, Refused}
use Rattle.tp_exec_machine.specs.declared.refusal.Refusal.{Refusal}
use Rattle.tp_exec_machine.specs.declared.refusal.Refusal.TheVariants.{NoEvent, Done, NoBound, Weight, Back, Moment, Full, Spent, Memory, Conflict}
use Rattle.tp_exec_machine.specs.declared.command.Report.{Report}
use Rattle.tp_net.specs.declared.NetFault.{NetFault}
use Rattle.tp_net.specs.declared.NetFault.TheVariants.{Memory as Wants, Conflict as Contradicts, Between as Joins}
use Rattle.tp_exec_machine.specs.Machine.{Machine, kind_after}

-- ---- which refusal comes first

-- the point is the origin or one of that many events
abbrev pub is_point_of : ℕ → Point → Bool
is_point_of count Origin = true
is_point_of count (Event e) = nat_lt e count

-- the weight is at most 2,000,000,000 ticks, either way
abbrev pub is_in_range : ℤ → Bool
is_in_range w = int_le (pos 0 -ℤ pos 2_000_000_000) w && int_le w (pos 2_000_000_000)

-- the first refusal that applies to a command whatever schedules remain, if one does. A command is well formed if none does
abbrev pub first_refusal : Machine → Command → Option Refusal
first_refusal m (Advance to) =
    if nat_lt to m.setting.clock then Some Back else
    (if nat_lt m.setting.horizon to then Some Moment else None)
first_refusal m (Add b) =
    if not (is_point_of (event_count m.setting) b.from && is_point_of (event_count m.setting) b.to)
    then Some NoEvent else
    (if not (is_in_range b.w) then Some Weight else
    (if nat_le m.limits.bounds (len m.setting.bounds) then Some Full else
    (if nat_le m.limits.ids m.next then Some Spent else None)))
first_refusal m (Withdraw id) = if is_some (get m.setting.bounds id.0) then None else Some NoBound
first_refusal m (Window e) = if nat_lt e (event_count m.setting) then None else Some NoEvent
first_refusal m (Dispatch e) =
    if nat_lt e (event_count m.setting)
    then (if is_some (fixed_at m.setting e) then Some Done else None) else Some NoEvent
first_refusal m (Happened e moment) =
    if not (nat_lt e (event_count m.setting)) then Some NoEvent else
    (if is_some (fixed_at m.setting e) then Some Done else
    (if nat_lt moment (floor_of m.setting e) then Some Back else
    (if nat_lt m.setting.clock moment then Some Moment else None)))
first_refusal m Tell = None

-- ---- what a command that none of them applies to asks for

abbrev pub asked : Machine → Command → Setting
asked m (Advance to) = at_moment m.setting to
asked m (Add b) = proposing m.setting b
asked m (Withdraw id) = without_bound m.setting id.0
asked m (Window e) = m.setting
asked m (Dispatch e) = with_fixed m.setting e m.setting.clock
asked m (Happened e moment) = with_fixed m.setting e moment
asked m Tell = m.setting

-- the state if it is accepted
abbrev pub accepted : Machine → Command → Machine
accepted m (Advance to) = record m { setting = at_moment m.setting to }
accepted m (Add b) = record m { setting = with_bound m.setting m.next b; next = m.next + 1 }
accepted m (Withdraw id) =
    record m { setting = without_bound m.setting id.0; kind = kind_after m.kind m.own id.0 }
accepted m (Window e) = m
accepted m (Dispatch e) = record m { setting = with_fixed m.setting e m.setting.clock }
accepted m (Happened e moment) = record m { setting = with_fixed m.setting e moment }
accepted m Tell = m

-- which edges it brings: an add the new bound, an advance the floors, a dispatch and a report of an event the event's moment
abbrev pub brings : Command → Edge → Type 0
brings (Advance to) e = IsNow e
brings (Add b) e = IsNew e
brings (Withdraw id) e = ⊥
brings (Window k) e = ⊥
brings (Dispatch k) e = IsPastOf k e
brings (Happened k moment) e = IsPastOf k e
brings Tell e = ⊥

-- whether it may grow something
abbrev pub may_want_memory : Command → Bool
may_want_memory (Advance to) = true
may_want_memory (Add b) = true
may_want_memory (Withdraw id) = true
may_want_memory (Window k) = false
may_want_memory (Dispatch k) = true
may_want_memory (Happened k moment) = true
may_want_memory Tell = true

-- ---- what it is told

-- it remains, and no event happens earlier in another that does
pub record IsLeastSchedule (s : Setting) (t : ℕ → ℕ) : Type 0 where
  pub is : IsSchedule s t
  pub least : (u : ℕ → ℕ) → IsSchedule s u → (e : ℕ) → e < event_count s → t e ≤ u e

-- each event's moment in the pointwise least schedule, and whether it is dispatched
pub record AreMoments (s : Setting) (moments : List (ℕ × Bool)) : Type 0 where
  pub schedule : ℕ → ℕ
  pub least : IsLeastSchedule s schedule
  pub count : length moments ≡ event_count s
  pub each :
      (e : ℕ) → e < event_count s → slice_get moments e ≡ Some (schedule e, is_some (fixed_at s e))

-- now, the kind, the moments, and whether every event is dispatched
pub record IsReport (m : Machine) (r : Report) : Type 0 where
  pub now : r.now ≡ m.setting.clock
  pub kind : r.kind ≡ m.kind
  pub moments : AreMoments m.setting r.moments.items
  pub done : IsTrue r.done ↔ All (λ p. IsTrue p.1) r.moments.items

-- what an answer tells where the command is carried out: the identifier of a bound, all moments of an event, the state of the run
abbrev pub Tells : Machine → Command → Answer → Type 0
Tells m (Advance to) Accepted = Unit {0}
Tells m (Add b) (Named id) = id.0 ≡ m.next
Tells m (Withdraw id) Accepted = Unit {0}
Tells m (Window e) (Told low high) = IsWindow m.setting e low high
Tells m (Dispatch e) Accepted = Unit {0}
Tells m (Happened e moment) Accepted = Unit {0}
Tells m Tell (Reported r) = IsReport m r
Tells m command answer = ⊥

-- ---- a step

-- Conflict comes with a reason, and only where no schedule would remain. Memory comes only where something may grow
abbrev pub Refuses : Machine → Command → Refusal → Type 0
Refuses m command (Conflict reason) =
    Refutes (brings command) (asked m command) ((accepted m command).setting) reason.edges.items
Refuses m command Memory = IsTrue (may_want_memory command)
Refuses m command refusal = ⊥

-- A well-formed command is refused, and the state stays, or it is carried out where a schedule remains
abbrev pub Decides : Machine → Command → Answer → Machine → Type 0
Decides old command (Refused refusal) new = Refuses old command refusal × (new ≡ old)
Decides old command answer new =
    Tells old command answer
    × HasSchedule ((accepted old command).setting)
    × (new ≡ accepted old command)

-- the first refusal that applies is the answer, and the state stays; else the command is decided by the schedules that remain
abbrev pub Step : Machine → Command → Answer → Machine → Type 0
Step old command answer new =
    MatchOption (first_refusal old command)
    (Decides old command answer new) (λ refusal. (answer ≡ Refused refusal) × (new ≡ old))

-- what a call answers, as an answer of the machine
abbrev pub answer_of : {T : Type 0} → (T → Answer) → Result T Refusal → Answer
answer_of f (Ok x) = f x
answer_of f (Err refusal) = Refused refusal

-- what a network's fault becomes, where it is not that the network can't hold a bound
abbrev pub refusal_of : NetFault → Refusal
refusal_of Wants = Memory
refusal_of (Contradicts reason) = Conflict reason
refusal_of Joins = Memory
