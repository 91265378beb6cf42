-- The atoms that are left, written over what is there now, give what all of them give.
use Rattle.std.proofs.Common.{◌≡◌, ℕ, false, get_or, drop, if◌then◌else◌}
use Rattle.tp_task.specs.Event.{has}
use Rattle.tp_happen.proofs.writes.write_atoms.Given as goal

abbrev pub invariant-loop-a : goal.invariant-loop-a
invariant-loop-a l = (a : ℕ) → (if has (drop l.a-index l.which) a then l.truth else get_or l.atoms a false) ≡ (if has l.which a then l.truth else get_or l.initial.atoms a false)
