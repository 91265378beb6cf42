use Rattle.std.proofs.Common.{◌≡◌, ◌<◌, ℕ, length, get_or, true, false}
use Rattle.tp_exec_machine.specs.Orders.{AreListed}
use Rattle.tp_exec_machine.proofs.firsts.each_once.Given as goal

abbrev pub invariant-loop-early : goal.invariant-loop-early
invariant-loop-early l =
    record {
      listed : AreListed l.there.items l.order.items;
      len : length l.there.items ≡ l.count;
    }

abbrev pub invariant-loop-place : goal.invariant-loop-place
invariant-loop-place l =
    record {
      listed : AreListed l.there.items l.order.items;
      len : length l.there.items ≡ l.count;
      all : (p : ℕ) → p < l.place → get_or l.there.items p false ≡ true;
    }
