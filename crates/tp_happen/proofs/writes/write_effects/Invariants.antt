-- The effects that are left, on what is there now, give what all of them give.
use Rattle.std.proofs.Common.{◌≡◌, ℕ, None, get_or, drop}
use Rattle.std.specs.List.{list_all}
use Rattle.tp_task.specs.InOrder.{after_writes}
use Rattle.tp_happen.specs.Bounded.{effect_small, sums_small}
use Rattle.tp_happen.specs.Stored.{state_of}
use Rattle.tp_happen.proofs.writes.write_effects.Given as goal

abbrev pub invariant-loop-effect : goal.invariant-loop-effect
invariant-loop-effect l =
    record {
      numbers : (f : ℕ) → after_writes (state_of l.state) l.duration (drop l.effect-index l.effects) f (get_or l.numbers f None) ≡ after_writes (state_of l.state) l.duration l.effects f (get_or l.initial.numbers f None);
      expressions : list_all (effect_small (state_of l.state) l.duration) (drop l.effect-index l.effects) ≡ list_all (effect_small (state_of l.state) l.duration) l.effects;
      sums : (f : ℕ) → sums_small (state_of l.state) l.duration (drop l.effect-index l.effects) f (get_or l.numbers f None) ≡ sums_small (state_of l.state) l.duration l.effects f (get_or l.initial.numbers f None);
    }
