use Rattle.std.proofs.Common.{map}
use Rattle.std.specs.FinMap.{get}
use Rattle.std.specs.Map.Iter.{deref_pair}
use Rattle.tp_bounds.specs.Setting.{event_count}
use Rattle.tp_bounds.specs.Changes.{fresh}
use Rattle.tp_exec_machine.specs.Partly.{IsPartly}
use Rattle.tp_agents.proofs.Gathered.{AreThere}
use Rattle.tp_agents.proofs.gathering.gather.Given as goal

abbrev pub invariant-loop-early : goal.invariant-loop-early
invariant-loop-early g l = IsPartly (fresh (event_count l.setting) l.setting.horizon) (g.N.Net.seen l.net) (get l.setting.bounds)

abbrev pub invariant-loop-id : goal.invariant-loop-id
invariant-loop-id g l =
    record {
      partly : IsPartly (fresh (event_count l.setting) l.setting.horizon) (g.N.Net.seen l.net) (get l.setting.bounds);
      there : AreThere (g.N.Net.seen l.net) (map deref_pair l.yielded);
    }
