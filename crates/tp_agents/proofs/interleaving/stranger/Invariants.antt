use Rattle.std.proofs.Common.{◌≡◌, drop, nat_le}
use Rattle.std.specs.List.{position_from}
use Rattle.tp_agents.specs.Interleaved.{first_stranger}
use Rattle.tp_agents.proofs.interleaving.stranger.Given as goal

abbrev pub invariant-loop-place : goal.invariant-loop-place
invariant-loop-place l = position_from (λ c. nat_le l.agents c.0) l.place (drop l.place l.commands) ≡ first_stranger l.agents l.commands
