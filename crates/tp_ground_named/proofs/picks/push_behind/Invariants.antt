use Rattle.std.proofs.Common.{◌≡◌, ◌++◌, ◌∷◌, map, take}
use Rattle.tp_ground_bindings.specs.Rows.{names_of}
use Rattle.tp_ground_named.proofs.picks.push_behind.Given as goal

abbrev pub invariant-loop-row : goal.invariant-loop-row
invariant-loop-row l = map names_of l.into.items ≡ map names_of l.initial.into.items ++ map (λ rest. l.name ∷ rest) (map names_of (take l.row-index l.rows))
