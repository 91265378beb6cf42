-- What a name with its key and a row of names show.
use Rattle.std.specs.Prelude.{ℕ, List, map}
use Rattle.std.proofs.Common.{Vec, Global, Bor}
use Rattle.tp_ground_joins.specs.declared.keyed.Keyed.{Keyed}

abbrev pub keyed_view : Keyed → List ℕ
keyed_view k = k.name.now

abbrev pub row_view : Vec (Bor (List ℕ)) Global → List (List ℕ)
row_view v = map (λ n. n.now) v.items
