-- A loop that lowers one after another and stops at a fault.
use Rattle.std.proofs.Common.{◌≡◌, ℕ, ◌+◌, ◌<◌, List, length, take, drop, get_or, map, Result, IsErrAnd, Vec, Global, subst, ◌∙◌}
use Rattle.std.specs.List.{flat_map}
use Rattle.tp_task.specs.Tables.{Tables}
use Rattle.tp_ground_bodies.specs.Mentions.{Mentions, of_each}
use Rattle.tp_ground_bodies.specs.Lowered.{Overflows, Lowers}
use Rattle.tp_task.specs.declared.fault.GroundFault.{GroundFault}
use Rattle.tp_ground_bindings.proofs.Along.{whole, map_whole}
use Rattle.tp_ground_bodies.proofs.OnLowered.{all_named, AllLowered, all_stopped, one_stopped}

module _ {C X Y : Type 0} (named : Tables → C → Y) (of : Y → Mentions) (xs : List X) (i : ℕ) (x : X) (lt : i < length xs) (item : x ≡ get_or xs i x) (all : List Y) (a b c : Tables) (v : Vec C Global) (r : Result (Vec C Global) GroundFault) (e : GroundFault) (err : IsErrAnd r (λ f. f ≡ e)) where
  pub flat_stopped : (f : X → List Y) → all ≡ flat_map f xs → AllLowered named of a b v (flat_map f (take i xs)) → Overflows b (of_each of (f x)) e → Lowers (all_named named of) a r c all (of_each of all)
  flat_stopped f is l h = all_stopped named of a b c v (flat_map f (take i xs)) (flat_map f (drop (i + 1) xs)) all r e err l (f x) (is ∙ whole f xs i x lt item) h

  pub map_stopped : (f : X → Y) → all ≡ map f xs → AllLowered named of a b v (map f (take i xs)) → Overflows b (of (f x)) e → Lowers (all_named named of) a r c all (of_each of all)
  map_stopped f is l h = one_stopped named of a b c v (map f (take i xs)) (map f (drop (i + 1) xs)) all r e err l (f x) (is ∙ map_whole f xs i x lt item) h

  -- the same where what is lowered there is told in other words
  pub map_stopped_as : (f : X → Y) (y : Y) → y ≡ f x → all ≡ map f xs → AllLowered named of a b v (map f (take i xs)) → Overflows b (of y) e → Lowers (all_named named of) a r c all (of_each of all)
  map_stopped_as f y p is l h = map_stopped f is l (subst (λ z. Overflows b (of z) e) p h)
