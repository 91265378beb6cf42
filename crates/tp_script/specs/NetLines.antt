-- The network of a plan as lines: 'event E TEXT' for each event, and then 'bound ID F T W' for each bound, F and T being events, or 'o'
-- for the origin.
use Rattle.std.specs.Prelude.{ℕ, suc, List, [], ◌∷◌, ◌++◌, map, codes, decimal, string_bytes}
use Rattle.std.specs.Fmt.{signed_decimal}
use Rattle.tp_bounds.specs.declared.Point.{Point}
use Rattle.tp_bounds.specs.declared.Point.TheVariants.{Origin, Event}
use Rattle.tp_bounds.specs.declared.Bound.{Bound}
use Rattle.tp_bounds.specs.declared.plan_nets.PlanNet.{PlanNet}

abbrev pub event_line : ℕ → List ℕ → List ℕ
event_line e text = codes "event " ++ (decimal e ++ (codes " " ++ (text ++ codes "\n")))

-- a blank, and the point
abbrev pub point_text : Point → List ℕ
point_text Origin = codes " o"
point_text (Event e) = codes " " ++ decimal e

abbrev pub bound_line : ℕ → Bound → List ℕ
bound_line id b =
    codes "bound " ++ (decimal id ++ (point_text b.from
    ++ (point_text b.to ++ (codes " " ++ (signed_decimal b.w ++ codes "\n")))))

-- a line for each item, by its number
abbrev pub lines_from : {X : Type 0} → (ℕ → X → List ℕ) → ℕ → List X → List ℕ
lines_from line k [] = []
lines_from line k (x ∷ xs) = line k x ++ lines_from line (suc k) xs

abbrev pub network_lines : PlanNet → List ℕ
network_lines n =
    lines_from event_line 0 (map string_bytes n.events.items)
    ++ lines_from bound_line 0 n.bounds.items
