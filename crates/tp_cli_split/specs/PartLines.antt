-- The lines by which `bare` makes a network from nothing: its head, and a command for each bound.
use Rattle.std.specs.Prelude.{ℕ, List, ◌++◌, length, codes, decimal}
use Rattle.std.specs.Fmt.{signed_decimal}
use Rattle.std.specs.List.{flat_map}
use Rattle.tp_bounds.specs.declared.Bound.{Bound}
use Rattle.tp_bounds.specs.declared.plan_nets.PlanNet.{PlanNet}
use Rattle.tp_script.specs.NetLines.{point_text}

-- the command that adds a bound, with its end
abbrev pub add_line : Bound → List ℕ
add_line b =
    codes "add" ++ (point_text b.from
    ++ (point_text b.to ++ (codes " " ++ (signed_decimal b.w ++ codes "\n"))))

-- the head of a network, with its end
abbrev pub head_line : ℕ → ℕ → List ℕ
head_line events horizon =
    codes "network " ++ (decimal events ++ (codes " " ++ (decimal horizon ++ codes "\n")))

abbrev pub bare_lines : PlanNet → List ℕ
bare_lines n = head_line (length n.events.items) n.horizon ++ flat_map add_line n.bounds.items
