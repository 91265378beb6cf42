use Rattle.std.proofs.Common.{ℕ, List, Bor, [], ◌++◌, map, sym, ap, ◌∙◌}
use Rattle.std.specs.List.{cons_option}
use Rattle.tp_ground_named.specs.Picks.{tail_after}
use Rattle.tp_ground_named.specs.Groups.{behind}
use Rattle.tp_ground_named.proofs.OnGroups.{row_behind}
use Rattle.tp_ground_named.proofs.groups.put_row.Goals as goal

pub returns : goal.returns
returns c = λ n.
    row_behind (behind c.args.groups.now n) (behind c.put.new.groups n) n c.in-Some.first.now.now (map (λ (w : Bor (List ℕ)). w.now) c.in-Some.rest.now) (c.in_ok-put.ensures n)
    ∙ ap (λ (ws : List (Bor (List ℕ))). behind c.args.groups.now n ++ cons_option (tail_after n (map (λ w. w.now) ws)) []) (sym c.in-Some.ensures.cases.0)
