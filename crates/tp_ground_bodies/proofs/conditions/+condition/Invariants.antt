use Rattle.std.proofs.Common.{◌≡◌, ℕ, ◌++◌, map, take, drop, length}
use Rattle.tp_syntax_ast.specs.Symbols.{typed_view}
use Rattle.tp_syntax_ast.specs.CondViews.{cond_view}
use Rattle.tp_ground_bindings.specs.Bindings.{bound, bindings}
use Rattle.tp_ground_bindings.specs.Left.{rows_left}
use Rattle.tp_ground_bindings.specs.Views.{env_view, universe_view}
use Rattle.tp_ground_bodies.specs.Written.{condition_in}
use Rattle.tp_ground_bodies.specs.Mentions.{of_condition}
use Rattle.tp_ground_bodies.specs.ReadBack.{named_condition}
use Rattle.tp_ground_bodies.proofs.OnLowered.{AllLowered}
use Rattle.tp_ground_bodies.proofs.conditions.+condition.Given as goal

abbrev pub invariant-conditions-loop-cond : goal.invariant-conditions-loop-cond
invariant-conditions-loop-cond l = AllLowered named_condition of_condition l.fn.numbering l.numbering l.lowered (map (λ c. condition_in (universe_view l.universe) (env_view l.env) (cond_view c)) (take l.cond-index l.conds))

abbrev pub invariant-under_each-rows : goal.invariant-under_each-rows
invariant-under_each-rows l =
    (i : ℕ)
    × (rows_left l.rows ≡ drop i (bindings (universe_view l.universe) (map typed_view l.variables)))
    × AllLowered named_condition of_condition l.fn.numbering l.numbering l.lowered (map (λ b. condition_in (universe_view l.universe) (bound (map typed_view l.variables) b ++ env_view l.env) (cond_view l.cond)) (take i (bindings (universe_view l.universe) (map typed_view l.variables))))

abbrev pub decreases-under_each-rows : goal.decreases-under_each-rows
decreases-under_each-rows l = length (rows_left l.rows)
