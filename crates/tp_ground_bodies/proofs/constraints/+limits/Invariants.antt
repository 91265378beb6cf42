use Rattle.std.proofs.Common.{take}
use Rattle.std.specs.List.{flat_map}
use Rattle.tp_syntax_ast.specs.ConstraintViews.{constraint_view}
use Rattle.tp_ground_bindings.specs.Views.{env_view}
use Rattle.tp_ground_bodies.specs.Written.{limits_in}
use Rattle.tp_ground_bodies.specs.Mentions.{of_limit}
use Rattle.tp_ground_bodies.specs.ReadBack.{named_limit}
use Rattle.tp_ground_bodies.proofs.OnLowered.{AllLowered}
use Rattle.tp_ground_bodies.proofs.constraints.+limits.Given as goal

abbrev pub invariant-all_limits-loop-constraint : goal.invariant-all_limits-loop-constraint
invariant-all_limits-loop-constraint l = AllLowered named_limit of_limit l.fn.numbering l.numbering l.lowered (flat_map (λ r. limits_in (env_view l.env) (constraint_view r)) (take l.constraint-index l.constraints))
