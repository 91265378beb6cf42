use Rattle.std.proofs.Common.{ℕ, List, [], Vec, Bor, Global, map, sym, subst}
use Rattle.tp_task.specs.Bounds.{In}
use Rattle.tp_ground_bindings.specs.Rows.{names_of}
use Rattle.tp_ground_joins.specs.Walks.{IsAllowed}
use Rattle.tp_ground_joins.specs.declared.rows.Level.{Level}
use Rattle.tp_ground_joins.proofs.candidates.push_candidates.Goals as goal

pub returns : goal.returns
returns c = (
  map names_of c.as_slice-found.result.now,
  c.in_ok-push_instances.ensures,
  λ objects i may. subst (λ (rs : List (Vec (Bor (List ℕ)) Global)). In objects (map names_of rs)) (sym c.as_slice-found.ensures.value)
      (c.in_ok-rows.ensures objects (subst (λ (ls : List Level). IsAllowed ls [] objects) (sym c.as_slice-along.ensures.value) (c.in_ok-levels.ensures objects i may))),
)
