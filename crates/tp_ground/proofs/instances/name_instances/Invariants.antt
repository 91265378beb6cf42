use Rattle.std.proofs.Common.{◌≡◌, ◌++◌, ◌∷◌, map, take}
use Rattle.tp_ground.specs.Instances.{instance_view}
use Rattle.tp_ground.proofs.instances.name_instances.Given as goal

abbrev pub invariant-loop-instance : goal.invariant-loop-instance
invariant-loop-instance l = record {
  actions : l.numbering.actions ≡ l.initial.numbering.actions ++ map (λ x. (instance_view x).action.name ∷ (instance_view x).objects) (take l.instance-index l.some);
  atoms : l.numbering.atoms ≡ l.initial.numbering.atoms;
  fluents : l.numbering.fluents ≡ l.initial.numbering.fluents;
  most : l.numbering.most ≡ l.initial.numbering.most;
}
