use Rattle.std.proofs.Common.{true, false, Vec, Global, map, refl, sym, ap, ◌∙◌}
use Rattle.std.proofs.lemmas.List.{take_all}
use Rattle.std.specs.List.{filter}
use Rattle.tp_ground.specs.Instances.{instance_view}
use Rattle.tp_ground.specs.declared.instances.Instance.{Instance}
use Rattle.tp_ground.proofs.OnInstances.{item_at, taken, passed}
use Rattle.tp_ground.proofs.instances.flagged.Goals as goal
use Rattle.tp_ground.proofs.instances.flagged.Goals.{then-flags-place+in_ok-copy_of+in_ok-push, else-flags-place}

pub loop-place-preserved : goal.loop-place-preserved
loop-place-preserved c = elim c.if-flags-place.branch [
  | then-flags-place+in_ok-copy_of+in_ok-push w ↦
      λ test same. ap (λ (v : Vec Instance Global). map instance_view v.items) w.kept-is
      ∙ taken instance_view test c.args.flags.now c.args.all.now same c.loop-place.place c.loop-place-test.true c.loop-place.kept.items (c.loop-place.invariant test same)
      w.index-all-place.result w.index-all-place.is true false (sym w.if-flags-place.true) refl w.push.new.self.items w.in_ok-copy_of.field-0 w.in_ok-push.ensures.items w.in_ok-copy_of.ensures
  | else-flags-place w ↦
      λ test same. ap (λ (v : Vec Instance Global). map instance_view v.items) w.kept-is
      ∙ passed instance_view test c.args.flags.now c.args.all.now same c.loop-place.place c.loop-place-test.true c.loop-place.kept.items (c.loop-place.invariant test same)
      (item_at c.args.all.now c.loop-place.place c.loop-place-test.true).0 (item_at c.args.all.now c.loop-place.place c.loop-place-test.true).1 false false (sym w.if-flags-place.false) refl
]

pub returns : goal.returns
returns c = λ test same. c.loop-place.invariant test same ∙ ap (λ xs. filter test (map instance_view xs)) (take_all c.loop-place.place c.args.all.now c.loop-place-test.false)
