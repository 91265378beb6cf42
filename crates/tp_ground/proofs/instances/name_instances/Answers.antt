use Rattle.std.proofs.Common.{List, Bor, [], ◌∷◌, ◌++◌, map, sym, ap, ap₂, ◌∙◌, append_assoc}
use Rattle.std.proofs.lemmas.List.{take_all}
use Rattle.std.proofs.lemmas.Simd.{map-map}
use Rattle.tp_syntax_ast.specs.Symbols.{Name}
use Rattle.tp_task.specs.Words.{Words}
use Rattle.tp_ground.specs.Reached as reached
use Rattle.tp_ground.specs.Instances.{instance_view}
use Rattle.tp_ground.specs.declared.instances.Instance.{Instance}
use Rattle.tp_ground_bindings.proofs.Along.{map_next}
use Rattle.tp_ground.proofs.instances.name_instances.Goals as goal

abbrev words_of : Instance → Words
words_of x = (instance_view x).action.name ∷ (instance_view x).objects

pub loop-instance-preserved : goal.loop-instance-preserved
loop-instance-preserved c =
    let xs = c.args.some.now in
    let x = c.instance-item.result in
    let label =
    ap (map (λ (o : Bor Name). o.now)) c.deref-in-loop-instance.ensures.value
    ∙ c.in_ok-refill.ensures
    ∙ ap₂ (λ (n : Name) (ns : List Name). n ∷ ns) c.as_str.ensures.value (ap (map (λ (o : Bor Name). o.now)) c.deref.ensures.value) in
    record {
      actions =
          c.in_ok-push_action.ensures.actions
          ∙ ap (λ (w : Words). c.loop-instance.numbering.actions ++ w ∷ []) label
          ∙ ap (λ (ws : List Words). ws ++ words_of x ∷ []) c.loop-instance.invariant.actions
          ∙ append_assoc c.args.numbering.now.actions (map words_of _) (words_of x ∷ [])
          ∙ ap (λ (ws : List Words). c.args.numbering.now.actions ++ ws) (sym (map_next words_of xs c.loop-instance.instance-index x c.loop-instance-test.true c.instance-item.is));
      atoms = c.push_action.ensures.atoms ∙ c.loop-instance.invariant.atoms;
      fluents = c.push_action.ensures.fluents ∙ c.loop-instance.invariant.fluents;
      most = c.push_action.ensures.most ∙ c.loop-instance.invariant.most;
    }

pub returns-clause-actions : goal.returns-clause-actions
returns-clause-actions c =
    c.loop-instance.invariant.actions
    ∙ ap (λ (ws : List Words). c.args.numbering.now.actions ++ ws)
    (ap (map words_of) (take_all c.loop-instance.instance-index c.args.some.now c.loop-instance-test.false) ∙ sym (map-map (λ (i : reached.Instance). i.action.name ∷ i.objects) instance_view c.args.some.now))
