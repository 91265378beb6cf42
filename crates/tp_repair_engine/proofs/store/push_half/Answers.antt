use Rattle.std.proofs.Common.{List, ◌∷◌, ◌++◌, [], ap, ◌∙◌}
use Rattle.tp_repair_engine.specs.declared.store.Half.{Half}
use Rattle.tp_repair_engine.proofs.Stores.{halves_at_is, halves_written, halves_other}
use Rattle.tp_repair_engine.proofs.Halves.{on_err}
use Rattle.tp_repair_engine.proofs.store.push_half.Goals as goal

pub returns-in_err-push-clause-err : goal.returns-in_err-push-clause-err
returns-in_err-push-clause-err c =
    on_err c.from_residual.result
    (halves_written c.args.lists.now.items c.args.point c.push.new.self c.requires ∙ (c.in_err-push.ensures.items
    ∙ halves_at_is c.args.lists.now.items c.args.point c.index_mut.result.now c.requires c.index_mut.ensures.value))

pub returns-in_err-push-clause-others : goal.returns-in_err-push-clause-others
returns-in_err-push-clause-others c = λ y ne. halves_other c.args.lists.now.items c.args.point c.push.new.self y ne

pub returns-clause-here : goal.returns-clause-here
returns-clause-here c =
    halves_written c.args.lists.now.items c.args.point c.push.new.self c.requires ∙ (c.in_ok-push.ensures.items
    ∙ ap (λ (hs : List Half). hs ++ c.args.half ∷ []) (halves_at_is c.args.lists.now.items c.args.point c.index_mut.result.now c.requires c.index_mut.ensures.value))

pub returns-clause-others : goal.returns-clause-others
returns-clause-others c = λ y ne. halves_other c.args.lists.now.items c.args.point c.push.new.self y ne
