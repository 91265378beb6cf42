use Rattle.std.proofs.Common.{◌≡◌, List, ◌∷◌, ◌++◌, [], length, take, ap, ◌∙◌, arith, ◌-◌, ◌+◌}
use Rattle.tp_repair_engine.specs.declared.store.Half.{Half}
use Rattle.tp_repair_engine.proofs.Stores.{halves_at_is, halves_written, halves_other}
use Rattle.tp_repair_engine.proofs.Halves.{push_len, take_pushed}
use Rattle.tp_repair_engine.proofs.store.pop_half.Goals as goal

pub returns-clause-here : goal.returns-clause-here
returns-clause-here c = λ halves last pushed.
    let row = halves_at_is c.args.lists.now.items c.args.point c.index_mut.result.now c.requires c.index_mut.ensures.value in
    let is : c.index_mut.result.now.items ≡ halves ++ last ∷ [] = row ∙ pushed in
    let before : c.index_mut.result.now.len ≡ length c.index_mut.result.now.items = c.index_mut.result.now.ok.0 in
    let len : length c.index_mut.result.now.items ≡ length halves + 1 = ap (λ (hs : List Half). length hs) is ∙ push_len halves last in
    let n : c.index_mut.result.now.len - 1 ≡ length halves = omega (arith, before, len) in
    halves_written c.args.lists.now.items c.args.point c.pop-half.new.self c.requires
    ∙ (c.pop-half.ensures.rest ∙ (ap (λ k. take k c.index_mut.result.now.items) n ∙ (ap (λ (hs : List Half). take (length halves) hs) is ∙ take_pushed halves last)))

pub returns-clause-others : goal.returns-clause-others
returns-clause-others c = λ y ne. halves_other c.args.lists.now.items c.args.point c.pop-half.new.self y ne
