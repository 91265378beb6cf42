use Rattle.std.proofs.Common.{◌≡◌, ℕ, length, ◌∷◌, map, take, get_or, arith, List, ap, ◌∙◌}
use Rattle.std.specs.Prelude.{None, slice_index_or}
use Rattle.tp_repair_engine.specs.Store.{name_in}
use Rattle.tp_repair_engine.proofs.Names.{names_cycle, has_key, take_all}
use Rattle.tp_repair_engine.proofs.store.named.Goals as goal

pub index-requires : goal.index-requires
index-requires c =
    has_key c.args.store.now.nodes.slots (get_or c.args.path.now c.loop-key.key-index 0) (c.requires c.loop-key.key-index 0 c.loop-key-test.true)

pub returns : goal.returns
returns c = λ new cycle.
    let slots = c.args.store.now.nodes.slots in
    let path = c.args.path.now in
    let all : c.loop-key.key-index ≡ length path = omega arith in
    let is : c.loop-key.edges.items ≡ c.args.first ∷ map (λ k. name_in (slice_index_or slots k None)) path =
    c.loop-key.invariant ∙ ap (λ (ks : List ℕ). c.args.first ∷ map (λ k. name_in (slice_index_or slots k None)) ks) (ap (λ n. take n path) all ∙ take_all path) in
    names_cycle slots c.args.first new path c.loop-key.edges.items c.requires is cycle
