use Rattle.std.proofs.Common.{◌≡◌, ℕ, List, [], length, subst, sym, arith}
use Rattle.std.specs.declared.alloc.Global.{Global}
use Rattle.std.specs.declared.vec.Vec.{Vec}
use Rattle.tp_repair_engine.specs.declared.store.Half.{Half}
use Rattle.tp_repair_engine.specs.Store.{halves_at}
use Rattle.tp_repair_engine.proofs.Halves.{empty_more}
use Rattle.tp_repair_engine.proofs.store.empty_lists.Goals as goal

pub loop-preserved : goal.loop-preserved
loop-preserved c =
    let after : c.push.new.self.len ≡ length c.push.new.self.items = c.push.new.self.ok.0 in
    let before : c.loop.lists.len ≡ length c.loop.lists.items = c.loop.lists.ok.0 in
    record {
      len = omega (arith, after, before, c.in_ok-push.ensures.len, c.loop.invariant.len);
      empty = subst (λ (ls : List (Vec Half Global)). (y : ℕ) → halves_at ls y ≡ []) (sym c.in_ok-push.ensures.items)
          (empty_more c.loop.lists.items c.new.result c.new.ensures.items c.loop.invariant.empty);
    }
