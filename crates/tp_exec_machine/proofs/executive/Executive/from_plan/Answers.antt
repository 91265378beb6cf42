use Rattle.std.proofs.Common.{◌≡◌, length, sym, ap, ◌∙◌, arith}
use Rattle.std.specs.FinMap.{get}
use Rattle.tp_bounds.specs.Setting.{Setting}
use Rattle.tp_bounds.proofs.Numbering.{others_stay}
use Rattle.tp_exec_machine.proofs.OwnBounds.{unused_behind, own_there}
use Rattle.tp_exec_machine.proofs.executive.Executive.from_plan.Goals as goal

pub invariant_of-result : goal.invariant_of-result
invariant_of-result g c =
    let s = g.N.Net.seen c.args.net in
    let xs = c.args.network.now.bounds.items in
    let count : c.in_ok-own.own ≡ length xs = c.in_ok-own.ensures.count in
    record {
      between = c.requires.between;
      unused = λ id le. ap (λ (r : Setting). get r.bounds id) c.in_ok-own.ensures.bounds ∙ unused_behind s c.requires.fresh xs id (omega arith);
      ids = omega (arith, c.requires.ids);
      asks_nothing = ap (λ (r : Setting). r.proposed) (c.in_ok-own.ensures.bounds ∙ others_stay s 0 xs) ∙ c.requires.fresh.asks_nothing;
      first = omega arith;
      kept = λ is id lt none. own_there s c.requires.fresh xs id (omega arith) (sym (ap (λ (r : Setting). get r.bounds id) c.in_ok-own.ensures.bounds) ∙ none);
    }
