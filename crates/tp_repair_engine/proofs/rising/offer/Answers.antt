use Rattle.std.proofs.Common.{◌<◌, length, get_or, set, refl, arith, rules}
use Rattle.std.specs.BinaryHeap.{heap_items}
use Rattle.tp_net.proofs.Spreads.{read_written, read_other}
use Rattle.tp_repair_engine.proofs.Queues.{queue_offered}
use Rattle.tp_repair_engine.proofs.rising.offer.Goals as goal

pub returns-clause-ready : goal.returns-clause-ready
returns-clause-ready c =
    let r = c.requires.ready in
    let w = c.args.work.now in
    let amounts = w.amounts.items in
    let p = c.args.point in
    let v = c.saturating_sub-amount.result in
    let n = length c.args.low.now in
    let within : p < length amounts = omega (arith, c.requires.point, r.places.amounts) in
    record {
      places = search rules;
      unsettled = r.unsettled;
      order = r.order;
      queue = queue_offered p v n (λ x. get_or amounts x 0) (λ x. get_or (set amounts p v) x 0) (λ x. get_or w.ranks.items x 0) (heap_items w.queue) (heap_items c.push.new.self)
          r.queue c.requires.point (omega (arith, c.requires.nothing)) (read_written amounts (set amounts p v) p v p refl within refl) (λ x ne. read_other amounts (set amounts p v) p v x refl ne)
          c.in_ok-push.ensures.permutation c.in_ok-push.ensures.heap_order;
    }
