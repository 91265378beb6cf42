use Rattle.std.proofs.Common.{◌<◌, length, get_or, set, refl, arith}
use Rattle.std.specs.BinaryHeap.{heap_items}
use Rattle.tp_net.proofs.Spreads.{read_written, read_other}
use Rattle.tp_repair_engine.proofs.Queues.{queue_offered}
use Rattle.tp_repair_engine.proofs.loosen.wait_point.Goals as goal

pub returns-clause-queue : goal.returns-clause-queue
returns-clause-queue c =
    let w = c.args.work.now in
    let amounts = w.amounts.items in
    let p = c.args.point in
    let v = c.args.amount in
    let within : p < length amounts = omega (arith, c.requires.within, c.requires.places.amounts) in
    queue_offered p v c.args.points (λ x. get_or amounts x 0) (λ x. get_or (set amounts p v) x 0) (λ x. get_or w.ranks.items x 0) (heap_items w.queue) (heap_items c.push.new.self)
    c.requires.queue c.requires.within (omega (arith, c.requires.nothing)) (read_written amounts (set amounts p v) p v p refl within refl) (λ x ne. read_other amounts (set amounts p v) p v x refl ne)
    c.in_ok-push.ensures.permutation c.in_ok-push.ensures.heap_order
