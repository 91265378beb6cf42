use Rattle.std.proofs.Common.{◌≡◌, suc, None, replicate, rules}
use Rattle.tp_net.proofs.NewNet.{kept_new}
use Rattle.tp_net.proofs.scratch.ScratchNet.new.Goals as goal

pub invariant_of-result : goal.invariant_of-result
invariant_of-result c =
    let all : c.in_ok-vec.field-0.items ≡ replicate c.args.events None = search rules in
    let none : c.in_ok-vec-2.field-0.items ≡ replicate c.args.events 0 = search rules in
    let low : c.in_ok-vec-3.field-0.items ≡ replicate (suc c.args.events) 0 = search rules in
    rw (c.new.ensures.empty, all, none)
    (kept_new c.args.events c.args.horizon c.in_ok-names.names.items c.in_ok-names.arcs.items c.in_ok-vec-3.field-0.items c.in_ok-tops.field-0.items c.requires.events c.requires.horizon
    c.in_ok-names.ensures low c.in_ok-tops.ensures)
