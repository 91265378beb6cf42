use Rattle.std.proofs.Common.{rules, ◌≡◌, suc, ◌+◌, ◌<◌, ◌^◌, sym, subst, ap, ◌∙◌, arith, get_or, length}
use Rattle.tp_bounds.specs.Schedule.{IsGreatestMoment}
use Rattle.tp_net.proofs.Additions.{read_at}
use Rattle.tp_net.proofs.KeptMoments.{kept_high_fits, kept_greatest}
use Rattle.tp_repair_engine.proofs.Repaired.{kept}
use Rattle.tp_repair.proofs.net.RepairNetNet.high.Goals as goal

pub overflow_cast-result : goal.overflow_cast-result
overflow_cast-result c =
    let lt : c.args.e < length c.self.inside.fixed.items = rw (← c.self.view_is) at c.requires in
    let k = kept _ _ _ _ _ _ c.self.invariant in
    let at : c.from.result + 1 ≡ suc c.args.e = omega (arith, c.from.ensures) in
    let read : get_or c.self.inside.engine.high.items (c.from.result + 1) 0 ≡ c.index.result.now = read_at c.self.inside.engine.high.items (c.from.result + 1) c.index.result.now (omega (arith, at, lt, k.points, k.exact.len)) c.index.ensures in
    let same : get_or c.self.inside.engine.high.items (suc c.args.e) 0 ≡ c.index.result.now = ap (λ i. get_or c.self.inside.engine.high.items i 0) (sym at) ∙ read in
    let small : c.index.result.now < 2 ^ 32 = subst (λ v. v < 2 ^ 32) same (kept_high_fits _ _ _ _ _ k c.args.e lt) in
    search rules

pub returns : goal.returns
returns c =
    let lt : c.args.e < length c.self.inside.fixed.items = rw (← c.self.view_is) at c.requires in
    let k = kept _ _ _ _ _ _ c.self.invariant in
    let at : c.from.result + 1 ≡ suc c.args.e = omega (arith, c.from.ensures) in
    let read : get_or c.self.inside.engine.high.items (c.from.result + 1) 0 ≡ c.index.result.now = read_at c.self.inside.engine.high.items (c.from.result + 1) c.index.result.now (omega (arith, at, lt, k.points, k.exact.len)) c.index.ensures in
    let same : get_or c.self.inside.engine.high.items (suc c.args.e) 0 ≡ c.index.result.now = ap (λ i. get_or c.self.inside.engine.high.items i 0) (sym at) ∙ read in
    rw (← c.self.view_is) (subst (IsGreatestMoment _ c.args.e) same (kept_greatest _ _ _ _ _ k c.args.e lt))
