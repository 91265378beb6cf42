use Rattle.std.proofs.Common.{◌≡◌, suc, ◌+◌, length, get_or, ◌∙◌, ap, subst, arith}
use Rattle.std.specs.Prelude.{None, slice_index_or}
use Rattle.tp_net.specs.Arcs.{floor_at}
use Rattle.tp_repair_engine.specs.Asked.{AsksUpto, AreOffered}
use Rattle.tp_repair_engine.proofs.Rises.{offered_passed, offered_more, none_is, some_is}
use Rattle.tp_repair_engine.proofs.rising.set_out_floors.Goals as goal
use Rattle.tp_repair_engine.proofs.rising.set_out_floors.Goals.{then-is_none+then-low-e+in_ok-offer, else-is_none, else-is_none-via-then-is_none+else-low-e, else-is_none-via-else-is_none}

pub loop-e-preserved : goal.loop-e-preserved
loop-e-preserved c =
    let e = c.loop-e.e in
    let fixed = c.args.fixed.now in
    let lags = c.args.lags.now in
    let now = c.args.now in
    let low = c.args.low.now in
    let at : e + 1 ≡ suc e = omega arith in
    let v : c.from-floor.result ≡ floor_at now lags e = c.from-floor.ensures ∙ c.floor.ensures in
    elim c.if-is_none.branch [
      | then-is_none+then-low-e+in_ok-offer w ↦
          rw w.work-is
          (offered_more e fixed lags now low c.loop-e.work c.loop-e.invariant w.offer.new.work (e + 1) c.from-floor.result at v w.in_ok-offer.ensures.ready
          (none_is (slice_index_or fixed e None) c.is_none.result c.is_none.ensures w.if-is_none.true) w.if-low-e.true w.in_ok-offer.ensures.here w.in_ok-offer.ensures.others)
      | else-is_none w ↦
          rw w.work-is
          (offered_passed e fixed lags now low c.loop-e.work c.loop-e.invariant
          (λ free. elim w.else-is_none.branch [
            | else-is_none-via-then-is_none+else-low-e w' ↦
                (let h = w'.if-low-e.false in
                let l : get_or low (e + 1) 0 ≡ get_or low (suc e) 0 = ap (λ y. get_or low y 0) at in
                omega (arith, h, l, v))
            | else-is_none-via-else-is_none w' ↦ absurd (some_is (slice_index_or fixed e None) c.is_none.result c.is_none.ensures w'.if-is_none.false free)
          ]))
    ]

pub returns-clause-offered : goal.returns-clause-offered
returns-clause-offered c =
    let done : c.loop-e.e ≡ length c.args.fixed.now = omega arith in
    subst (λ n. AreOffered (AsksUpto n c.args.fixed.now c.args.lags.now c.args.now) c.args.low.now c.loop-e.work) done c.loop-e.invariant
