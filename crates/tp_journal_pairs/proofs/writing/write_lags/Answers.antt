use Rattle.std.proofs.Common.{◌≡◌, ◌≢◌, ◌<◌, length, arith, rules, subst, sym, ap, ◌∙◌}
use Rattle.std.proofs.lemmas.Result.{err_from_is_err_and}
use Rattle.tp_bounds.specs.Setting.{event_count, lag_of}
use Rattle.tp_journal_pairs.proofs.WriteLemmas.{lags_skip, lags_write, lags_part}
use Rattle.tp_journal_pairs.proofs.writing.write_lags.Goals as goal
use Rattle.tp_journal_pairs.proofs.writing.write_lags.Goals.{then-lag-ne0+in_ok-write_two_numbers, else-lag-ne0}

pub returns-in_err-write_two_numbers-clause-bytes : goal.returns-in_err-write_two_numbers-clause-bytes
returns-in_err-write_two_numbers-clause-bytes g c =
    let p = err_from_is_err_and c.from_residual.result c.from_residual.ensures.1 in
    let s = c.args.executive.now.setting in
    let size : length s.lags ≡ event_count s = subst (λ r. length r.lags ≡ event_count r) c.net-net.ensures c.events-e-end.ensures.lawful.lags in
    let end : c.events-e-end.result ≡ event_count s = c.events-e-end.ensures.count ∙ ap event_count c.net-net.ensures in
    let lt : c.loop-e.e < length s.lags = omega (arith, size, end, c.loop-e-test.true) in
    let is : c.lag-lag.result ≡ lag_of s c.loop-e.e = c.lag-lag.ensures ∙ ap (λ r. lag_of r c.loop-e.e) c.net-net.ensures in
    let some : c.lag-lag.result ≢ 0 = search rules in
    rw p.1 (lags_part s.lags _ _ _ c.loop-e.e c.from.result c.lag-lag.result lt c.from.ensures is some c.loop-e.invariant.lags c.in_err-write_two_numbers.ensures.bytes)

pub loop-e-preserved : goal.loop-e-preserved
loop-e-preserved g c =
    let s = c.args.executive.now.setting in
    let size : length s.lags ≡ event_count s = subst (λ r. length r.lags ≡ event_count r) c.net-net.ensures c.events-e-end.ensures.lawful.lags in
    let end : c.events-e-end.result ≡ event_count s = c.events-e-end.ensures.count ∙ ap event_count c.net-net.ensures in
    let lt : c.loop-e.e < length s.lags = omega (arith, size, end, c.loop-e-test.true) in
    let is : c.lag-lag.result ≡ lag_of s c.loop-e.e = c.lag-lag.ensures ∙ ap (λ r. lag_of r c.loop-e.e) c.net-net.ensures in
    elim c.if-lag-ne0.branch [
      | then-lag-ne0+in_ok-write_two_numbers w ↦
          let some : c.lag-lag.result ≢ 0 = search rules in
          rw w.log-is (record {
            lags = lags_write s.lags _ _ _ c.loop-e.e w.from.result c.lag-lag.result lt w.from.ensures is some c.loop-e.invariant.lags w.in_ok-write_two_numbers.ensures.bytes;
            count = w.in_ok-write_two_numbers.ensures.cause ∙ c.loop-e.invariant.count;
          })
      | else-lag-ne0 w ↦
          let none : c.lag-lag.result ≡ 0 = search rules in
          rw w.log-is (record {
            lags = lags_skip s.lags _ _ c.loop-e.e lt (sym is ∙ none) c.loop-e.invariant.lags;
            count = c.loop-e.invariant.count;
          })
    ]
