use Rattle.std.proofs.Common.{◌≡◌, ◌≢◌, ◌<◌, length, arith, rules, subst, ap, ◌∙◌, IsTrue, true}
use Rattle.tp_bounds.specs.Setting.{event_count, lag_of}
use Rattle.tp_journal.proofs.LagsLemmas.{no_lags, some_lags}
use Rattle.tp_journal.proofs.auditing.has_no_lags.Goals as goal

pub returns-then-lag-ne0 : goal.returns-then-lag-ne0
returns-then-lag-ne0 g c =
    let s = c.args.executive.now.setting in
    let size : length s.lags ≡ event_count s = subst (λ r. length r.lags ≡ event_count r) c.net-net.ensures c.events-e-end.ensures.lawful.lags in
    let end : c.events-e-end.result ≡ event_count s = c.events-e-end.ensures.count ∙ ap event_count c.net-net.ensures in
    let lt : c.loop-e.e < length s.lags = omega (arith, size, end, c.loop-e-test.true) in
    let is : c.lag.result ≡ lag_of s c.loop-e.e = c.lag.ensures ∙ ap (λ r. lag_of r c.loop-e.e) c.net-net.ensures in
    let ne : c.lag.result ≢ 0 = search rules in
    (λ t. (let f : ⊥ = search rules in absurd f), λ none. absurd (some_lags 0 s.lags c.loop-e.e lt (λ z. ne (is ∙ z)) none))

pub returns : goal.returns
returns g c =
    let s = c.args.executive.now.setting in
    let size : length s.lags ≡ event_count s = subst (λ r. length r.lags ≡ event_count r) c.net-net.ensures c.events-e-end.ensures.lawful.lags in
    let end : c.events-e-end.result ≡ event_count s = c.events-e-end.ensures.count ∙ ap event_count c.net-net.ensures in
    (λ t. no_lags 0 s.lags (λ k lt. c.loop-e.invariant k (omega (arith, size, end, c.loop-e-test.false))), λ none. (let t : IsTrue true = search rules in t))
