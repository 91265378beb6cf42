use Rattle.std.proofs.Common.{◌≡◌, arith, length, subst}
use Rattle.std.specs.Prelude.{IsTrue, ◌↔◌}
use Rattle.std.specs.List.{All}
use Rattle.tp_cli_audit.specs.Bare.{LagFits}
use Rattle.tp_cli_audit.proofs.starting.lags_suit.Goals as goal

pub returns : goal.returns
returns c =
    let same : c.len.result ≡ length c.args.network.now.events.items = omega (arith, c.args.network.now.events.ok, c.len.ensures) in
    subst (λ n. IsTrue c.lags_fit.result ↔ All (LagFits n) c.args.head.now.lags.items) same
    (subst (λ xs. IsTrue c.lags_fit.result ↔ All (LagFits c.len.result) xs) c.as_slice.ensures.value c.lags_fit.ensures)
