use Rattle.std.proofs.lemmas.Result.{IfErr-weaker}
use Rattle.tp_cli_draw.proofs.DrawLemmas.{replay_stops}
use Rattle.tp_cli_draw.proofs.drawing.draw_net.Goals as goal

pub draw_found-requires-clause-lags : goal.draw_found-requires-clause-lags
draw_found-requires-clause-lags g c = c.in-Ok.ensures.found.0

pub returns-in-Ok-clause-drawn : goal.returns-in-Ok-clause-drawn
returns-in-Ok-clause-drawn g c = c.draw_found.ensures.drawn _ c.in-Ok.ensures.found

pub returns-in-Ok-clause-cause : goal.returns-in-Ok-clause-cause
returns-in-Ok-clause-cause g c =
    IfErr-weaker c.draw_found.result _ _ (λ stop h. replay_stops c.args.network.now c.args.head.now _ stop h) c.draw_found.ensures.cause
