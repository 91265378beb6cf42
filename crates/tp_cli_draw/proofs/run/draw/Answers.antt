use Rattle.std.proofs.Common.{ap}
use Rattle.std.specs.Prelude.{option_map}
use Rattle.tp_cli_draw.proofs.run.draw.Goals as goal

pub draw_run-requires : goal.draw_run-requires
draw_run-requires g c = ap (option_map (λ s. s.now)) c.in-Some.is
