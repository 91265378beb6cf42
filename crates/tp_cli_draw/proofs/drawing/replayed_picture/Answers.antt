use Rattle.std.proofs.Common.{◌∙◌, sym}
use Rattle.std.proofs.lemmas.Result.{IfErr-weaker}
use Rattle.tp_cli_draw.proofs.DrawLemmas.{memory_counts, memory_replays}
use Rattle.tp_cli_draw.proofs.drawing.replayed_picture.Goals as goal

pub returns-in-Ok-clause-cause : goal.returns-in-Ok-clause-cause
returns-in-Ok-clause-cause g c = IfErr-weaker c.picture.result _ _ (λ stop h. memory_replays stop h) c.picture.ensures

pub returns-in-Ok-clause-opened : goal.returns-in-Ok-clause-opened
returns-in-Ok-clause-opened g c = c.in-Ok.ensures ∙ sym (memory_counts c.picture.result _ c.picture.ensures)
