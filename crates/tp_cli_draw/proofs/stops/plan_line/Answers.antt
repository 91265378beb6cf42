use Rattle.std.proofs.Common.{◌∙◌, ap}
use Rattle.tp_cli_inputs.specs.JudgeLines.{judge_text}
use Rattle.tp_cli_inputs.specs.declared.plan_words.PlanWords.{PlanWords}
use Rattle.tp_cli_draw.proofs.stops.plan_line.Goals as goal

pub returns-clause-text : goal.returns-clause-text
returns-clause-text c = c.judge_line.ensures.text ∙ ap (λ (p : PlanWords). judge_text p c.args.fault) c.plan_words.ensures.is
