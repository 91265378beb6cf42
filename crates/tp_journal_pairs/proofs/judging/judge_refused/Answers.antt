use Rattle.std.proofs.Common.{subst, sym}
use Rattle.tp_journal_pairs.specs.Allowed.{IsJudged}
use Rattle.tp_journal_pairs.proofs.Verdicts.{judged_refused}
use Rattle.tp_journal_pairs.proofs.judging.judge_refused.Goals as goal

pub returns : goal.returns
returns g c =
    subst (IsJudged c.args.executive.now c.args.command c.args.text.now c.args.executive.now) (sym c.compared.ensures)
    (judged_refused c.args.executive.now c.args.command c.args.refusal c.args.text.now c.is_text_of.result c.requires c.is_text_of.ensures)
