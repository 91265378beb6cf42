use Rattle.std.proofs.Common.{◌≡◌, ◌+◌, ap, ◌∙◌, sym, ◌∷◌, take}
use Rattle.std.proofs.lemmas.List.{take_rest}
use Rattle.std.proofs.lemmas.List.Elements.{All-more}
use Rattle.tp_plan_text.specs.PlanTexts.{lines_of}
use Rattle.tp_plan_text.proofs.OnPlans.{line_found, line_whole}
use Rattle.tp_plan_text.proofs.reading.first_line.Goals as goal

pub loop-n-preserved : goal.loop-n-preserved
loop-n-preserved c = All-more (λ b. b ≡ 10 → ⊥) _ _ 0 c.loop-n-test.true c.loop-n.invariant c.if-b-eq10.false

pub returns-then-b-eq10-clause-lines : goal.returns-then-b-eq10-clause-lines
returns-then-b-eq10-clause-lines c =
    line_found _ _ c.loop-n-test.true c.if-b-eq10.true c.loop-n.invariant
    ∙ ap (λ r. take c.loop-n.n c.args.bytes.now ∷ lines_of r) (sym (take_rest c.args.bytes.now (c.loop-n.n + 1)))

pub returns-clause-lines : goal.returns-clause-lines
returns-clause-lines c = line_whole _ _ c.requires c.loop-n-test.false c.loop-n.invariant
