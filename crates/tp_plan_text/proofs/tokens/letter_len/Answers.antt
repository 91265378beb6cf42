use Rattle.std.proofs.Common.{◌≡◌, sym, ◌∙◌, rules}
use Rattle.std.proofs.lemmas.List.Elements.{All-more}
use Rattle.tp_plan_text.specs.PlanLexemes.{kind}
use Rattle.tp_plan_text.specs.declared.tokens.ByteKind.TheVariants.{Letter}
use Rattle.tp_plan_text.proofs.tokens.letter_len.Goals as goal

pub loop-n-preserved : goal.loop-n-preserved
loop-n-preserved c =
    let here : c.kind_of.result ≡ Letter = search (rules, c.if-ne.ensures) in
    All-more (λ b. kind b ≡ Letter) _ _ 0 c.loop-n-test.true c.loop-n.invariant (sym c.kind_of.ensures ∙ here)
