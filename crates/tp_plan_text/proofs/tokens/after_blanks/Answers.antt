use Rattle.std.proofs.Common.{◌≡◌, sym, ◌∙◌, rules}
use Rattle.tp_plan_text.proofs.OnLexemes.{blank_passed}
use Rattle.tp_plan_text.specs.declared.tokens.ByteKind.TheVariants.{Blank}
use Rattle.tp_plan_text.proofs.tokens.after_blanks.Goals as goal

pub loop-n-preserved : goal.loop-n-preserved
loop-n-preserved c =
    let here : c.kind_of.result ≡ Blank = search (rules, c.if-ne.ensures) in
    sym (blank_passed _ _ c.loop-n-test.true (sym c.kind_of.ensures ∙ here)) ∙ c.loop-n.invariant
