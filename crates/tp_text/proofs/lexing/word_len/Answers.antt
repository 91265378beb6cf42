use Rattle.std.proofs.Common.{◌≡◌, sym, ◌∙◌, rules}
use Rattle.std.proofs.lemmas.List.Elements.{All-more}
use Rattle.tp_text.specs.Lexemes.{class}
use Rattle.tp_text.specs.declared.lexing.Class.TheVariants.{Letter}
use Rattle.tp_text.proofs.lexing.word_len.Goals as goal

pub loop-n-preserved : goal.loop-n-preserved
loop-n-preserved c =
    let here : c.class_of.result ≡ Letter = search (rules, c.if-ne.ensures) in
    All-more (λ b. class b ≡ Letter) _ _ 0 c.loop-n-test.true c.loop-n.invariant (sym c.class_of.ensures ∙ here)
