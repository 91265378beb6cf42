use Rattle.std.proofs.Common.{◌≡◌, ◌+◌, length, drop, Option, subst, ◌∙◌}
use Rattle.std.specs.Prelude.{IfSome}
use Rattle.tp_text.specs.Tokens.{ComesFirst}
use Rattle.tp_text.specs.declared.lexing.Next.{Next}
use Rattle.tp_text.proofs.OnReading.{behind_more}
use Rattle.tp_text.proofs.tree.read_over.Goals as goal

pub lexemes-preserved : goal.lexemes-preserved
lexemes-preserved c =
    let at = c.lexemes.at in
    let rest = c.lexemes.rest.now in
    record {
      place = subst (λ (o : Option Next). IfSome o (λ n. n.at + length n.rest.now ≡ at + length rest)) c.in-Some.is c.in_ok-next.ensures.place ∙ c.lexemes.invariant.place;
      there = subst (λ (o : Option Next). IfSome o (λ n. n.rest.now ≡ drop n.at c.args.text.now)) c.in-Some.is c.in_ok-next.ensures.there;
      behind = behind_more _ _ at rest c.in-Some.next c.lexemes.invariant.behind (subst (ComesFirst at rest) c.in-Some.is c.in_ok-next.ensures.first);
    }
