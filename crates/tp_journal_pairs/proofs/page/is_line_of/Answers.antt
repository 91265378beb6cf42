use Rattle.std.proofs.Common.{◌≡◌, ◌++◌, [], ◌∷◌, IsTrue, rules, sym, ◌∙◌, ap}
use Rattle.tp_journal_pairs.proofs.ReadLemmas.{last_apart}
use Rattle.tp_journal_pairs.proofs.page.is_line_of.Goals as goal

pub returns-then-last-eq10 : goal.returns-then-last-eq10
returns-then-last-eq10 c =
    let parts : c.args.line.now ≡ c.in-Some.front.now ++ c.in-Some.last.now ∷ [] = search rules in
    let ten : c.in-Some.last.now ≡ 10 = search rules in (
      λ yes. (let same : c.in-Some.front.now ≡ c.args.text.now = search rules in parts ∙ (ap (λ l. c.in-Some.front.now ++ l ∷ []) ten ∙ ap (λ t. t ++ 10 ∷ []) same)),
      λ is. (let same : c.in-Some.front.now ≡ c.args.text.now = (last_apart c.in-Some.front.now c.args.text.now c.in-Some.last.now (sym parts ∙ is)).1 in let t : IsTrue c.eq.result = search rules in t),
    )
