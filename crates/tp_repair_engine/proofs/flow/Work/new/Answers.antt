use Rattle.std.proofs.Common.{◌≡◌, ℕ, List, ap, ◌∙◌, length, replicate, rules}
use Rattle.std.proofs.lemmas.List.{length-replicate}
use Rattle.tp_repair_engine.proofs.Flows.{zeros_at, order_none}
use Rattle.tp_repair_engine.proofs.flow.Work.new.Goals as goal

pub returns : goal.returns
returns c =
    let n = c.args.points in
    let a : c.in_ok-amounts.amounts.items ≡ replicate n 0 = search rules in
    let r : c.in_ok-ranks.ranks.items ≡ replicate n 0 = search rules in
    let p : c.in_ok-parents.parents.items ≡ replicate n 0 = search rules in
    record {
      places = record {
        amounts = ap (λ (xs : List ℕ). length xs) a ∙ length-replicate {A = ℕ} n 0;
        ranks = ap (λ (xs : List ℕ). length xs) r ∙ length-replicate {A = ℕ} n 0;
        parents = ap (λ (xs : List ℕ). length xs) p ∙ length-replicate {A = ℕ} n 0;
      };
      order = order_none c.in_ok-ranks.ranks.items c.new.result.items (zeros_at n c.in_ok-ranks.ranks.items r) (ap (λ (xs : List ℕ). length xs) c.new.ensures.items);
      ended = λ x _. zeros_at n c.in_ok-amounts.amounts.items a x;
    }
