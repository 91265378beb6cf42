use Rattle.std.proofs.Common.{◌≡◌, ℕ, List, length, replicate, refl, ◌∙◌, rules, subst, sym}
use Rattle.tp_net.specs.Rounds.{AreLow}
use Rattle.tp_net.proofs.Settling.{none_before, zeros, zeros_length}
use Rattle.tp_net.proofs.moments.solve_low.Goals as goal

pub settle_low-requires-clause-low : goal.settle_low-requires-clause-low
settle_low-requires-clause-low c =
    let n : ℕ = length c.args.known.now in
    let items : c.in_ok-low.low.items ≡ replicate {A = ℕ} n 0 = search rules in
    let now : c.as_mut_slice.result.now ≡ replicate {A = ℕ} n 0 = c.as_mut_slice.ensures.value ∙ items in
    subst (λ (low : List ℕ). AreLow c.args.arcs.now low) (sym now) (none_before c.args.arcs.now c.args.known.now c.args.amount n refl c.requires.start.reach (replicate {A = ℕ} n 0) (zeros_length n) (λ x within. zeros n x))
