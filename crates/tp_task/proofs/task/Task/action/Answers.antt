use Rattle.std.proofs.Common.{◌<◌, ◌+◌, List, ◌∷◌, Bor, ℕ, map, length, sym, arith}
use Rattle.tp_task.specs.Words.{same_words}
use Rattle.tp_task.proofs.OnNumberings.{found_within}
use Rattle.tp_task.proofs.task.Task.action.Goals as goal

pub overflow_cast-result : goal.overflow_cast-result
overflow_cast-result c =
    let lt : c.in_ok-number.number < 0 + length c.args.self.now.numbering.actions = found_within (same_words (c.args.name.now ∷ map (λ (w : Bor (List ℕ)). w.now) c.args.args.now)) 0 c.args.self.now.numbering.actions c.in_ok-number.number (sym c.in_ok-number.ensures) in
    omega (arith, lt, c.args.self.now.few_actions, c.args.self.now.all_named)
