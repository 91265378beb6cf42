use Rattle.std.proofs.Common.{ℕ, ◌∙◌}
use Rattle.smallvec.specs.SmallVec.{SmallVec}
use Rattle.tp_task.proofs.OnNumberings.{at_map}
use Rattle.tp_task.proofs.labels.label_at.Goals as goal

pub returns-in-Some : goal.returns-in-Some
returns-in-Some c = c.as_slice.ensures ∙ at_map (λ (l : SmallVec ℕ). l.items) c.args.labels.now c.args.place c.in-Some.label.now c.in-Some.ensures.lookup.3.0 c.in-Some.ensures.lookup.1
