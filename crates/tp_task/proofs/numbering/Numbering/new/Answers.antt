use Rattle.std.proofs.Common.{ℕ, ap, map, string_bytes}
use Rattle.smallvec.specs.SmallVec.{SmallVec}
use Rattle.tp_task.proofs.OnNumberings.{empty_numbering}
use Rattle.tp_task.proofs.numbering.Numbering.new.Goals as goal

pub invariant_of-result : goal.invariant_of-result
invariant_of-result c =
    empty_numbering _ _ _ _ _ (ap (map string_bytes) c.new.ensures.empty) (ap (map (λ (l : SmallVec ℕ). l.items)) c.new-2.ensures.empty) (ap (map (λ (l : SmallVec ℕ). l.items)) c.new-3.ensures.empty) c.new-4.ensures
