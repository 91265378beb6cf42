use Rattle.std.proofs.Common.{◌≡◌, ◌-◌, ◌<◌, ◌≤◌, length, take, arith, inl, inr}
use Rattle.std.proofs.lemmas.List.{length-take-le}
use Rattle.tp_journal.proofs.Cuts.{torn_reply}
use Rattle.tp_journal.proofs.cutting.whole_pairs.Goals as goal

pub returns-then-bytes-before-eq62-clause-torn : goal.returns-then-bytes-before-eq62-clause-torn
returns-then-bytes-before-eq62-clause-torn c =
    let some : 0 < c.last_line-last.result = omega (arith, c.if-last-eq0.false) in
    let size : length (take (c.last_line-last.result - 1) c.args.bytes.now) ≡ c.last_line-last.result - 1 = length-take-le (c.last_line-last.result - 1) c.args.bytes.now (omega (arith, c.last_line-last.ensures.within)) in
    let near : c.last_line-before.result ≤ c.last_line-last.result - 1 = omega (arith, size, c.last_line-before.ensures.within) in
    elim c.last_line-last.ensures.behind [
      | inl zero ↦ absurd (let no : ⊥ = omega (arith, zero, some) in no)
      | inr behind ↦ torn_reply c.args.bytes.now c.last_line-last.result c.last_line-before.result some c.last_line-last.ensures.within near behind.1 c.last_line-last.ensures.free c.last_line-before.ensures.free c.if-bytes-before-eq62.true
    ]
