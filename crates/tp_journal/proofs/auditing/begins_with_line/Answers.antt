use Rattle.std.proofs.Common.{◌≡◌, ◌+◌, length, take, drop, arith, rules, true, false, sym, ◌∙◌, IsTrue}
use Rattle.std.proofs.lemmas.Slice.Eq.{bytes_eq-Decides}
use Rattle.tp_journal_pairs.specs.Edges.{begins}
use Rattle.tp_journal.proofs.LineLemmas.{line_then, line_back}
use Rattle.tp_journal.proofs.auditing.begins_with_line.Goals as goal

pub returns-then-bytes-line : goal.returns-then-bytes-line
returns-then-bytes-line c = (
  λ t. (let f : ⊥ = search rules in absurd f),
  λ is. (let b = line_back c.args.bytes.now c.args.line.now (drop (length c.args.line.now + 1) c.args.bytes.now) is in let f : ⊥ = omega (arith, b.0, c.if-bytes-line.true) in absurd f),
)

pub returns-then-not-begins_with : goal.returns-then-not-begins_with
returns-then-not-begins_with c = (
  λ t. (let f : ⊥ = search rules in absurd f),
  λ is. (let b = line_back c.args.bytes.now c.args.line.now (drop (length c.args.line.now + 1) c.args.bytes.now) is in let yes : begins c.args.line.now c.args.bytes.now ≡ true = (bytes_eq-Decides (take (length c.args.line.now) c.args.bytes.now) c.args.line.now).1 b.1 in let bad : false ≡ true = sym c.if-not-begins_with.true ∙ (c.begins_with.ensures ∙ yes) in let f : ⊥ = cc in absurd f),
)

pub returns-then-bytes-line-ne10 : goal.returns-then-bytes-line-ne10
returns-then-bytes-line-ne10 c = (
  λ t. (let f : ⊥ = search rules in absurd f),
  λ is. (let b = line_back c.args.bytes.now c.args.line.now (drop (length c.args.line.now + 1) c.args.bytes.now) is in absurd (c.if-bytes-line-ne10.true b.2)),
)

pub returns : goal.returns
returns c = (
  λ t. line_then c.args.bytes.now c.args.line.now c.if-bytes-line.false ((bytes_eq-Decides (take (length c.args.line.now) c.args.bytes.now) c.args.line.now).0 (sym c.begins_with.ensures ∙ c.if-not-begins_with.false)) c.if-bytes-line-ne10.false,
  λ is. (let t : IsTrue true = search rules in t),
)
