use Rattle.std.proofs.Common.{◌≡◌, ◌<◌, Some, length, sym, ◌∙◌, rules}
use Rattle.tp_journal_pairs.specs.Edges.{edge_of}
use Rattle.tp_journal_pairs.proofs.ReadLemmas.{read_more}
use Rattle.tp_journal_pairs.proofs.edges.read_reason.Goals as goal

pub loop-word-preserved : goal.loop-word-preserved
loop-word-preserved c =
    let some : 0 < length c.next_word.result.0.now = search rules in
    let is : edge_of c.next_word.result.0.now ≡ Some c.in-Some.edge = sym c.read_edge.ensures ∙ c.in-Some.is in
    rw c.in_ok-push.ensures.items (read_more c.args.text.now c.loop-word.rest.now c.next_word.result.0.now c.next_word.result.1.now c.loop-word.edges.items c.in-Some.edge c.next_word.ensures some is c.loop-word.invariant)
