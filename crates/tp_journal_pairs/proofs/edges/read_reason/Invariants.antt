use Rattle.std.proofs.Common.{◌≡◌, ◌++◌, length}
use Rattle.std.specs.Option.{option_map}
use Rattle.tp_script.specs.Words.{words_of}
use Rattle.tp_journal_pairs.specs.Edges.{edges_of}
use Rattle.tp_journal_pairs.proofs.edges.read_reason.Given as goal

abbrev pub invariant-loop-word : goal.invariant-loop-word
invariant-loop-word l = edges_of (words_of l.fn.text) ≡ option_map (λ es. l.edges.items ++ es) (edges_of (words_of l.rest))

abbrev pub decreases-loop-word : goal.decreases-loop-word
decreases-loop-word l = length (words_of l.rest)
