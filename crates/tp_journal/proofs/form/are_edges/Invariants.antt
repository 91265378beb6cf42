use Rattle.std.proofs.Common.{◌≡◌, length}
use Rattle.std.specs.List.{list_all}
use Rattle.tp_script.specs.Words.{words_of}
use Rattle.tp_journal.specs.Form.{is_edge_word}
use Rattle.tp_journal.proofs.form.are_edges.Given as goal

abbrev pub invariant-loop-word : goal.invariant-loop-word
invariant-loop-word l = list_all is_edge_word (words_of l.fn.text) ≡ list_all is_edge_word (words_of l.rest)

abbrev pub decreases-loop-word : goal.decreases-loop-word
decreases-loop-word l = length (words_of l.rest)
