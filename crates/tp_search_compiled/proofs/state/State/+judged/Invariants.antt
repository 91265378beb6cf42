use Rattle.tp_search_compiled.proofs.state.State.+judged.Given as goal

abbrev pub decreases-judged : goal.decreases-judged
decreases-judged l = l.depth
