use Rattle.std.proofs.Common.{sym, ◌∙◌}
use Rattle.tp_text.proofs.OnCovers.{none_behind}
use Rattle.tp_text.proofs.lexing.next_token.Goals as goal

pub returns-clause-first : goal.returns-clause-first
returns-clause-first c = sym c.blanks.invariant.here ∙ none_behind c.blanks.rest.now c.blanks.at c.in_default.len_below
