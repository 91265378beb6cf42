use Rattle.std.proofs.Common.{subst}
use Rattle.tp_text.specs.Tokens.{ComesFirst}
use Rattle.tp_text.proofs.OnCovers.{covered}
use Rattle.tp_text.proofs.lexing.tokens.Goals as goal

pub returns-clause-slices : goal.returns-clause-slices
returns-clause-slices c =
    covered c.args.text.now c.tokens.rest.now c.tokens.at _ c.tokens.invariant.here
    (subst (ComesFirst c.tokens.at c.tokens.rest.now) c.in_default.is c.in_ok-next.ensures.first) c.tokens.invariant.covers
