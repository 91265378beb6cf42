use Rattle.std.proofs.Common.{ap, ◌∙◌}
use Rattle.tp_happen.specs.Sets.{has_bit}
use Rattle.tp_happen.proofs.WordLemmas.{has_bit_push}
use Rattle.tp_happen.proofs.sets.make_words.Goals as goal

pub loop-words-preserved : goal.loop-words-preserved
loop-words-preserved c n =
    ap (λ words. has_bit words n) c.in_ok-push.ensures.items
    ∙ has_bit_push c.loop-words.words.items n ∙ c.loop-words.invariant n
