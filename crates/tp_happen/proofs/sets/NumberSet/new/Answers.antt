use Rattle.std.proofs.Common.{ap, ◌∙◌}
use Rattle.tp_happen.specs.Sets.{has_bit, has_number}
use Rattle.tp_happen.proofs.WordLemmas.{has_bit_none}
use Rattle.tp_happen.proofs.sets.NumberSet.new.Goals as goal

pub returns : goal.returns
unfolding has_number
returns c n = ap (λ words. has_bit words n) c.new.ensures.items ∙ has_bit_none n
