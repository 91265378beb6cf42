use Rattle.std.proofs.Common.{ap, ◌∙◌, arith}
use Rattle.tp_happen.specs.Sets.{has_bit, has_number}
use Rattle.tp_happen.proofs.WordLemmas.{has_bit_read, has_bit_past}
use Rattle.tp_happen.proofs.sets.NumberSet.contains.Goals as goal

pub returns-in-Some : goal.returns-in-Some
unfolding has_number
returns-in-Some c =
    has_bit_read c.deref.result.now c.args.number c.in-Some.word.now (c.in-Some.ensures.lookup.4 (omega arith) 0)
    ∙ ap (λ words. has_bit words c.args.number) c.deref.ensures.value

pub returns-in-None : goal.returns-in-None
unfolding has_number
returns-in-None c =
    has_bit_past c.deref.result.now c.args.number (c.in-None.ensures.lookup.4 (omega arith) 0)
    ∙ ap (λ words. has_bit words c.args.number) c.deref.ensures.value
