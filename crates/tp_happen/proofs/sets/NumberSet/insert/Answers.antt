use Rattle.std.proofs.Common.{ap, ◌∙◌, arith}
use Rattle.std.proofs.lemmas.List.{with_items_is}
use Rattle.tp_happen.specs.Sets.{has_bit, has_number}
use Rattle.tp_happen.proofs.TestLemmas.{or_same, on_err_from}
use Rattle.tp_happen.proofs.WordLemmas.{is_in_one}
use Rattle.tp_happen.proofs.sets.NumberSet.insert.Goals as goal

pub returns-in_err-make_words-clause-err : goal.returns-in_err-make_words-clause-err
unfolding has_number
returns-in_err-make_words-clause-err c = on_err_from c.from_residual.result c.make_words.ensures.same

pub returns-clause-ok : goal.returns-clause-ok
unfolding has_number
returns-clause-ok c n =
    ap (λ words. has_bit words n) (with_items_is c.make_words.new.words c.put_word.new.words (omega arith))
    ∙ c.put_word.ensures n
    ∙ or_same _ _ _ _ (ap (λ words. has_bit words n) c.deref_mut.ensures.value ∙ c.make_words.ensures.same n) (is_in_one c.args.number n)
