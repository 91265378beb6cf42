use Rattle.tp_script.proofs.WordLemmas.{first_word, tail_is}
use Rattle.tp_script.proofs.words.next_word.Goals as goal

pub returns : goal.returns
returns c =
    first_word c.blanks.result c.word_len.result c.args.line.now _ c.split_at.result.0.now c.split_at.result.1.now (tail_is c.blanks.result c.args.line.now)
    c.blanks.ensures.within c.blanks.ensures.before c.blanks.ensures.stop
    c.word_len.ensures.within c.word_len.ensures.before c.word_len.ensures.stop
    c.split_at.ensures.front c.split_at.ensures.back
