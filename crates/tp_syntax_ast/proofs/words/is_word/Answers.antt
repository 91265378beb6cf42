use Rattle.tp_syntax_ast.proofs.OnWords.{same_word}
use Rattle.tp_syntax_ast.specs.Words.{is_word}
use Rattle.tp_syntax_ast.proofs.words.is_word.Goals as goal

pub returns : goal.returns
unfolding is_word
returns c = same_word _ c.args.word.now c.args.name.now c.requires c.eq_ignore_ascii_case.ensures.test
