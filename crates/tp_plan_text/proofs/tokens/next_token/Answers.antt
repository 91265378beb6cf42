use Rattle.std.proofs.Common.{sym, ◌∙◌}
use Rattle.tp_plan_text.proofs.OnLexemes.{no_lexemes, none_before, sign_before, word_before, word_ascii}
use Rattle.tp_plan_text.proofs.tokens.next_token.Goals as goal

pub returns-in_default-clause-lexeme : goal.returns-in_default-clause-lexeme
returns-in_default-clause-lexeme c = sym c.after_blanks-front.ensures.same ∙ no_lexemes _ c.in_default.len_below

pub ascii_text-requires : goal.ascii_text-requires
ascii_text-requires c = word_ascii _ _ _ c.in-len1-up.len_at_least (sym c.kind_of.ensures ∙ c.in-Letter.is) c.letter_len.ensures.letters c.split_at.ensures.front

pub returns-in-Blank-clause-lexeme : goal.returns-in-Blank-clause-lexeme
returns-in-Blank-clause-lexeme c = sym c.after_blanks-front.ensures.same ∙ none_before _ _ c.in-len1-up.len_at_least (sym c.kind_of.ensures) c.in-Blank.is c.after_blanks-front.ensures.longest

pub returns-in-Letter-clause-lexeme : goal.returns-in-Letter-clause-lexeme
returns-in-Letter-clause-lexeme c =
    sym c.after_blanks-front.ensures.same
    ∙ word_before _ _ _ _ c.in-len1-up.len_at_least (sym c.kind_of.ensures ∙ c.in-Letter.is) c.letter_len.ensures.letters c.letter_len.ensures.longest (c.ascii_text.ensures ∙ c.split_at.ensures.front) c.split_at.ensures.back

pub returns-in-Alone-clause-lexeme : goal.returns-in-Alone-clause-lexeme
returns-in-Alone-clause-lexeme c = sym c.after_blanks-front.ensures.same ∙ sign_before _ c.in-len1-up.len_at_least (sym c.kind_of.ensures ∙ c.in-Alone.is)
