use Rattle.std.proofs.Common.{map, length, slice_get, string_bytes, sym, ap, subst, ◌∙◌}
use Rattle.tp_task.specs.Labels.{named, AreNamed}
use Rattle.tp_task.specs.Tables.{words_at}
use Rattle.tp_task.proofs.OnNumberings.{words_named, named_at}
use Rattle.tp_task.proofs.numbering.Numbering.action_word.Goals as goal

pub word_of-requires : goal.word_of-requires
word_of-requires c =
    subst (AreNamed (length (map string_bytes c.self.inside.names.keys)))
    (sym c.at.ensures)
    (named_at (length (map string_bytes c.self.inside.names.keys)) c.self.inside.actions c.args.number c.self.invariant.actions_named)

pub returns-clause-word : goal.returns-clause-word
returns-clause-word c =
    c.word_of.ensures.word
    ∙ ap (λ ws. slice_get ws c.args.place)
    (ap (named (map string_bytes c.self.inside.names.keys)) c.at.ensures
    ∙ sym (words_named (map string_bytes c.self.inside.names.keys) _ c.args.number)
    ∙ ap (λ t. words_at t.actions c.args.number) c.self.view_is)
