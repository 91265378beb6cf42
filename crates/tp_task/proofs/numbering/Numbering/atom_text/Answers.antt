use Rattle.std.proofs.Common.{ℕ, [], map, get_or, string_bytes, sym, ap, ◌∙◌}
use Rattle.std.proofs.lemmas.Result.{IfOk-weaker}
use Rattle.smallvec.specs.SmallVec.{SmallVec}
use Rattle.tp_task.specs.Words.{text_of_words}
use Rattle.tp_task.specs.Labels.{named}
use Rattle.tp_task.specs.Tables.{words_at}
use Rattle.tp_task.proofs.OnNumberings.{words_named}
use Rattle.tp_task.proofs.numbering.Numbering.atom_text.Goals as goal

pub returns : goal.returns
returns c =
    IfOk-weaker c.text_of.result _ _
    (λ s e. e ∙ ap text_of_words
    (ap (named (map string_bytes c.self.inside.names.keys)) (c.label_at-label.ensures ∙ ap (λ ls. get_or (map (λ (l : SmallVec ℕ). l.items) ls) c.args.number []) c.as_slice.ensures.keys)
    ∙ sym (words_named (map string_bytes c.self.inside.names.keys) _ c.args.number)
    ∙ ap (λ t. words_at t.atoms c.args.number) c.self.view_is))
    c.text_of.ensures
