use Rattle.std.proofs.Common.{◌≡◌, ◌<◌, List, ℕ, ◌∷◌, length, rules, true, false, sym, ap, ◌∙◌, codes}
use Rattle.std.specs.Str.{bytes_eq}
use Rattle.tp_script.specs.Words.{words_of}
use Rattle.tp_script.specs.Commands.{moment_of}
use Rattle.tp_script.proofs.WordLemmas.{no_words, one_word}
use Rattle.tp_journal.specs.Form.{is_neat, is_number}
use Rattle.tp_journal.proofs.WordForms.{own_line_is, some_of}
use Rattle.tp_journal.proofs.form.is_own_line.Goals as goal

pub returns : goal.returns
returns c =
    let n = c.next_word.result.0.now in
    let i = c.next_word-2.result.0.now in
    let f = c.next_word-3.result.0.now in
    let t = c.next_word-4.result.0.now in
    let w = c.next_word-5.result.0.now in
    let named : bytes_eq c.next_word.result.0.now (codes "bound") ≡ true = search rules in
    let some : 0 < length c.next_word.result.0.now = some_of c.next_word.result.0.now named in
    let second : 0 < length c.next_word-2.result.0.now = search rules in
    let third : 0 < length c.next_word-3.result.0.now = search rules in
    let fourth : 0 < length c.next_word-4.result.0.now = search rules in
    let fifth : 0 < length c.next_word-5.result.0.now = search rules in
    let none : length c.next_word-6.result.0.now ≡ 0 = search rules in
    let neat : is_neat c.args.line.now ≡ true = search rules in
    let numbered : is_number c.args.id (moment_of c.next_word-2.result.0.now) ≡ true = search rules in
    let weighed : bytes_eq c.next_word-5.result.0.now (codes "-0") ≡ false = search rules in
    let words =
    one_word (words_of c.args.line.now) n c.next_word.result.1.now c.next_word.ensures some
    ∙ ap (λ (ws : List (List ℕ)). n ∷ ws) (one_word _ i c.next_word-2.result.1.now c.next_word-2.ensures second
    ∙ ap (λ (ws : List (List ℕ)). i ∷ ws) (one_word _ f c.next_word-3.result.1.now c.next_word-3.ensures third
    ∙ ap (λ (ws : List (List ℕ)). f ∷ ws) (one_word _ t c.next_word-4.result.1.now c.next_word-4.ensures fourth
    ∙ ap (λ (ws : List (List ℕ)). t ∷ ws) (one_word _ w c.next_word-5.result.1.now c.next_word-5.ensures fifth
    ∙ ap (λ (ws : List (List ℕ)). w ∷ ws) (no_words _ c.next_word-6.result.0.now c.next_word-6.result.1.now c.next_word-6.ensures none))))) in
    c.are_ends.ensures ∙ sym (own_line_is c.args.id c.args.line.now n i f t w neat words named numbered weighed)
