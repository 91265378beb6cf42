use Rattle.std.proofs.Common.{◌≡◌, ◌<◌, List, ℕ, ◌∷◌, length, rules, w64, sym, ap, ◌∙◌}
use mir.Val.{SFits}
use Rattle.std.proofs.lemmas.Int.{to_z-of_z}
use Rattle.tp_script.specs.Words.{words_of}
use Rattle.tp_script.specs.Commands.{bound_spelled}
use Rattle.tp_script.proofs.WordLemmas.{no_words, one_word, bound_is}
use Rattle.tp_script.proofs.commands.read_bound.Goals as goal

pub returns : goal.returns
returns c =
    let f = c.next_word.result.0.now in
    let t = c.next_word-2.result.0.now in
    let w = c.next_word-3.result.0.now in
    let first : 0 < length c.next_word.result.0.now = search rules in
    let second : 0 < length c.next_word-2.result.0.now = search rules in
    let third : 0 < length c.next_word-3.result.0.now = search rules in
    let none : length c.next_word-4.result.0.now ≡ 0 = search rules in
    let fits : SFits w64 c.in_ok-read_weight.field-0 = search rules in
    let words =
    one_word (words_of c.args.line.now) f c.next_word.result.1.now c.next_word.ensures first
    ∙ ap (λ (ws : List (List ℕ)). f ∷ ws) (one_word _ t c.next_word-2.result.1.now c.next_word-2.ensures second
    ∙ ap (λ (ws : List (List ℕ)). t ∷ ws) (one_word _ w c.next_word-3.result.1.now c.next_word-3.ensures third
    ∙ ap (λ (ws : List (List ℕ)). w ∷ ws) (no_words _ c.next_word-4.result.0.now c.next_word-4.result.1.now c.next_word-4.ensures none))) in
    rw (to_z-of_z w64 c.in_ok-read_weight.field-0 fits)
    (sym (ap bound_spelled words ∙ bound_is f t w _ _ _ (sym c.in_ok-read_point.ensures) (sym c.in_ok-read_point-2.ensures) (sym c.in_ok-read_weight.ensures)))
