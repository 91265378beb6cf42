use Rattle.std.proofs.Common.{◌≡◌, ◌<◌, List, ℕ, ◌∷◌, length, rules, sym, ap, ◌∙◌}
use Rattle.tp_script.specs.Words.{words_of}
use Rattle.tp_script.specs.Commands.{pair_spelled}
use Rattle.tp_script.proofs.WordLemmas.{no_words, one_word, pair_is}
use Rattle.tp_script.proofs.commands.read_pair.Goals as goal

pub returns : goal.returns
returns c =
    let e = c.next_word.result.0.now in
    let m = c.next_word-2.result.0.now in
    let first : 0 < length c.next_word.result.0.now = search rules in
    let second : 0 < length c.next_word-2.result.0.now = search rules in
    let none : length c.next_word-3.result.0.now ≡ 0 = search rules in
    let words =
    one_word (words_of c.args.line.now) e c.next_word.result.1.now c.next_word.ensures first
    ∙ ap (λ (ws : List (List ℕ)). e ∷ ws) (one_word _ m c.next_word-2.result.1.now c.next_word-2.ensures second
    ∙ ap (λ (ws : List (List ℕ)). m ∷ ws) (no_words _ c.next_word-3.result.0.now c.next_word-3.result.1.now c.next_word-3.ensures none)) in
    sym (ap pair_spelled words ∙ pair_is e m _ _ (sym c.in_ok-read_event.ensures) (sym c.in_ok-read_moment.ensures))
