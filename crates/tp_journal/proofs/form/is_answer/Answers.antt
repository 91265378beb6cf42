use Rattle.std.proofs.Common.{◌≡◌, false, sym, rules}
use Rattle.std.specs.Prelude.{codes}
use Rattle.std.specs.Str.{bytes_eq}
use Rattle.tp_journal.proofs.WordForms.{no_answer}
use Rattle.tp_journal.proofs.form.is_answer.Goals as goal

pub returns-else-eq-5 : goal.returns-else-eq-5
returns-else-eq-5 c =
    let a : bytes_eq c.next_word.result.0.now (codes "ok") ≡ false = search rules in
    let b : bytes_eq c.next_word.result.0.now (codes "bound") ≡ false = search rules in
    let d : bytes_eq c.next_word.result.0.now (codes "window") ≡ false = search rules in
    let e : bytes_eq c.next_word.result.0.now (codes "report") ≡ false = search rules in
    let f : bytes_eq c.next_word.result.0.now (codes "refused") ≡ false = search rules in
    sym (no_answer _ c.next_word.result.0.now c.next_word.result.1.now c.next_word.ensures a b d e f)
