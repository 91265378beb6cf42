use Rattle.std.proofs.Common.{◌≡◌, false, sym, rules}
use Rattle.std.specs.Prelude.{codes}
use Rattle.std.specs.Str.{bytes_eq}
use Rattle.tp_script.proofs.WordLemmas.{no_command}
use Rattle.tp_script.proofs.commands.read_command.Goals as goal

pub returns-else-eq-7 : goal.returns-else-eq-7
returns-else-eq-7 c =
    let name = c.next_word.result.0.now in
    let not_advance : bytes_eq c.next_word.result.0.now (codes "advance") ≡ false = search rules in
    let not_add : bytes_eq c.next_word.result.0.now (codes "add") ≡ false = search rules in
    let not_withdraw : bytes_eq c.next_word.result.0.now (codes "withdraw") ≡ false = search rules in
    let not_window : bytes_eq c.next_word.result.0.now (codes "window") ≡ false = search rules in
    let not_dispatch : bytes_eq c.next_word.result.0.now (codes "dispatch") ≡ false = search rules in
    let not_happened : bytes_eq c.next_word.result.0.now (codes "happened") ≡ false = search rules in
    let not_report : bytes_eq c.next_word.result.0.now (codes "report") ≡ false = search rules in
    sym (no_command c.args.line.now name c.next_word.result.1.now c.next_word.ensures not_advance not_add not_withdraw not_window not_dispatch not_happened not_report)
