use Rattle.std.proofs.Common.{◌≡◌, sym, ◌∙◌, rules, false, Some}
use Rattle.tp_journal.specs.Form.{is_of_pair, head_place}
use Rattle.tp_journal.proofs.Places.{of_head}
use Rattle.tp_journal.proofs.Told.{keeps_name}
use Rattle.tp_journal.proofs.telling.match_any.Goals as goal

pub returns-in-Some : goal.returns-in-Some
returns-in-Some c =
    let pair : is_of_pair c.args.line.now ≡ false = search rules in
    let place : head_place c.args.place c.args.line.now ≡ Some c.in-Some.next = sym c.in-Some.ensures in
    (of_head c.args.place c.args.line.now pair ∙ place, keeps_name c.args.place c.in-Some.next c.args.line.now c.requires.names place)
