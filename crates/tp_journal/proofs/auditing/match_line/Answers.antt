use Rattle.std.proofs.Common.{◌≡◌, ◌+◌, ◌∷◌, inl, refl, sym, ap, ◌∙◌, length, drop, length-append, arith, rules, false, Some, IsTrue}
use Rattle.tp_journal.specs.Form.{is_of_pair, head_place}
use Rattle.tp_journal.proofs.LineLemmas.{line_then, line_back}
use Rattle.tp_journal.proofs.Places.{of_head, head_keeps}
use Rattle.tp_journal.proofs.auditing.match_line.Goals as goal

pub returns-then-begins_with_line : goal.returns-then-begins_with_line
returns-then-begins_with_line c =
    let pair : is_of_pair c.args.line.now ≡ false = search rules in
    let place : head_place c.args.place c.args.line.now ≡ Some c.in-Some.next = sym c.head_place.ensures ∙ c.in-Some.is in
    let yes : IsTrue c.begins_with_line.result = search rules in
    let begins = c.begins_with_line.ensures.0 yes in
    let n : length c.args.head.now ≡ length c.args.line.now + length (10 ∷ drop (length c.args.line.now + 1) c.args.head.now) = ap length begins ∙ length-append c.args.line.now (10 ∷ drop (length c.args.line.now + 1) c.args.head.now) in
    (of_head c.args.place c.args.line.now pair ∙ place, head_keeps c.args.place c.args.version c.args.line.now c.in-Some.next c.requires.names place, refl, omega (arith, n), begins)

pub returns-else-begins_with_line : goal.returns-else-begins_with_line
returns-else-begins_with_line c =
    let pair : is_of_pair c.args.line.now ≡ false = search rules in
    let place : head_place c.args.place c.args.line.now ≡ Some c.in-Some.next = sym c.head_place.ensures ∙ c.in-Some.is in
    inl (
      c.in-Some.next,
      of_head c.args.place c.args.line.now pair ∙ place,
      head_keeps c.args.place c.args.version c.args.line.now c.in-Some.next c.requires.names place,
      λ more is. (let b = line_back c.args.head.now c.args.line.now more is in let yes : IsTrue c.begins_with_line.result = c.begins_with_line.ensures.1 (line_then c.args.head.now c.args.line.now b.0 b.1 b.2) in let f : ⊥ = search rules in f),
    )
