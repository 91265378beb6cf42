use Rattle.std.proofs.Common.{◌≡◌, ◌≢◌, ◌+◌, ◌<◌, ◌∙◌, ap, subst, length, take, arith}
use Rattle.tp_journal_pairs.specs.Journal.{longest_line}
use Rattle.tp_journal.proofs.LineLemmas.{long_left, whole_open}
use Rattle.tp_journal.proofs.auditing.take_piece.Goals as goal

pub returns-in-Ok-Long-clause-takes : goal.returns-in-Ok-Long-clause-takes
returns-in-Ok-Long-clause-takes g c =
    let shown = rw c.in-Ok-Long.field-0-is at c.in-Ok-Long.ensures.shown in
    let longest : c.next_line.new.self.longest ≡ longest_line = c.in-Ok-Long.ensures.limits.longest ∙ c.requires in
    long_left c.args.lines.now c.next_line.new.self shown.0 c.next_line.new.self.line shown.1 (subst (λ n. n < length shown.0) longest shown.2) (shown.3 ∙ ap (λ n. take n shown.0) longest)

pub returns-in-Err-TooLong-clause-takes : goal.returns-in-Err-TooLong-clause-takes
returns-in-Err-TooLong-clause-takes g c =
    let cut = rw c.in-Err-TooLong.field-0-is at c.in-Err-TooLong.ensures.line in
    let shown = rw c.in-Err-TooLong.field-0-is at c.in-Err-TooLong.ensures.shown in
    let longest : c.next_line.new.self.longest ≡ longest_line = c.in-Err-TooLong.ensures.limits.longest ∙ c.requires in
    ((shown.0, cut.1, cut.2), shown.1 ∙ ap (λ n. take n shown.0.text) longest)

pub returns-else-taken-before-clause-takes : goal.returns-else-taken-before-clause-takes
returns-else-taken-before-clause-takes g c =
    let took = rw c.in-Ok-Line.field-0-is at c.in-Ok-Line.ensures.line in
    let ne : c.next_line.new.self.taken ≢ c.args.lines.now.taken + (length c.next_line.new.self.line + 1) = λ is. c.if-taken-before.false (omega (arith, is, c.taken.ensures, c.taken-before.ensures, ap length c.line.ensures)) in
    whole_open c.args.lines.now c.next_line.new.self c.next_line.new.self.line took.0 ne
