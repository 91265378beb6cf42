use Rattle.std.proofs.Common.{◌≡◌, ◌++◌, ◌<◌, take, length, sym, subst, arith, rules, Some, None}
use Rattle.std.specs.Prelude.{slice_get}
use Rattle.std.proofs.lemmas.Result.{err_from_is_err_and}
use Rattle.std.proofs.lemmas.Option.{slice_get_within}
use Rattle.tp_device.specs.Bytes.{AppendsPart}
use Rattle.std.specs.Io.KnownBytes.{Appends}
use Rattle.std.proofs.KnownBytes.{Appends-trans}
use Rattle.tp_device.proofs.Parts.{part_after, appends_is}
use Rattle.tp_plan_text.specs.PlanPrints.{space_before, words_text}
use Rattle.tp_plan_text.specs.TaskWords.{readable}
use Rattle.tp_plan_text.proofs.OnPrints.{words_more, words_split, words_all}
use Rattle.tp_plan_text.proofs.printing.write_words.Goals as goal

pub returns-in_err-write_word-clause-bytes : goal.returns-in_err-write_word-clause-bytes
returns-in_err-write_word-clause-bytes g c =
    let ws = (readable c.args.task.now).words c.args.action in
    let here : slice_get ws c.words.place ≡ Some c.in-Some.word.now = sym c.in-Some.ensures.word in
    let split = words_split ws c.words.place c.in-Some.word.now here in
    let part : AppendsPart (g.W.Sink.held c.words.writer) (g.W.Sink.held c.write_word.new.writer) (space_before c.words.place ++ c.in-Some.word.now) = subst (λ s. AppendsPart (g.W.Sink.held c.words.writer) (g.W.Sink.held c.write_word.new.writer) (s ++ c.in-Some.word.now)) c.space_before.ensures c.in_err-write_word.ensures.bytes in
    let p = err_from_is_err_and c.from_residual.result c.from_residual.ensures.1 in
    rw p.1 (part_after (g.W.Sink.held c.args.writer.now) (g.W.Sink.held c.words.writer) (g.W.Sink.held c.write_word.new.writer) (words_text (take c.words.place ws)) (space_before c.words.place ++ c.in-Some.word.now) split.0 (words_text ws) split.1 c.words.invariant.held part)

pub overflow_add-place : goal.overflow_add-place
overflow_add-place g c =
    let ws = (readable c.args.task.now).words c.args.action in
    let here : slice_get ws c.words.place ≡ Some c.in-Some.word.now = sym c.in-Some.ensures.word in
    let within : c.words.place < length ws = slice_get_within ws c.words.place c.in-Some.word.now here in
    omega (arith, within, c.in-Some.ensures.few)

pub words-smaller : goal.words-smaller
words-smaller g c =
    let ws = (readable c.args.task.now).words c.args.action in
    let here : slice_get ws c.words.place ≡ Some c.in-Some.word.now = sym c.in-Some.ensures.word in
    let within : c.words.place < length ws = slice_get_within ws c.words.place c.in-Some.word.now here in
    omega (arith, within)

pub words-preserved : goal.words-preserved
words-preserved g c =
    let ws = (readable c.args.task.now).words c.args.action in
    let here : slice_get ws c.words.place ≡ Some c.in-Some.word.now = sym c.in-Some.ensures.word in
    let more : Appends (g.W.Sink.held c.words.writer) (g.W.Sink.held c.write_word.new.writer) (space_before c.words.place ++ c.in-Some.word.now) = subst (λ s. Appends (g.W.Sink.held c.words.writer) (g.W.Sink.held c.write_word.new.writer) (s ++ c.in-Some.word.now)) c.space_before.ensures c.in_ok-write_word.ensures.bytes in
    record {
      held = appends_is (g.W.Sink.held c.args.writer.now) (g.W.Sink.held c.write_word.new.writer) (words_text (take c.words.place ws) ++ (space_before c.words.place ++ c.in-Some.word.now)) _ (sym (words_more ws c.words.place c.in-Some.word.now here))
          (Appends-trans (g.W.Sink.held c.args.writer.now) (g.W.Sink.held c.words.writer) (g.W.Sink.held c.write_word.new.writer) (words_text (take c.words.place ws)) (space_before c.words.place ++ c.in-Some.word.now) c.words.invariant.held more);
      count = search rules;
    }

pub returns-clause-bytes : goal.returns-clause-bytes
returns-clause-bytes g c =
    let ws = (readable c.args.task.now).words c.args.action in
    let here : slice_get ws c.words.place ≡ None = sym c.in_default.ensures.word in
    appends_is (g.W.Sink.held c.args.writer.now) (g.W.Sink.held c.words.writer) (words_text (take c.words.place ws)) (words_text ws) (words_all ws c.words.place here) c.words.invariant.held
