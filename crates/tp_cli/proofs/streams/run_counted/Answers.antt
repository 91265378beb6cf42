use Rattle.std.proofs.Common.{map, refl}
use Rattle.std.specs.String.{string_bytes}
use Rattle.std.specs.Io.Buffered.{line_writer_contents}
use Rattle.tp_cli.specs.CallFiles.{call_files}
use Rattle.tp_cli.proofs.StreamLemmas.{counted, refusal_some, runs_from}
use Rattle.tp_cli.proofs.streams.run_counted.Goals as goal

pub returns-clause-ends : goal.returns-clause-ends
returns-clause-ends g c =
    let words = map string_bytes c.args.words.now in
    let files = call_files (g.N.Files.held c.args.files.now.shelf) (g.L.Logs.asked c.args.files.now.logs) (g.L.Logs.asked c.run_words-status.new.files.logs) g.L.Logs.blank (g.L.Logs.named c.run_words-status.new.files.logs) (g.L.Logs.kept c.run_words-status.new.files.logs) (g.N.Files.failures c.args.files.now.shelf) (g.N.Files.failures c.run_words-status.new.files.shelf) (g.L.Logs.failures c.args.files.now.logs) (g.L.Logs.failures c.run_words-status.new.files.logs) in
    let runs = runs_from words files _ c.run_words-status.result _ _ c.run_words-status.ensures.done c.run_words-status.ensures.no c.run_words-status.ensures.all c.run_words-status.ensures.part c.run_words-status.ensures.broken c.run_words-status.ensures.kept in
    counted words files _ (g.R.Read.remaining c.args.input) c.run_words-status.result c.hand_on-handed_on.result.status _ (line_writer_contents g.W.Write.contents c.args.output) _ (line_writer_contents g.W.Write.contents c.into_writer.result) (g.V.Write.contents c.args.faults) _ _ _ (g.V.Write.contents c.into_writer-2.result) _ _ g.W.Write.contents c.hand_on-handed_on.result.output c.new-input.ensures.left c.new-output.ensures.held c.into_writer.ensures c.new-faults.ensures.held c.into_writer-2.ensures c.hand_on-handed_on.ensures runs c.run_words-status.ensures.refused c.run_words-status.ensures.within (λ one. rw (c.run_words-status.ensures.silent one) refl) (λ two. refusal_some c.run_words-status.result _ _ _ _ (c.run_words-status.ensures.fault two)) _ _ _ _ _ _ c.run_words-status.ensures.stopped c.run_words-status.ensures.unlogged
