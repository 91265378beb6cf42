use Rattle.std.proofs.Common.{map, refl}
use Rattle.std.specs.String.{string_bytes}
use Rattle.tp_cli.specs.CallFiles.{call_files}
use Rattle.tp_cli.proofs.StreamLemmas.{ends_lost, ends_over}
use Rattle.tp_cli.proofs.streams.run_streams.Goals as goal

pub returns-in-Ok-clause-ends : goal.returns-in-Ok-clause-ends
returns-in-Ok-clause-ends g c =
    ends_over (map string_bytes c.args.words.now) (call_files (g.N.Files.held c.args.files.now.shelf) (g.L.Logs.asked c.args.files.now.logs) (g.L.Logs.asked c.run_counted.new.files.logs) g.L.Logs.blank (g.L.Logs.named c.run_counted.new.files.logs) (g.L.Logs.kept c.run_counted.new.files.logs) (g.N.Files.failures c.args.files.now.shelf) (g.N.Files.failures c.run_counted.new.files.shelf) (g.L.Logs.failures c.args.files.now.logs) (g.L.Logs.failures c.run_counted.new.files.logs)) (g.R.Read.remaining c.args.input) _ (g.W.Write.contents c.args.output) (g.V.Write.contents c.args.faults) g.W.Write.contents c.run_counted.result.status c.run_counted.result.output (g.V.Write.contents c.run_counted.result.faults) c.in-Ok.ensures.bytes c.run_counted.ensures.ends

pub returns-in-Err-clause-ends : goal.returns-in-Err-clause-ends
returns-in-Err-clause-ends g c =
    ends_lost (map string_bytes c.args.words.now) (call_files (g.N.Files.held c.args.files.now.shelf) (g.L.Logs.asked c.args.files.now.logs) (g.L.Logs.asked c.args.files.now.logs) g.L.Logs.blank (g.L.Logs.named c.args.files.now.logs) (g.L.Logs.kept c.args.files.now.logs) (g.N.Files.failures c.args.files.now.shelf) (g.N.Files.failures c.args.files.now.shelf) (g.L.Logs.failures c.args.files.now.logs) (g.L.Logs.failures c.args.files.now.logs)) (g.R.Read.remaining c.args.input) (g.W.Write.contents c.args.output) (g.V.Write.contents c.args.faults) g.W.Write.contents c.end_lost.result.status c.end_lost.result.output (g.V.Write.contents c.end_lost.result.faults) c.end_lost.ensures.status c.end_lost.ensures.output c.end_lost.ensures.fault refl
