use Rattle.std.proofs.Common.{codes, drop, refl}
use Rattle.tp_device.specs.Bytes.{Writes}
use Rattle.tp_device.proofs.Parts.{writes_after}
use Rattle.tp_cli_files.proofs.FaultLemmas.{stops_first}
use Rattle.tp_cli_audit.proofs.going.write_beginning.Goals as goal

pub returns-clause-bytes : goal.returns-clause-bytes
returns-clause-bytes g c =
    let more : Writes (g.V.Sink.held c.push_all.new.writer) (g.V.Sink.held c.push_all-2.new.writer) (drop 9 c.args.kept.now) c.push_all-2.result = rw (← c.behind_version.ensures) c.push_all-2.ensures.bytes in
    writes_after c.push_all-2.result (g.V.Sink.held c.args.log.now) (g.V.Sink.held c.push_all.new.writer) (g.V.Sink.held c.push_all-2.new.writer) (codes "journal 2") (drop 9 c.args.kept.now) _ refl c.in_ok-push_all.ensures.bytes more

pub returns-in_err-push_all-clause-bytes : goal.returns-in_err-push_all-clause-bytes
returns-in_err-push_all-clause-bytes g c =
    stops_first _ c.from_residual.result (g.V.Sink.held c.args.log.now) (g.V.Sink.held c.push_all.new.writer) (codes "journal 2") (drop 9 c.args.kept.now) c.from_residual.ensures.1 c.in_err-push_all.ensures.bytes
