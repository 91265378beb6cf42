use Rattle.std.proofs.Common.{◌≡◌, ◌-◌, length, rules}
use Rattle.tp_script.proofs.LagLemmas.{pulls}
use Rattle.tp_script.proofs.lines.pull_behind.Goals as goal

pub returns-clause-bytes : goal.returns-clause-bytes
returns-clause-bytes g c =
    pulls _ _ c.args.chunk.now c.pull.new.buffer _ c.args.end c.pull.result c.requires.within
    (let size : length c.pull.new.buffer ≡ length c.args.chunk.now - c.args.end = search rules in size)
    (let within = c.pull.ensures.within in search rules)
    c.pull.ensures.bytes
