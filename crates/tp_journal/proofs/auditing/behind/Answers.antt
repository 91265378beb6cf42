use Rattle.tp_script.proofs.WordLemmas.{tail_is}
use Rattle.tp_journal.proofs.auditing.behind.Goals as goal

pub returns : goal.returns
returns c = tail_is c.args.count c.args.bytes.now
