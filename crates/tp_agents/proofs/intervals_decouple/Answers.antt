use Rattle.tp_agents.proofs.Decoupling.{decouples, wide}
use Rattle.tp_agents.proofs.OnParts.{parts_possible}
use Rattle.tp_agents.proofs.intervals_decouple.Goals as goal

pub returns-clause-decouples : goal.returns-clause-decouples
returns-clause-decouples c = decouples _ _ _ _ c.args.split.now.split c.events-events.ensures.lawful

pub returns-clause-wide : goal.returns-clause-wide
returns-clause-wide c = wide _ _ _ _ c.args.split.now.split

pub returns-clause-possible : goal.returns-clause-possible
returns-clause-possible c = parts_possible _ _ _ _ c.args.split.now.split c.events-events.ensures.lawful
