use Rattle.tp_script.proofs.answers.write_refusal.Goals as goal

pub returns-in-NoEvent-clause-bytes : goal.returns-in-NoEvent-clause-bytes
returns-in-NoEvent-clause-bytes g c = rw c.in-NoEvent.is c.push_all.ensures.bytes

pub returns-in-Done-clause-bytes : goal.returns-in-Done-clause-bytes
returns-in-Done-clause-bytes g c = rw c.in-Done.is c.push_all-in-Done.ensures.bytes

pub returns-in-NoBound-clause-bytes : goal.returns-in-NoBound-clause-bytes
returns-in-NoBound-clause-bytes g c = rw c.in-NoBound.is c.push_all-in-NoBound.ensures.bytes

pub returns-in-Weight-clause-bytes : goal.returns-in-Weight-clause-bytes
returns-in-Weight-clause-bytes g c = rw c.in-Weight.is c.push_all-in-Weight.ensures.bytes

pub returns-in-Back-clause-bytes : goal.returns-in-Back-clause-bytes
returns-in-Back-clause-bytes g c = rw c.in-Back.is c.push_all-in-Back.ensures.bytes

pub returns-in-Moment-clause-bytes : goal.returns-in-Moment-clause-bytes
returns-in-Moment-clause-bytes g c = rw c.in-Moment.is c.push_all-in-Moment.ensures.bytes

pub returns-in-Full-clause-bytes : goal.returns-in-Full-clause-bytes
returns-in-Full-clause-bytes g c = rw c.in-Full.is c.push_all-in-Full.ensures.bytes

pub returns-in-Spent-clause-bytes : goal.returns-in-Spent-clause-bytes
returns-in-Spent-clause-bytes g c = rw c.in-Spent.is c.push_all-in-Spent.ensures.bytes

pub returns-in-Memory-clause-bytes : goal.returns-in-Memory-clause-bytes
returns-in-Memory-clause-bytes g c = rw c.in-Memory.is c.push_all-in-Memory.ensures.bytes

pub returns-in-Conflict-clause-bytes : goal.returns-in-Conflict-clause-bytes
returns-in-Conflict-clause-bytes g c = rw c.in-Conflict.is c.write_conflict.ensures.bytes
