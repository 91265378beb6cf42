-- What the start and the end of a durative action say.
use Rattle.tp_task.specs.Tables.{Tables}
use Rattle.tp_ground_bodies.specs.Written.{GroundHappening}
use Rattle.tp_ground_bodies.specs.ReadBack.{named_event}
use Rattle.tp_ground_bodies.specs.declared.bodies.Ends.{Ends}

abbrev pub named_ends : Tables → Ends → GroundHappening × GroundHappening
named_ends t e = (named_event t e.first, named_event t e.last)
