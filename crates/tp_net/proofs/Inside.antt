-- What the fields of the network that keeps its moments are seen as.
use Rattle.tp_bounds.specs.Setting.{Setting}
use Rattle.tp_net.specs.declared.scratch.ScratchNet.TheInside.{Inside}
use Rattle.tp_net.specs.Settled.{settled}

-- the setting that they give
abbrev pub setting_in : Inside → Setting
setting_in i = settled i.horizon i.clock i.bounds.entries i.fixed.items i.lags.items
