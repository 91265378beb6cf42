-- A unit has at least one tick.
use Rattle.std.proofs.Common.{◌<◌, lit<}
use Rattle.tp_text.specs.declared.number.Scale.{Scale}
use Rattle.tp_text.specs.declared.number.Scale.TheVariants.{One, Ten, Hundred, Thousand}
use Rattle.tp_text.specs.Scales.{scale_ticks}

pub scale_positive : (s : Scale) → 0 < scale_ticks s
scale_positive One = lit< tt
scale_positive Ten = lit< tt
scale_positive Hundred = lit< tt
scale_positive Thousand = lit< tt
