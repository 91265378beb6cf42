-- Writes of one fluent in one event.
use Rattle.std.specs.Prelude.{Bool, false, not, ◌&&◌, Option, Some, None}

-- A write clashes with those before it, which are all additive or not, unless there are none, or all are additive and so is it.
abbrev pub clashes : Option Bool → Bool → Bool
clashes None additive = false
clashes (Some others) additive = not (others && additive)
