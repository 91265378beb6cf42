-- Truths where there are any: nothing where a part has none.
use Rattle.std.specs.Prelude.{Bool, ◌&&◌, ◌||◌, Option, Some, None, ℤ}
use Rattle.tp_task.specs.declared.events.Comparison.{Comparison}
use Rattle.tp_task.specs.State.{compares}

-- of two
abbrev pub and_both : Option Bool → Option Bool → Option Bool
and_both (Some a) (Some b) = Some (a && b)
and_both (Some a) None = None
and_both None b = None

abbrev pub or_both : Option Bool → Option Bool → Option Bool
or_both (Some a) (Some b) = Some (a || b)
or_both (Some a) None = None
or_both None b = None

abbrev pub compared_values : Comparison → Option ℤ → Option ℤ → Option Bool
compared_values how (Some x) (Some y) = Some (compares how x y)
compared_values how (Some x) None = None
compared_values how None y = None
