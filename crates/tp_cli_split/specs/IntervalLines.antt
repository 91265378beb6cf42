-- The lines of intervals: 'interval E LO HI' for each event that has one.
use Rattle.std.specs.Prelude.{ℕ, List, [], ◌++◌, Option, Some, None, codes, decimal}
use Rattle.tp_script.specs.NetLines.{lines_from}

abbrev pub interval_line : ℕ → Option (ℕ × ℕ) → List ℕ
interval_line e None = []
interval_line e (Some interval) =
    codes "interval " ++ (decimal e ++ (codes " " ++ (decimal interval.0
    ++ (codes " " ++ (decimal interval.1 ++ codes "\n")))))

abbrev pub interval_lines : List (Option (ℕ × ℕ)) → List ℕ
interval_lines intervals = lines_from interval_line 0 intervals
