-- Counts of failures that go on from others.
use Rattle.std.proofs.Common.{◌≡◌, ◌+◌, ℕ, refl, arith}
use Rattle.std.specs.Prelude.{Bool, true, false, Result, Ok, Err}
use Rattle.tp_cli_files.specs.Causes.{counted, raised}

pub raised_by : (failed : Bool) (n m : ℕ) → raised failed n + m ≡ raised failed (n + m)
raised_by true n m = omega arith
raised_by false n m = refl

raised_behind : (failed : Bool) (n m : ℕ) → n + raised failed m ≡ raised failed (n + m)
raised_behind true n m = omega arith
raised_behind false n m = refl

pub counted_behind : {T E : Type 0} (failed : E → Bool) (n m : ℕ) (r : Result T E) → n + counted failed m r ≡ counted failed (n + m) r
counted_behind failed n m (Ok x) = refl
counted_behind failed n m (Err e) = raised_behind (failed e) n m

raised_from : (failed : Bool) (n : ℕ) → n + raised failed 0 ≡ raised failed n
raised_from true n = omega arith
raised_from false n = omega arith

-- the failures of what is opened count from then on with the others
pub counted_from : {T E : Type 0} (failed : E → Bool) (n : ℕ) (r : Result T E) → n + counted failed 0 r ≡ counted failed n r
counted_from failed n (Ok x) = omega arith
counted_from failed n (Err e) = raised_from (failed e) n
