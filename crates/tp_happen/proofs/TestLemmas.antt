-- Answers of tests, joined, and what a call leaves where it fails.
use Rattle.std.specs.Prelude.{◌≡◌, Bool, true, false, ◌||◌, Result, Ok, Err, OnErr}
use Rattle.std.proofs.Common.{refl}

pub or_false : (a : Bool) → (a || false) ≡ a
or_false true = refl
or_false false = refl

pub or_same : (a b c d : Bool) → a ≡ b → c ≡ d → (a || c) ≡ (b || d)
or_same a b c d same_first same_last = cc

-- what holds holds where a call fails
pub on_err_from : {T E P : Type 0} (r : Result T E) → P → OnErr r P
on_err_from (Ok x) holds = tt
on_err_from (Err e) holds = holds
