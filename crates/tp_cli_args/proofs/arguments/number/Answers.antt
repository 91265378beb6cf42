use Rattle.std.proofs.Common.{◌≡◌, ℕ, List, Option, Some, None, refl}
use Rattle.std.specs.Prelude.{IfSome, Ok, Result}
use Rattle.std.specs.Str.Parse.{ExplainsUnsignedError, HasUnsignedDigitsIfOk, IsNumeral, ParsesUnsigned, digits_value, without_leading_plus}
use Rattle.clap.specs.Words.{ReadsOne, found_of, one_of, one_text, rows_of}
use Rattle.clap.specs.declared.parser.matches.Found.{Found}
use Rattle.tp_cli_args.specs.Requests.{Spells}
use Rattle.tp_cli_args.proofs.ArgumentLemmas.{none_spelled, number_spelled}
use Rattle.tp_cli_args.proofs.arguments.number.Goals as goal

some_spelled : {E : Type 0} (gives : List ℕ → Result ℕ E → Type 0) (f : Found) (id : List ℕ) (r : Option ℕ) → (one_text f id ≡ None → r ≡ None) → ((t : List ℕ) → one_text f id ≡ Some t → ReadsOne gives t r) → ((t : List ℕ) (n : ℕ) → gives t (Ok n) → IsNumeral 10 (without_leading_plus t) × (n ≡ digits_value 10 (without_leading_plus t))) → IfSome r (Spells (one_of id (rows_of f)))
some_spelled gives f id None none value told = tt
some_spelled gives f id (Some n) none value told = number_spelled gives f id n (one_text f id) refl none value (λ t h. told t n h)

pub returns-clause-spelled : goal.returns-clause-spelled
returns-clause-spelled c =
    some_spelled (λ bs r. ParsesUnsigned 32 10 bs r × ExplainsUnsignedError 10 bs r × HasUnsignedDigitsIfOk bs r) (found_of c.args.matches.now) c.args.id.now c.get_one.result c.get_one.ensures.none c.get_one.ensures.value (λ t n h. (h.0.0.0, h.0.1))

pub returns-clause-refused : goal.returns-clause-refused
returns-clause-refused c =
    none_spelled (λ bs r. ParsesUnsigned 32 10 bs r × ExplainsUnsignedError 10 bs r × HasUnsignedDigitsIfOk bs r) (found_of c.args.matches.now) c.args.id.now c.get_one.result c.get_one.ensures.value (λ t e h. h.0)
