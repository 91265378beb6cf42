-- What `==` tells of the lists of a state.
use Rattle.std.proofs.Common.{◌≡◌, Option, Some, None, ℤ, refl, ap}
use Rattle.std.specs.Bool.{Decides}
use Rattle.std.specs.Option.{option_eq}
use Rattle.std.specs.Ordering.{int_eq}
use Rattle.std.proofs.lemmas.Bool.{false≢true}
use Rattle.std.proofs.lemmas.Bool.Decides.{Decides-int_eq}

pub numbers_Decides : (x y : Option ℤ) → Decides (option_eq int_eq x y) (x ≡ y)
numbers_Decides None None = (λ _. refl, λ _. refl)
numbers_Decides None (Some y) = (λ h. absurd (false≢true h), λ h. absurd (let no : ⊥ = cc in no))
numbers_Decides (Some x) None = (λ h. absurd (false≢true h), λ h. absurd (let no : ⊥ = cc in no))
numbers_Decides (Some x) (Some y) = (λ h. ap Some ((Decides-int_eq x y).0 h), λ h. (Decides-int_eq x y).1 (let e : x ≡ y = cc in e))
