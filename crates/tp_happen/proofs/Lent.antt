-- What an event of a fitting action changes is the task's.
use Rattle.std.proofs.Common.{◌≡◌, ℕ, true, List, [], ◌∷◌, suc, zero}
use Rattle.std.specs.Option.{option_and_then, IfSome}
use Rattle.std.specs.List.{list_all, slice_get}
use Rattle.std.proofs.lemmas.Bool.{and_parts}
use Rattle.tp_task.specs.declared.events.Body.{Body}
use Rattle.tp_task.specs.declared.events.Body.TheVariants.{Instant, Durative}
use Rattle.tp_task.specs.Fits.{body_fits, event_fits}
use Rattle.tp_happen.specs.declared.events.Part.{Part}
use Rattle.tp_happen.specs.declared.events.Part.TheVariants.{Start, End, Only}
use Rattle.tp_happen.specs.Parts.{part_of}

module _ (atoms fluents : ℕ) where
  part_fits : (b : Body) (part : Part) → body_fits atoms fluents b ≡ true → IfSome (part_of b part) (λ e. event_fits atoms fluents e ≡ true)
  part_fits (Instant e) Start h = tt
  part_fits (Instant e) End h = tt
  part_fits (Instant e) Only h = h
  part_fits (Durative start end invariant) Start h = (and_parts (event_fits atoms fluents start) (event_fits atoms fluents end) h).0
  part_fits (Durative start end invariant) End h = (and_parts (event_fits atoms fluents start) (event_fits atoms fluents end) h).1
  part_fits (Durative start end invariant) Only h = tt

  pub lent_fits : (bodies : List Body) (i : ℕ) (part : Part) → list_all (body_fits atoms fluents) bodies ≡ true → IfSome (option_and_then (λ b. part_of b part) (slice_get bodies i)) (λ e. event_fits atoms fluents e ≡ true)
  lent_fits [] i part h = tt
  lent_fits (b ∷ bs) zero part h = part_fits b part (and_parts (body_fits atoms fluents b) (list_all (body_fits atoms fluents) bs) h).0
  lent_fits (b ∷ bs) (suc i) part h = lent_fits bs i part (and_parts (body_fits atoms fluents b) (list_all (body_fits atoms fluents) bs) h).1
