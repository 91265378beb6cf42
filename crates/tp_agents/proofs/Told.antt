-- The moments that reports tell of the events of the whole.
use Rattle.std.proofs.Common.{◌≡◌, ℕ, ◌+◌, ◌<◌, inl, inr, Bool, List, [], ◌∷◌, ◌++◌, length, get_or, slice_get, Some, option_map, refl, sym, ap, ◌∙◌, arith}
use Rattle.std.proofs.lemmas.Bool.{cases_eq}
use Rattle.std.proofs.lemmas.Option.{slice_get-map, slice_get_read}
use Rattle.tp_exec_machine.specs.declared.command.Report.{Report}
use Rattle.tp_agents.specs.Owners.{owner_of, place_of}
use Rattle.tp_agents.specs.Joined.{moments_told, told_at}
use Rattle.tp_agents.proofs.Lists.{slice_get_last, slice_get_front}

-- what a report tells of an event
pub told_is : (owners : List ℕ) (reports : List Report) (e : ℕ) (r : Report) → slice_get reports (owner_of owners e) ≡ Some r → told_at owners (slice_get reports (owner_of owners e)) e ≡ slice_get (moments_told r) (place_of owners e)
told_is owners reports e r there = ap (λ o. told_at owners o e) there

-- the moment of one event more
pub told_more : (owners : List ℕ) (reports : List Report) (xs ys : List ℕ) (e : ℕ) (r : Report) (place : ℕ) (m : ℕ × Bool) → length xs ≡ e → ((d : ℕ) → d < e → slice_get xs d ≡ told_at owners (slice_get reports (owner_of owners d)) d) → ys ≡ xs ++ m.0 ∷ [] → slice_get reports (owner_of owners e) ≡ Some r → place ≡ place_of owners e → place < length r.moments.items → m ≡ get_or r.moments.items place m → (d : ℕ) → d < e + 1 → slice_get ys d ≡ told_at owners (slice_get reports (owner_of owners d)) d
told_more owners reports xs ys e r place m count old is there at within read d lt =
    ap (λ (l : List ℕ). slice_get l d) is
    ∙ elim (cases_eq d e) [
      | inl same ↦
          let told : slice_get (moments_told r) place ≡ Some m.0 = slice_get-map (λ (p : ℕ × Bool). p.0) r.moments.items place ∙ ap (option_map (λ (p : ℕ × Bool). p.0)) (slice_get_read r.moments.items (length r.moments.items) place m refl within read) in
          let here : told_at owners (slice_get reports (owner_of owners e)) e ≡ Some m.0 = told_is owners reports e r there ∙ (ap (slice_get (moments_told r)) (sym at) ∙ told) in
          ap (slice_get (xs ++ m.0 ∷ [])) (same ∙ sym count) ∙ (slice_get_last xs m.0 ∙ (sym here ∙ ap (λ k. told_at owners (slice_get reports (owner_of owners k)) k) (sym same)))
      | inr ne ↦ slice_get_front xs m.0 d (omega arith) ∙ old d (omega arith)
    ]
