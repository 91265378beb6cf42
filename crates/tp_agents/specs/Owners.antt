-- Which agent each event is for.
use Rattle.std.specs.Prelude.{◌≡◌, ℕ, suc, ◌<◌, ◌≤◌, max, Bool, false, nat_eq, nat_le, if◌then◌else◌, ◌⊎◌, List, [], ◌∷◌, length, take, slice_get, slice_index_or, count_by, Option, Some, None, MatchOption}
use Rattle.std.specs.List.{All}

-- the agent of an event
abbrev pub owner_of : List ℕ → ℕ → ℕ
owner_of owners e = slice_index_or owners e 0

-- the agents are numbered from 0 to the greatest number among the owners: so many are they
abbrev pub agent_count : List ℕ → ℕ
agent_count [] = 0
agent_count (owner ∷ owners) = max (suc owner) (agent_count owners)

-- the events of an agent among some that are numbered from e, in order
abbrev pub events_from : ℕ → List ℕ → ℕ → List ℕ
events_from e [] agent = []
events_from e (owner ∷ owners) agent =
    if nat_eq owner agent then e ∷ events_from (suc e) owners agent
    else events_from (suc e) owners agent

abbrev pub events_of : List ℕ → ℕ → List ℕ
events_of owners agent = events_from 0 owners agent

-- how many events of its agent come before an event: its number among them
abbrev pub place_of : List ℕ → ℕ → ℕ
place_of owners e = count_by (λ owner. nat_eq owner (owner_of owners e)) (take e owners)

-- the number of each event among those of its agent
pub record ArePlaces (owners places : List ℕ) : Type 0 where
  pub count : length places ≡ length owners
  pub each :
      (e : ℕ) → e < length owners → slice_index_or places e 0 ≡ place_of owners e

abbrev pub is_agent : Option ℕ → Bool
is_agent None = false
is_agent (Some agent) = nat_le agent 1_023

-- the event has a number, at most 1,023
abbrev pub has_agent : List ℕ → ℕ → Bool
has_agent owners e = is_agent (slice_get owners e)

-- each of so many events has an agent, whose number is at most 1,023
pub record AreOwners (events : ℕ) (owners : List ℕ) : Type 0 where
  pub count : length owners ≡ events
  pub agents : All (λ agent. agent ≤ 1_023) owners

-- there is the event and it has no number, or there is a number and no event for it, or the number is over 1,023
abbrev pub IsMisowned : ℕ → List ℕ → ℕ → Type 0
IsMisowned events owners e =
    MatchOption (slice_get owners e) (e < events) (λ agent. (events ≤ e) ⊎ (1_023 < agent))

-- the first of these
pub record IsFirstMisowned (events : ℕ) (owners : List ℕ) (e : ℕ) : Type 0 where
  pub is : IsMisowned events owners e
  pub first : (d : ℕ) → d < e → ¬ IsMisowned events owners d
