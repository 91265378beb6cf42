-- How amounts spread along links with slacks: what the end of a link has, less the slack, its beginning has too.
use Rattle.std.specs.Prelude.{◌≡◌, ◌≢◌, ℕ, ◌+◌, ◌<◌, ◌≤◌, List, [], ◌∷◌, length, All, AllPairs, slice_index, slice_index_or, sum_by}
use Rattle.tp_net.specs.declared.spread.Link.{Link}

-- an amount at each point meets a link: what the end has, less the slack, its beginning has too
abbrev pub MeetsLink : (ℕ → ℕ) → Link → Type 0
MeetsLink g l = g l.to ≤ g l.from + l.slack

-- the amounts meet all links
abbrev pub IsClosed : (ℕ → ℕ) → List Link → Type 0
IsClosed g links = All (MeetsLink g) links

-- what stands for a link where there is none
abbrev pub no_link : Link
no_link = record { from = 0; to = 0; slack = 0 }

-- the link of this number
abbrev pub link_at : List Link → ℕ → Link
link_at links k = slice_index_or links k no_link

-- the links are between these points
abbrev pub AreAmong : ℕ → List Link → Type 0
AreAmong points links = All (λ l. (l.from < points) × (l.to < points)) links

-- the point x has its amount by the link p, from a point that was settled before
pub record IsParent (links : List Link) (g r : ℕ → ℕ) (x p : ℕ) : Type 0 where
  pub within : p < length links
  pub begins : (link_at links p).from ≡ x
  pub settled : 0 < r (link_at links p).to
  pub amount : g x + (link_at links p).slack ≡ g (link_at links p).to
  pub earlier : 0 < r x → r (link_at links p).to < r x

-- amounts g, ranks r (0: not settled yet) and parents p, while the links that end at `point` are gone through
pub record Spreading (links : List Link) (seed amount point : ℕ) (seen : ℕ → Type 0)
    (g r p : ℕ → ℕ) : Type 0 where
  pub seeded : g seed ≡ amount
  pub first : r seed ≡ 0 → (x : ℕ) → x ≢ seed → g x ≡ 0
  pub order : (x y : ℕ) → 0 < r x → r y ≡ 0 → g y ≤ g x
  pub positive : (x : ℕ) → 0 < r x → 0 < g x
  pub closed :
      (k : ℕ) → k < length links → 0 < r (link_at links k).to
      → ((link_at links k).to ≡ point → seen k) → MeetsLink g (link_at links k)
  pub least : (h : ℕ → ℕ) → IsClosed h links → amount ≤ h seed → (x : ℕ) → g x ≤ h x
  pub parents : (x : ℕ) → x ≢ seed → 0 < g x → IsParent links g r x (p x)

-- y is next: of those not settled it has the most
pub record IsNext (g r : ℕ → ℕ) (y : ℕ) : Type 0 where
  pub unsettled : r y ≡ 0
  pub positive : 0 < g y
  pub most : (x : ℕ) → r x ≡ 0 → g x ≤ g y

-- all points with something are settled
pub record IsSpread (links : List Link) (seed amount : ℕ)
    (amounts ranks parents : List ℕ) : Type 0 where
  pub ranks_len : length ranks ≡ length amounts
  pub parents_len : length parents ≡ length amounts
  pub spreading :
      Spreading links seed amount 0 (λ k. k < length links)
      (λ x. slice_index amounts x) (λ x. slice_index ranks x) (λ x. slice_index parents x)
  pub ended : (x : ℕ) → slice_index ranks x ≡ 0 → slice_index amounts x ≡ 0

-- the links of these numbers lead from a to b
abbrev pub IsLinkChain : List Link → ℕ → ℕ → List ℕ → Type 0
IsLinkChain links a b [] = a ≡ b
IsLinkChain links a b (k ∷ ks) =
    (k < length links) × ((link_at links k).from ≡ a) × IsLinkChain links (link_at links k).to b ks

-- the sum of the slacks of the links of these numbers
abbrev pub slack_of : List Link → List ℕ → ℕ
slack_of links ks = sum_by (λ k. (link_at links k).slack) ks

-- links from the target to the seed, no two of which begin at one point
pub record IsTrace (links : List Link) (target seed amount : ℕ) (left : ℕ)
    (path : List ℕ) : Type 0 where
  pub chain : IsLinkChain links target seed path
  pub total : slack_of links path + left ≡ amount
  pub simple : AllPairs (λ j k. (link_at links j).from ≢ (link_at links k).from) path
  pub past : All (λ k. (link_at links k).from ≢ seed) path
