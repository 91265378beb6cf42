-- How amounts flow along links that stand in a list for each point, and how many links are looked at.
use Rattle.std.specs.Prelude.{◌≡◌, ℕ, zero, suc, ◌+◌, ◌<◌, ◌≤◌, ◌⊎◌, List, length, slice_index, ℤ, pos, negsuc, ◌+ℤ◌, ◌-ℤ◌, cond, nat_lt, map}
use Rattle.tp_net.specs.declared.slacks.Arc.{Arc}
use Rattle.tp_repair_engine.specs.declared.store.Direction.{Direction}
use Rattle.tp_repair_engine.specs.declared.store.Direction.TheVariants.{Up, Down}
use Rattle.tp_net.specs.declared.spread.Link.{Link}
use Rattle.tp_net.specs.Links.{MeetsLink}

-- an integer, or 0 where it is below
abbrev pub slack_at : ℤ → ℕ
slack_at (pos n) = n
slack_at (negsuc n) = 0

-- an edge as a link: upwards its beginning follows its end, downwards its end its beginning
abbrev pub link_of : Direction → (ℕ → ℕ) → Arc → Link
link_of Up m e =
    record {
      from = e.from;
      to = e.to;
      slack = slack_at ((pos (m e.from) +ℤ e.weight) -ℤ pos (m e.to));
    }
link_of Down m e =
    record {
      from = e.to;
      to = e.from;
      slack = slack_at ((pos (m e.from) +ℤ e.weight) -ℤ pos (m e.to));
    }

-- the links of a list of arcs
abbrev pub links_of : Direction → (ℕ → ℕ) → List Arc → List Link
links_of d m arcs = map (link_of d m) arcs

-- g meets each link whose number stands in the list of a point
abbrev pub IsClosedBy : (ℕ → Link) → (ℕ → List ℕ) → (ℕ → ℕ) → Type 0
IsClosedBy link keys g =
    (y j : ℕ) → j < length (keys y) → MeetsLink g (link (slice_index (keys y) j))

-- the point x has its amount by the link k, from a point that was settled before
pub record IsSource (link : ℕ → Link) (keys : ℕ → List ℕ) (g r : ℕ → ℕ) (x k : ℕ) : Type 0 where
  pub place : ℕ
  pub within : place < length (keys (link k).to)
  pub listed : slice_index (keys (link k).to) place ≡ k
  pub begins : (link k).from ≡ x
  pub settled : 0 < r (link k).to
  pub amount : g x + (link k).slack ≡ g (link k).to
  pub earlier : 0 < r x → r (link k).to < r x

-- amounts g, ranks r (0: not settled yet) and parents p, when the first `upto` links in the list of `point` were gone through
pub record Flowing (link : ℕ → Link) (keys : ℕ → List ℕ) (start : ℕ → ℕ) (point upto : ℕ)
    (g r p : ℕ → ℕ) : Type 0 where
  pub started : (x : ℕ) → start x ≤ g x
  pub order : (x y : ℕ) → 0 < r x → r y ≡ 0 → g y ≤ g x
  pub positive : (x : ℕ) → 0 < r x → 0 < g x
  pub closed : (y j : ℕ) → 0 < r y → j < length (keys y) → (y ≡ point → j < upto)
      → MeetsLink g (link (slice_index (keys y) j))
  pub least : (h : ℕ → ℕ) → IsClosedBy link keys h → ((x : ℕ) → start x ≤ h x) → (x : ℕ) → g x ≤ h x
  pub parents : (x : ℕ) → 0 < g x → (g x ≡ start x) ⊎ IsSource link keys g r x (p x)

-- each list has the numbers of links that end at its point
abbrev pub AreListed : (ℕ → Link) → (ℕ → List ℕ) → Type 0
AreListed link keys = (y j : ℕ) → j < length (keys y) → (link (slice_index (keys y) j)).to ≡ y

abbrev pub sum_to : (ℕ → ℕ) → ℕ → ℕ
sum_to f zero = 0
sum_to f (suc n) = sum_to f n + f n

-- how many links end at points that have something
abbrev pub looks_at : (ℕ → List ℕ) → (ℕ → ℕ) → ℕ → ℕ
looks_at keys g points = sum_to (λ y. cond (nat_lt 0 (g y)) (length (keys y)) 0) points

-- all points with something are settled, and each of their links was looked at once
pub record IsFlow (link : ℕ → Link) (keys : ℕ → List ℕ) (start : ℕ → ℕ) (points looks : ℕ)
    (amounts ranks parents : List ℕ) : Type 0 where
  pub amounts_len : length amounts ≡ points
  pub ranks_len : length ranks ≡ points
  pub parents_len : length parents ≡ points
  pub flowing : Flowing link keys start 0 (length (keys 0)) (λ x. slice_index amounts x) (λ x.
      slice_index ranks x) (λ x. slice_index parents x)
  pub ended : (x : ℕ) → slice_index ranks x ≡ 0 → slice_index amounts x ≡ 0
  pub looks_is : looks ≡ looks_at keys (λ x. slice_index amounts x) points
