-- How far the arcs of a distance graph are from being tight at given moments.
use Rattle.std.specs.Prelude.{◌≡◌, ℕ, ◌+◌, ◌<◌, List, length, ℤ, pos, ◌+ℤ◌, ◌≤ℤ◌}
use Rattle.tp_net.specs.declared.slacks.Arc.{Arc}
use Rattle.tp_net.specs.declared.spread.Link.{Link}
use Rattle.tp_net.specs.Graph.{arc_at}
use Rattle.tp_net.specs.Links.{link_at}

-- how far an arc is from being tight at these moments; where its end rises, its beginning has to
pub record IsUpLink (low : ℕ → ℕ) (e : Arc) (l : Link) : Type 0 where
  pub begins : l.from ≡ e.from
  pub ends : l.to ≡ e.to
  pub slack : pos (low e.to + l.slack) ≡ pos (low e.from) +ℤ e.weight

-- the same, where its beginning falls, its end has to
pub record IsDownLink (high : ℕ → ℕ) (e : Arc) (l : Link) : Type 0 where
  pub begins : l.from ≡ e.to
  pub ends : l.to ≡ e.from
  pub slack : pos (high e.to + l.slack) ≡ pos (high e.from) +ℤ e.weight

-- the links of all arcs, in their order
pub record AreUpLinks (low : ℕ → ℕ) (arcs : List Arc) (links : List Link) : Type 0 where
  pub len : length links ≡ length arcs
  pub each : (k : ℕ) → k < length arcs → IsUpLink low (arc_at arcs k) (link_at links k)

-- the same for falling moments
pub record AreDownLinks (high : ℕ → ℕ) (arcs : List Arc) (links : List Link) : Type 0 where
  pub len : length links ≡ length arcs
  pub each : (k : ℕ) → k < length arcs → IsDownLink high (arc_at arcs k) (link_at links k)

-- the least amount by which `from` has to rise, or `to` has to fall, for `to` to be at most `from` plus the weight
pub record IsGap (from to : ℕ) (weight : ℤ) (amount : ℕ) : Type 0 where
  pub enough : pos to ≤ℤ (pos (from + amount) +ℤ weight)
  pub exact : 0 < amount → pos to ≡ pos (from + amount) +ℤ weight

-- the arc is between these points
abbrev pub JoinsPoints : ℕ → Arc → Type 0
JoinsPoints points e = (e.from < points) × (e.to < points)
