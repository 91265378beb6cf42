-- The edges that there are, numbered without the keys that are free.
use Rattle.std.proofs.Common.{◌≡◌, ◌≢◌, ℕ, zero, suc, ◌<◌, List, [], ◌∷◌, ◌++◌, length, map, refl, sym, ◌∙◌, ap, subst, arith, rules, get_or, take, inl, inr, ◌⊎◌}
use Rattle.std.specs.Prelude.{All, AllPairs, Option, Some, None, IsSome, slice_index_or, pos, ◌+ℤ◌, ◌<ℤ◌}
use Rattle.std.proofs.lemmas.Option.{none-some}
use Rattle.std.proofs.lemmas.List.Elements.{All-tail, All-cons}
use Rattle.tp_bounds.specs.declared.Edge.{Edge}
use Rattle.tp_net.specs.declared.slacks.Arc.{Arc}
use Rattle.tp_net.specs.Graph.{arc_at, IsChain, weight_of}
use Rattle.tp_net.specs.Arcs.{name_at, NamesCycle}
use Rattle.tp_net.specs.Moments.{CycleBeginsWith}
use Rattle.tp_repair_engine.specs.declared.store.Node.{Node}
use Rattle.tp_repair_engine.specs.Store.{arcs_of, HasNode, name_in, names_of, kept_arcs}

-- how many edges come before a key
abbrev number : List (Option Node) → ℕ → ℕ
number [] k = 0
number (o ∷ slots) zero = 0
number (None ∷ slots) (suc k) = number slots k
number (Some n ∷ slots) (suc k) = suc (number slots k)

-- the key is of an edge, or of one more after all
abbrev IsKey : List (Option Node) → ℕ → Type 0
IsKey slots k = HasNode slots k ⊎ (k ≡ length slots)

arc_node : (slots : List (Option Node)) (new : Arc) (k : ℕ) (n : Node) → slice_index_or slots k None ≡ Some n
    → (number slots k < length (kept_arcs slots ++ new ∷ [])) × (arc_at (kept_arcs slots ++ new ∷ []) (number slots k) ≡ arc_at (arcs_of slots ++ new ∷ []) k)
arc_node [] new k n is = absurd (none-some n is)
arc_node (None ∷ slots) new zero n is = absurd (none-some n is)
arc_node (None ∷ slots) new (suc k) n is = arc_node slots new k n is
arc_node (Some m ∷ slots) new zero n is = (omega arith, refl)
arc_node (Some m ∷ slots) new (suc k) n is = (let h = arc_node slots new k n is in (omega (arith, h.0), h.1))

arc_new : (slots : List (Option Node)) (new : Arc) → (number slots (length slots) < length (kept_arcs slots ++ new ∷ [])) × (arc_at (kept_arcs slots ++ new ∷ []) (number slots (length slots)) ≡ arc_at (arcs_of slots ++ new ∷ []) (length slots))
arc_new [] new = (omega arith, refl)
arc_new (None ∷ slots) new = arc_new slots new
arc_new (Some m ∷ slots) new = (let h = arc_new slots new in (omega (arith, h.0), h.1))

arc_key : (slots : List (Option Node)) (new : Arc) (k : ℕ) → IsKey slots k
    → (number slots k < length (kept_arcs slots ++ new ∷ [])) × (arc_at (kept_arcs slots ++ new ∷ []) (number slots k) ≡ arc_at (arcs_of slots ++ new ∷ []) k)
arc_key slots new k (inl n) = arc_node slots new k n.0 n.1
arc_key slots new k (inr last) = subst (λ j. (number slots j < length (kept_arcs slots ++ new ∷ [])) × (arc_at (kept_arcs slots ++ new ∷ []) (number slots j) ≡ arc_at (arcs_of slots ++ new ∷ []) j)) (sym last) (arc_new slots new)

name_node : (slots : List (Option Node)) (first : Edge) (k : ℕ) (n : Node) → slice_index_or slots k None ≡ Some n → name_at (names_of slots ++ first ∷ []) (number slots k) ≡ name_in (slice_index_or slots k None)
name_node [] first k n is = absurd (none-some n is)
name_node (None ∷ slots) first zero n is = absurd (none-some n is)
name_node (None ∷ slots) first (suc k) n is = name_node slots first k n is
name_node (Some m ∷ slots) first zero n is = refl
name_node (Some m ∷ slots) first (suc k) n is = name_node slots first k n is

name_new : (slots : List (Option Node)) (first : Edge) → name_at (names_of slots ++ first ∷ []) (number slots (length slots)) ≡ first
name_new [] first = refl
name_new (None ∷ slots) first = name_new slots first
name_new (Some m ∷ slots) first = name_new slots first

number_all : (slots : List (Option Node)) → number slots (length slots) ≡ length (kept_arcs slots)
number_all [] = refl
number_all (None ∷ slots) = number_all slots
number_all (Some m ∷ slots) = ap suc (number_all slots)

arcs_len : (slots : List (Option Node)) → length (arcs_of slots) ≡ length slots
arcs_len [] = refl
arcs_len (o ∷ slots) = ap suc (arcs_len slots)

names_path : (slots : List (Option Node)) (first : Edge) (path : List ℕ) → All (HasNode slots) path
    → map (λ k. name_in (slice_index_or slots k None)) path ≡ map (name_at (names_of slots ++ first ∷ [])) (map (number slots) path)
names_path slots first [] all = refl
names_path slots first (k ∷ path) all =
    let n : HasNode slots k = all 0 0 (omega arith) in
    let rest = names_path slots first path (All-tail (HasNode slots) k path all) in
    subst (λ (e : Edge). name_in (slice_index_or slots k None) ∷ map (λ j. name_in (slice_index_or slots j None)) path ≡ e ∷ map (name_at (names_of slots ++ first ∷ [])) (map (number slots) path)) (sym (name_node slots first k n.0 n.1))
    (ap (λ (es : List Edge). name_in (slice_index_or slots k None) ∷ es) rest)

-- a chain with other numbers for its arcs
module _ (old new : List Arc) (f : ℕ → ℕ) where
  abbrev Goes : ℕ → Type 0
  Goes k = (f k < length new) × (arc_at new (f k) ≡ arc_at old k)

  chain_goes : (a b : ℕ) (ks : List ℕ) → All Goes ks → IsChain old a b ks → IsChain new a b (map f ks)
  chain_goes a b [] all chain = chain
  chain_goes a b (k ∷ ks) all chain =
      let g : Goes k = all 0 0 (omega arith) in
      let rest = chain_goes (arc_at old k).to b ks (All-tail Goes k ks all) chain.2 in (
        g.0,
        ap (λ (e : Arc). e.from) g.1 ∙ chain.1,
        subst (λ (e : Arc). IsChain new e.to b (map f ks)) (sym g.1) rest,
      )

  weight_goes : (ks : List ℕ) → All Goes ks → weight_of new (map f ks) ≡ weight_of old ks
  weight_goes [] all = refl
  weight_goes (k ∷ ks) all =
      let g : Goes k = all 0 0 (omega arith) in
      let w : (arc_at new (f k)).weight ≡ (arc_at old k).weight = ap (λ (e : Arc). e.weight) g.1 in
      let rest = weight_goes ks (All-tail Goes k ks all) in
      ap (λ z. z +ℤ weight_of new (map f ks)) w ∙ ap (λ z. (arc_at old k).weight +ℤ z) rest

  map_len : (ks : List ℕ) → length (map f ks) ≡ length ks
  map_len [] = refl
  map_len (k ∷ ks) = ap suc (map_len ks)

  map_at : (ks : List ℕ) (i d e : ℕ) → i < length ks → get_or (map f ks) i d ≡ f (get_or ks i e)
  map_at [] i d e inside = absurd (omega (arith, inside))
  map_at (k ∷ ks) zero d e inside = refl
  map_at (k ∷ ks) (suc i) d e inside = map_at ks i d e (omega (arith, inside))

  simple_goes : (ks : List ℕ) → All Goes ks → AllPairs (λ j k. (arc_at old j).from ≢ (arc_at old k).from) ks → AllPairs (λ j k. (arc_at new j).from ≢ (arc_at new k).from) (map f ks)
  simple_goes ks all simple i j d below inside =
      let j_in : j < length ks = omega (arith, inside, map_len ks) in
      let i_in : i < length ks = omega (arith, below, j_in) in
      let a : (arc_at new (get_or (map f ks) i d)).from ≡ (arc_at old (get_or ks i d)).from = ap (λ k. (arc_at new k).from) (map_at ks i d d i_in) ∙ ap (λ (e : Arc). e.from) (all i d i_in).1 in
      let b : (arc_at new (get_or (map f ks) j d)).from ≡ (arc_at old (get_or ks j d)).from = ap (λ k. (arc_at new k).from) (map_at ks j d d j_in) ∙ ap (λ (e : Arc). e.from) (all j d j_in).1 in
      λ same. simple i j d below j_in (sym a ∙ same ∙ b)

-- the names of the way back are those of a cycle of the edges that there are
pub names_cycle : (slots : List (Option Node)) (first : Edge) (new : Arc) (path : List ℕ) (edges : List Edge) → All (HasNode slots) path
    → edges ≡ first ∷ map (λ k. name_in (slice_index_or slots k None)) path
    → CycleBeginsWith (arcs_of slots ++ new ∷ []) (length (arcs_of slots)) (length (arcs_of slots) ∷ path)
    → NamesCycle (names_of slots) (kept_arcs slots) first new edges
names_cycle slots first new path edges there is c =
    let old = arcs_of slots ++ new ∷ [] in
    let now = kept_arcs slots ++ new ∷ [] in
    let f = number slots in
    let last : length (arcs_of slots) ≡ length slots = arcs_len slots in
    let goes : All (λ k. (f k < length now) × (arc_at now (f k) ≡ arc_at old k)) (length (arcs_of slots) ∷ path) =
    All-cons (λ k. (f k < length now) × (arc_at now (f k) ≡ arc_at old k)) (length (arcs_of slots)) path (arc_key slots new (length (arcs_of slots)) (inr last))
    (λ i d inside. arc_key slots new (get_or path i d) (inl (there i d inside))) in
    let cycle = length (arcs_of slots) ∷ path in
    let head : f (length (arcs_of slots)) ≡ length (kept_arcs slots) = ap f last ∙ number_all slots in
    let n = c.negative in (
      map f cycle,
      record {
        negative = record {
          start = n.start;
          chain = chain_goes old now f n.start n.start cycle goes n.chain;
          simple = simple_goes old now f cycle goes n.simple;
          below = subst (λ z. z <ℤ pos 0) (sym (weight_goes old now f cycle goes)) n.below;
        };
        rest = map f path;
        first_is = ap (λ (k : ℕ). k ∷ map f path) head;
      },
      is
          ∙ (ap (λ (e : Edge). e ∷ map (λ k. name_in (slice_index_or slots k None)) path) (sym (ap (λ k. name_at (names_of slots ++ first ∷ []) (f k)) last ∙ name_new slots first))
          ∙ ap (λ (es : List Edge). name_at (names_of slots ++ first ∷ []) (f (length (arcs_of slots))) ∷ es) (names_path slots first path there)),
    )

some_there : (o : Option Node) (n : Node) → o ≡ Some n → IsSome o
some_there None n e = absurd (none-some n e)
some_there (Some m) n e = search rules

pub has_key : (slots : List (Option Node)) (k : ℕ) → HasNode slots k → IsSome (slice_index_or slots k None)
has_key slots k n = some_there (slice_index_or slots k None) n.0 n.1

pub take_all : (ks : List ℕ) → take (length ks) ks ≡ ks
take_all [] = refl
take_all (k ∷ ks) = ap (λ (js : List ℕ). k ∷ js) (take_all ks)
