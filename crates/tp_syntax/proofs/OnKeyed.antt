-- Items by their kinds.
use Rattle.std.proofs.Common.{◌≡◌, ℕ, List, [], ◌∷◌, map, Bool, true, false, not, ◌&&◌, ◌||◌, ◌==◌, if◌then◌else◌, Option, Some, None, option_map, Result, Ok, Err, Vec, Global, refl, ap, sym, ◌∙◌, subst}
use Rattle.std.specs.List.{list_any}
use Rattle.std.specs.Option.{is_some, unwrap_or}
use Rattle.std.proofs.lemmas.Simd.{map-map}
use Rattle.tp_text.specs.Shapes.{Shape, leaf, node, Shapes, no_shapes, shape}
use Rattle.tp_text.specs.Trees.{shape_of}
use Rattle.tp_text.specs.declared.tree.Tree.{Tree}
use Rattle.tp_syntax_ast.specs.Gives.{◌>>=◌, provided, Fails, Gives}
use Rattle.tp_syntax_ast.specs.Terms.{shapes}
use Rattle.tp_syntax_ast.specs.declared.fault.SyntaxFault.{SyntaxFault}
use Rattle.tp_syntax.specs.KeyedParts.{SectionItem, with_kind, part_seen, part_of, parts_of, first, or_nothing, each_once}
use Rattle.tp_syntax.specs.declared.keyed.Keyed.{Keyed}
use Rattle.tp_syntax_ast.proofs.Loops.{IsEach}
use Rattle.tp_syntax_ast.proofs.OnGives.{fails_map}

-- ---- what of an item is looked at: not the whole body, but what it is seen as

seen_if : {B V : Type 0} (seen : B → V) (b : Bool) (found : B) (more : Option B) (rest : Option V) → option_map seen more ≡ rest → option_map seen (if b then Some found else more) ≡ (if b then Some (seen found) else rest)
seen_if seen true found more rest is = refl
seen_if seen false found more rest is = is

seen_too : {B V : Type 0} (seen : B → V) (o : Option B) → is_some (option_map seen o) ≡ is_some o
seen_too seen None = refl
seen_too seen (Some b) = refl

seen_body : {K B V : Type 0} (seen : B → V) (o : Option (Keyed K B)) → option_map (λ p. seen p.body) o ≡ option_map seen (option_map (λ p. p.body) o)
seen_body seen None = refl
seen_body seen (Some p) = refl

module _ {K B V P : Type 0} (seen : B → V) (view : Keyed K B → P) (number : K → ℕ) (first_of : K → List P → Option V) (none : (k : K) → first_of k [] ≡ None) (more : (k : K) (p : Keyed K B) (vs : List P) → first_of k (view p ∷ vs) ≡ (if number p.kind == number k then Some (seen p.body) else first_of k vs)) where
  first_seen : (k : K) (ps : List (Keyed K B)) → option_map seen (first number k (map with_kind ps)) ≡ first_of k (map view ps)
  first_seen k [] = sym (none k)
  first_seen k (p ∷ ps) = seen_if seen (number p.kind == number k) p.body _ _ (first_seen k ps) ∙ sym (more k p (map view ps))

  -- what is found is the first of a grammar's own
  pub found : (k : K) (ps : List (Keyed K B)) (o : Option (Keyed K B)) → option_map (λ p. p.body) o ≡ first number k (map with_kind ps) → option_map (λ p. seen p.body) o ≡ first_of k (map view ps)
  found k ps o is = seen_body seen o ∙ ap (option_map seen) is ∙ first_seen k ps

  -- what stands once does so by a grammar's own
  pub once_seen : (may_repeat : K → Bool) (once : List P → Bool) → once [] ≡ true → ((p : Keyed K B) (vs : List P) → once (view p ∷ vs) ≡ ((may_repeat p.kind || not (is_some (first_of p.kind vs))) && once vs)) → (ps : List (Keyed K B)) → each_once number may_repeat (map with_kind ps) ≡ once (map view ps)
  once_seen may_repeat once at_end step [] = sym at_end
  once_seen may_repeat once at_end step (p ∷ ps) =
      ap (λ b. (may_repeat p.kind || not b) && each_once number may_repeat (map with_kind ps)) (sym (seen_too seen (first number p.kind (map with_kind ps))) ∙ ap is_some (first_seen p.kind ps))
      ∙ ap (λ b. (may_repeat p.kind || not (is_some (first_of p.kind (map view ps)))) && b) (once_seen may_repeat once at_end step ps)
      ∙ sym (step p (map view ps))

-- ---- sections

pub or_else : {K : Type 0} (o : Option (SectionItem K)) (missing : SectionItem K) → shapes missing.body.now ≡ no_shapes → shapes (unwrap_or o missing).body.now ≡ or_nothing (option_map (λ p. shapes p.body.now) o)
or_else None missing is = is
or_else (Some p) missing is = refl

module _ {K : Type 0} (number : K → ℕ) where
  pub part_found : (k : K) (ps : List (SectionItem K)) (o : Option (SectionItem K)) → option_map (λ p. p.body) o ≡ first number k (map with_kind ps) → option_map (λ p. shapes p.body.now) o ≡ first number k (map part_seen ps)
  part_found = found (λ b. shapes b.now) part_seen number (first number) (λ k. refl) (λ k p vs. refl)

  pub parts_once : (may_repeat : K → Bool) (ps : List (SectionItem K)) → each_once number may_repeat (map part_seen ps) ≡ each_once number may_repeat (map with_kind ps)
  parts_once may_repeat ps = sym (once_seen (λ b. shapes b.now) part_seen number (first number) (λ k. refl) (λ k p vs. refl) may_repeat (each_once number may_repeat) refl (λ p vs. refl) ps)

module _ {K : Type 0} (kind_of : List ℕ → Option K) where
  pub each_part : IsEach (λ (t : Tree). part_of kind_of (shape_of t)) (λ ts. parts_of kind_of (shapes ts))
  unfolding parts_of
  each_part = record { none = refl; more = λ x xs. refl }

  pub at_word : (w : List ℕ) → part_of kind_of (leaf w) ≡ None
  unfolding part_of
  at_word w = refl

  pub at_nothing : part_of kind_of (node no_shapes) ≡ None
  unfolding part_of
  at_nothing = refl

  pub at_list : (ss rest : Shapes) → part_of kind_of (node (shape (node ss) rest)) ≡ None
  unfolding part_of
  at_list ss rest = refl

  pub at_kind : (w : List ℕ) (body : Shapes) (o : Option K) → o ≡ kind_of w → part_of kind_of (node (shape (leaf w) body)) ≡ option_map (λ k. (k, body)) o
  unfolding part_of
  at_kind w body o is = ap (option_map (λ k. (k, body))) (sym is)

-- ---- as a grammar has them

module _ {K P : Type 0} (made : K × Shapes → P) where
  joined : (o : Option (K × Shapes)) (rest : Option (List (K × Shapes))) → (option_map made o >>= λ p. option_map (λ ps. p ∷ ps) (option_map (map made) rest)) ≡ option_map (map made) (o >>= λ p. option_map (λ ps. p ∷ ps) rest)
  joined None rest = refl
  joined (Some p) None = refl
  joined (Some p) (Some ps) = refl

  -- a grammar that reads them one after another
  pub all_same : (kind_of : List ℕ → Option K) (all : Shapes → Option (List P)) → all no_shapes ≡ Some [] → ((s : Shape) (ss : Shapes) → all (shape s ss) ≡ (option_map made (part_of kind_of s) >>= λ p. option_map (λ ps. p ∷ ps) (all ss))) → (ss : Shapes) → all ss ≡ option_map (map made) (parts_of kind_of ss)
  unfolding parts_of
  all_same kind_of all none more no_shapes = none
  all_same kind_of all none more (shape s ss) =
      more s ss
      ∙ ap (λ (rest : Option (List P)). option_map made (part_of kind_of s) >>= λ p. option_map (λ ps. p ∷ ps) rest) (all_same kind_of all none more ss)
      ∙ joined (part_of kind_of s) (parts_of kind_of ss)

  kept_if : (b : Bool) (ps : List (K × Shapes)) → provided b (map made ps) ≡ option_map (map made) (provided b ps)
  kept_if true ps = refl
  kept_if false ps = refl

  pub kept : (once : List P → Bool) (once_too : List (K × Shapes) → Bool) → ((ps : List (K × Shapes)) → once (map made ps) ≡ once_too ps) → (o : Option (List (K × Shapes))) → (option_map (map made) o >>= λ ps. provided (once ps) ps) ≡ option_map (map made) (o >>= λ ps. provided (once_too ps) ps)
  kept once once_too same None = refl
  kept once once_too same (Some ps) = ap (λ b. provided b (map made ps)) (same ps) ∙ kept_if (once_too ps) ps

  any_if : (b : Bool) (found : Shapes) (any : Bool) (rest : Option Shapes) → any ≡ is_some rest → (b || any) ≡ is_some (if b then Some found else rest)
  any_if true found any rest is = refl
  any_if false found any rest is = is

  pub any_first : (number : K → ℕ) (k : K) (test : P → Bool) → ((p : K × Shapes) → test (made p) ≡ (number p.0 == number k)) → (ps : List (K × Shapes)) → list_any test (map made ps) ≡ is_some (first number k ps)
  any_first number k test same [] = refl
  any_first number k test same (p ∷ ps) =
      ap (λ b. b || list_any test (map made ps)) (same p)
      ∙ any_if (number p.0 == number k) p.1 _ (first number k ps) (any_first number k test same ps)

  pub gives_made : (r : Result (Vec (SectionItem K) Global) SyntaxFault) (o : Option (List (K × Shapes))) (all : Option (List P)) → all ≡ option_map (map made) o → Gives (λ v. map part_seen v.items) r o → Gives (λ v. map (λ p. made (part_seen p)) v.items) r all
  gives_made (Ok v) o all same is = same ∙ ap (option_map (map made)) is ∙ ap Some (map-map made part_seen v.items)
  gives_made (Err e) o all same is = subst (λ a. Fails e a) (sym same) (fails_map (map made) e o is)

pub first_if : (b : Bool) (found rest : Shapes) (more : Option Shapes) → rest ≡ or_nothing more → (if b then found else rest) ≡ or_nothing (if b then Some found else more)
first_if true found rest more is = refl
first_if false found rest more is = is
