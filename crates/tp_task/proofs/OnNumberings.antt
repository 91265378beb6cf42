-- Numberings as names and labels are added.
use Rattle.std.proofs.Common.{◌≡◌, ℕ, zero, suc, ◌+◌, ◌<◌, ◌≤◌, Bool, true, false, cond, List, [], ◌∷◌, ◌++◌, map, length, get_or, slice_get, Some, None, option_map, Result, Ok, Err, OnOk, OnErr, refl, sym, ap, subst, ◌∙◌, arith, length-append}
use Rattle.std.proofs.lemmas.List.{map-append, length-map}
use Rattle.std.proofs.lemmas.Option.{slice_get-map}
use Rattle.std.specs.List.{AllByRecursion, IsDistinct, position_from}
use Rattle.std.specs.Str.{bytes_eq}
use Rattle.tp_task.specs.Words.{Words, with_words}
use Rattle.tp_task.specs.Labels.{named, with_label, Grows, AreNamed, IsNumbering}
use Rattle.tp_task.specs.Tables.{words_at, IsFull, CannotNumber}
use Rattle.tp_task.specs.declared.fault.GroundFault.{GroundFault}
use Rattle.tp_task.specs.declared.fault.GroundFault.TheVariants as faults
use Rattle.tp_task.specs.declared.fault.TooManyKind.TheVariants as kinds
use Rattle.tp_task.proofs.OnLabels.{all_named_grow, all_still_named, adds_words, with_label_named, all_named_label}

pub on_err : {T E P : Type 0} (r : Result T E) → P → OnErr r P
on_err (Ok x) p = tt
on_err (Err e) p = p

longer : (N M : List (List ℕ)) → Grows N M → length N ≤ length M
longer N M g = let e : length M ≡ length (N ++ g.0) = ap length g.1 in omega (arith, length-append N g.0)

-- labels keep their words
pub keep : (N M labels : List (List ℕ)) (known : List Words) → Grows N M → AllByRecursion (AreNamed (length N)) labels → map (named N) labels ≡ known → map (named M) labels ≡ known
keep N M labels known g h is = ap (λ ns. map (named ns) labels) g.1 ∙ all_named_grow N g.0 labels h ∙ is

pub grown : (N M a f s : List (List ℕ)) (most : ℕ) → IsNumbering N a f s most → Grows N M → IsDistinct bytes_eq M → IsNumbering M a f s most
grown N M a f s most n g d = record {
  distinct = d;
  atoms_named = all_still_named (length N) (length M) a (longer N M g) n.atoms_named;
  fluents_named = all_still_named (length N) (length M) f (longer N M g) n.fluents_named;
  actions_named = all_still_named (length N) (length M) s (longer N M g) n.actions_named;
  few_atoms = n.few_atoms;
  few_fluents = n.few_fluents;
}

pub more_atoms : (N a f s : List (List ℕ)) (most : ℕ) (l : List ℕ) → IsNumbering N a f s most → AreNamed (length N) l → length (with_label a l) ≤ most → IsNumbering N (with_label a l) f s most
more_atoms N a f s most l n h le = record { distinct = n.distinct; atoms_named = with_label_named (length N) a l n.atoms_named h; fluents_named = n.fluents_named; actions_named = n.actions_named; few_atoms = le; few_fluents = n.few_fluents }

pub more_fluents : (N a f s : List (List ℕ)) (most : ℕ) (l : List ℕ) → IsNumbering N a f s most → AreNamed (length N) l → length (with_label f l) ≤ most → IsNumbering N a (with_label f l) s most
more_fluents N a f s most l n h le = record { distinct = n.distinct; atoms_named = n.atoms_named; fluents_named = with_label_named (length N) f l n.fluents_named h; actions_named = n.actions_named; few_atoms = n.few_atoms; few_fluents = le }

pub more_actions : (N a f s t : List (List ℕ)) (most : ℕ) (l : List ℕ) → IsNumbering N a f s most → AreNamed (length N) l → t ≡ s ++ l ∷ [] → IsNumbering N a f t most
more_actions N a f s t most l n h e = record { distinct = n.distinct; atoms_named = n.atoms_named; fluents_named = n.fluents_named; actions_named = subst (AllByRecursion (AreNamed (length N))) (sym e) (all_named_label (length N) s l n.actions_named h); few_atoms = n.few_atoms; few_fluents = n.few_fluents }

pub same_actions : (N a f s t : List (List ℕ)) (most : ℕ) → IsNumbering N a f s most → t ≡ s → IsNumbering N a f t most
same_actions N a f s t most n e = subst (λ x. IsNumbering N a f x most) (sym e) n

pub empty_numbering : (N a f s : List (List ℕ)) (most : ℕ) → N ≡ [] → a ≡ [] → f ≡ [] → s ≡ [] → IsNumbering N a f s most
unfolding IsDistinct
empty_numbering N a f s most n x y z =
    let none : IsNumbering [] [] [] [] most = record { distinct = tt; atoms_named = tt; fluents_named = tt; actions_named = tt; few_atoms = omega arith; few_fluents = omega arith } in
    subst (λ t. IsNumbering t a f s most) (sym n) (subst (λ t. IsNumbering [] t f s most) (sym x) (subst (λ t. IsNumbering [] [] t s most) (sym y) (subst (λ t. IsNumbering [] [] [] t most) (sym z) none)))

module _ (N M : List (List ℕ)) (l : List ℕ) (words : Words) (g : Grows N M) (d : IsDistinct bytes_eq M) (in_range : AreNamed (length M) l) (is : named M l ≡ words) where
  module _ (A : List (List ℕ)) (known : List Words) (h : AllByRecursion (AreNamed (length N)) A) (known_is : map (named N) A ≡ known) where
    label_adds : map (named M) (with_label A l) ≡ with_words known words
    label_adds =
        sym (adds_words M d l A in_range (all_still_named (length N) (length M) A (longer N M g) h))
        ∙ ap (λ k. with_words k (named M l)) (keep N M A known g h known_is)
        ∙ ap (with_words known) is

    pub added_words : (B : List (List ℕ)) → B ≡ with_label A l → map (named M) B ≡ with_words known words
    added_words B e = ap (map (named M)) e ∙ label_adds

    longer_words : length (with_words known words) ≡ length (with_label A l)
    longer_words = sym (ap length label_adds) ∙ length-map (with_label A l) (named M)

    pub full_atoms : (most top : ℕ) (fluents : List Words) (e : GroundFault) → most ≡ top → IsFull kinds.Atoms most A l e → CannotNumber top (with_words known words) fluents e
    full_atoms most top fluents faults.Memory same full = tt
    full_atoms most top fluents (faults.TooMany kinds.Atoms) same full = let lt : most < length (with_label A l) = full.1 in omega (arith, longer_words)
    full_atoms most top fluents (faults.TooMany kinds.Fluents) same full = let e : kinds.Fluents ≡ kinds.Atoms = full.0 in cc
    full_atoms most top fluents (faults.TooMany kinds.Objects) same full = let e : kinds.Objects ≡ kinds.Atoms = full.0 in cc
    full_atoms most top fluents (faults.TooMany kinds.Actions) same full = let e : kinds.Actions ≡ kinds.Atoms = full.0 in cc
    full_atoms most top fluents faults.Range same full = full

    pub full_fluents : (most top : ℕ) (atoms : List Words) (e : GroundFault) → most ≡ top → IsFull kinds.Fluents most A l e → CannotNumber top atoms (with_words known words) e
    full_fluents most top atoms faults.Memory same full = tt
    full_fluents most top atoms (faults.TooMany kinds.Fluents) same full = let lt : most < length (with_label A l) = full.1 in omega (arith, longer_words)
    full_fluents most top atoms (faults.TooMany kinds.Atoms) same full = let e : kinds.Atoms ≡ kinds.Fluents = full.0 in cc
    full_fluents most top atoms (faults.TooMany kinds.Objects) same full = let e : kinds.Objects ≡ kinds.Fluents = full.0 in cc
    full_fluents most top atoms (faults.TooMany kinds.Actions) same full = let e : kinds.Actions ≡ kinds.Fluents = full.0 in cc
    full_fluents most top atoms faults.Range same full = full

  pub placed_words : (B : List (List ℕ)) (i : ℕ) → slice_get B i ≡ Some l → slice_get (map (named M) B) i ≡ Some words
  placed_words B i e = slice_get-map (named M) B i ∙ ap (option_map (named M)) e ∙ ap Some is

-- one more label, with its words
pub push_words : (N M A B : List (List ℕ)) (l : List ℕ) (known : List Words) (words : Words) → Grows N M → AllByRecursion (AreNamed (length N)) A → map (named N) A ≡ known → named M l ≡ words → B ≡ A ++ l ∷ [] → map (named M) B ≡ known ++ words ∷ []
push_words N M A B l known words g h known_is is e =
    ap (map (named M)) e ∙ map-append (named M) A (l ∷ [])
    ∙ ap (λ k. k ++ named M l ∷ []) (keep N M A known g h known_is)
    ∙ ap (λ w. known ++ w ∷ []) is

-- the words at a number, none past the end
pub words_named : (N labels : List (List ℕ)) (i : ℕ) → words_at (map (named N) labels) i ≡ named N (get_or labels i [])
words_named N [] i = refl
words_named N (l ∷ ls) zero = refl
words_named N (l ∷ ls) (suc i) = words_named N ls i

pub named_at : (n : ℕ) (labels : List (List ℕ)) (i : ℕ) → AllByRecursion (AreNamed n) labels → AreNamed n (get_or labels i [])
named_at n [] i h = tt
named_at n (l ∷ ls) zero h = h.0
named_at n (l ∷ ls) (suc i) h = named_at n ls i h.1

pub keep_same : (N M labels more : List (List ℕ)) (known : List Words) → Grows N M → AllByRecursion (AreNamed (length N)) labels → map (named N) labels ≡ known → more ≡ labels → map (named M) more ≡ known
keep_same N M labels more known g h is e = ap (map (named M)) e ∙ keep N M labels known g h is

-- after a try to place a label
pub placed_atoms : {T : Type 0} (r : Result T GroundFault) (N A B f s : List (List ℕ)) (most : ℕ) (l : List ℕ) → IsNumbering N A f s most → AreNamed (length N) l → OnOk r (B ≡ with_label A l) → OnErr r (B ≡ A) → length B ≤ most → IsNumbering N B f s most
placed_atoms (Ok x) N A B f s most l n h ok err le = subst (λ t. IsNumbering N t f s most) (sym ok) (more_atoms N A f s most l n h (subst (λ t. length t ≤ most) ok le))
placed_atoms (Err e) N A B f s most l n h ok err le = subst (λ t. IsNumbering N t f s most) (sym err) n

pub placed_fluents : {T : Type 0} (r : Result T GroundFault) (N a A B s : List (List ℕ)) (most : ℕ) (l : List ℕ) → IsNumbering N a A s most → AreNamed (length N) l → OnOk r (B ≡ with_label A l) → OnErr r (B ≡ A) → length B ≤ most → IsNumbering N a B s most
placed_fluents (Ok x) N a A B s most l n h ok err le = subst (λ t. IsNumbering N a t s most) (sym ok) (more_fluents N a A s most l n h (subst (λ t. length t ≤ most) ok le))
placed_fluents (Err e) N a A B s most l n h ok err le = subst (λ t. IsNumbering N a t s most) (sym err) n

pub at_map : {A : Type 0} (f : A → List ℕ) (xs : List A) (i : ℕ) (x : A) → i < length xs → x ≡ get_or xs i x → f x ≡ get_or (map f xs) i []
at_map f [] i x lt e = absurd (omega arith)
at_map f (y ∷ ys) zero x lt e = ap f e
at_map f (y ∷ ys) (suc i) x lt e = at_map f ys i x (omega arith) e

-- a place that is found is there
pub found_within : {A : Type 0} (p : A → Bool) (k : ℕ) (xs : List A) (i : ℕ) → position_from p k xs ≡ Some i → i < k + length xs
found_within p k [] i e = let never : None ≡ Some i = e in cc
found_within p k (x ∷ xs) i e = by (p x) e (λ h. found_within p (k + 1) xs i h)
  where
    by : (b : Bool) → cond b (Some k) (position_from p (k + 1) xs) ≡ Some i → (position_from p (k + 1) xs ≡ Some i → i < k + 1 + length xs) → i < k + length (x ∷ xs)
    by true h rest = let same : Some k ≡ Some i = h in let k_is : k ≡ i = cc in omega arith
    by false h rest = let later : i < k + 1 + length xs = rest h in omega arith
