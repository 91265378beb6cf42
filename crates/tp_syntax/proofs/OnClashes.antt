-- What was said before, as sets keep it.
use Rattle.std.proofs.Common.{◌≡◌, ℕ, ◌+◌, ◌<◌, ◌≤◌, length, take, get_or, List, [], ◌∷◌, ◌++◌, map, Bool, true, false, ◌||◌, ◌&&◌, not, if◌then◌else◌, Bor, refl, sym, ap, ◌∙◌, subst, true≢false}
use lib.IntN.{ℤ}
use Rattle.std.specs.List.{list_any}
use Rattle.std.specs.Str.{bytes_eq}
use Rattle.std.proofs.lemmas.Bool.{and_parts}
use Rattle.std.proofs.lemmas.Bool.Decides.{same_from_decides}
use Rattle.std.proofs.lemmas.List.Folds.{list_any-append, list_any_more}
use Rattle.std.proofs.lemmas.Slice.Eq.{bytes_eq-Decides}
use Rattle.tp_syntax_ast.specs.Terms.{Argument, object, variable, Fact, atom_view}
use Rattle.tp_syntax_ast.specs.Problems.{Initial, holds, fails, has_value, same_argument, same_arguments, same_fact, clash, no_clash}
use Rattle.indexmap.specs.IndexSet.{insert_key}
use Rattle.tp_syntax.specs.Clashes.{any_atom, clashes}
use Rattle.tp_syntax.specs.declared.clash.Said.{Said}
use Rattle.tp_syntax_ast.specs.DomainViews.{initial_view}
use Rattle.tp_syntax_ast.specs.declared.problem.Initial.{Initial as Entry}
use Rattle.tp_syntax_ast.specs.declared.term.Atom.{Atom}
use Rattle.tp_syntax_types.proofs.OnPairs.{some_two, two_found, none_more, none_at_end}

-- ---- the same argument, the same fact

argument_same : (a b : Argument) → same_argument a b ≡ true → a ≡ b
argument_same (object n) (object m) h = ap object ((bytes_eq-Decides n m).0 h)
argument_same (object n) (variable m) h = absurd (true≢false (sym h))
argument_same (variable n) (object m) h = absurd (true≢false (sym h))
argument_same (variable n) (variable m) h = ap variable ((bytes_eq-Decides n m).0 h)

argument_self : (a : Argument) → same_argument a a ≡ true
argument_self (object n) = (bytes_eq-Decides n n).1 refl
argument_self (variable n) = (bytes_eq-Decides n n).1 refl

and_both : (a b : Bool) → a ≡ true → b ≡ true → (a && b) ≡ true
and_both a b h k = ap (λ (v : Bool). v && b) h ∙ k

arguments_same : (as_ bs : List Argument) → same_arguments as_ bs ≡ true → as_ ≡ bs
arguments_same [] [] h = refl
arguments_same [] (b ∷ bs) h = absurd (true≢false (sym h))
arguments_same (a ∷ as_) [] h = absurd (true≢false (sym h))
arguments_same (a ∷ as_) (b ∷ bs) h =
    let p = and_parts (same_argument a b) (same_arguments as_ bs) h in
    ap (λ (x : Argument). x ∷ as_) (argument_same a b p.0) ∙ ap (λ (xs : List Argument). b ∷ xs) (arguments_same as_ bs p.1)

arguments_self : (as_ : List Argument) → same_arguments as_ as_ ≡ true
arguments_self [] = refl
arguments_self (a ∷ as_) = and_both (same_argument a a) (same_arguments as_ as_) (argument_self a) (arguments_self as_)

pub fact_same : (f g : Fact) → same_fact f g ≡ true → f ≡ g
fact_same f g h =
    let p = and_parts (bytes_eq f.name g.name) (same_arguments f.arguments g.arguments) h in
    let n = (bytes_eq-Decides f.name g.name).0 p.0 in
    let a = arguments_same f.arguments g.arguments p.1 in
    λ i. record { name = n i; arguments = a i }

pub fact_self : (f : Fact) → same_fact f f ≡ true
fact_self f = and_both (bytes_eq f.name f.name) (same_arguments f.arguments f.arguments) ((bytes_eq-Decides f.name f.name).1 refl) (arguments_self f.arguments)

pub fact_turned : (f g : Fact) → same_fact f g ≡ same_fact g f
fact_turned f g =
    let there = λ (h : same_fact g f ≡ true). sym (fact_same g f h) in
    same_from_decides {P = f ≡ g} (same_fact f g) (same_fact g f)
    (fact_same f g, λ e. subst (λ (x : Fact). same_fact f x ≡ true) e (fact_self f))
    (there, λ e. subst (λ (x : Fact). same_fact x f ≡ true) e (fact_self f))

pub clash_turned : (i j : Initial) → clash i j ≡ clash j i
clash_turned (holds f) (holds g) = refl
clash_turned (holds f) (fails g) = fact_turned f g
clash_turned (holds f) (has_value g w) = refl
clash_turned (fails f) (holds g) = fact_turned f g
clash_turned (fails f) (fails g) = refl
clash_turned (fails f) (has_value g w) = refl
clash_turned (has_value f v) (holds g) = refl
clash_turned (has_value f v) (fails g) = refl
clash_turned (has_value f v) (has_value g w) = fact_turned f g

-- ---- sets of facts

or_false : (a : Bool) → (a || false) ≡ a
or_false true = refl
or_false false = refl

or_true : (a : Bool) → (a || true) ≡ true
or_true true = refl
or_true false = refl

or_cases : (a b : Bool) (P : Type 0) → (a || b) ≡ true → (a ≡ true → P) → (b ≡ true → P) → P
or_cases true b P h f g = f refl
or_cases false b P h f g = g h

has_same : (p : Fact → Bool) (ks : List (Bor Atom)) (f : Fact) → any_atom (same_fact f) ks ≡ true → p f ≡ true → any_atom p ks ≡ true
has_same p [] f h passes = absurd (true≢false (sym h))
has_same p (k ∷ ks) f h passes =
    or_cases (same_fact f (atom_view k.now)) (any_atom (same_fact f) ks) (any_atom p (k ∷ ks) ≡ true) h
    (λ e. ap (λ (v : Bool). v || any_atom p ks) (subst (λ (x : Fact). p x ≡ true) (fact_same f (atom_view k.now) e) passes))
    (λ e. ap (λ (v : Bool). p (atom_view k.now) || v) (has_same p ks f e passes) ∙ or_true (p (atom_view k.now)))

-- a set with one atom more
pub one_more : (p : Fact → Bool) (ks : List (Bor Atom)) (k : Bor Atom) → any_atom p (if any_atom (same_fact (atom_view k.now)) ks then ks else ks ++ k ∷ []) ≡ (any_atom p ks || p (atom_view k.now))
one_more p ks k = by (any_atom (same_fact (atom_view k.now)) ks) (p (atom_view k.now)) refl refl
  where
    by : (b c : Bool) → any_atom (same_fact (atom_view k.now)) ks ≡ b → p (atom_view k.now) ≡ c → any_atom p (if b then ks else ks ++ k ∷ []) ≡ (any_atom p ks || c)
    by false c h e = list_any-append (λ x. p (atom_view x.now)) ks (k ∷ []) ∙ ap (λ (v : Bool). any_atom p ks || v) (or_false (p (atom_view k.now)) ∙ e)
    by true true h e = has_same p ks (atom_view k.now) h e ∙ sym (or_true (any_atom p ks))
    by true false h e = sym (or_false (any_atom p ks))

module _ (eq : Bor Atom → Bor Atom → Bool) (is : (a b : Bor Atom) → eq a b ≡ same_fact (atom_view a.now) (atom_view b.now)) where
  pub seen_is : (k : Bor Atom) (ks : List (Bor Atom)) → list_any (eq k) ks ≡ any_atom (same_fact (atom_view k.now)) ks
  seen_is k [] = refl
  seen_is k (x ∷ xs) = ap (λ (v : Bool). v || list_any (eq k) xs) (is k x) ∙ ap (λ (v : Bool). same_fact (atom_view k.now) (atom_view x.now) || v) (seen_is k xs)

  pub one_put : (p : Fact → Bool) (ks new : List (Bor Atom)) (k : Bor Atom) → new ≡ insert_key eq ks k → any_atom p new ≡ (any_atom p ks || p (atom_view k.now))
  one_put p ks new k put =
      ap (any_atom p) (put ∙ ap (λ (v : Bool). if v then ks else ks ++ k ∷ []) (seen_is k ks)) ∙ one_more p ks k

  module _ (old new : Said) (k : Bor Atom) where
    pub held_put : new.held.keys ≡ insert_key eq old.held.keys k → new.failed.keys ≡ old.failed.keys → new.valued.keys ≡ old.valued.keys
        → (i : Initial) → clashes new i ≡ (clashes old i || clash i (holds (atom_view k.now)))
    held_put h f v (holds g) = ap (any_atom (same_fact g)) f ∙ sym (or_false (any_atom (same_fact g) old.failed.keys))
    held_put h f v (fails g) = one_put (same_fact g) old.held.keys new.held.keys k h
    held_put h f v (has_value g w) = ap (any_atom (same_fact g)) v ∙ sym (or_false (any_atom (same_fact g) old.valued.keys))

    pub failed_put : new.held.keys ≡ old.held.keys → new.failed.keys ≡ insert_key eq old.failed.keys k → new.valued.keys ≡ old.valued.keys
        → (i : Initial) → clashes new i ≡ (clashes old i || clash i (fails (atom_view k.now)))
    failed_put h f v (holds g) = one_put (same_fact g) old.failed.keys new.failed.keys k f
    failed_put h f v (fails g) = ap (any_atom (same_fact g)) h ∙ sym (or_false (any_atom (same_fact g) old.held.keys))
    failed_put h f v (has_value g w) = ap (any_atom (same_fact g)) v ∙ sym (or_false (any_atom (same_fact g) old.valued.keys))

    pub valued_put : (n : ℤ) → new.held.keys ≡ old.held.keys → new.failed.keys ≡ old.failed.keys → new.valued.keys ≡ insert_key eq old.valued.keys k
        → (i : Initial) → clashes new i ≡ (clashes old i || clash i (has_value (atom_view k.now) n))
    valued_put n h f v (holds g) = ap (any_atom (same_fact g)) f ∙ sym (or_false (any_atom (same_fact g) old.failed.keys))
    valued_put n h f v (fails g) = ap (any_atom (same_fact g)) h ∙ sym (or_false (any_atom (same_fact g) old.held.keys))
    valued_put n h f v (has_value g w) = one_put (same_fact g) old.valued.keys new.valued.keys k v

pub not_new : (v b : Bool) → v ≡ not b → not v ≡ b
not_new v true h = ap not h
not_new v false h = ap not h

abbrev pub entries_clash : Entry → Entry → Bool
entries_clash e f = clash (initial_view e) (initial_view f)

none_named : (i : Initial) (es : List Entry) → list_any (clash i) (map initial_view es) ≡ list_any (λ e. clash i (initial_view e)) es
none_named i [] = refl
none_named i (e ∷ es) = ap (λ (v : Bool). clash i (initial_view e) || v) (none_named i es)

neither : (a b : Bool) → (not a && not b) ≡ not (a || b)
neither true b = refl
neither false b = refl

no_clash_is : (es : List Entry) → no_clash (map initial_view es) ≡ not (some_two entries_clash es)
no_clash_is [] = refl
no_clash_is (e ∷ es) =
    ap (λ (v : Bool). not v && no_clash (map initial_view es)) (none_named (initial_view e) es)
    ∙ ap (λ (v : Bool). not (list_any (λ f. clash (initial_view e) (initial_view f)) es) && v) (no_clash_is es)
    ∙ neither (list_any (λ f. clash (initial_view e) (initial_view f)) es) (some_two entries_clash es)

twice_not : (v b : Bool) → v ≡ not b → b ≡ not v
twice_not v true h = ap not (sym h)
twice_not v false h = ap not (sym h)

-- the loop over the entries
module _ (es : List Entry) (said : Said) (i : ℕ) (x : Entry) (b : Bool) (lt : i < length es) (item : x ≡ get_or es i x) (told : b ≡ clashes said (initial_view x)) (noted : (j : Initial) → clashes said j ≡ list_any (λ e. clash j (initial_view e)) (take i es)) where
  behind : b ≡ list_any (entries_clash x) (take i es)
  behind = told ∙ noted (initial_view x)

  pub clash_found : b ≡ true → true ≡ not (no_clash (map initial_view es))
  clash_found h =
      sym (two_found entries_clash (λ e f. clash_turned (initial_view e) (initial_view f)) es i x x lt item (sym behind ∙ h))
      ∙ twice_not (no_clash (map initial_view es)) (some_two entries_clash es) (no_clash_is es)

  pub none_clashes : b ≡ false → some_two entries_clash (take i es) ≡ false → some_two entries_clash (take (i + 1) es) ≡ false
  none_clashes h so_far =
      none_more entries_clash (λ e f. clash_turned (initial_view e) (initial_view f)) es i x x lt item (sym behind ∙ h) so_far

  pub noted_more : (new : Said) → ((j : Initial) → clashes new j ≡ (clashes said j || clash j (initial_view x))) → (j : Initial) → clashes new j ≡ list_any (λ e. clash j (initial_view e)) (take (i + 1) es)
  noted_more new step j =
      step j ∙ ap (λ (v : Bool). v || clash j (initial_view x)) (noted j)
      ∙ ap (λ (e : Entry). list_any (λ f. clash j (initial_view f)) (take i es) || clash j (initial_view e)) item
      ∙ sym (list_any_more (λ e. clash j (initial_view e)) es i x lt)

pub all_agree : (es : List Entry) (i : ℕ) → length es ≤ i → some_two entries_clash (take i es) ≡ false → false ≡ not (no_clash (map initial_view es))
all_agree es i le h = sym (none_at_end entries_clash es i le h) ∙ twice_not (no_clash (map initial_view es)) (some_two entries_clash es) (no_clash_is es)
