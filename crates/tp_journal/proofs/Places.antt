-- What a line is that stands behind the lines of a head.
use Rattle.std.proofs.Common.{◌≡◌, ℕ, ◌+◌, ◌&&◌, Bool, true, false, cond, List, Option, Some, None, refl, ap, subst, ◌∙◌, codes}
use Rattle.std.specs.Prelude.{nat_lt, nat_eq}
use Rattle.std.specs.Option.{option_map, option_and_then}
use Rattle.std.specs.Str.{bytes_eq}
use Rattle.tp_journal.specs.declared.form.Place.{Place}
use Rattle.tp_journal.specs.declared.form.Place.TheVariants.{Start, Network, Kind, Own, Lag, Question, Reply}
use Rattle.tp_journal.specs.Form.{question_of, next_place, head_place, pair_place, own_place, lag_place, may_lag, own_count_of, network_of, is_own_line, lag_of, is_of_pair, may_end}
use Rattle.tp_journal.specs.Auditing.{head_version}

pub of_head : (place : Place) (line : List ℕ) → is_of_pair line ≡ false → next_place place line ≡ head_place place line
of_head place line is = ap (λ t. cond t (pair_place place line) (head_place place line)) is

pub of_pair : (place : Place) (line : List ℕ) → is_of_pair line ≡ true → next_place place line ≡ pair_place place line
of_pair place line is = ap (λ t. cond t (pair_place place line) (head_place place line)) is

pair_at_end : (place : Place) (version : ℕ) (line : List ℕ) → head_version place ≡ Some version → may_end place ≡ true → pair_place place line ≡ option_map (λ asked. Reply version) (question_of version line)
pair_at_end Start version line names end = absurd (let f : ⊥ = cc in f)
pair_at_end (Network v) version line names end = absurd (let f : ⊥ = cc in f)
pair_at_end (Kind v n) version line names end = absurd (let f : ⊥ = cc in f)
pair_at_end (Own v n id k) version line names end = absurd (let f : ⊥ = cc in f)
pair_at_end (Lag v n least) version line names end = let same : v ≡ version = cc in ap (λ x. option_map (λ asked. Reply x) (question_of x line)) same
pair_at_end (Question v) version line names end = absurd (let f : ⊥ = cc in f)
pair_at_end (Reply v) version line names end = absurd (let f : ⊥ = cc in f)

pub question_next : (place : Place) (version : ℕ) (line : List ℕ) → head_version place ≡ Some version → may_end place ≡ true → is_of_pair line ≡ true → next_place place line ≡ option_map (λ asked. Reply version) (question_of version line)
question_next place version line names end pair = of_pair place line pair ∙ pair_at_end place version line names end

-- ---- a head keeps its version

mapped : {X : Type 0} (f : X → Place) (o : Option X) (next : Place) (version : ℕ) → ((x : X) → head_version (f x) ≡ Some version) → option_map f o ≡ Some next → head_version next ≡ Some version
mapped f None next version h is = absurd (let g : ⊥ = cc in g)
mapped f (Some x) next version h is = let same : f x ≡ next = cc in subst (λ p. head_version p ≡ Some version) same (h x)

own_keeps : (version events id count : ℕ) → head_version (own_place version events id count) ≡ Some version
own_keeps version events id count = by_case (nat_lt id count)
  where
    by_case : (b : Bool) → head_version (cond b (Own version events id count) (Lag version events 0)) ≡ Some version
    by_case true = refl
    by_case false = refl

chosen : (b : Bool) (a next : Place) (o : Option Place) (version : ℕ) → head_version a ≡ Some version → (o ≡ Some next → head_version next ≡ Some version) → cond b (Some a) o ≡ Some next → head_version next ≡ Some version
chosen true a next o version first rest is = let same : a ≡ next = cc in subst (λ p. head_version p ≡ Some version) same first
chosen false a next o version first rest is = rest is

none_is : (next : Place) (version : ℕ) → None ≡ Some next → head_version next ≡ Some version
none_is next version is = absurd (let f : ⊥ = cc in f)

lags_keep : (version events least : ℕ) (o : Option (ℕ × ℕ)) (next : Place) → option_and_then (lag_place version events least) o ≡ Some next → head_version next ≡ Some version
lags_keep version events least None next is = absurd (let f : ⊥ = cc in f)
lags_keep version events least (Some p) next is =
    chosen (nat_eq version 2 && may_lag events least p) (Lag version events (p.0 + 1)) next None version refl (none_is next version) is

pub keeps : (place : Place) (version : ℕ) (line : List ℕ) (next : Place) → head_version place ≡ Some version → head_place place line ≡ Some next → head_version next ≡ head_version place
keeps Start version line next names is = absurd (let f : ⊥ = cc in f)
keeps (Network v) version line next names is = mapped (λ (p : ℕ × ℕ). Kind v p.0) (network_of line) next v (λ p. refl) is
keeps (Kind v n) version line next names is =
    chosen (bytes_eq line (codes "bare")) (Lag v n 0) next (option_map (own_place v n 0) (own_count_of line)) v refl (mapped (own_place v n 0) (own_count_of line) next v (own_keeps v n 0)) is
keeps (Own v n id k) version line next names is =
    chosen (nat_lt id k && is_own_line id line) (own_place v n (id + 1) k) next None v (own_keeps v n (id + 1) k) (none_is next v) is
keeps (Lag v n least) version line next names is = lags_keep v n least (lag_of line) next is
keeps (Question v) version line next names is = absurd (let f : ⊥ = cc in f)
keeps (Reply v) version line next names is = absurd (let f : ⊥ = cc in f)

pub head_keeps : (place : Place) (version : ℕ) (line : List ℕ) (next : Place) → head_version place ≡ Some version → head_place place line ≡ Some next → head_version next ≡ Some version
head_keeps place version line next names is = keeps place version line next names is ∙ names
