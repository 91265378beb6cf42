-- The lines of a whole journal break the format nowhere.
use Rattle.std.proofs.Common.{◌≡◌, ◌≢◌, inl, inr, ℕ, ◌<◌, ◌≤◌, true, false, List, [], ◌∷◌, ◌++◌, length, Option, Some, None, refl, ap, sym, subst, ◌∙◌, arith, append_assoc, append-nil}
use Rattle.std.specs.List.{All}
use Rattle.std.specs.Option.{option_and_then}
use Rattle.std.proofs.lemmas.List.Elements.{All-nil, All-head, All-tail}
use Rattle.tp_exec_machine.specs.Machine.{Machine}
use Rattle.tp_script.specs.Reading.{Free}
use Rattle.tp_journal_pairs.specs.Journal.{Entry, IsHead, Runs, head_of, journal_lines, text_of, longest_line}
use Rattle.tp_journal.specs.declared.form.Place.{Place}
use Rattle.tp_journal.specs.declared.form.Place.TheVariants.{Start}
use Rattle.tp_journal.specs.Form.{next_place, place_after, may_end}
use Rattle.tp_journal.specs.Auditing.{Breaks, BreaksAt}
use Rattle.tp_journal.specs.Laws.{IsWithin}
use Rattle.tp_journal.proofs.LineLemmas.{one_line, no_end}
use Rattle.tp_journal.proofs.HeadForms.{after_more, journal_read}
use Rattle.tp_journal.proofs.CleanTexts.{journal_free}
use Rattle.tp_journal.proofs.LineSizes.{journal_short}

-- ---- bytes are lines in one way

line_then_rest : (b : List ℕ) (bs : List (List ℕ)) (left : List ℕ) → text_of (b ∷ bs) ++ left ≡ b ++ 10 ∷ (text_of bs ++ left)
line_then_rest b bs left = append_assoc (b ++ 10 ∷ []) (text_of bs) left ∙ append_assoc b (10 ∷ []) (text_of bs ++ left)

pub first_line : (b : List ℕ) (bs : List (List ℕ)) → text_of (b ∷ bs) ≡ b ++ 10 ∷ text_of bs
first_line b bs = append_assoc b (10 ∷ []) (text_of bs)

pub nothing_free : Free []
nothing_free = All-nil (λ b. b ≢ 10)

-- the first of the lines, and the text of the others
pub record IsFront (before lines : List (List ℕ)) (left : List ℕ) : Type 0 where
  pub rest : List (List ℕ)
  pub lines_are : lines ≡ before ++ rest
  pub left_is : left ≡ text_of rest

pub lines_split : (before lines : List (List ℕ)) (left : List ℕ) → All Free before → All Free lines → text_of lines ≡ text_of before ++ left → IsFront before lines left
lines_split [] lines left p q is = record { rest = lines; lines_are = refl; left_is = sym is }
lines_split (b ∷ bs) [] left p q is = absurd (no_end [] b (text_of bs ++ left) nothing_free (is ∙ line_then_rest b bs left))
lines_split (b ∷ bs) (l ∷ ls) left p q is =
    let one = one_line l b (text_of ls) (text_of bs ++ left) (All-head Free l ls q) (All-head Free b bs p) (sym (first_line l ls) ∙ (is ∙ line_then_rest b bs left)) in
    let r = lines_split bs ls left (All-tail Free b bs p) (All-tail Free l ls q) one.1 in
    record { rest = r.rest; lines_are = ap (λ x. x ∷ ls) one.0 ∙ ap (λ t. b ∷ t) r.lines_are; left_is = r.left_is }

pub no_lines : (lines : List (List ℕ)) → [] ≡ text_of lines → lines ≡ []
no_lines [] is = refl
no_lines (l ∷ ls) is = absurd (no_end [] l (text_of ls) nothing_free (is ∙ first_line l ls))

pub same_lines : (xs ys : List (List ℕ)) → All Free xs → All Free ys → text_of xs ≡ text_of ys → xs ≡ ys
same_lines xs ys p q is =
    let s = lines_split ys xs [] q p (is ∙ sym (append-nil (text_of ys))) in
    s.lines_are ∙ (ap (λ t. ys ++ t) (no_lines s.rest s.left_is) ∙ append-nil ys)

-- ---- no line of a whole journal breaks the format

stays : (o : Option Place) (q : Place) (f : Place → Option Place) → option_and_then f o ≡ Some q → o ≡ None → ⊥
stays None q f is none = let g : ⊥ = cc in g
stays (Some p) q f is none = let g : ⊥ = cc in g

unbroken : (p q : Place) (lines : List (List ℕ)) → All Free lines → All (λ line. length line ≤ longest_line) lines → place_after p lines ≡ Some q → may_end q ≡ true → Breaks p (text_of lines) → ⊥
unbroken p q [] free short reached ends (inl over) =
    let same : p ≡ q = cc in
    let f : true ≡ false = sym ends ∙ (ap may_end (sym same) ∙ over.1) in
    let g : ⊥ = cc in g
unbroken p q [] free short reached ends (inr (inl torn)) = torn.0 refl
unbroken p q [] free short reached ends (inr (inr b)) = no_end [] b.0 b.1 nothing_free b.2
unbroken p q (l ∷ ls) free short reached ends (inl over) = no_end [] l (text_of ls) nothing_free (sym over.0 ∙ first_line l ls)
unbroken p q (l ∷ ls) free short reached ends (inr (inl torn)) =
    let long : longest_line < length l = torn.1 l (text_of ls) (first_line l ls) (All-head Free l ls free) in
    let fits : length l ≤ longest_line = All-head (λ line. length line ≤ longest_line) l ls short in
    let f : ⊥ = omega (arith, long, fits) in f
unbroken p q (l ∷ ls) free short reached ends (inr (inr b)) =
    let one = one_line l b.0 (text_of ls) b.1 (All-head Free l ls free) b.3 (sym (first_line l ls) ∙ b.2) in
    stays (next_place p l) q (λ n. place_after n ls) reached (ap (next_place p) one.0 ∙ b.4)

pub goes_behind : (p q : Place) (before lines rest : List (List ℕ)) → lines ≡ before ++ rest → place_after Start before ≡ Some p → place_after Start lines ≡ Some q → place_after p rest ≡ Some q
goes_behind p q before lines rest is reached whole =
    sym (after_more Start before rest ∙ ap (option_and_then (λ x. place_after x rest)) reached) ∙ (ap (place_after Start) (sym is) ∙ whole)

pub all_behind : {X : Type 0} (P : X → Type 0) (before lines rest : List X) → lines ≡ before ++ rest → All P lines → All P rest
all_behind P [] lines rest is all = subst (All P) is all
all_behind P (b ∷ bs) [] rest is all = absurd (let f : ⊥ = cc in f)
all_behind P (b ∷ bs) (l ∷ ls) rest is all = let tail : ls ≡ bs ++ rest = cc in all_behind P bs ls rest tail (All-tail P l ls all)

pub never_breaks : (old new : Machine) (entries : List Entry) (n : ℕ) → IsWithin old → IsHead (head_of 2 old) → Runs 2 old entries new → BreaksAt (text_of (journal_lines 2 old entries)) n → ⊥
never_breaks old new entries n within is runs b =
    let short = journal_short 2 old new entries within is runs in
    let free = journal_free 2 old new entries within is runs in
    let read = journal_read 2 old new entries within is runs in
    let s = lines_split b.before (journal_lines 2 old entries) b.left b.free free b.bytes_are in
    unbroken b.place read.0 s.rest
    (all_behind Free b.before (journal_lines 2 old entries) s.rest s.lines_are free)
    (all_behind (λ line. length line ≤ longest_line) b.before (journal_lines 2 old entries) s.rest s.lines_are short)
    (goes_behind b.place read.0 b.before (journal_lines 2 old entries) s.rest s.lines_are b.reached read.1)
    read.2
    (subst (Breaks b.place) s.left_is b.breaks)
