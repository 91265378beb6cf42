-- The head of a journal is that of its own executive, and of no other.
use Rattle.std.proofs.Common.{◌≡◌, ◌≢◌, ◌⊎◌, inl, inr, ℕ, Bool, true, false, cond, List, [], ◌∷◌, ◌++◌, Option, Some, None, refl, ap, sym, subst, ◌∙◌, flat_map, append-nil}
use Rattle.std.specs.List.{All}
use Rattle.std.specs.Option.{option_map, option_and_then}
use Rattle.std.proofs.lemmas.List.Elements.{All-head}
use Rattle.tp_bounds.specs.Setting.{event_count}
use Rattle.tp_exec_machine.specs.Machine.{Machine}
use Rattle.tp_script.specs.Reading.{Free}
use Rattle.tp_journal_pairs.specs.Journal.{Entry, IsHead, Runs, head_of, head_lines, question_line, answer_line, pair_lines, journal_lines, text_of}
use Rattle.tp_journal.specs.declared.form.Asked.{Asked}
use Rattle.tp_journal.specs.declared.form.Place.{Place}
use Rattle.tp_journal.specs.declared.form.Place.TheVariants.{Start, Network, Kind, Own, Lag, Question, Reply}
use Rattle.tp_journal.specs.Form.{question_of, is_reply, is_of_pair, next_place, head_place, pair_place, place_after}
use Rattle.tp_journal.specs.Auditing.{head_version, EndsHead, HasOtherHead}
use Rattle.tp_journal.specs.Laws.{IsWithin}
use Rattle.tp_journal.proofs.LineLemmas.{one_line, no_end}
use Rattle.tp_journal.proofs.Places.{of_head, of_pair, head_keeps}
use Rattle.tp_journal.proofs.Pairs.{question_pair}
use Rattle.tp_journal.proofs.HeadForms.{head_read}
use Rattle.tp_journal.proofs.CleanTexts.{journal_free}
use Rattle.tp_journal.proofs.WholeLines.{nothing_free, first_line, lines_split, goes_behind, all_behind}
use Rattle.tp_journal.proofs.OneRuns.{heads_same}

-- ---- pairs lead to no place of a head

abbrev IsInPairs : Place → Type 0
IsInPairs Start = ⊥
IsInPairs (Network version) = ⊥
IsInPairs (Kind version events) = ⊥
IsInPairs (Own version events id count) = ⊥
IsInPairs (Lag version events least) = ⊥
IsInPairs (Question version) = Unit {0}
IsInPairs (Reply version) = Unit {0}

abbrev Stay : Option Place → Type 0
Stay None = Unit {0}
Stay (Some p) = IsInPairs p

replies_stay : (version : ℕ) (o : Option Asked) → Stay (option_map (λ asked. Reply version) o)
replies_stay version None = tt
replies_stay version (Some asked) = tt

question_stays : (version : ℕ) (b : Bool) (o : Option Asked) → Stay (cond b (option_map (λ asked. Reply version) o) None)
question_stays version true o = replies_stay version o
question_stays version false o = tt

reply_stays : (version : ℕ) (b c : Bool) → Stay (cond b (cond c (Some (Question version)) None) None)
reply_stays version true true = tt
reply_stays version true false = tt
reply_stays version false c = tt

next_stays : (p : Place) (line : List ℕ) → IsInPairs p → Stay (next_place p line)
next_stays Start line h = absurd h
next_stays (Network version) line h = absurd h
next_stays (Kind version events) line h = absurd h
next_stays (Own version events id count) line h = absurd h
next_stays (Lag version events least) line h = absurd h
next_stays (Question version) line h = question_stays version (is_of_pair line) (question_of version line)
next_stays (Reply version) line h = reply_stays version (is_of_pair line) (is_reply line)

pairs_stay : (p q : Place) (lines : List (List ℕ)) → IsInPairs p → place_after p lines ≡ Some q → IsInPairs q
pairs_stay p q [] h is = let same : p ≡ q = cc in subst IsInPairs same h
pairs_stay p q (l ∷ ls) h is = by_next (next_place p l) (next_stays p l h) (λ n s r. pairs_stay n q ls s r) is
  where
    by_next : (o : Option Place) → Stay o → ((n : Place) → IsInPairs n → place_after n ls ≡ Some q → IsInPairs q) → option_and_then (λ n. place_after n ls) o ≡ Some q → IsInPairs q
    by_next None s rest is = absurd (let f : ⊥ = cc in f)
    by_next (Some n) s rest is = rest n s is

not_in_pairs : (p : Place) (version : ℕ) → head_version p ≡ Some version → IsInPairs p → ⊥
not_in_pairs Start version names h = h
not_in_pairs (Network v) version names h = h
not_in_pairs (Kind v events) version names h = h
not_in_pairs (Own v events id count) version names h = h
not_in_pairs (Lag v events least) version names h = h
not_in_pairs (Question v) version names h = let f : ⊥ = cc in f
not_in_pairs (Reply v) version names h = let f : ⊥ = cc in f

-- the line of a pair leads out of a head
pair_leaves : (p : Place) (version : ℕ) (line : List ℕ) → head_version p ≡ Some version → Stay (pair_place p line)
pair_leaves Start version line names = tt
pair_leaves (Network v) version line names = tt
pair_leaves (Kind v events) version line names = tt
pair_leaves (Own v events id count) version line names = tt
pair_leaves (Lag v events least) version line names = replies_stay v (question_of v line)
pair_leaves (Question v) version line names = absurd (let f : ⊥ = cc in f)
pair_leaves (Reply v) version line names = absurd (let f : ⊥ = cc in f)

left_for_good : (p q : Place) (v w : ℕ) (line : List ℕ) (lines : List (List ℕ)) → head_version p ≡ Some v → head_version q ≡ Some w → is_of_pair line ≡ true → place_after p (line ∷ lines) ≡ Some q → ⊥
left_for_good p q v w line lines first last pair is = by_next (next_place p line) (subst Stay (sym (of_pair p line pair)) (pair_leaves p v line first)) is
  where
    by_next : (o : Option Place) → Stay o → option_and_then (λ n. place_after n lines) o ≡ Some q → ⊥
    by_next None s none = let f : ⊥ = cc in f
    by_next (Some n) s some = not_in_pairs q w last (pairs_stay n q lines s some)

-- ---- the lines of a head keep its version

keeps_version : (p q : Place) (v w : ℕ) (lines : List (List ℕ)) → head_version p ≡ Some v → head_version q ≡ Some w → place_after p lines ≡ Some q → v ≡ w
keeps_version p q v w [] first last is =
    let same : p ≡ q = cc in
    let both : Some v ≡ Some w = sym first ∙ (ap head_version same ∙ last) in
    let f : v ≡ w = cc in f
keeps_version p q v w (l ∷ ls) first last is = by_pair (is_of_pair l) refl (λ n names r. keeps_version n q v w ls names last r)
  where
    by_next : (o : Option Place) → head_place p l ≡ o → ((n : Place) → head_version n ≡ Some v → place_after n ls ≡ Some q → v ≡ w) → option_and_then (λ n. place_after n ls) o ≡ Some q → v ≡ w
    by_next None reads rest none = absurd (let f : ⊥ = cc in f)
    by_next (Some n) reads rest some = rest n (head_keeps p v l n first reads) some

    by_pair : (b : Bool) → is_of_pair l ≡ b → ((n : Place) → head_version n ≡ Some v → place_after n ls ≡ Some q → v ≡ w) → v ≡ w
    by_pair true pair rest = absurd (left_for_good p q v w l ls first last pair is)
    by_pair false pair rest =
        by_next (head_place p l) refl rest (ap (option_and_then (λ n. place_after n ls)) (sym (of_head p l pair)) ∙ is)

-- ---- two ways to part lines

pub splits : {X : Type 0} (a b c d : List X) → a ++ b ≡ c ++ d → ((e : List X) × (c ≡ a ++ e) × (b ≡ e ++ d)) ⊎ ((x : X) × (e : List X) × (a ≡ c ++ x ∷ e) × (d ≡ x ∷ (e ++ b)))
splits [] b c d is = inl (c, refl, is)
splits (x ∷ xs) b [] d is = inr (x, xs, refl, sym is)
splits (x ∷ xs) b (y ∷ ys) d is =
    let h = heads_same x y (xs ++ b) (ys ++ d) is in
    elim (splits xs b ys d h.1) [
      | inl r ↦ inl (r.0, ap (λ z. z ∷ ys) (sym h.0) ∙ ap (λ t. x ∷ t) r.1, r.2)
      | inr r ↦ inr (r.0, r.1, ap (λ z. z ∷ xs) h.0 ∙ ap (λ t. y ∷ t) r.2, r.3)
    ]

-- ---- the head of a whole journal

-- lines that are the head of the executive, and more behind them, end at no place of a head
past_head : (old : Machine) (least version : ℕ) (place : Place) (entries : List Entry) (before : List (List ℕ)) (line : List ℕ) (lines more : List (List ℕ)) → place_after Start (head_lines (head_of 2 old)) ≡ Some (Lag 2 (event_count old.setting) least) → place_after Start before ≡ Some place → head_version place ≡ Some version → before ≡ head_lines (head_of 2 old) ++ line ∷ lines → flat_map pair_lines entries ≡ line ∷ more → ⊥
past_head old least version place [] before line lines more head reached names is pairs = let f : ⊥ = cc in f
past_head old least version place (e ∷ es) before line lines more head reached names is pairs =
    let first : question_line e ≡ line = (heads_same (question_line e) line (answer_line e ∷ flat_map pair_lines es) more pairs).0 in
    left_for_good (Lag 2 (event_count old.setting) least) place 2 version line lines refl names (subst (λ l. is_of_pair l ≡ true) first (of_pair_is e))
    (goes_behind (Lag 2 (event_count old.setting) least) place (head_lines (head_of 2 old)) before (line ∷ lines) is head reached)
  where
    of_pair_is : (e : Entry) → is_of_pair (question_line e) ≡ true
    of_pair_is None = refl
    of_pair_is (Some p) = refl

-- where the lines so far are the first of a head, the head does not end before its last line
ends_whole : (place last : Place) (version v : ℕ) (left : List ℕ) (rest pairs : List (List ℕ)) → head_version place ≡ Some version → head_version last ≡ Some v → place_after place rest ≡ Some last → All Free (rest ++ pairs) → left ≡ text_of (rest ++ pairs) → EndsHead place version left → rest ≡ []
ends_whole place last version v left [] pairs names named reached free is ends = refl
ends_whole place last version v left (r ∷ rs) pairs names named reached free is ends =
    elim ends.1 [
      | inl none ↦ absurd (no_end [] r (text_of (rs ++ pairs)) nothing_free (sym none ∙ (is ∙ first_line r (rs ++ pairs))))
      | inr q ↦
          let one = one_line q.0 r q.1 (text_of (rs ++ pairs)) q.4 (All-head Free r (rs ++ pairs) free) (sym q.3 ∙ (is ∙ first_line r (rs ++ pairs))) in
          let pair : is_of_pair r ≡ true = subst (λ l. is_of_pair l ≡ true) one.0 (question_pair version q.0 q.2 q.5) in
          absurd (left_for_good place last version v r rs names named pair reached)
    ]

own_head : (old : Machine) (place : Place) (version least : ℕ) (before rest pairs : List (List ℕ)) (left : List ℕ) → IsHead (head_of 2 old) → place_after Start (head_lines (head_of 2 old)) ≡ Some (Lag 2 (event_count old.setting) least) → place_after Start before ≡ Some place → head_version place ≡ Some version → head_lines (head_of 2 old) ≡ before ++ rest → All Free (rest ++ pairs) → left ≡ text_of (rest ++ pairs) → ((more : List (List ℕ)) → IsHead (head_of version old) → before ++ more ≢ head_lines (head_of version old)) ⊎ (EndsHead place version left × (IsHead (head_of version old) → before ≢ head_lines (head_of version old))) → ⊥
own_head old place version least before rest pairs left is head reached names lines free text differs =
    let behind : place_after place rest ≡ Some (Lag 2 (event_count old.setting) least) = goes_behind place (Lag 2 (event_count old.setting) least) before (head_lines (head_of 2 old)) rest lines reached head in
    let two : version ≡ 2 = keeps_version place (Lag 2 (event_count old.setting) least) version 2 rest names refl behind in
    let allowed : IsHead (head_of version old) = subst (λ v. IsHead (head_of v old)) (sym two) is in
    let same : head_lines (head_of version old) ≡ before ++ rest = subst (λ v. head_lines (head_of v old) ≡ before ++ rest) (sym two) lines in
    elim differs [
      | inl d ↦ d rest allowed (sym same)
      | inr d ↦
          let none : rest ≡ [] = ends_whole place (Lag 2 (event_count old.setting) least) version 2 left rest pairs names refl behind free text d.0 in
          d.1 allowed (sym (same ∙ (ap (λ r. before ++ r) none ∙ append-nil before)))
    ]

pub never_other : (old new : Machine) (entries : List Entry) → IsWithin old → IsHead (head_of 2 old) → Runs 2 old entries new → HasOtherHead old (text_of (journal_lines 2 old entries)) → ⊥
never_other old new entries within is runs h =
    let free = journal_free 2 old new entries within is runs in
    let head = head_read (head_of 2 old) is in
    let s = lines_split h.before (journal_lines 2 old entries) h.left h.free free h.bytes_are in
    elim (splits h.before s.rest (head_lines (head_of 2 old)) (flat_map pair_lines entries) (sym s.lines_are)) [
      | inl i ↦
          own_head old h.place h.version head.0 h.before i.0 (flat_map pair_lines entries) h.left is head.1 h.reached h.names i.1
          (subst (All Free) i.2 (all_behind Free h.before (journal_lines 2 old entries) s.rest s.lines_are free)) (s.left_is ∙ ap text_of i.2) h.differs
      | inr o ↦ past_head old head.0 h.version h.place entries h.before o.0 o.1 (o.1 ++ s.rest) head.1 h.reached h.names o.2 o.3
    ]
