-- What the lines of a head tell, one after another.
use Rattle.std.proofs.Common.{◌≡◌, inl, inr, ℕ, zero, suc, ◌+◌, ◌<◌, List, [], ◌∷◌, ◌++◌, length, take, Option, Some, None, refl, ap, sym, subst, ◌∙◌, append_assoc, append-nil, length-append, arith}
use Rattle.std.specs.Prelude.{◌⊎◌, true, false, is_some, Result, Ok, Err, IfSome}
use Rattle.std.specs.Io.KnownBytes.{IsAtEnd}
use Rattle.std.specs.Option.{option_map, option_and_then, option_to_list}
use Rattle.std.proofs.lemmas.List.{length_push}
use Rattle.tp_script.specs.Pending.{Reading}
use Rattle.tp_script.proofs.LineLemmas.{consumes_more}
use Rattle.tp_journal_pairs.specs.Journal.{text_of, longest_line}
use Rattle.tp_journal.specs.declared.form.Place.{Place}
use Rattle.tp_journal.specs.declared.form.Place.TheVariants.{Start, Network, Kind, Own, Lag, Question, Reply}
use Rattle.tp_journal.specs.declared.faults.AuditFault.{AuditFault}
use Rattle.tp_journal.specs.declared.faults.AuditFault.TheVariants.{Memory, Read, Line, Wrong, Head}
use Rattle.tp_journal.specs.declared.faults.JournalHead.{JournalHead}
use Rattle.tp_journal.specs.declared.telling.Told.{Told}
use Rattle.tp_journal.specs.declared.telling.Step.{Step}
use Rattle.tp_journal.specs.declared.telling.Step.TheVariants.{On, Done}
use Rattle.tp_journal.specs.Form.{version_of, is_of_pair, head_place, next_place, place_after, may_end}
use Rattle.tp_journal.specs.Auditing.{TakesOne, TakesOpen, Ends, IsTorn, IsLong, IsCut, IsBehind, BreaksAt, BreaksLine, head_version, NoNext, TakesVersion}
use Rattle.tp_journal.specs.Telling.{nothing_told, tell, new_lag, told_or, told_after, lags_or, lags_after, is_in_head, EndsTold, EndsNot, MatchesPart, MatchesAny, BreaksIn, CutsIn, TurnsAny, IsHeadTold, TellsHead, BreaksHead, StaysInHead}
use Rattle.tp_journal.proofs.LineLemmas.{if_some, long_breaks, no_line, open_left}
use Rattle.tp_journal.proofs.Places.{keeps}
use Rattle.tp_journal.proofs.Heads.{behind_none, behind_more, place_more, start_next, known}

-- ---- where a head ends

-- the first byte of a line tells it, whatever follows
pair_some : (line left : List ℕ) → 0 < length line → is_of_pair (line ++ left) ≡ is_of_pair line
pair_some [] left some = absurd (let f : ⊥ = omega arith in f)
pair_some (b ∷ bs) left some = refl

pair_more : (line left : List ℕ) → is_of_pair line ≡ true → is_of_pair (line ++ left) ≡ true
pair_more [] left is = let no : false ≡ true = is in absurd (let f : ⊥ = cc in f)
pair_more (b ∷ bs) left is = is

some_fit : 0 < longest_line
some_fit = let lt : 0 < 16_384 = omega arith in lt

pair_shown : (n : ℕ) (line : List ℕ) → 0 < n → is_of_pair (take n line) ≡ is_of_pair line
pair_shown zero line some = absurd (let f : ⊥ = omega arith in f)
pair_shown (suc n) [] some = refl
pair_shown (suc n) (b ∷ bs) some = refl

pair_line : (line left : List ℕ) → is_of_pair ((line ++ 10 ∷ []) ++ left) ≡ is_of_pair line
pair_line [] left = refl
pair_line (b ∷ bs) left = refl

named : (o : Option ℕ) → is_some o ≡ true → (version : ℕ) × (o ≡ Some version)
named None is = absurd (let f : ⊥ = cc in f)
named (Some v) is = (v, refl)

in_head : (place : Place) → is_some (head_version place) ≡ true → is_in_head place ≡ true
in_head Start is = absurd (let f : ⊥ = cc in f)
in_head (Network v) is = refl
in_head (Kind v n) is = refl
in_head (Own v n id k) is = refl
in_head (Lag v n least) is = refl
in_head (Question v) is = absurd (let f : ⊥ = cc in f)
in_head (Reply v) is = absurd (let f : ⊥ = cc in f)

pub keeps_name : (place next : Place) (line : List ℕ) → is_some (head_version place) ≡ true → head_place place line ≡ Some next → head_version next ≡ head_version place
keeps_name place next line is goes = let n = named (head_version place) is in keeps place n.0 line next n.1 goes

not_by : (place : Place) (line left : List ℕ) → is_some (head_version place) ≡ true → is_of_pair left ≡ is_of_pair line → (may_end place ≡ false) ⊎ (is_of_pair line ≡ false) → EndsNot place left
not_by place line left names same h = (in_head place names, elim h [ inl early ↦ inl early | inr other ↦ inr (same ∙ other) ])

-- a whole line
whole_of : (place : Place) (number : ℕ) (old new : Reading) (r : Result Step AuditFault) → is_some (head_version place) ≡ true → TakesOne old new new.line → MatchesAny place new.line number r → TurnsAny place number old new r
whole_of place number old new (Ok (On next)) names took m = (took, m.0, m.1)
whole_of place number old new (Ok Done) names took m =
    known (EndsTold place) old.rest new.rest (new.line ++ 10 ∷ []) took.took (λ left is. (m.0, inr (pair_line new.line left ∙ m.1)))
whole_of place number old new (Err Memory) names took m = absurd m
whole_of place number old new (Err Read) names took m = absurd m
whole_of place number old new (Err (Line n)) names took m = (
  m.1.0,
  inl (known (BreaksIn place) old.rest new.rest (new.line ++ 10 ∷ []) took.took (λ left is. (inr (inr (new.line, left, append_assoc new.line (10 ∷ []) left, took.free, m.0)), not_by place new.line ((new.line ++ 10 ∷ []) ++ left) names (pair_line new.line left) m.1.1))),
)
whole_of place number old new (Err (Wrong n)) names took m = absurd m
whole_of place number old new (Err Head) names took m = absurd m

pub step_of : (place : Place) (line : List ℕ) (number : ℕ) (old new : Reading) (r : Result Step AuditFault) → is_some (head_version place) ≡ true → line ≡ new.line → TakesOne old new new.line → MatchesAny place line number r → TurnsAny place number old new r
step_of place line number old new r names is took m = whole_of place number old new r names took (subst (λ l. MatchesAny place l number r) is m)

-- the last bytes, without an end
open_of : (place : Place) (number : ℕ) (old new : Reading) (r : Result Step AuditFault) → is_some (head_version place) ≡ true → TakesOpen old new new.line → MatchesPart place new.line number r → TurnsAny place number old new r
open_of place number old new (Ok (On next)) names took m = absurd m
open_of place number old new (Ok Done) names took m = open_left (EndsTold place) old new new.line took (m.0, inr m.1)
open_of place number old new (Err Memory) names took m = absurd m
open_of place number old new (Err Read) names took m = absurd m
open_of place number old new (Err (Line n)) names took m = (
  m.0,
  inl (open_left (BreaksIn place) old new new.line took (inr (inl (no_line new.line took.free took.some)), not_by place new.line new.line names refl m.1)),
)
open_of place number old new (Err (Wrong n)) names took m = absurd m
open_of place number old new (Err Head) names took m = absurd m

pub part_of : (place : Place) (line : List ℕ) (number : ℕ) (old new : Reading) (r : Result Step AuditFault) → is_some (head_version place) ≡ true → line ≡ new.line → TakesOpen old new new.line → MatchesPart place line number r → TurnsAny place number old new r
part_of place line number old new r names is took m = open_of place number old new r names took (subst (λ l. MatchesPart place l number r) is m)

-- a line of too many bytes
long_pair : (shown left : List ℕ) → IsLong shown left → is_of_pair left ≡ is_of_pair shown
long_pair shown left h =
    ap is_of_pair h.2 ∙ (pair_some h.0 h.1 (omega (arith, h.4)) ∙ sym (ap is_of_pair h.5 ∙ pair_shown longest_line h.0 some_fit))

long_of : (place : Place) (number : ℕ) (old new : Reading) (r : Result Step AuditFault) → is_some (head_version place) ≡ true → IfSome old.rest (IsLong new.line) → MatchesPart place new.line number r → TurnsAny place number old new r
long_of place number old new (Ok (On next)) names long m = absurd m
long_of place number old new (Ok Done) names long m = if_some (IsLong new.line) (EndsTold place) old.rest (λ left is. (m.0, inr (long_pair new.line left is ∙ m.1))) long
long_of place number old new (Err Memory) names long m = absurd m
long_of place number old new (Err Read) names long m = absurd m
long_of place number old new (Err (Line n)) names long m = (
  m.0,
  inl (if_some (IsLong new.line) (BreaksIn place) old.rest (λ left is. (inr (inl (long_breaks new.line left is)), not_by place new.line left names (long_pair new.line left is) m.1)) long),
)
long_of place number old new (Err (Wrong n)) names long m = absurd m
long_of place number old new (Err Head) names long m = absurd m

pub shown_of : (place : Place) (line : List ℕ) (number : ℕ) (old new : Reading) (r : Result Step AuditFault) → is_some (head_version place) ≡ true → line ≡ new.line → IfSome old.rest (IsLong new.line) → MatchesPart place line number r → TurnsAny place number old new r
shown_of place line number old new r names is long m = long_of place number old new r names long (subst (λ l. MatchesPart place l number r) is m)

-- part of a line, where no more may be taken
cut_of : (place : Place) (line : List ℕ) (number : ℕ) (old new : Reading) (r : Result Step AuditFault) → is_some (head_version place) ≡ true → (cut : IsCut old new) → is_of_pair cut.0.text ≡ is_of_pair line → MatchesPart place line number r → TurnsAny place number old new r
cut_of place line number old new (Ok (On next)) names cut same m = absurd m
cut_of place line number old new (Ok Done) names cut same m =
    known (EndsTold place) old.rest new.rest cut.0.text cut.0.took (λ left is. (m.0, inr (pair_more cut.0.text left (same ∙ m.1))))
cut_of place line number old new (Err Memory) names cut same m = absurd m
cut_of place line number old new (Err Read) names cut same m = absurd m
cut_of place line number old new (Err (Line n)) names cut same m = (m.0, inr (cut, not_by place line cut.0.text names same m.1))
cut_of place line number old new (Err (Wrong n)) names cut same m = absurd m
cut_of place line number old new (Err Head) names cut same m = absurd m

pub cut_at : (place : Place) (line : List ℕ) (number : ℕ) (old new : Reading) (r : Result Step AuditFault) → is_some (head_version place) ≡ true → line ≡ new.line → (cut : IsCut old new) → new.line ≡ take longest_line cut.0.text → MatchesPart place line number r → TurnsAny place number old new r
cut_at place line number old new r names is cut shown m =
    cut_of place line number old new r names cut (sym (ap is_of_pair (is ∙ shown) ∙ pair_shown longest_line cut.0.text some_fit)) m

-- nothing
over_at : (P : List ℕ → Type 0) (old new : Reading) → Ends old new → P [] → IfSome old.rest P
over_at P old new e h = known P old.rest new.rest [] e.took (λ left is. subst P (sym (is_nil new.rest left is e.over)) h)
  where
    is_nil : (c : Option (List ℕ)) (left : List ℕ) → c ≡ Some left → IsAtEnd c → left ≡ []
    is_nil None left is over = absurd (let f : ⊥ = cc in f)
    is_nil (Some xs) left is over = let same : xs ≡ left = cc in sym same ∙ over

-- ---- what is told

told_by : (o : Option Place) (f g : Place → Told) (t u : Told) (r : Place) → o ≡ Some r → f r ≡ u → told_or (option_map f o) t ≡ u
told_by None f g t u r is h = absurd (let x : ⊥ = cc in x)
told_by (Some n) f g t u r is h = let same : n ≡ r = cc in ap f same ∙ h

pub told_push : (p q r : Place) (t : Told) (seen : List (List ℕ)) (line : List ℕ) → place_after p seen ≡ Some q → next_place q line ≡ Some r → told_after p t (seen ++ line ∷ []) ≡ tell q line (told_after p t seen)
told_push p q r t [] line is next =
    let same : p ≡ q = cc in
    told_by (next_place p line) (λ n. tell p line t) (λ n. tell p line t) t (tell q line t) r (ap (λ x. next_place x line) same ∙ next) (ap (λ x. tell x line t) same)
told_push p q r t (l ∷ ls) line is next = by_next (next_place p l) (λ n h. told_push n q r (tell p l t) ls line h next) is
  where
    by_next : (o : Option Place) → ((n : Place) → place_after n ls ≡ Some q → told_after n (tell p l t) (ls ++ line ∷ []) ≡ tell q line (told_after n (tell p l t) ls)) → option_and_then (λ n. place_after n ls) o ≡ Some q → told_or (option_map (λ n. told_after n (tell p l t) (ls ++ line ∷ [])) o) t ≡ tell q line (told_or (option_map (λ n. told_after n (tell p l t) ls) o) t)
    by_next None h none = absurd (let x : ⊥ = cc in x)
    by_next (Some n) h some = h n some

lags_by : (o : Option Place) (r : Place) → o ≡ Some r → lags_or (option_map (λ n. []) o) ≡ []
lags_by None r is = refl
lags_by (Some n) r is = refl

pub lags_push : (p q r : Place) (seen : List (List ℕ)) (line : List ℕ) → place_after p seen ≡ Some q → next_place q line ≡ Some r → lags_after p (seen ++ line ∷ []) ≡ lags_after p seen ++ option_to_list (new_lag q line)
lags_push p q r [] line is next =
    let same : p ≡ q = cc in
    ap (λ ls. option_to_list (new_lag p line) ++ ls) (lags_by (next_place p line) r (ap (λ x. next_place x line) same ∙ next))
    ∙ (append-nil (option_to_list (new_lag p line)) ∙ ap (λ x. option_to_list (new_lag x line)) same)
lags_push p q r (l ∷ ls) line is next =
    ap (λ t. option_to_list (new_lag p l) ++ t) (by_next (next_place p l) (λ n h. lags_push n q r ls line h next) is)
    ∙ sym (append_assoc (option_to_list (new_lag p l)) (lags_or (option_map (λ n. lags_after n ls) (next_place p l))) (option_to_list (new_lag q line)))
  where
    by_next : (o : Option Place) → ((n : Place) → place_after n ls ≡ Some q → lags_after n (ls ++ line ∷ []) ≡ lags_after n ls ++ option_to_list (new_lag q line)) → option_and_then (λ n. place_after n ls) o ≡ Some q → lags_or (option_map (λ n. lags_after n (ls ++ line ∷ [])) o) ≡ lags_or (option_map (λ n. lags_after n ls) o) ++ option_to_list (new_lag q line)
    by_next None h none = absurd (let x : ⊥ = cc in x)
    by_next (Some n) h some = h n some

-- ---- a head, as far as it was read

pub record ToldSoFar (start now : Reading) (version count : ℕ) (place : Place) (told : Told) (lags : List (ℕ × ℕ)) : Type 0 where
  pub first : List ℕ
  pub more : List (List ℕ)
  pub behind : IsBehind start now (first ∷ more)
  pub first_is : version_of first ≡ Some version
  pub reached : place_after (Network version) more ≡ Some place
  pub names : head_version place ≡ Some version
  pub counted : count ≡ length more + 1
  pub told_is : told_after (Network version) nothing_told more ≡ told
  pub lags_are : lags_after (Network version) more ≡ lags

pub told_first : (start mid : Reading) (v : ℕ) → TakesVersion start mid (Ok v) → ToldSoFar start mid v 1 (Network v) nothing_told []
told_first start mid v taken =
    record {
      first = taken.0;
      more = [];
      behind = behind_more start start mid [] taken.0 (behind_none start) taken.1;
      first_is = taken.2;
      reached = refl;
      names = refl;
      counted = refl;
      told_is = refl;
      lags_are = refl;
    }

whole_place : (first : List ℕ) (more : List (List ℕ)) (version : ℕ) (place : Place) → version_of first ≡ Some version → place_after (Network version) more ≡ Some place → place_after Start (first ∷ more) ≡ Some place
whole_place first more version place is reached = ap (option_and_then (λ n. place_after n more)) (start_next first version is) ∙ reached

pub told_more : (start mid new : Reading) (version count : ℕ) (place next : Place) (told after : Told) (lags with : List (ℕ × ℕ)) (line : List ℕ) → ToldSoFar start mid version count place told lags → TakesOne mid new line → next_place place line ≡ Some next → head_version next ≡ Some version → after ≡ tell place line told → with ≡ lags ++ option_to_list (new_lag place line) → ToldSoFar start new version (count + 1) next after with
told_more start mid new version count place next told after lags with line h t is names tells adds =
    record {
      first = h.first;
      more = h.more ++ line ∷ [];
      behind = behind_more start mid new (h.first ∷ h.more) line h.behind t;
      first_is = h.first_is;
      reached = place_more (Network version) place next h.more line h.reached is;
      names = names;
      counted = omega (arith, h.counted, length_push h.more line);
      told_is = told_push (Network version) place next nothing_told h.more line h.reached is ∙ (ap (tell place line) h.told_is ∙ sym tells);
      lags_are = lags_push (Network version) place next h.more line h.reached is ∙ (ap (λ ls. ls ++ option_to_list (new_lag place line)) h.lags_are ∙ sym adds);
    }

done_as : (start mid new : Reading) (head : JournalHead) (count : ℕ) (place : Place) → ToldSoFar start mid head.version count place (record { events = head.events; horizon = head.horizon; own = head.own }) head.lags.items → IfSome mid.rest (EndsTold place) → TellsHead start new (Ok head)
done_as start mid new head count place h ends =
    known (λ bytes. IsHeadTold bytes head) start.rest mid.rest (text_of (h.first ∷ h.more)) h.behind.took
    (λ left is. record {
      first = h.first;
      more = h.more;
      left = left;
      place = place;
      reached = whole_place h.first h.more head.version place h.first_is h.reached;
      free = h.behind.free;
      short = h.behind.short;
      bytes_are = refl;
      names = h.names;
      ends = subst (λ o. IfSome o (EndsTold place)) is ends;
      version = h.first_is;
      told = h.told_is;
      lags = h.lags_are;
    })

pub told_done : (start mid new : Reading) (head : JournalHead) (version count : ℕ) (place : Place) (told : Told) (lags : List (ℕ × ℕ)) → ToldSoFar start mid version count place told lags → TurnsAny place (count + 1) mid new (Ok Done) → head.version ≡ version → told ≡ record { events = head.events; horizon = head.horizon; own = head.own } → head.lags.items ≡ lags → TellsHead start new (Ok head)
told_done start mid new head version count place told lags h turn named tells keeps =
    done_as start mid new head count place
    (subst (λ ls. ToldSoFar start mid head.version count place (record { events = head.events; horizon = head.horizon; own = head.own }) ls) (sym keeps)
    (subst (λ t. ToldSoFar start mid head.version count place t lags) tells (subst (λ v. ToldSoFar start mid v count place told lags) (sym named) h)))
    turn

pub told_is_head : (head : JournalHead) (told : Told) → head.events ≡ told.events → head.horizon ≡ told.horizon → head.own ≡ told.own → told ≡ record { events = head.events; horizon = head.horizon; own = head.own }
told_is_head head told a b c =
    let f : ℕ → ℕ → Option ℕ → Told = λ e h o. record { events = e; horizon = h; own = o } in
    ap (λ e. f e told.horizon told.own) (sym a) ∙ (ap (λ h. f head.events h told.own) (sym b) ∙ ap (λ o. f head.events head.horizon o) (sym c))

-- ---- a head that is broken

-- line n was wanted behind lines of a head, and breaks it
breaks_head : (start mid new : Reading) (seen : List (List ℕ)) (place : Place) (count n : ℕ) → IsBehind start mid seen → place_after Start seen ≡ Some place → count ≡ length seen → (n ≡ count + 1) × (IfSome mid.rest (BreaksIn place) ⊎ CutsIn place mid new) → BreaksHead start new n
breaks_head start mid new seen place count n b reached counted h =
    elim h.1 [
      | inl broken ↦
          inl (known (λ bytes. (broken : BreaksAt bytes n) × EndsNot broken.place broken.left) start.rest mid.rest (text_of seen) b.took
          (λ left is. (let p = subst (λ o. IfSome o (BreaksIn place)) is broken in (record { before = seen; left = left; place = place; reached = reached; free = b.free; short = b.short; bytes_are = refl; number = h.0 ∙ ap (λ k. k + 1) counted; breaks = p.0 }, p.1))))
      | inr cut ↦
          inr (
            record {
              before = seen;
              part = cut.0.0.text;
              place = place;
              reached = reached;
              free = b.free;
              free_part = cut.0.0.free;
              took = consumes_more start.rest mid.rest new.rest (text_of seen) cut.0.0.text b.took cut.0.0.took;
              number = h.0 ∙ ap (λ k. k + 1) counted;
              more = cut.0.1;
              counted = omega (arith, b.counted, cut.0.0.counted, length-append (text_of seen) cut.0.0.text);
              all = cut.0.2;
            },
            cut.1,
          )
    ]

told_breaks : (start mid new : Reading) (version count n : ℕ) (place : Place) (told : Told) (lags : List (ℕ × ℕ)) → ToldSoFar start mid version count place told lags → TurnsAny place (count + 1) mid new (Err (Line n)) → BreaksHead start new n
told_breaks start mid new version count n place told lags h turn =
    breaks_head start mid new (h.first ∷ h.more) place count n h.behind (whole_place h.first h.more version place h.first_is h.reached) (omega (arith, h.counted)) turn

pub stays_in : (start mid new : Reading) (version count : ℕ) (place : Place) (told : Told) (lags : List (ℕ × ℕ)) (fault : AuditFault) → ToldSoFar start mid version count place told lags → TurnsAny place (count + 1) mid new (Err fault) → StaysInHead start new fault
stays_in start mid new version count place told lags Memory h turn = tt
stays_in start mid new version count place told lags Read h turn = tt
stays_in start mid new version count place told lags (Line n) h turn = told_breaks start mid new version count n place told lags h turn
stays_in start mid new version count place told lags (Wrong n) h turn = absurd turn
stays_in start mid new version count place told lags Head h turn = absurd turn

any_break : (start new : Reading) (n : ℕ) → BreaksHead start new n → BreaksLine start new n
any_break start new n (inl h) =
    inl (if_some (λ bytes. (broken : BreaksAt bytes n) × EndsNot broken.place broken.left) (λ bytes. BreaksAt bytes n) start.rest (λ bytes b. b.0) h)
any_break start new n (inr h) = inr h.0

pub stays_told : (start new : Reading) (fault : AuditFault) → StaysInHead start new fault → TellsHead start new (Err fault)
stays_told start new Memory h = tt
stays_told start new Read h = tt
stays_told start new (Line n) h = any_break start new n h
stays_told start new (Wrong n) h = absurd h
stays_told start new Head h = absurd h

-- line 1
first_breaks : (start new : Reading) (n : ℕ) → NoNext Start start new 1 n → BreaksHead start new n
first_breaks start new n h = breaks_head start start new [] Start 0 n (behind_none start) refl refl (
  h.0,
  elim h.1 [
    | inl cut ↦ elim cut [ inl torn ↦ inl (if_some IsTorn (BreaksIn Start) start.rest (λ left t. (inr (inl t), first left)) torn) | inr c ↦ inr (c, first c.0.text) ]
    | inr stop ↦ elim stop [
      | inl over ↦ inl (over_at (BreaksIn Start) start new over.0 (inl (refl, refl), first []))
      | inr line ↦ inl (known (BreaksIn Start) start.rest new.rest (line.0 ++ 10 ∷ []) line.1.took (λ left is. (inr (inr (line.0, left, append_assoc line.0 (10 ∷ []) left, line.1.free, line.2)), first ((line.0 ++ 10 ∷ []) ++ left))))
    ]
  ],
)
  where
    first : (left : List ℕ) → EndsNot Start left
    first left = (refl, inl refl)

pub version_stays : (start mid : Reading) (fault : AuditFault) → TakesVersion start mid (Err fault) → StaysInHead start mid fault
version_stays start mid Memory h = tt
version_stays start mid Read h = tt
version_stays start mid (Line n) h = first_breaks start mid n h
version_stays start mid (Wrong n) h = absurd h
version_stays start mid Head h = absurd h
