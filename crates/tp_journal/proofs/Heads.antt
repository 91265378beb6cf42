-- A head that is followed line by line.
use Rattle.std.proofs.Common.{◌≡◌, ◌≢◌, ◌⊎◌, inl, inr, ℕ, ◌+◌, ◌≤◌, Bool, true, false, cond, List, [], ◌∷◌, ◌++◌, length, drop, Option, Some, None, refl, ap, sym, subst, ◌∙◌, append_assoc, append-nil, length-append, arith, codes, decimal}
use Rattle.std.specs.Prelude.{Result, Ok, Err, IfSome}
use Rattle.std.specs.Option.{option_and_then}
use Rattle.std.specs.Str.{bytes_eq}
use Rattle.std.specs.Io.KnownBytes.{Consumes, IsAtEnd}
use Rattle.std.proofs.lemmas.Fmt.{decimal_digit}
use Rattle.std.proofs.lemmas.List.Elements.{All-push, All-nil}
use Rattle.std.proofs.lemmas.List.{length_push}
use Rattle.std.proofs.lemmas.Slice.Eq.{bytes_eq-Decides}
use Rattle.tp_exec_machine.specs.Machine.{Machine}
use Rattle.tp_script.specs.Pending.{Reading}
use Rattle.tp_script.specs.Reading.{Free}
use Rattle.tp_script.proofs.LineLemmas.{consumes_more, consumes_is}
use Rattle.tp_journal_pairs.specs.Journal.{IsHead, head_of, head_lines, text_of, longest_line}
use Rattle.tp_journal_pairs.proofs.WriteLemmas.{text_more}
use Rattle.tp_journal.specs.declared.form.Asked.{Asked}
use Rattle.tp_journal.specs.declared.form.Place.{Place}
use Rattle.tp_journal.specs.declared.form.Place.TheVariants.{Start, Network}
use Rattle.tp_journal.specs.declared.faults.AuditFault.{AuditFault}
use Rattle.tp_journal.specs.declared.faults.AuditFault.TheVariants.{Memory, Read, Line, Wrong, Head}
use Rattle.tp_journal.specs.declared.auditing.Turn.{Turn}
use Rattle.tp_journal.specs.declared.auditing.Turn.TheVariants.{Goes, Asks, Stops}
use Rattle.tp_journal.specs.Form.{version_of, next_place, place_after}
use Rattle.tp_journal.specs.Auditing.{TakesOne, Ends, IsTorn, IsBehind, Breaks, BreaksAt, BreaksLine, head_version, EndsHead, HasOtherHead, NoNext, TakesVersion, Matches, TurnsHead, HasHead, Heads}
use Rattle.tp_journal.proofs.LineLemmas.{cancel}

pub turn_of : (place : Place) (version : ℕ) (line head : List ℕ) (number : ℕ) (old new : Reading) (r : Result Turn AuditFault) → TakesOne old new line → Matches place version line head number r → TurnsHead place version head number old new r
turn_of place version line head number old new (Ok (Goes next count)) took m = (line, took, m)
turn_of place version line head number old new (Ok (Asks asked)) took m = (line, took, m)
turn_of place version line head number old new (Ok Stops) took m = absurd m
turn_of place version line head number old new (Err Memory) took m = tt
turn_of place version line head number old new (Err Read) took m = absurd m
turn_of place version line head number old new (Err (Line n)) took m = (m.0, inr (inr (line, took, m.1)))
turn_of place version line head number old new (Err (Wrong n)) took m = absurd m
turn_of place version line head number old new (Err Head) took m = inl (line, took, m)

-- ---- lines behind lines

pub behind_none : (r : Reading) → IsBehind r r []
behind_none r = record { took = none r.rest; free = All-nil Free; short = All-nil (λ line. length line ≤ longest_line); counted = omega arith }
  where
    none : (o : Option (List ℕ)) → Consumes o o []
    none None = tt
    none (Some xs) = refl

pub text_one : (seen : List (List ℕ)) (line : List ℕ) → text_of seen ++ (line ++ 10 ∷ []) ≡ text_of (seen ++ line ∷ [])
text_one seen line = ap (λ t. text_of seen ++ t) (sym (append-nil (line ++ 10 ∷ []))) ∙ sym (text_more seen (line ∷ []))

pub behind_more : (start mid new : Reading) (seen : List (List ℕ)) (line : List ℕ) → IsBehind start mid seen → TakesOne mid new line → IsBehind start new (seen ++ line ∷ [])
behind_more start mid new seen line b t =
    record {
      took = consumes_is start.rest new.rest (text_of seen ++ (line ++ 10 ∷ [])) (text_of (seen ++ line ∷ [])) (text_one seen line) (consumes_more start.rest mid.rest new.rest (text_of seen) (line ++ 10 ∷ []) b.took t.took);
      free = All-push Free seen line b.free t.free;
      short = All-push (λ l. length l ≤ longest_line) seen line b.short t.short;
      counted = omega (arith, b.counted, t.counted, ap length (text_one seen line), length-append (text_of seen) (line ++ 10 ∷ []), length-append line (10 ∷ []));
    }

pub place_more : (p q r : Place) (seen : List (List ℕ)) (line : List ℕ) → place_after p seen ≡ Some q → next_place q line ≡ Some r → place_after p (seen ++ line ∷ []) ≡ Some r
place_more p q r [] line is next =
    let same : p ≡ q = cc in ap (option_and_then (λ n. Some n)) (ap (λ x. next_place x line) same ∙ next)
place_more p q r (l ∷ ls) line is next = by_next (next_place p l) (λ n h. place_more n q r ls line h next) is
  where
    by_next : (o : Option Place) → ((n : Place) → place_after n ls ≡ Some q → place_after n (ls ++ line ∷ []) ≡ Some r) → option_and_then (λ n. place_after n ls) o ≡ Some q → option_and_then (λ n. place_after n (ls ++ line ∷ [])) o ≡ Some r
    by_next None h none = absurd (let f : ⊥ = cc in f)
    by_next (Some n) h some = h n some

-- ---- bytes that are told

pub known : (P : List ℕ → Type 0) (a b : Option (List ℕ)) (xs : List ℕ) → Consumes a b xs → ((left : List ℕ) → b ≡ Some left → P (xs ++ left)) → IfSome a P
known P None b xs took f = tt
known P (Some us) None xs took f = absurd took
known P (Some us) (Some vs) xs took f = subst P (sym took) (f vs refl)

pub took_line : (o c : Option (List ℕ)) (left line : List ℕ) → o ≡ Some left → Consumes o c (line ++ 10 ∷ []) → (more : List ℕ) × (left ≡ line ++ 10 ∷ more)
took_line None c left line is took = absurd (let f : ⊥ = cc in f)
took_line (Some xs) None left line is took = absurd took
took_line (Some xs) (Some ys) left line is took = (ys, let same : xs ≡ left = cc in sym same ∙ (took ∙ append_assoc line (10 ∷ []) ys))

pub took_none : (o c : Option (List ℕ)) (left : List ℕ) → o ≡ Some left → Consumes o c [] → IsAtEnd c → left ≡ []
took_none None c left is took over = absurd (let f : ⊥ = cc in f)
took_none (Some xs) None left is took over = absurd took
took_none (Some xs) (Some ys) left is took over = let same : xs ≡ left = cc in sym same ∙ (took ∙ over)

-- ---- a line that breaks the format

breaks_at : (start mid : Reading) (seen : List (List ℕ)) (place : Place) (number n : ℕ) (left : List ℕ) → IsBehind start mid seen → place_after Start seen ≡ Some place → number ≡ length seen + 1 → n ≡ number → Breaks place left → BreaksAt (text_of seen ++ left) n
breaks_at start mid seen place number n left b reached count is breaks =
    record { before = seen; left = left; place = place; reached = reached; free = b.free; short = b.short; bytes_are = refl; number = is ∙ count; breaks = breaks }

pub breaks_line : (start mid new : Reading) (seen : List (List ℕ)) (place : Place) (number n : ℕ) → IsBehind start mid seen → place_after Start seen ≡ Some place → number ≡ length seen + 1 → NoNext place mid new number n → BreaksLine start new n
breaks_line start mid new seen place number n b reached count h =
    elim h.1 [
      | inl cut ↦
          elim cut [
            | inl torn ↦
                inl (known (λ bytes. BreaksAt bytes n) start.rest mid.rest (text_of seen) b.took
                (λ left is. breaks_at start mid seen place number n left b reached count h.0 (inr (inl (subst (λ o. IfSome o IsTorn) is torn)))))
            | inr c ↦
                inr (record {
                  before = seen;
                  part = c.0.text;
                  place = place;
                  reached = reached;
                  free = b.free;
                  free_part = c.0.free;
                  took = consumes_more start.rest mid.rest new.rest (text_of seen) c.0.text b.took c.0.took;
                  number = h.0 ∙ count;
                  more = c.1;
                  counted = omega (arith, b.counted, c.0.counted, length-append (text_of seen) c.0.text);
                  all = c.2;
                })
          ]
      | inr stop ↦
          elim stop [
            | inl over ↦
                inl (known (λ bytes. BreaksAt bytes n) start.rest mid.rest (text_of seen) b.took
                (λ left is. breaks_at start mid seen place number n left b reached count h.0 (inl (took_none mid.rest new.rest left is over.0.took over.0.over, over.1))))
            | inr line ↦
                inl (known (λ bytes. BreaksAt bytes n) start.rest mid.rest (text_of seen) b.took
                (λ left is. (let m = took_line mid.rest new.rest left line.0 is line.1.took in breaks_at start mid seen place number n left b reached count h.0 (inr (inr (line.0, m.0, m.1, line.1.free, line.2))))))
          ]
    ]

-- ---- the head of the executive, as far as it was followed

pub record HeadSoFar (old : Machine) (start now : Reading) (version count : ℕ) (place : Place) (left : List ℕ) : Type 0 where
  pub seen : List (List ℕ)
  pub behind : IsBehind start now seen
  pub reached : place_after Start seen ≡ Some place
  pub names : head_version place ≡ Some version
  pub head : text_of (head_lines (head_of version old)) ≡ text_of seen ++ left
  pub counted : count ≡ length seen

pub head_more : (old : Machine) (start mid new : Reading) (version count : ℕ) (place next : Place) (left line rest : List ℕ) → HeadSoFar old start mid version count place left → TakesOne mid new line → next_place place line ≡ Some next → head_version next ≡ Some version → left ≡ line ++ 10 ∷ rest → HeadSoFar old start new version (count + 1) next rest
head_more old start mid new version count place next left line rest h t is names begins =
    record {
      seen = h.seen ++ line ∷ [];
      behind = behind_more start mid new h.seen line h.behind t;
      reached = place_more Start place next h.seen line h.reached is;
      names = names;
      head = h.head ∙ (ap (λ x. text_of h.seen ++ x) (begins ∙ sym (append_assoc line (10 ∷ []) rest)) ∙ (sym (append_assoc (text_of h.seen) (line ++ 10 ∷ []) rest) ∙ ap (λ x. x ++ rest) (text_one h.seen line)));
      counted = omega (arith, h.counted, length_push h.seen line);
    }

pub head_breaks : (old : Machine) (start mid new : Reading) (version count n : ℕ) (place : Place) (left : List ℕ) → HeadSoFar old start mid version count place left → NoNext place mid new (count + 1) n → BreaksLine start new n
head_breaks old start mid new version count n place left h stop =
    breaks_line start mid new h.seen place (count + 1) n h.behind h.reached (ap (λ k. k + 1) h.counted) stop

other_line : (old : Machine) (start mid new : Reading) (version count : ℕ) (place next : Place) (left line : List ℕ) → HeadSoFar old start mid version count place left → TakesOne mid new line → next_place place line ≡ Some next → head_version next ≡ Some version → ((more : List ℕ) → left ≢ line ++ 10 ∷ more) → IfSome start.rest (λ bytes. HasOtherHead old bytes)
other_line old start mid new version count place next left line h t is names differs =
    let b = behind_more start mid new h.seen line h.behind t in
    known (λ bytes. HasOtherHead old bytes) start.rest new.rest (text_of (h.seen ++ line ∷ [])) b.took
    (λ rest is_left. record {
      before = h.seen ++ line ∷ [];
      left = rest;
      version = version;
      place = next;
      reached = place_more Start place next h.seen line h.reached is;
      names = names;
      free = b.free;
      bytes_are = refl;
      differs = inl (λ more allowed same. (let whole : text_of h.seen ++ ((line ++ 10 ∷ []) ++ text_of more) ≡ text_of h.seen ++ left = sym (append_assoc (text_of h.seen) (line ++ 10 ∷ []) (text_of more)) ∙ (ap (λ x. x ++ text_of more) (text_one h.seen line) ∙ (sym (text_more (h.seen ++ line ∷ []) more) ∙ (ap text_of same ∙ h.head))) in differs (text_of more) (sym (cancel (text_of h.seen) ((line ++ 10 ∷ []) ++ text_of more) left whole) ∙ append_assoc line (10 ∷ []) (text_of more))));
    })

left_none : (old : Machine) (start mid : Reading) (version count : ℕ) (place : Place) (left : List ℕ) (h : HeadSoFar old start mid version count place left) → h.seen ≡ head_lines (head_of version old) → left ≡ []
left_none old start mid version count place left h same =
    let whole : text_of h.seen ++ [] ≡ text_of h.seen ++ left = append-nil (text_of h.seen) ∙ (ap text_of same ∙ h.head) in sym (cancel (text_of h.seen) [] left whole)

other_end : (old : Machine) (start mid new : Reading) (version count : ℕ) (place : Place) (left rest : List ℕ) → (h : HeadSoFar old start mid version count place left) → left ≢ [] → EndsHead place version rest → HasOtherHead old (text_of h.seen ++ rest)
other_end old start mid new version count place left rest h some ends =
    record {
      before = h.seen;
      left = rest;
      version = version;
      place = place;
      reached = h.reached;
      names = h.names;
      free = h.behind.free;
      bytes_are = refl;
      differs = inr (ends, λ allowed same. some (left_none old start mid version count place left h same));
    }

pub head_other : (old : Machine) (start mid new : Reading) (version count : ℕ) (place : Place) (left : List ℕ) → HeadSoFar old start mid version count place left → TurnsHead place version left (count + 1) mid new (Err Head) → IfSome start.rest (λ bytes. HasOtherHead old bytes)
head_other old start mid new version count place left h turn =
    elim turn [
      | inl t ↦
          elim t.2 [
            | inl o ↦ other_line old start mid new version count place o.0 left t.0 h t.1 o.1 o.2 o.3
            | inr q ↦
                known (λ bytes. HasOtherHead old bytes) start.rest mid.rest (text_of h.seen) h.behind.took
                (λ rest is. (let m = took_line mid.rest new.rest rest t.0 is t.1.took in other_end old start mid new version count place left rest h q.3 (q.2, inr (t.0, m.0, q.0, m.1, t.1.free, q.1))))
          ]
      | inr e ↦
          known (λ bytes. HasOtherHead old bytes) start.rest mid.rest (text_of h.seen) h.behind.took
          (λ rest is. other_end old start mid new version count place left rest h e.2 (e.1, inl (took_none mid.rest new.rest rest is e.0.took e.0.over)))
    ]

whole_head : (old : Machine) (start mid : Reading) (version count : ℕ) (place : Place) (left : List ℕ) (h : HeadSoFar old start mid version count place left) → left ≡ [] → text_of h.seen ≡ text_of (head_lines (head_of version old))
whole_head old start mid version count place left h none = sym (append-nil (text_of h.seen)) ∙ (ap (λ x. text_of h.seen ++ x) (sym none) ∙ sym h.head)

pub head_asks : (old : Machine) (start mid new : Reading) (version count : ℕ) (place : Place) (left : List ℕ) (asked : Asked) → IsHead (head_of version old) → HeadSoFar old start mid version count place left → TurnsHead place version left (count + 1) mid new (Ok (Asks asked)) → HasHead old start new (record { version = version; count = count + 1; asked = Some asked })
head_asks old start mid new version count place left asked allowed h turn =
    record {
      seen = h.seen;
      place = place;
      allowed = allowed;
      reached = h.reached;
      names = h.names;
      over = turn.2.2;
      head = whole_head old start mid version count place left h turn.2.3;
      ends = (turn.0, behind_more start mid new h.seen turn.0 h.behind turn.1, turn.2.1, ap (λ k. k + 1) h.counted);
    }

pub ends_behind : (start mid new : Reading) (seen : List (List ℕ)) → IsBehind start mid seen → Ends mid new → IsBehind start new seen
ends_behind start mid new seen b e =
    record { took = consumes_is start.rest new.rest (text_of seen ++ []) (text_of seen) (append-nil (text_of seen)) (consumes_more start.rest mid.rest new.rest (text_of seen) [] b.took e.took); free = b.free; short = b.short; counted = e.counted ∙ b.counted }

pub head_fails : (old : Machine) (start mid new : Reading) (version count : ℕ) (place : Place) (left : List ℕ) (fault : AuditFault) → HeadSoFar old start mid version count place left → TurnsHead place version left (count + 1) mid new (Err fault) → Heads old start new (Err fault)
head_fails old start mid new version count place left Memory h turn = tt
head_fails old start mid new version count place left Read h turn = tt
head_fails old start mid new version count place left (Line n) h turn = head_breaks old start mid new version count n place left h turn
head_fails old start mid new version count place left (Wrong n) h turn = absurd turn
head_fails old start mid new version count place left Head h turn = head_other old start mid new version count place left h turn

-- ---- line 1

version_chosen : (a b : Bool) (line : List ℕ) (v : ℕ) → bytes_eq line (codes "journal 1") ≡ a → bytes_eq line (codes "journal 2") ≡ b → cond a (Some 1) (cond b (Some 2) None) ≡ Some v → ((v ≡ 1) × (line ≡ codes "journal 1")) ⊎ ((v ≡ 2) × (line ≡ codes "journal 2"))
version_chosen true b line v one two is = inl (let same : v ≡ 1 = cc in same, (bytes_eq-Decides line (codes "journal 1")).0 one)
version_chosen false true line v one two is = inr (let same : v ≡ 2 = cc in same, (bytes_eq-Decides line (codes "journal 2")).0 two)
version_chosen false false line v one two is = absurd (let f : ⊥ = cc in f)

pub version_is : (line : List ℕ) (v : ℕ) → version_of line ≡ Some v → ((v ≡ 1) × (line ≡ codes "journal 1")) ⊎ ((v ≡ 2) × (line ≡ codes "journal 2"))
version_is line v is = version_chosen (bytes_eq line (codes "journal 1")) (bytes_eq line (codes "journal 2")) line v refl refl is

pub version_long : (line : List ℕ) (v : ℕ) → version_of line ≡ Some v → length line ≡ 9
version_long line v is = elim (version_is line v is) [ inl a ↦ ap length a.1 | inr b ↦ ap length b.1 ]

pub start_next : (line : List ℕ) (v : ℕ) → version_of line ≡ Some v → next_place Start line ≡ Some (Network v)
start_next line v is =
    elim (version_is line v is) [
      | inl a ↦ ap (next_place Start) a.1 ∙ ap (λ (x : ℕ). Some (Network x)) (sym a.0)
      | inr b ↦ ap (next_place Start) b.1 ∙ ap (λ (x : ℕ). Some (Network x)) (sym b.0)
    ]

-- all of a head but its first line, with the ends of the lines
abbrev pub tail_text : Machine → List ℕ
tail_text m = text_of (drop 1 (head_lines (head_of 2 m)))

head_by : (m : Machine) (v : ℕ) (line : List ℕ) → codes "journal " ++ decimal v ≡ line → text_of (head_lines (head_of v m)) ≡ (line ++ 10 ∷ []) ++ tail_text m
head_by m v line is = ap (λ l. (l ++ 10 ∷ []) ++ tail_text m) is

head_two : (m : Machine) → text_of (head_lines (head_of 2 m)) ≡ (codes "journal 2" ++ 10 ∷ []) ++ tail_text m
head_two m = head_by m 2 (codes "journal 2") (ap (λ ds. codes "journal " ++ ds) (decimal_digit 2 (omega arith)))

head_dropped : (m : Machine) → drop 10 (text_of (head_lines (head_of 2 m))) ≡ tail_text m
head_dropped m = ap (drop 10) (head_two m)

line_by : (line : List ℕ) (v : ℕ) → version_of line ≡ Some v → codes "journal " ++ decimal v ≡ line
line_by line v is =
    elim (version_is line v is) [
      | inl a ↦ ap (λ (x : ℕ). codes "journal " ++ decimal x) a.0 ∙ (ap (λ ds. codes "journal " ++ ds) (decimal_digit 1 (omega arith)) ∙ sym a.1)
      | inr b ↦ ap (λ (x : ℕ). codes "journal " ++ decimal x) b.0 ∙ (ap (λ ds. codes "journal " ++ ds) (decimal_digit 2 (omega arith)) ∙ sym b.1)
    ]

pub head_first : (old : Machine) (start mid : Reading) (v : ℕ) (page : List ℕ) → page ≡ text_of (head_lines (head_of 2 old)) → TakesVersion start mid (Ok v) → HeadSoFar old start mid v 1 (Network v) (drop 10 page)
head_first old start mid v page is taken =
    let line = taken.0 in
    record {
      seen = taken.0 ∷ [];
      behind = behind_more start start mid [] taken.0 (behind_none start) taken.1;
      reached = ap (option_and_then (λ n. Some n)) (start_next taken.0 v taken.2);
      names = refl;
      head = head_by old v taken.0 (line_by taken.0 v taken.2) ∙ (ap (λ t. t ++ tail_text old) (sym (append-nil (taken.0 ++ 10 ∷ []))) ∙ ap (λ t. ((taken.0 ++ 10 ∷ []) ++ []) ++ t) (sym (ap (drop 10) is ∙ head_dropped old)));
      counted = refl;
    }

pub head_refused : (old : Machine) (start mid : Reading) (v : ℕ) → (IsHead (head_of v old) → ⊥) → TakesVersion start mid (Ok v) → IfSome start.rest (λ bytes. HasOtherHead old bytes)
head_refused old start mid v refused taken =
    let b = behind_more start start mid [] taken.0 (behind_none start) taken.1 in
    known (λ bytes. HasOtherHead old bytes) start.rest mid.rest (text_of (taken.0 ∷ [])) b.took
    (λ rest is_left. record {
      before = taken.0 ∷ [];
      left = rest;
      version = v;
      place = Network v;
      reached = ap (option_and_then (λ n. Some n)) (start_next taken.0 v taken.2);
      names = refl;
      free = b.free;
      bytes_are = refl;
      differs = inl (λ more allowed same. refused allowed);
    })

pub version_fails : (old : Machine) (start mid : Reading) (fault : AuditFault) → TakesVersion start mid (Err fault) → Heads old start mid (Err fault)
version_fails old start mid Memory h = tt
version_fails old start mid Read h = tt
version_fails old start mid (Line n) h = breaks_line start start mid [] Start 1 n (behind_none start) refl refl h
version_fails old start mid (Wrong n) h = absurd h
version_fails old start mid Head h = absurd h
