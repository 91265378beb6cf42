-- Bytes that are looked at before they are taken, and the line that stands first among them.
use Rattle.std.proofs.Common.{◌≡◌, ◌≢◌, ℕ, zero, suc, ◌+◌, ◌-◌, ◌≤◌, ◌<◌, ◌⊎◌, inl, inr, List, [], ◌∷◌, ◌++◌, length, get_or, take, drop, Option, Some, None, Bool, true, false, refl, ap, sym, subst, ◌∙◌, append_assoc, append-nil, arith, length-append}
use Rattle.std.specs.Prelude.{Result, Ok, Err, cond, min, nat_eq, IfOk, IfSome}
use lib.Seq.{take-append-add, take-append-le, get_or-take, length-take-le}
use Rattle.std.proofs.lemmas.List.{take_all, take_more, drop_more, get_or_default, take-append-drop}
use Rattle.std.proofs.lemmas.Bool.{cases_lt, ne_eqb, lt-ltb}
use Rattle.std.specs.Io.KnownBytes.{Consumes, Keeps, IsAtEnd, ReadConsumes, prepend_known}
use Rattle.tp_device.specs.declared.Failed.{Failed}
use Rattle.tp_bounds.specs.Setting.{Setting}
use Rattle.tp_bounds.specs.Changes.{with_lag}
use Rattle.tp_script.specs.Words.{words_of}
use Rattle.tp_script.specs.Pending.{Pending, Reading, rest_of}
use Rattle.tp_script.specs.Reading.{Free, EndsLine, TakesWhole}
use Rattle.tp_script.specs.Transcript.{lines_of, before_lines}
use Rattle.tp_script.specs.Lags.{PullsBehind, IsInSight, NoLagNext, MaySet, SetsLags, TakesLags, lag_spelled, lag_from}
use Rattle.tp_script.proofs.LineLemmas.{consumes_none, consumes_more, consumes_is, consumes_same}
use Rattle.tp_script.proofs.ServeLemmas.{line_first, line_last, same, split_more}

-- ---- bytes behind others

pulls_ok : (old new : Option (List ℕ)) (before buffer post : List ℕ) (end n : ℕ) → end ≤ length before → length buffer ≡ length before - end → n ≤ length buffer → Consumes old new (take n buffer) → (n ≡ 0 → 0 < length buffer → IsAtEnd new) → PullsBehind old new before (take end before ++ (buffer ++ post)) end (Ok n)
pulls_ok old new before buffer post end n within size le took none =
    let front : length (take end before) ≡ end = length-take-le end before within in
    let whole : take (end + n) (take end before ++ (buffer ++ post)) ≡ take end before ++ take n buffer =
    ap (λ k. take (k + n) (take end before ++ (buffer ++ post))) (sym front) ∙ (take-append-add (take end before) (buffer ++ post) n ∙ ap (λ t. take end before ++ t) (take-append-le n buffer post le)) in
    (take n buffer, whole, length-take-le n buffer le, omega (arith, length-append (take end before) (buffer ++ post), length-append buffer post, front, le), took, λ zero room. none zero (omega (arith, size, room)))

pub pulls : (old new : Option (List ℕ)) (before buffer post : List ℕ) (end : ℕ) (r : Result ℕ Failed) → end ≤ length before → length buffer ≡ length before - end → IfOk r (λ n. n ≤ length buffer) → ReadConsumes old new r buffer → PullsBehind old new before (take end before ++ (buffer ++ post)) end r
pulls old new before buffer post end (Ok n) within size le took = pulls_ok old new before buffer post end n within size le took.0 took.1
pulls old new before buffer post end (Err e) within size le took =
    let front : length (take end before) ≡ end = length-take-le end before within in
    (take-append-le end (take end before) (buffer ++ post) (omega (arith, front)) ∙ take_all end (take end before) (omega (arith, front)), took)

-- ---- the first line

no_lines : (xs : List ℕ) → lines_of xs ≡ [] → length xs ≡ 0
no_lines [] h = refl
no_lines (b ∷ bs) h = absurd (some (nat_eq b 10) (lines_of bs) h)
  where
    some : (t : Bool) (ls : List (List ℕ)) → cond t ([] ∷ ls) (before_lines b ls) ≡ [] → ⊥
    some true ls h = let f : ⊥ = cc in f
    some false [] h = let f : ⊥ = cc in f
    some false (l ∷ ls) h = let f : ⊥ = cc in f

same_head : (a b : List ℕ) (cs ds : List (List ℕ)) → a ∷ cs ≡ b ∷ ds → a ≡ b
same_head a b cs ds h = cc

-- a line is at least as long as the bytes that don't end it
pub long_first : (n : ℕ) (xs line : List ℕ) (rest : List (List ℕ)) → n ≤ length xs → ((k : ℕ) → k < n → get_or xs k 0 ≢ 10) → lines_of xs ≡ line ∷ rest → n ≤ length line
long_first zero xs line rest le free h = omega arith
long_first (suc n) [] line rest le free h = absurd (let f : ⊥ = omega arith in f)
long_first (suc n) (b ∷ bs) line rest le free h =
    let ne : b ≢ 10 = free 0 (omega arith) in
    let is : before_lines b (lines_of bs) ≡ line ∷ rest = sym (ap (λ t. cond t ([] ∷ lines_of bs) (before_lines b (lines_of bs))) (ne_eqb b 10 ne)) ∙ h in
    go (lines_of bs) refl is (λ l ls more. long_first n bs l ls (omega arith) (λ k lt. free (suc k) (omega arith)) more)
  where
    go : (ls : List (List ℕ)) → lines_of bs ≡ ls → before_lines b ls ≡ line ∷ rest → ((l : List ℕ) (ms : List (List ℕ)) → lines_of bs ≡ l ∷ ms → n ≤ length l) → suc n ≤ length line
    go [] none is tail =
        let empty : length bs ≡ 0 = no_lines bs none in
        let size : length (b ∷ []) ≡ length line = ap length (same_head (b ∷ []) line [] rest is) in
        omega (arith, empty, size, le)
    go (l ∷ ls) more is tail =
        let size : length (b ∷ l) ≡ length line = ap length (same_head (b ∷ l) line ls rest is) in
        let behind : n ≤ length l = tail l ls more in
        omega (arith, size, behind)

pub free_take : (n : ℕ) (xs : List ℕ) → n ≤ length xs → ((k : ℕ) → k < n → get_or xs k 0 ≢ 10) → Free (take n xs)
free_take n xs le free k d within =
    let lt : k < n = omega (arith, within, length-take-le n xs le) in
    λ is. free k lt (get_or_default xs k 0 d (omega (arith, lt, le)) ∙ (sym (get_or-take n xs k d lt) ∙ is))

-- where a line's end stands
pub split_at : (n : ℕ) (xs ys : List ℕ) → n < length xs → get_or xs n 0 ≡ 10 → xs ++ ys ≡ take n xs ++ 10 ∷ (drop (n + 1) xs ++ ys)
split_at n xs ys lt stop =
    let parts : take n xs ++ drop n xs ≡ xs = take-append-drop n xs in
    let tail : drop n xs ≡ 10 ∷ drop (n + 1) xs = drop_more xs n 0 lt ∙ ap (λ (b : ℕ). b ∷ drop (n + 1) xs) stop in
    ap (λ t. t ++ ys) (sym parts ∙ ap (λ t. take n xs ++ t) tail) ∙ append_assoc (take n xs) (10 ∷ drop (n + 1) xs) ys

too_long : (line : List ℕ) → 256 < length line → lag_spelled line ≡ None
too_long line gt = ap (λ t. cond t None (lag_from (words_of line))) (lt-ltb 256 (length line) gt)

short : (line : List ℕ) (lag : ℕ × ℕ) → lag_spelled line ≡ Some lag → length line ≤ 256
short line lag is =
    elim (cases_lt 256 (length line)) [
      | inl gt ↦ absurd (let f : None ≡ Some lag = sym (too_long line gt) ∙ is in let g : ⊥ = cc in g)
      | inr le ↦ le
    ]

some_byte : (line : List ℕ) (lag : ℕ × ℕ) → lag_spelled line ≡ Some lag → 0 < length line
some_byte [] lag is = absurd (let g : ⊥ = cc in g)
some_byte (b ∷ bs) lag is = omega arith

-- in sight, and no end of a line at hand: nothing is left behind what is at hand
at_end : (p : Pending) → IsInSight p → ((k : ℕ) → k < length p.ready → get_or p.ready k 0 ≢ 10) → length p.ready ≤ 256 → IsAtEnd p.left
at_end p (inl found) free le = absurd (free found.0 found.1 found.2)
at_end p (inr (inl gt)) free le = absurd (let f : ⊥ = omega arith in f)
at_end p (inr (inr end)) free le = end

-- the line that comes next is what stands before the first LF, where this is no more than the line
-- of a lag has
next_is : (p : Pending) (n : ℕ) (ys line : List ℕ) (rest : List (List ℕ)) → p.left ≡ Some ys → IsInSight p → n ≤ length p.ready → ((k : ℕ) → k < n → get_or p.ready k 0 ≢ 10) → (n < length p.ready → get_or p.ready n 0 ≡ 10) → n ≤ 256 → lines_of (p.ready ++ ys) ≡ line ∷ rest → line ≡ take n p.ready
next_is p n ys line rest left sight within free stop le h =
    let xs = p.ready in
    elim (cases_lt n (length p.ready)) [
      | inl lt ↦
          (let is : lines_of (p.ready ++ ys) ≡ take n p.ready ∷ lines_of (drop (n + 1) p.ready ++ ys) =
          ap lines_of (split_at n p.ready ys lt (stop lt)) ∙ line_first (take n p.ready) (drop (n + 1) p.ready ++ ys) (free_take n p.ready within free) in
          same_head line (take n p.ready) rest (lines_of (drop (n + 1) p.ready ++ ys)) (sym h ∙ is))
      | inr all ↦
          (let whole : n ≡ length p.ready = omega arith in
          let end : IsAtEnd p.left = at_end p sight (λ k lt. free k (omega arith)) (omega arith) in
          let none : ys ≡ [] = subst IsAtEnd left end in
          let bytes : p.ready ++ ys ≡ p.ready = ap (λ t. p.ready ++ t) none ∙ append-nil p.ready in
          let mine : take n p.ready ≡ p.ready = take_all n p.ready all in
          elim (cases_lt 0 (length p.ready)) [
            | inl some ↦
                (let is : lines_of (p.ready ++ ys) ≡ p.ready ∷ [] = ap lines_of bytes ∙ line_last p.ready (subst Free mine (free_take n p.ready within free)) some in
                same_head line p.ready rest [] (sym h ∙ is) ∙ sym mine)
            | inr empty ↦ absurd (nothing p.ready empty (sym (ap lines_of bytes) ∙ h))
          ])
    ]
  where
    nothing : (xs : List ℕ) → length xs ≤ 0 → lines_of xs ≡ line ∷ rest → ⊥
    nothing [] le h = let f : ⊥ = cc in f
    nothing (b ∷ bs) le h = let f : ⊥ = omega arith in f

no_next : (p : Pending) (n may : ℕ) (left : Option (List ℕ)) → p.left ≡ left → IsInSight p → n ≤ length p.ready → ((k : ℕ) → k < n → get_or p.ready k 0 ≢ 10) → (n < length p.ready → get_or p.ready n 0 ≡ 10) → (lag_spelled (take n p.ready) ≡ None) ⊎ (may < min (length p.ready) (n + 1)) → NoLagNext (prepend_known p.ready left) may
no_next p n may None is sight within free stop why = tt
no_next p n may (Some ys) is sight within free stop why = λ line rest h. (
    elim (cases_lt 256 n) [
      | inl gt ↦
          (let long : n ≤ length line = long_first n (p.ready ++ ys) line rest (omega (arith, length-append p.ready ys, within)) (λ k lt. (λ ten. free k lt (sym (get_or-append_front p.ready ys k (omega arith)) ∙ ten))) h in
          inl (too_long line (omega arith)))
      | inr le ↦
          (let same : line ≡ take n p.ready = next_is p n ys line rest is sight within free stop le h in
          elim why [
            | inl none ↦ inl (ap lag_spelled same ∙ none)
            | inr few ↦ inr (let size : length line ≡ n = ap length same ∙ length-take-le n p.ready within in let all = length-append p.ready ys in omega (arith, size, few, all))
          ])
    ])
  where
    get_or-append_front : (xs zs : List ℕ) (k : ℕ) → k < length xs → get_or (xs ++ zs) k 0 ≡ get_or xs k 0
    get_or-append_front [] zs k lt = absurd (let f : ⊥ = omega arith in f)
    get_or-append_front (x ∷ xs) zs zero lt = refl
    get_or-append_front (x ∷ xs) zs (suc k) lt = get_or-append_front xs zs k (omega arith)

pub no_lag : (p : Pending) (n may : ℕ) → IsInSight p → n ≤ length p.ready → ((k : ℕ) → k < n → get_or p.ready k 0 ≢ 10) → (n < length p.ready → get_or p.ready n 0 ≡ 10) → (lag_spelled (take n p.ready) ≡ None) ⊎ (may < min (length p.ready) (n + 1)) → NoLagNext (rest_of p) may
no_lag p n may sight within free stop why = no_next p n may p.left refl sight within free stop why

-- ---- the line of a lag is taken

taken : (xs : List ℕ) (left : Option (List ℕ)) (n : ℕ) → Consumes (prepend_known xs left) (prepend_known (drop n xs) left) (take n xs)
taken xs None n = tt
taken xs (Some ys) n = ap (λ t. t ++ ys) (sym (take-append-drop n xs)) ∙ append_assoc (take n xs) (drop n xs) ys

nothing_left : (xs : List ℕ) (left : Option (List ℕ)) → IsAtEnd left → IsAtEnd (prepend_known (drop (length xs) xs) left)
nothing_left xs None end = tt
nothing_left xs (Some ys) end = ap (λ t. t ++ ys) (drop_whole xs) ∙ end
  where
    drop_whole : (zs : List ℕ) → drop (length zs) zs ≡ []
    drop_whole [] = refl
    drop_whole (z ∷ zs) = drop_whole zs

ends : (p : Pending) (n : ℕ) → IsInSight p → n ≤ length p.ready → ((k : ℕ) → k < n → get_or p.ready k 0 ≢ 10) → (n < length p.ready → get_or p.ready n 0 ≡ 10) → n ≤ 256 → 0 < n → EndsLine (take n p.ready) (take (min (length p.ready) (n + 1)) p.ready) (prepend_known (drop (min (length p.ready) (n + 1)) p.ready) p.left)
ends p n sight within free stop le some =
    elim (cases_lt n (length p.ready)) [
      | inl lt ↦
          (let count : min (length p.ready) (n + 1) ≡ n + 1 = omega arith in
          inl (ap (λ k. take k p.ready) count ∙ (take_more p.ready n 0 lt ∙ ap (λ (b : ℕ). take n p.ready ++ b ∷ []) (stop lt))))
      | inr all ↦
          (let count : min (length p.ready) (n + 1) ≡ length p.ready = omega arith in
          let same : n ≡ length p.ready = omega arith in
          let end : IsAtEnd p.left = at_end p sight (λ k lt. free k (omega arith)) (omega arith) in
          inr (
            ap (λ k. take k p.ready) (count ∙ sym same),
            omega (arith, length-take-le n p.ready within),
            subst (λ k. IsAtEnd (prepend_known (drop k p.ready) p.left)) (sym count) (nothing_left p.ready p.left end),
          ))
    ]

pub takes_lag : (old new : Reading) (p q : Pending) (n : ℕ) (lag : ℕ × ℕ) → Keeps old.rest (rest_of p) → new.rest ≡ rest_of q → q.ready ≡ drop (min (length p.ready) (n + 1)) p.ready → q.left ≡ p.left → new.taken ≡ old.taken + min (length p.ready) (n + 1) → IsInSight p → n ≤ length p.ready → ((k : ℕ) → k < n → get_or p.ready k 0 ≢ 10) → (n < length p.ready → get_or p.ready n 0 ≡ 10) → lag_spelled (take n p.ready) ≡ Some lag → TakesWhole old new (take n p.ready)
takes_lag old new p q n lag keeps is ready left count sight within free stop spelled =
    let size : length (take n p.ready) ≡ n = length-take-le n p.ready within in
    let le : n ≤ 256 = omega (arith, size, short (take n p.ready) lag spelled) in
    let some : 0 < n = omega (arith, size, some_byte (take n p.ready) lag spelled) in
    let rest : new.rest ≡ prepend_known (drop (min (length p.ready) (n + 1)) p.ready) p.left = is ∙ (ap (λ xs. prepend_known xs q.left) ready ∙ ap (prepend_known (drop (min (length p.ready) (n + 1)) p.ready)) left) in
    record {
      text = take (min (length p.ready) (n + 1)) p.ready;
      took = subst (λ r. Consumes old.rest r (take (min (length p.ready) (n + 1)) p.ready)) (sym rest)
          (consumes_more old.rest (rest_of p) (prepend_known (drop (min (length p.ready) (n + 1)) p.ready) p.left) [] (take (min (length p.ready) (n + 1)) p.ready) (consumes_none old.rest (rest_of p) keeps) (taken p.ready p.left (min (length p.ready) (n + 1))));
      free = free_take n p.ready within free;
      ends = subst (EndsLine (take n p.ready) (take (min (length p.ready) (n + 1)) p.ready)) (sym rest) (ends p n sight within free stop le some);
      counted = omega (arith, count, length-take-le (min (length p.ready) (n + 1)) p.ready (omega arith));
    }

-- ---- the same, of a copy of the bytes that are at hand

-- n bytes don't end a line, and the next one does, if there is one
abbrev pub IsFirstLine : ℕ → List ℕ → Type 0
IsFirstLine n xs = (n ≤ length xs) × ((k : ℕ) → k < n → get_or xs k 0 ≢ 10) × (n < length xs → get_or xs n 0 ≡ 10)

pub no_lag_from : (p : Pending) (xs : List ℕ) (n may : ℕ) → xs ≡ p.ready → IsInSight p → IsFirstLine n xs → (lag_spelled (take n xs) ≡ None) ⊎ (may < min (length xs) (n + 1)) → NoLagNext (rest_of p) may
no_lag_from p xs n may is sight =
    subst (λ ys. IsFirstLine n ys → (lag_spelled (take n ys) ≡ None) ⊎ (may < min (length ys) (n + 1)) → NoLagNext (rest_of p) may) (sym is) (λ f. no_lag p n may sight f.0 f.1 f.2)

pub takes_lag_from : (old new : Reading) (p q : Pending) (xs : List ℕ) (n count : ℕ) (lag : ℕ × ℕ) → xs ≡ p.ready → Keeps old.rest (rest_of p) → new.rest ≡ rest_of q → q.ready ≡ drop count p.ready → q.left ≡ p.left → new.taken ≡ old.taken + count → IsInSight p → count ≡ min (length xs) (n + 1) → IsFirstLine n xs → lag_spelled (take n xs) ≡ Some lag → TakesWhole old new (take n xs)
takes_lag_from old new p q xs n count lag is keeps rest ready left taken sight =
    subst (λ ys. count ≡ min (length ys) (n + 1) → IsFirstLine n ys → lag_spelled (take n ys) ≡ Some lag → TakesWhole old new (take n ys)) (sym is)
    (λ same f spelled. takes_lag old new p q n lag keeps rest (ready ∙ ap (λ k. drop k p.ready) same) left (taken ∙ ap (λ k. old.taken + k) same) sight f.0 f.1 f.2 spelled)

-- ---- lines of lags, one after another

split_keep : (a b c : Option (List ℕ)) (lines : List (List ℕ)) (text : List ℕ) → Consumes a b text → Keeps b c → IfSome a (λ xs. IfSome b (λ ys. lines_of xs ≡ lines ++ lines_of ys)) → IfSome a (λ xs. IfSome c (λ ys. lines_of xs ≡ lines ++ lines_of ys))
split_keep None b c lines text took k h = tt
split_keep (Some a) None c lines text took k h = absurd took
split_keep (Some a) (Some b) None lines text took k h = absurd k
split_keep (Some a) (Some b) (Some c) lines text took k h = h ∙ ap (λ t. lines ++ lines_of t) (sym k)

pub lags_keep : (old mid new : Reading) (s t : Setting) (lines : List (List ℕ)) → TakesLags old mid s t lines → Keeps mid.rest new.rest → new.taken ≡ mid.taken → TakesLags old new s t lines
lags_keep old mid new s t lines h keeps taken =
    record {
      read = record {
        text = h.read.text;
        took = consumes_is old.rest new.rest (h.read.text ++ []) h.read.text (append-nil h.read.text) (consumes_more old.rest mid.rest new.rest h.read.text [] h.read.took (consumes_none mid.rest new.rest keeps));
        split = split_keep old.rest mid.rest new.rest lines h.read.text h.read.took keeps h.read.split;
      };
      counted = taken ∙ h.counted;
      set = h.set;
    }

sets_more : (lines : List (List ℕ)) (s m : Setting) (line : List ℕ) (lag : ℕ × ℕ) → SetsLags s lines m → lag_spelled line ≡ Some lag → MaySet m lag → SetsLags s (lines ++ line ∷ []) (with_lag m lag.0 lag.1)
sets_more [] s m line lag h spelled may = (lag, spelled, subst (λ r. MaySet r lag) h may, ap (λ r. with_lag r lag.0 lag.1) h)
sets_more (l ∷ ls) s m line lag h spelled may = (h.0, h.1, h.2, sets_more ls (with_lag s h.0.0 h.0.1) m line lag h.3 spelled may)

pub lags_none : (r : Reading) (s : Setting) → TakesLags r r s s []
lags_none r s =
    record { read = record { text = []; took = consumes_same r.rest; split = same r.rest }; counted = omega arith; set = refl }

pub lags_more : (old mid new : Reading) (s m t : Setting) (lines : List (List ℕ)) (line : List ℕ) (lag : ℕ × ℕ) → TakesLags old mid s m lines → TakesWhole mid new line → lag_spelled line ≡ Some lag → MaySet m lag → t ≡ with_lag m lag.0 lag.1 → TakesLags old new s t (lines ++ line ∷ [])
lags_more old mid new s m t lines line lag h took spelled may is =
    record {
      read = record {
        text = h.read.text ++ took.text;
        took = consumes_more old.rest mid.rest new.rest h.read.text took.text h.read.took took.took;
        split = split_more old.rest mid.rest new.rest lines line h.read.text took.text took.free took.ends h.read.took took.took h.read.split;
      };
      counted = omega (arith, h.counted, took.counted, length-append h.read.text took.text);
      set = subst (SetsLags s (lines ++ line ∷ [])) (sym is) (sets_more lines s m line lag h.set spelled may);
    }
