-- Bytes as lines, each with its end: there is one way to take them apart.
use Rattle.std.proofs.Common.{◌≡◌, ◌≢◌, inl, inr, ℕ, suc, ◌+◌, ◌<◌, ◌≤◌, List, [], ◌∷◌, ◌++◌, length, take, drop, get_or, Option, Some, None, ap, sym, subst, ◌∙◌, append_assoc, append-nil, length-append, arith}
use Rattle.std.proofs.lemmas.Grind.{common_steps}
use Rattle.std.specs.Io.KnownBytes.{Consumes, IsAtEnd}
use Rattle.std.specs.Prelude.{IfSome}
use Rattle.tp_script.specs.Pending.{Reading}
use Rattle.tp_script.specs.Reading.{Free, EndsLine, TakesWhole}
use Rattle.tp_script.specs.Transcript.{lines_of}
use Rattle.tp_script.proofs.ServeLemmas.{line_first}
use Rattle.tp_journal_pairs.specs.Journal.{longest_line}
use Rattle.tp_journal.specs.Auditing.{TakesOpen, IsTorn, IsLong}

pub cancel : (xs ys zs : List ℕ) → xs ++ ys ≡ xs ++ zs → ys ≡ zs
cancel [] ys zs e = e
cancel (x ∷ xs) ys zs e = let tail : xs ++ ys ≡ xs ++ zs = cc in cancel xs ys zs tail

-- two lines with which the same bytes begin are one
pub one_line : (a b r s : List ℕ) → Free a → Free b → a ++ 10 ∷ r ≡ b ++ 10 ∷ s → (a ≡ b) × (r ≡ s)
one_line a b r s p q e =
    let heads : a ∷ lines_of r ≡ b ∷ lines_of s = sym (line_first a r p) ∙ (ap lines_of e ∙ line_first b s q) in
    let same : a ≡ b = cc in
    let tails : b ++ 10 ∷ r ≡ b ++ 10 ∷ s = ap (λ t. t ++ 10 ∷ r) (sym same) ∙ e in
    let ends : 10 ∷ r ≡ 10 ∷ s = cancel b (10 ∷ r) (10 ∷ s) tails in
    let rest : r ≡ s = cc in
    (same, rest)

-- no line has an end within
pub no_end : (a b s : List ℕ) → Free a → a ≡ b ++ 10 ∷ s → ⊥
no_end [] b s p e =
    let n : length {A = ℕ} [] ≡ length (b ++ 10 ∷ s) = ap length e in
    let k : length (b ++ 10 ∷ s) ≡ length b + length (10 ∷ s) = length-append b (10 ∷ s) in
    let f : ⊥ = omega (arith, n, k) in f
no_end (x ∷ xs) [] s p e = let h : x ≡ 10 = cc in p 0 0 (omega arith) h
no_end (x ∷ xs) (y ∷ ys) s p e = let t : xs ≡ ys ++ 10 ∷ s = cc in no_end xs ys s (λ k d lt. p (suc k) d (omega arith)) t

some_bytes : (xs : List ℕ) → 0 < length xs → xs ≢ []
some_bytes xs lt is = let n : length xs ≡ 0 = ap length is in let f : ⊥ = omega (arith, n) in f

-- ---- what stands first where no whole line does

pub if_some : (P Q : List ℕ → Type 0) (o : Option (List ℕ)) → ((xs : List ℕ) → P xs → Q xs) → IfSome o P → IfSome o Q
if_some P Q None f h = tt
if_some P Q (Some xs) f h = f xs h

-- a line's bytes without an end are no more than those of the first line that has one
within : (part other more rest : List ℕ) → Free part → part ++ more ≡ other ++ 10 ∷ rest → length part ≤ length other
within [] other more rest p e = omega arith
within (x ∷ xs) [] more rest p e = absurd (let h : x ≡ 10 = cc in p 0 0 (omega arith) h)
within (x ∷ xs) (y ∷ ys) more rest p e =
    let t : xs ++ more ≡ ys ++ 10 ∷ rest = cc in
    let n : length xs ≤ length ys = within xs ys more rest (λ k d lt. p (suc k) d (omega arith)) t in omega (arith, n)

pub long_breaks : (shown left : List ℕ) → IsLong shown left → IsTorn left
long_breaks shown left h =
    let n : length left ≡ length h.0 + length h.1 = ap length h.2 ∙ length-append h.0 h.1 in (
      some_bytes left (omega (arith, n, h.4)),
      λ other more are alone. (let w : length h.0 ≤ length other = within h.0 other h.1 more h.3 (sym h.2 ∙ are) in omega (arith, w, h.4)),
    )

long_at : (a c : Option (List ℕ)) (line text shown : List ℕ) → Consumes a c text → Free line → EndsLine line text c → longest_line < length line → shown ≡ take longest_line line → IfSome a (IsLong shown)
long_at None c line text shown took free ends long first = tt
long_at (Some xs) None line text shown took free ends long first = absurd took
long_at (Some xs) (Some zs) line text shown took free (inl with) long first =
    (line, 10 ∷ zs, took ∙ (ap (λ t. t ++ zs) with ∙ append_assoc line (10 ∷ []) zs), free, long, first)
long_at (Some xs) (Some zs) line text shown took free (inr without) long first = (line, zs, took ∙ ap (λ t. t ++ zs) without.0, free, long, first)

pub long_left : (old new : Reading) (line shown : List ℕ) → TakesWhole old new line → longest_line < length line → shown ≡ take longest_line line → IfSome old.rest (IsLong shown)
long_left old new line shown t long first = long_at old.rest new.rest line t.text shown t.took t.free t.ends long first

pub no_line : (line : List ℕ) → Free line → 0 < length line → IsTorn line
no_line line free some = (some_bytes line some, λ other more are alone. absurd (no_end line other more free are))

open_at : (P : List ℕ → Type 0) (a c : Option (List ℕ)) (line : List ℕ) → Consumes a c line → IsAtEnd c → P line → IfSome a P
open_at P None c line took over h = tt
open_at P (Some xs) None line took over h = absurd took
open_at P (Some xs) (Some zs) line took over h = subst P (sym (took ∙ (ap (λ t. line ++ t) over ∙ append-nil line))) h

-- what holds of the last bytes holds of what was left
pub open_left : (P : List ℕ → Type 0) (old new : Reading) (line : List ℕ) → TakesOpen old new line → P line → IfSome old.rest P
open_left P old new line t h = open_at P old.rest new.rest line t.took t.over h

pub open_breaks : (old new : Reading) (line : List ℕ) → TakesOpen old new line → IfSome old.rest IsTorn
open_breaks old new line t = open_left IsTorn old new line t (no_line line t.free t.some)

open_by : (old new : Reading) (line text : List ℕ) → Consumes old.rest new.rest text → Free line → EndsLine line text new.rest → length text ≢ length line + 1 → TakesOpen old new line
open_by old new line text took free (inl with) apart = absurd (apart (ap length with ∙ length-append line (10 ∷ [])))
open_by old new line text took free (inr without) apart =
    record { took = subst (λ xs. Consumes old.rest new.rest xs) without.0 took; free = free; some = without.1; over = without.2 }

pub whole_open : (old new : Reading) (line : List ℕ) → TakesWhole old new line → new.taken ≢ old.taken + (length line + 1) → TakesOpen old new line
whole_open old new line t apart = open_by old new line t.text t.took t.free t.ends (λ is. apart (t.counted ∙ ap (λ n. old.taken + n) is))

-- bytes that begin with a line and its end
pub line_then : (bytes line : List ℕ) → length line < length bytes → take (length line) bytes ≡ line → get_or bytes (length line) 0 ≡ 10 → bytes ≡ line ++ 10 ∷ drop (length line + 1) bytes
line_then [] line lt is end = absurd (let f : ⊥ = omega arith in f)
line_then (b ∷ bs) [] lt is end = let same : b ≡ 10 = end in ap (λ x. x ∷ bs) same
line_then (b ∷ bs) (l ∷ ls) lt is end =
    let first : b ≡ l = cc in
    let rest : take (length ls) bs ≡ ls = cc in
    let n : length (l ∷ ls) + 1 ≡ suc (length ls + 1) = omega arith in
    let tail : bs ≡ ls ++ 10 ∷ drop (length ls + 1) bs = line_then bs ls (omega arith) rest end in
    ap (λ x. x ∷ bs) first ∙ (ap (λ t. l ∷ t) tail ∙ ap (λ k. l ∷ (ls ++ 10 ∷ drop k (b ∷ bs))) (sym n))

pub line_back : (bytes line more : List ℕ) → bytes ≡ line ++ 10 ∷ more → (length line < length bytes) × (take (length line) bytes ≡ line) × (get_or bytes (length line) 0 ≡ 10)
line_back bytes line more is =
    let n : length bytes ≡ length line + length (10 ∷ more) = ap length is ∙ length-append line (10 ∷ more) in
    let front : take (length line) (line ++ 10 ∷ more) ≡ line = grind (arith, common_steps) in
    let end : get_or (line ++ 10 ∷ more) (length line) 0 ≡ 10 = grind (arith, common_steps) in
    (omega (arith, n), ap (take (length line)) is ∙ front, ap (λ t. get_or t (length line) 0) is ∙ end)
