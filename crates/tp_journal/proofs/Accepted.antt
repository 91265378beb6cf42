-- A journal that was written whole is accepted.
use Rattle.std.proofs.Common.{◌≡◌, inl, inr, ℕ, ◌+◌, ◌<◌, ◌≤◌, List, [], ◌∷◌, ◌++◌, length, Option, Some, None, refl, ap, sym, subst, ◌∙◌, arith, length-append, flat_map, decimal, codes}
use Rattle.std.specs.Prelude.{Result, Ok, Err, IfSome}
use Rattle.std.specs.List.{All}
use Rattle.std.specs.Io.KnownBytes.{Consumes, Appends}
use Rattle.std.proofs.lemmas.List.{append_cancel_left}
use Rattle.tp_exec_machine.specs.Machine.{Machine}
use Rattle.tp_script.specs.Pending.{Reading}
use Rattle.tp_script.specs.Reading.{HasMore}
use Rattle.tp_script.specs.declared.serving.Served.{Served}
use Rattle.tp_journal_pairs.specs.Journal.{Entry, IsHead, IsJournalText, Runs, head_of, head_lines, pair_lines, journal_lines, text_of, longest_line}
use Rattle.tp_journal_pairs.specs.declared.faults.JournalFault.{JournalFault}
use Rattle.tp_journal_pairs.specs.Writing.{Journals, journal_bytes}
use Rattle.tp_journal_pairs.proofs.SoundLemmas.{new_sound}
use Rattle.tp_journal_pairs.proofs.HeadLemmas.{head_is}
use Rattle.tp_journal.specs.declared.faults.AuditFault.{AuditFault}
use Rattle.tp_journal.specs.declared.faults.AuditFault.TheVariants.{Memory, Read, Line, Wrong, Head}
use Rattle.tp_journal.specs.declared.faults.Audited.{Audited}
use Rattle.tp_journal.specs.Auditing.{BreaksAt, CutsAt, BreaksLine, DisallowsAt, HasOtherHead, Audits}
use Rattle.tp_journal.specs.Laws.{IsWithin, IsStart, IsYes}
use Rattle.tp_journal.proofs.CleanTexts.{journal_free}
use Rattle.tp_journal.proofs.LineSizes.{journal_short}
use Rattle.tp_journal.proofs.WholeLines.{same_lines, never_breaks}
use Rattle.tp_journal.proofs.OneRuns.{one_version, first_of, never_wrong}
use Rattle.tp_journal.proofs.OtherHeads.{never_other}

-- ---- a start

within_start : (m : Machine) → IsStart m → IsWithin m
within_start m h =
    record { sound = new_sound m h.new; lawful = h.lawful; next = h.ids; ids = omega (arith, h.limits.most_ids) }

one_is_not : (m : Machine) → ◌≡◌ {A = ℕ} 2 1 → ⊥
one_is_not m is = let f : ⊥ = omega (arith, is) in f

pub head_start : (m : Machine) → IsStart m → IsHead (head_of 2 m)
head_start m h =
    head_is m 2 h.new h.lawful (inr (omega (arith, h.bounds, h.limits.most_bounds))) (inr refl) (λ is. absurd (one_is_not m is))

-- ---- all bytes may be taken

more_left : (left : Option (List ℕ)) (bytes xs : List ℕ) → Consumes (Some bytes) left xs → HasMore left → length xs < length bytes
more_left None bytes xs took more = absurd took
more_left (Some []) bytes xs took more = absurd more
more_left (Some (y ∷ ys)) bytes xs took more =
    let n : length bytes ≡ length xs + length (y ∷ ys) = ap length took ∙ length-append xs (y ∷ ys) in omega (arith, n)

never_cut : (start after : Reading) (bytes : List ℕ) (n : ℕ) → start.rest ≡ Some bytes → start.taken + length bytes ≤ start.most → after.most ≡ start.most → CutsAt start after n → ⊥
never_cut start after bytes n is fits same c =
    let lt : length (text_of c.before ++ c.part) < length bytes = more_left after.rest bytes (text_of c.before ++ c.part) (subst (λ o. Consumes o after.rest (text_of c.before ++ c.part)) is c.took) c.more in
    let f : ⊥ = omega (arith, lt, c.counted, c.all, same, fits) in f

-- ---- a yes tells how many pairs there are

two_each : (es : List Entry) → length (flat_map pair_lines es) ≡ length es + length es
two_each [] = refl
two_each (e ∷ es) = omega (arith, two_each es)

first_same : (v : ℕ) (old : Machine) (es fs : List Entry) → journal_lines 2 old es ≡ journal_lines v old fs → codes "journal " ++ decimal 2 ≡ codes "journal " ++ decimal v
first_same v old es fs is = ap first_of is

same_count : (v : ℕ) (old : Machine) (es fs : List Entry) → v ≡ 2 → journal_lines 2 old es ≡ journal_lines v old fs → length fs ≡ length es
same_count v old es fs two is =
    let lines : journal_lines v old es ≡ journal_lines v old fs = subst (λ x. journal_lines x old es ≡ journal_lines v old fs) (sym two) is in
    let pairs : flat_map pair_lines es ≡ flat_map pair_lines fs = append_cancel_left (head_lines (head_of v old)) (flat_map pair_lines es) (flat_map pair_lines fs) lines in
    omega (arith, two_each es, two_each fs, ap length pairs)

yes_counts : (old new : Machine) (entries : List Entry) (pairs : ℕ) → IsWithin old → IsHead (head_of 2 old) → Runs 2 old entries new → IsJournalText old (text_of (journal_lines 2 old entries)) pairs → pairs ≡ length entries
yes_counts old new entries pairs within is runs t =
    let v = t.0 in
    let j = t.3 in
    let free = journal_free 2 old new entries within is runs in
    let seen : t.1 ≡ journal_lines t.0 old t.3.entries =
    same_lines t.1 (journal_lines t.0 old t.3.entries) t.3.free (journal_free t.0 old t.2 t.3.entries within t.3.head t.3.runs) t.3.bytes_are in
    let whole : journal_lines 2 old entries ≡ t.1 = same_lines (journal_lines 2 old entries) t.1 free t.3.free t.4 in
    let both : journal_lines 2 old entries ≡ journal_lines t.0 old t.3.entries = whole ∙ seen in
    let two : t.0 ≡ 2 = one_version t.0 old t.3.head (first_same t.0 old entries t.3.entries both) in
    sym t.3.count ∙ same_count t.0 old entries t.3.entries two both

-- ---- what an audit tells

never_line : (old new : Machine) (entries : List Entry) (start after : Reading) (n : ℕ) → IsWithin old → IsHead (head_of 2 old) → Runs 2 old entries new → start.rest ≡ Some (journal_bytes old entries) → start.taken + length (journal_bytes old entries) ≤ start.most → after.most ≡ start.most → BreaksLine start after n → ⊥
never_line old new entries start after n within is runs bytes fits same (inl b) =
    never_breaks old new entries n within is runs (subst (λ o. IfSome o (λ xs. BreaksAt xs n)) bytes b)
never_line old new entries start after n within is runs bytes fits same (inr c) = never_cut start after (journal_bytes old entries) n bytes fits same c

accepts : (old new : Machine) (entries : List Entry) (start after : Reading) (result : Result Audited AuditFault) → IsWithin old → IsHead (head_of 2 old) → Runs 2 old entries new → start.rest ≡ Some (journal_bytes old entries) → start.taken + length (journal_bytes old entries) ≤ start.most → after.most ≡ start.most → Audits old start after result → IsYes (length entries) result
accepts old new entries start after (Ok audited) within is runs bytes fits same tells =
    yes_counts old new entries audited.pairs within is runs (subst (λ o. IfSome o (λ xs. IsJournalText old xs audited.pairs)) bytes tells.0)
accepts old new entries start after (Err Memory) within is runs bytes fits same tells = tt
accepts old new entries start after (Err Read) within is runs bytes fits same tells = tt
accepts old new entries start after (Err (Line n)) within is runs bytes fits same tells =
    never_line old new entries start after n within is runs bytes fits same tells
accepts old new entries start after (Err (Wrong n)) within is runs bytes fits same tells =
    never_wrong old new entries n within is runs (subst (λ o. IfSome o (λ xs. DisallowsAt old xs n)) bytes tells)
accepts old new entries start after (Err Head) within is runs bytes fits same tells =
    never_other old new entries within is runs (subst (λ o. IfSome o (λ xs. HasOtherHead old xs)) bytes tells)

pub run_accepted : (old new : Machine) (entries : List Entry) (start after : Reading) (result : Result Audited AuditFault) → IsStart old → Runs 2 old entries new → start.rest ≡ Some (journal_bytes old entries) → start.taken + length (journal_bytes old entries) ≤ start.most → after.most ≡ start.most → Audits old start after result → IsYes (length entries) result
run_accepted old new entries start after result begins runs bytes fits same tells =
    accepts old new entries start after result (within_start old begins) (head_start old begins) runs bytes fits same tells

-- ---- what `journal` wrote

appended : (bytes xs : List ℕ) → Appends (Some []) (Some bytes) xs → bytes ≡ xs
appended bytes xs h = h

pub written_accepted : (old new : Machine) (lines behind : Reading) (held answered : Option (List ℕ)) (bytes : List ℕ) (served : Served) (start after : Reading) (result : Result Audited AuditFault) → IsStart old → (journal : Journals old new lines behind held answered (Some []) (Some bytes) (Ok served)) → start.rest ≡ Some bytes → start.taken + length bytes ≤ start.most → after.most ≡ start.most → Audits old start after result → IsYes (length journal.entries) result
written_accepted old new lines behind held answered bytes served start after result begins journal is fits same tells =
    let all : bytes ≡ journal_bytes old journal.entries = appended bytes (journal_bytes old journal.entries) journal.ended.3 in
    run_accepted old new journal.entries start after result begins journal.runs (is ∙ ap Some all)
    (subst (λ xs. start.taken + length xs ≤ start.most) all fits) same tells

pub written_short : (old new : Machine) (lines behind : Reading) (held answered log logged : Option (List ℕ)) (result : Result Served JournalFault) → IsStart old → (journal : Journals old new lines behind held answered log logged result) → All (λ line. length line ≤ longest_line) (journal_lines 2 old journal.entries)
written_short old new lines behind held answered log logged result begins journal =
    journal_short 2 old new journal.entries (within_start old begins) (head_start old begins) journal.runs
