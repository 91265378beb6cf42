-- A run that goes on where its journal ends.
use Rattle.std.proofs.Common.{◌≡◌, ◌∙◌, ◌+◌, ℕ, inl, inr, List, [], ◌∷◌, ◌++◌, Option, Some, None, Bool, true, false, map, flat_map, refl, ap, sym, subst, append-nil, arith, codes, decimal}
use Rattle.std.specs.Prelude.{Result, Ok, Err, IfErr, IfOk, IfSome}
use Rattle.std.specs.Io.KnownBytes.{Appends, Consumes, IsAtEnd}
use Rattle.std.proofs.KnownBytes.{Appends-trans}
use Rattle.std.proofs.lemmas.Fmt.{decimal_digit}
use Rattle.tp_device.proofs.Parts.{appends_is}
use Rattle.tp_exec_machine.specs.Machine.{Machine}
use Rattle.tp_exec_machine.specs.declared.command.Command.{Command}
use Rattle.tp_exec_machine.specs.declared.command.Command.TheVariants.{Advance, Add, Withdraw, Window, Dispatch, Happened, Report}
use Rattle.tp_script.specs.Pending.{Reading}
use Rattle.tp_script.specs.Transcript.{lines_of}
use Rattle.tp_script.specs.Serving.{TakesLines}
use Rattle.tp_script.specs.declared.serving.Served.{Served}
use Rattle.tp_script.proofs.ServeLemmas.{appends_end}
use Rattle.tp_journal_pairs.specs.Journal.{Entry, Has, IsHead, IsVersion, Runs, head_of, journal_lines, kind_lines, lag_line, lags_of, own_of, pair_lines, text_of}
use Rattle.tp_journal_pairs.specs.Writing.{EntersAll, journal_bytes, pairs_text, read_failures, write_failures}
use Rattle.tp_journal_pairs.specs.GoingOn.{GoesOn}
use Rattle.tp_journal_pairs.specs.declared.faults.JournalFault.{JournalFault}
use Rattle.tp_journal_pairs.specs.declared.faults.JournalFault.TheVariants as journal
use Rattle.tp_journal_pairs.proofs.WriteLemmas.{journal_more, runs_more}
use Rattle.tp_journal.specs.Replay.{LeadsTo}
use Rattle.tp_cli_files.specs.Causes.{counted, raised}
use Rattle.tp_cli_files.proofs.CauseLemmas.{counted_from}
use Rattle.tp_cli_bare.specs.JournalLines.{journal_unlogged}
use Rattle.tp_cli_run.specs.LogFile.{IsNamed, LogFile}
use Rattle.tp_cli_audit.specs.Going.{Continues, GoesTo, StopsGoing, StopsIn, begin_text, went_result}
use Rattle.tp_cli_audit.specs.ResumeStops.{resume_failures, resume_reads, resume_unlogged, resume_unread}
use Rattle.tp_cli_audit.specs.declared.resume_stops.ResumeStop.{ResumeStop}
use Rattle.tp_cli_audit.specs.declared.resume_stops.ResumeStop.TheVariants.{Journaling}

-- ---- all lines

pub lines_all : (a b d : Option (List ℕ)) (lines : List (List ℕ)) → TakesLines a b lines → Consumes b d [] → IsAtEnd d → IfSome a (λ xs. lines_of xs ≡ lines)
lines_all None b d lines takes none over = tt
lines_all (Some xs) None d lines takes none over = absurd takes.took
lines_all (Some xs) (Some ys) None lines takes none over = absurd none
lines_all (Some xs) (Some ys) (Some zs) lines takes none over =
    let empty : ys ≡ [] = none ∙ over in
    takes.split ∙ (ap (λ t. lines ++ lines_of t) empty ∙ append-nil lines)

pub goes_to : (mid last : Machine) (kept : List ℕ) (before after : Reading) (held now log begun logged : Option (List ℕ)) (served : Served) → Appends log begun (begin_text kept) → GoesOn mid last before after held now begun logged (Ok served) → GoesTo mid kept before.rest held now log logged last
goes_to mid last kept before after held now log begun logged served began g =
    record {
      lines = g.follows.goes.lines;
      entries = g.follows.entries;
      text = g.follows.goes.text;
      read = lines_all before.rest g.behind.rest after.rest g.follows.goes.lines g.follows.goes.read g.turn.1 g.turn.2;
      entered = subst (EntersAll mid g.follows.goes.lines g.follows.entries g.follows.goes.text) (sym g.turn.0) g.follows.ran;
      runs = subst (Runs 2 mid g.follows.entries) (sym g.turn.0) g.follows.runs;
      written = appends_end held g.said now g.follows.goes.text g.follows.goes.written g.turn.3;
      logs = Appends-trans log begun logged (begin_text kept) (pairs_text g.follows.entries) began (appends_end begun g.kept logged (pairs_text g.follows.entries) g.follows.logs g.turn.4);
    }

-- ---- one run

has_more : (version : ℕ) (command : Command) → Has version command → Has 2 command
has_more version (Advance to) h = tt
has_more version (Add b) h = tt
has_more version (Withdraw id) h = tt
has_more version (Window e) h = tt
has_more version (Dispatch e) h = tt
has_more version (Happened e moment) h = refl
has_more version Report h = tt

runs_two : (version : ℕ) (old new : Machine) (entries : List Entry) → Runs version old entries new → Runs 2 old entries new
runs_two version old new [] h = h
runs_two version old new (None ∷ entries) h = runs_two version old new entries h
runs_two version old new (Some p ∷ entries) h = (h.0, h.1, has_more version p.0 h.2, h.3, runs_two version h.0 new entries h.4)

head_two : (version : ℕ) (m : Machine) → IsHead (head_of version m) → IsHead (head_of 2 m)
head_two version m h =
    record { version = inr refl; events = h.events; horizon = h.horizon; own = h.own; lags = h.lags; first_version = λ one. absurd (let f : ⊥ = omega (arith, one) in f) }

-- the lines of a journal behind the first
abbrev rest_text : Machine → List Entry → List ℕ
rest_text m es =
    text_of (((codes "network " ++ decimal (head_of 2 m).events ++ codes " " ++ decimal (head_of 2 m).horizon) ∷ (kind_lines (own_of m) ++ map lag_line (lags_of m))) ++ flat_map pair_lines es)

abbrev with_version : List ℕ → Machine → List Entry → List ℕ
with_version digits m es = ((codes "journal " ++ digits) ++ 10 ∷ []) ++ rest_text m es

journal_as : (version : ℕ) (m : Machine) (es : List Entry) → text_of (journal_lines version m es) ≡ with_version (decimal version) m es
journal_as version m es = refl

version_two : (version : ℕ) (m : Machine) (es : List Entry) → IsVersion version → begin_text (text_of (journal_lines version m es)) ≡ journal_bytes m es
version_two version m es (inl one) =
    ap (λ v. begin_text (with_version (decimal v) m es)) one
    ∙ (ap (λ ds. begin_text (with_version ds m es)) (decimal_digit 1 (omega arith))
    ∙ ap (λ ds. with_version ds m es) (sym (decimal_digit 2 (omega arith))))
version_two version m es (inr two) =
    ap (λ v. begin_text (with_version (decimal v) m es)) two
    ∙ (ap (λ ds. begin_text (with_version ds m es)) (decimal_digit 2 (omega arith))
    ∙ ap (λ ds. with_version ds m es) (sym (decimal_digit 2 (omega arith))))

pub continues : (input held now : Option (List ℕ)) (file : LogFile) (first mid last : Machine) (kept : List ℕ) (pairs : ℕ) → LeadsTo first kept pairs mid → (g : GoesTo mid kept input held now file.blank file.kept last) → IsNamed file → Continues kept input g.text file first last
continues input held now file first mid last kept pairs l g named =
    let same : kept ≡ text_of (journal_lines l.0 first l.2.entries) = l.3 ∙ l.2.bytes_are in
    let begun : begin_text kept ≡ journal_bytes first l.2.entries = ap begin_text same ∙ version_two l.0 first l.2.entries l.2.head.version in
    record {
      version = l.0;
      before = l.2.entries;
      mid = mid;
      lines = g.lines;
      entries = g.entries;
      kept_is = same;
      ran = l.2.runs;
      read = g.read;
      entered = g.entered;
      head = head_two l.0 first l.2.head;
      one_run = runs_more first mid last l.2.entries g.entries (runs_two l.0 first mid l.2.entries l.2.runs) g.runs;
      logs = appends_is file.blank file.kept _ _ (ap (λ t. t ++ pairs_text g.entries) begun ∙ sym (journal_more first l.2.entries g.entries)) g.logs;
      named = named;
    }

-- ---- what came of the commands behind the journal

pub goes_of : (went : Result Machine JournalFault) (r : Result Machine ResumeStop) (P : Machine → Type 0) → r ≡ went_result went → IfOk went P → IfOk r P
goes_of (Ok last) r P is h = subst (λ q. IfOk q P) (sym is) h
goes_of (Err fault) r P is h = subst (λ q. IfOk q P) (sym is) tt

pub named_of : (r : Result Machine ResumeStop) (file : LogFile) → IsNamed file → IfOk r (λ _. IsNamed file)
named_of (Ok last) file named = named
named_of (Err stop) file named = tt

pub stops_of : (went : Result Machine JournalFault) (r : Result Machine ResumeStop) (mid : Machine) (kept : List ℕ) (input held now : Option (List ℕ)) (file : LogFile) → r ≡ went_result went → IsNamed file → IfErr went (StopsIn mid kept input held now file.blank file.kept) → IfErr r (StopsGoing mid kept input held now file)
stops_of (Ok last) r mid kept input held now file is named h = subst (λ q. IfErr q (StopsGoing mid kept input held now file)) (sym is) tt
stops_of (Err fault) r mid kept input held now file is named h = subst (λ q. IfErr q (StopsGoing mid kept input held now file)) (sym is) (named, h)

count_fault : (n : ℕ) (fault : JournalFault) → write_failures {T = Machine} n (Err fault) ≡ resume_failures {T = Machine} n (Err (Journaling fault))
count_fault n journal.Read = refl
count_fault n journal.Write = refl
count_fault n journal.Log = refl
count_fault n journal.TooLong = refl

pub counted_of : (went : Result Machine JournalFault) (r : Result Machine ResumeStop) (n m : ℕ) → r ≡ went_result went → m ≡ write_failures n went → m ≡ resume_failures n r
counted_of (Ok last) r n m is count = subst (λ q. m ≡ resume_failures n q) (sym is) count
counted_of (Err fault) r n m is count = subst (λ q. m ≡ resume_failures n q) (sym is) (count ∙ count_fault n fault)

hear_fault : (n : ℕ) (fault : JournalFault) → read_failures {T = Machine} n (Err fault) ≡ resume_reads {T = Machine} n (Err (Journaling fault))
hear_fault n journal.Read = refl
hear_fault n journal.Write = refl
hear_fault n journal.Log = refl
hear_fault n journal.TooLong = refl

pub heard_of : (went : Result Machine JournalFault) (r : Result Machine ResumeStop) (n m : ℕ) → r ≡ went_result went → m ≡ read_failures n went → m ≡ resume_reads n r
heard_of (Ok last) r n m is count = subst (λ q. m ≡ resume_reads n q) (sym is) count
heard_of (Err fault) r n m is count = subst (λ q. m ≡ resume_reads n q) (sym is) (count ∙ hear_fault n fault)

-- the same of the reads of a file, and of the writes to the journal
pub went_unread : (went : Result Machine JournalFault) (r : Result Machine ResumeStop) (n : ℕ) → r ≡ went_result went → counted resume_unread n r ≡ n
went_unread (Ok last) r n is = ap (counted resume_unread n) is
went_unread (Err fault) r n is = ap (counted resume_unread n) is

pub logged_of : (went : Result Machine JournalFault) (r : Result Machine ResumeStop) (n : ℕ) → r ≡ went_result went → counted journal_unlogged n went ≡ counted resume_unlogged n r
logged_of (Ok last) r n is = ap (counted resume_unlogged n) (sym is)
logged_of (Err fault) r n is = ap (counted resume_unlogged n) (sym is)

-- the failures of a journal count with the others once it is kept
pub kept_log : (went : Result Machine JournalFault) (r : Result Machine ResumeStop) (before made kept start log : ℕ) → r ≡ went_result went → kept ≡ made + log → made ≡ before → start ≡ 0 → log ≡ counted journal_unlogged start went → kept ≡ counted resume_unlogged before r
kept_log went r before made kept start log is sum same none wrote =
    sum ∙ (ap (λ (n : ℕ). made + n) (wrote ∙ ap (λ (n : ℕ). counted journal_unlogged n went) none) ∙ (counted_from journal_unlogged made went ∙ (logged_of went r made is ∙ ap (λ (n : ℕ). counted resume_unlogged n r) same)))

-- where no call failed, the fault tells of none
raised_none : (failed : Bool) (n : ℕ) → 0 ≡ raised failed 0 → raised failed n ≡ n
raised_none true n none = let no : ⊥ = omega (arith, none) in absurd no
raised_none false n none = refl

pub counted_none : {T E : Type 0} (failed : E → Bool) (r : Result T E) (n : ℕ) → 0 ≡ counted failed 0 r → counted failed n r ≡ n
counted_none failed (Ok x) n none = refl
counted_none failed (Err e) n none = raised_none (failed e) n none
