-- A run on a network of bounds alone that goes on, from its end to its exit status.
use Rattle.std.proofs.Common.{◌≡◌, ◌∙◌, ℕ, inl, inr, List, [], ◌++◌, Option, Some, None, Bool, false, refl, sym, subst, append-nil, ap}
use Rattle.std.specs.Prelude.{Result, Ok, Err, IfErr, IfOk}
use Rattle.std.specs.Io.KnownBytes.{Appends}
use Rattle.std.proofs.KnownBytes.{Appends-nil}
use Rattle.tp_device.specs.Bytes.{AppendsPart}
use Rattle.tp_device.proofs.Parts.{part_after}
use Rattle.tp_exec_machine.specs.Machine.{Machine}
use Rattle.tp_script.specs.Pending.{Reading}
use Rattle.tp_script.specs.Reading.{TakesWhole}
use Rattle.tp_script.specs.Serving.{TakesLines, commands_of}
use Rattle.tp_script.proofs.ServeLemmas.{goes_more}
use Rattle.tp_journal_pairs.specs.Journal.{Entry}
use Rattle.tp_journal_pairs.specs.Writing.{Enters, EntersAll}
use Rattle.tp_journal_pairs.specs.GoingOn.{Follows, GoesOn}
use Rattle.tp_journal_pairs.specs.declared.faults.JournalFault.{JournalFault}
use Rattle.tp_journal_pairs.specs.declared.faults.JournalFault.TheVariants as journal
use Rattle.tp_journal_pairs.proofs.WriteLemmas.{enters_answers, enters_more}
use Rattle.tp_cli_files.specs.Causes.{counted, raised}
use Rattle.tp_cli_files.specs.FaultLines.{Tells}
use Rattle.tp_cli_files.proofs.FaultLemmas.{whole_part}
use Rattle.tp_cli_audit.specs.AuditLines.{stop_status}
use Rattle.tp_cli_audit.specs.Audits.{found_line, say_failures}
use Rattle.tp_cli_audit.specs.Bare.{bare_machine}
use Rattle.tp_cli_audit.specs.declared.audit_lines.AuditStop.{AuditStop}
use Rattle.tp_cli_audit.specs.declared.audit_lines.AuditStop.TheVariants as audit
use Rattle.tp_cli_audit.specs.declared.auditing.Found.TheVariants as found
use Rattle.tp_cli_run.specs.LogFile.{IsNamed, LogFile, MadeNone}
use Rattle.tp_cli_run.proofs.StatusLemmas.{IsStatus, three, two}
use Rattle.tp_cli_audit.specs.BareResume.{EndsResumed, HindersOld, ResumesBare, ResumesPart, SaysOld, StopsResumed, WentBare, ran_result}
use Rattle.tp_cli_audit.specs.Going.{GoesTo, StopsGoing, StopsIn}
use Rattle.tp_cli_audit.specs.ResumeStops.{resume_failures, resume_reads, resume_status, resume_text, resume_unread, resume_unlogged}
use Rattle.tp_cli_audit.specs.declared.old.Run.{Run}
use Rattle.tp_cli_audit.specs.declared.old.Taken.TheVariants.{Goes, Wrong}
use Rattle.tp_cli_audit.specs.declared.resume_stops.ResumeStop.{ResumeStop}
use Rattle.tp_cli_audit.specs.declared.resume_stops.ResumeStop.TheVariants.{Auditing, Lines, Making, Journaling}
use Rattle.tp_cli_audit.proofs.ResumeLemmas.{continues}

-- ---- what is written

pub went_on : (old input held now : Option (List ℕ)) (file : LogFile) (run : Run) (last : Machine) → WentBare old (Goes run) → GoesTo run.executive run.kept.items input held now file.blank file.kept last → IsNamed file → ResumesBare old input held now file
went_on old input held now file run last w went named =
    let g : GoesTo run.executive w.0 input held now file.blank file.kept last = subst (λ k. GoesTo run.executive k input held now file.blank file.kept last) w.2.1.1.2 went in
    (w.0, w.1, w.2.0, w.2.1.0, last, g.text, continues input held now file (bare_machine w.2.0) run.executive last w.0 w.2.1.1.0 w.2.1.1.1 g named, g.written)

pub said_old : (old input held now : Option (List ℕ)) (file : LogFile) (n : ℕ) (went : Bool) → WentBare old (Wrong n) → MadeNone file → (went ≡ false) × Appends held now (found_line (found.Wrong n)) → SaysOld old input held now file went
said_old old input held now file n went w none h = subst (SaysOld old input held now file) (sym h.0) (n, w, h.1, none)

-- ---- why it stopped

pub stopped_on : (old input held now : Option (List ℕ)) (file : LogFile) (run : Run) (stop : ResumeStop) → WentBare old (Goes run) → StopsGoing run.executive run.kept.items input held now file stop → StopsResumed old input held now file stop
stopped_on old input held now file run (Auditing stop) w h = absurd h
stopped_on old input held now file run Lines w h = (run, w, h)
stopped_on old input held now file run Making w h = (run, w, h)
stopped_on old input held now file run (Journaling fault) w h = (run, w, h)

pub unsaid_old : (old input held now : Option (List ℕ)) (file : LogFile) (n : ℕ) (stop : ResumeStop) → WentBare old (Wrong n) → MadeNone file → (stop ≡ Auditing audit.Write) × AppendsPart held now (found_line (found.Wrong n)) → StopsResumed old input held now file stop
unsaid_old old input held now file n stop w none h = subst (StopsResumed old input held now file) (sym h.0) (none, inr (refl, (n, w, h.1)))

module _ (old input held now : Option (List ℕ)) (file : LogFile) (run : Run) (w : WentBare old (Goes run)) where
  pub went_ran : (went : Result Machine ResumeStop) (r : Result Bool ResumeStop) → r ≡ ran_result went → IfOk went (GoesTo run.executive run.kept.items input held now file.blank file.kept) → IfOk went (λ _. IsNamed file) → IfOk r (SaysOld old input held now file)
  went_ran (Ok last) r is h named = subst (λ q. IfOk q (SaysOld old input held now file)) (sym is) (went_on old input held now file run last w h named)
  went_ran (Err stop) r is h named = subst (λ q. IfOk q (SaysOld old input held now file)) (sym is) tt

  pub stopped_ran : (went : Result Machine ResumeStop) (r : Result Bool ResumeStop) → r ≡ ran_result went → IfErr went (StopsGoing run.executive run.kept.items input held now file) → IfErr r (StopsResumed old input held now file)
  stopped_ran (Ok last) r is h = subst (λ q. IfErr q (StopsResumed old input held now file)) (sym is) tt
  stopped_ran (Err stop) r is h = subst (λ q. IfErr q (StopsResumed old input held now file)) (sym is) (stopped_on old input held now file run stop w h)

pub machine_type : (n : ℕ) (stop : ResumeStop) → resume_failures {T = Machine} n (Err stop) ≡ resume_failures {T = Bool} n (Err stop)
machine_type n (Auditing stop) = refl
machine_type n Lines = refl
machine_type n Making = refl
machine_type n (Journaling journal.Read) = refl
machine_type n (Journaling journal.Write) = refl
machine_type n (Journaling journal.Log) = refl
machine_type n (Journaling journal.TooLong) = refl

pub counted_ran : (went : Result Machine ResumeStop) (r : Result Bool ResumeStop) (n m : ℕ) → r ≡ ran_result went → m ≡ resume_failures n went → m ≡ resume_failures n r
counted_ran (Ok last) r n m is count = subst (λ q. m ≡ resume_failures n q) (sym is) count
counted_ran (Err stop) r n m is count = subst (λ q. m ≡ resume_failures n q) (sym is) (count ∙ machine_type n stop)

pub any_reads : (A B : Type 0) (n : ℕ) (stop : ResumeStop) → resume_reads {T = A} n (Err stop) ≡ resume_reads {T = B} n (Err stop)
any_reads A B n (Auditing stop) = refl
any_reads A B n Lines = refl
any_reads A B n Making = refl
any_reads A B n (Journaling journal.Read) = refl
any_reads A B n (Journaling journal.Write) = refl
any_reads A B n (Journaling journal.Log) = refl
any_reads A B n (Journaling journal.TooLong) = refl

pub heard_ran : (went : Result Machine ResumeStop) (r : Result Bool ResumeStop) (n m : ℕ) → r ≡ ran_result went → m ≡ resume_reads n went → m ≡ resume_reads n r
heard_ran (Ok last) r n m is count = subst (λ q. m ≡ resume_reads n q) (sym is) count
heard_ran (Err stop) r n m is count = subst (λ q. m ≡ resume_reads n q) (sym is) (count ∙ any_reads Machine Bool n stop)

pub quiet_old : (old : Option (List ℕ)) (stop : AuditStop) (n : ℕ) → HindersOld old stop → n ≡ resume_failures {T = Bool} n (Err (Auditing stop))
quiet_old old audit.Open n h = refl
quiet_old old audit.Network n h = refl
quiet_old old audit.Memory n h = refl
quiet_old old audit.Read n h = refl
quiet_old old (audit.Line k) n h = refl
quiet_old old audit.Head n h = refl
quiet_old old audit.Write n (inl h) = absurd h
quiet_old old audit.Write n (inr h) = absurd h.2

-- ---- what was written by then

abbrev further : Option (List ℕ) → List ℕ → Option (List ℕ)
further None piece = None
further (Some xs) piece = Some (xs ++ piece)

appends_further : (a : Option (List ℕ)) (piece : List ℕ) → Appends a (further a piece) piece
appends_further None piece = tt
appends_further (Some xs) piece = refl

-- some lines were answered, and the last one in part
abbrev pub EntersSome : Machine → Option (List ℕ) → Option (List ℕ) → Option (List ℕ) → Type 0
EntersSome mid input held now =
    (left : Option (List ℕ)) × (lines : List (List ℕ)) × (entries : List Entry) × (text : List ℕ)
    × (last : Machine) × TakesLines input left lines × EntersAll mid lines entries text last
    × AppendsPart held now text

one_part : (old mid new : Machine) (start before after : Reading) (held said now log logged : Option (List ℕ)) (n : ℕ) (line piece : List ℕ) (fs : List Entry) → Follows old mid start before held said log logged n → TakesWhole before after line → Enters mid line fs piece new → AppendsPart said now piece → EntersSome old start.rest held now
unfolding goes_more
one_part old mid new start before after held said now log logged n line piece fs f took enters part =
    let more = goes_more old mid new start before after held said (further said piece) n (commands_of line) line piece f.goes took (enters_answers mid new line fs piece enters) (appends_further said piece) refl in (
      after.rest,
      more.lines,
      f.entries ++ fs,
      f.goes.text ++ piece,
      new,
      more.read,
      enters_more f.goes.lines old mid new f.entries fs f.goes.text line piece f.ran enters,
      part_after held said now f.goes.text piece [] (f.goes.text ++ piece) (ap (λ t. f.goes.text ++ t) (sym (append-nil piece))) f.goes.written part,
    )

none_more : (old mid : Machine) (start before : Reading) (held said now log logged : Option (List ℕ)) (n : ℕ) → Follows old mid start before held said log logged n → Appends said now [] → EntersSome old start.rest held now
none_more old mid start before held said now log logged n f none =
    (before.rest, f.goes.lines, f.entries, f.goes.text, mid, f.goes.read, f.ran, part_after held said now f.goes.text [] [] f.goes.text (sym (append-nil f.goes.text)) f.goes.written (whole_part said now [] none))

pub some_more : (mid last : Machine) (before after : Reading) (held now begun logged : Option (List ℕ)) (fault : JournalFault) → GoesOn mid last before after held now begun logged (Err fault) → EntersSome mid before.rest held now
some_more mid last before after held now begun logged journal.Read g = none_more mid g.mid before g.behind held g.said now begun g.kept g.commands g.follows g.turn.2
some_more mid last before after held now begun logged journal.TooLong g = none_more mid g.mid before g.behind held g.said now begun g.kept g.commands g.follows g.turn.2
some_more mid last before after held now begun logged journal.Write g = one_part mid g.mid last before g.behind after held g.said now begun g.kept g.commands g.turn.0 g.turn.2 g.turn.1 g.follows g.turn.3 g.turn.4 g.turn.5
some_more mid last before after held now begun logged journal.Log g = none_more mid g.mid before g.behind held g.said now begun g.kept g.commands g.follows g.turn.5

none_part : (old input held now : Option (List ℕ)) → now ≡ held → ResumesPart old input held now
none_part old input held now is = inl (subst (λ n. Appends held n []) (sym is) (Appends-nil held))

some_part : (old input held now : Option (List ℕ)) (run : Run) → WentBare old (Goes run) → EntersSome run.executive input held now → ResumesPart old input held now
some_part old input held now run w s = inr (inr (run, w, s.0, s.1, s.2, s.3, s.4, s.5, s.6, s.7))

in_part : (old input held now : Option (List ℕ)) (run : Run) (log logged : Option (List ℕ)) (fault : JournalFault) → WentBare old (Goes run) → StopsIn run.executive run.kept.items input held now log logged fault → ResumesPart old input held now
in_part old input held now run log logged fault w (inl h) = none_part old input held now h.1
in_part old input held now run log logged fault w (inr h) =
    some_part old input held now run w (subst (λ i. EntersSome run.executive i held now) h.4 (some_more run.executive h.2 h.0 h.1 held now h.3 logged fault h.6))

pub part_then : (old input held now : Option (List ℕ)) (file : LogFile) (stop : ResumeStop) → StopsResumed old input held now file stop → ResumesPart old input held now
part_then old input held now file (Auditing stop) (none, inl h) = none_part old input held now h.1
part_then old input held now file (Auditing stop) (none, inr h) = inr (inl h.1)
part_then old input held now file Lines h = none_part old input held now h.2.0
part_then old input held now file Making h = none_part old input held now h.2.0
part_then old input held now file (Journaling fault) h = in_part old input held now h.0 file.blank file.kept fault h.1 h.2.1

-- ---- how a run ends

audit_is : (stop : AuditStop) → IsStatus (stop_status stop)
audit_is audit.Open = three
audit_is audit.Network = three
audit_is audit.Memory = three
audit_is audit.Read = three
audit_is (audit.Line n) = two
audit_is audit.Head = two
audit_is audit.Write = three

pub stop_is : (stop : ResumeStop) → IsStatus (resume_status stop)
stop_is (Auditing stop) = audit_is stop
stop_is Lines = three
stop_is Making = three
stop_is (Journaling journal.Read) = three
stop_is (Journaling journal.Write) = three
stop_is (Journaling journal.Log) = three
stop_is (Journaling journal.TooLong) = two

no_audit_write : (n : ℕ) (stop : AuditStop) → (stop_status stop ≡ 3 → ⊥) → say_failures {T = Unit {0}} n (Err stop) ≡ n
no_audit_write n audit.Open other = refl
no_audit_write n audit.Network other = refl
no_audit_write n audit.Memory other = refl
no_audit_write n audit.Read other = refl
no_audit_write n (audit.Line k) other = refl
no_audit_write n audit.Head other = refl
no_audit_write n audit.Write other = absurd (other refl)

pub no_write : (n : ℕ) (stop : ResumeStop) → (resume_status stop ≡ 3 → ⊥) → resume_failures {T = Unit {0}} n (Err stop) ≡ n
no_write n (Auditing stop) other = no_audit_write n stop other
no_write n Lines other = refl
no_write n Making other = refl
no_write n (Journaling journal.Read) other = refl
no_write n (Journaling journal.Write) other = absurd (other refl)
no_write n (Journaling journal.Log) other = refl
no_write n (Journaling journal.TooLong) other = refl

pub any_type : (n : ℕ) (stop : ResumeStop) → resume_failures {T = Bool} n (Err stop) ≡ resume_failures {T = Unit {0}} n (Err stop)
any_type n (Auditing stop) = refl
any_type n Lines = refl
any_type n Making = refl
any_type n (Journaling journal.Read) = refl
any_type n (Journaling journal.Write) = refl
any_type n (Journaling journal.Log) = refl
any_type n (Journaling journal.TooLong) = refl

pub no_read : (n : ℕ) (stop : ResumeStop) → (resume_status stop ≡ 3 → ⊥) → resume_reads {T = Unit {0}} n (Err stop) ≡ n
no_read n (Auditing stop) other = refl
no_read n Lines other = refl
no_read n Making other = refl
no_read n (Journaling journal.Read) other = absurd (other refl)
no_read n (Journaling journal.Write) other = refl
no_read n (Journaling journal.Log) other = refl
no_read n (Journaling journal.TooLong) other = refl

-- a run that went on fails as its commands did
pub ran_count : (failed : ResumeStop → Bool) (went : Result Machine ResumeStop) (r : Result Bool ResumeStop) (n : ℕ) → r ≡ ran_result went → counted failed n went ≡ counted failed n r
ran_count failed (Ok last) r n is = ap (counted failed n) (sym is)
ran_count failed (Err stop) r n is = ap (counted failed n) (sym is)

pub ends : (old : Option (List ℕ)) (name : List ℕ) (status : ℕ) (input : Option (List ℕ)) (reads reads-now : ℕ) (held now : Option (List ℕ)) (file : LogFile) (unread unread-now logs logs-now output output-now failures : ℕ) (said : Option (List ℕ)) (failures-now : ℕ) (said-now : Option (List ℕ)) (stop : ResumeStop) (text : List ℕ) → StopsResumed old input held now file stop → status ≡ resume_status stop → output-now ≡ resume_failures {T = Bool} output (Err stop) → reads-now ≡ resume_reads {T = Bool} reads (Err stop) → unread-now ≡ raised (resume_unread stop) unread → logs-now ≡ raised (resume_unlogged stop) logs → text ≡ resume_text name stop → Tells text failures said failures-now said-now → EndsResumed old name status input reads reads-now held now file unread unread-now logs logs-now output output-now failures said failures-now said-now
ends old name status input reads reads-now held now file unread unread-now logs logs-now output output-now failures said failures-now said-now stop text cause is write read opened log line told =
    record {
      stop = stop;
      is = sym is;
      cause = cause;
      read = read ∙ any_reads Bool (Unit {0}) reads stop;
      opened = opened;
      journal = log;
      write = write ∙ any_type output stop;
      told = subst (λ (t : List ℕ). Tells t failures said failures-now said-now) line told;
    }

pub ends_told : (status output output-now : ℕ) (stop : ResumeStop) → status ≡ resume_status stop → output-now ≡ resume_failures {T = Bool} output (Err stop) → (status ≡ 3 → ⊥) → output-now ≡ output
ends_told status output output-now stop is write other = write ∙ (any_type output stop ∙ no_write output stop (λ broken. other (is ∙ broken)))

pub ends_heard : (status reads reads-now : ℕ) (stop : ResumeStop) → status ≡ resume_status stop → reads-now ≡ resume_reads {T = Bool} reads (Err stop) → (status ≡ 3 → ⊥) → reads-now ≡ reads
ends_heard status reads reads-now stop is read other = read ∙ (any_reads Bool (Unit {0}) reads stop ∙ no_read reads stop (λ broken. other (is ∙ broken)))

pub ends_within : (status : ℕ) (stop : ResumeStop) → status ≡ resume_status stop → IsStatus status
ends_within status stop is = subst IsStatus (sym is) (stop_is stop)
