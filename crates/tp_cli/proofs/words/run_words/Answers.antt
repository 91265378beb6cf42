use Rattle.std.proofs.Common.{◌≡◌, ◌⊎◌, ◌∙◌, List, map, ℕ, arith, inl, inr, refl, subst}
use Rattle.std.specs.String.{string_bytes}
use Rattle.std.proofs.KnownBytes.{Appends-nil}
use Rattle.tp_cli_files.specs.FaultLines.{Tells}
use Rattle.tp_cli_args.specs.Requests.{AsksForNothing}
use Rattle.tp_cli_args.specs.declared.arguments.NoRequest.TheVariants.{Memory, Words}
use Rattle.tp_cli_args.specs.declared.requests.Request.TheVariants.{Bare, BareLog, BareResume, Check, Net, Run, RunLog, RunResume, Plan, Audit, PlanAudit, Split, Part, Draw, Help}
use Rattle.tp_cli.specs.CallFiles.{call_files}
use Rattle.tp_cli.specs.Endings.{StopsHelp}
use Rattle.tp_cli.proofs.StreamLemmas.{logs_part}
use Rattle.tp_cli.proofs.words.run_words.Goals as goal

pub returns-in-Err-Memory-clause-stopped : goal.returns-in-Err-Memory-clause-stopped
returns-in-Err-Memory-clause-stopped g c =
    λ two.
    inr (inl (record {
      three = c.complain.ensures.status ∙ c.line.ensures.status;
      kept = refl;
      same = refl;
      told = subst (λ (t : List ℕ). Tells t (g.F.Sink.failures c.args.faults.now) (g.F.Sink.held c.args.faults.now) (g.F.Sink.failures c.complain.new.faults) (g.F.Sink.held c.complain.new.faults)) c.line.ensures.text c.complain.ensures.told;
    }))

pub returns-in-Err-Memory-clause-bare : goal.returns-in-Err-Memory-clause-bare
returns-in-Err-Memory-clause-bare g c =
    λ asks no.
    inr (record {
      three = c.complain.ensures.status ∙ c.line.ensures.status;
      kept = refl;
      same = refl;
      told = subst (λ (t : List ℕ). Tells t (g.F.Sink.failures c.args.faults.now) (g.F.Sink.held c.args.faults.now) (g.F.Sink.failures c.complain.new.faults) (g.F.Sink.held c.complain.new.faults)) c.line.ensures.text c.complain.ensures.told;
    })

pub returns-in-Err-Memory-clause-broken : goal.returns-in-Err-Memory-clause-broken
returns-in-Err-Memory-clause-broken g c = λ three. inl (Appends-nil (g.O.Sink.held c.args.output.now))

pub returns-in-Ok-Bare-clause-stopped : goal.returns-in-Ok-Bare-clause-stopped
returns-in-Ok-Bare-clause-stopped g c =
    λ two.
    inr (inr (Bare, rw c.in-Ok-Bare.field-0-is at c.in-Ok-Bare.ensures.asked, c.run_bare.ensures.ends (λ none. omega (arith, two, none))))

pub returns-in-Ok-BareLog-clause-stopped : goal.returns-in-Ok-BareLog-clause-stopped
returns-in-Ok-BareLog-clause-stopped g c =
    λ two.
    inr (inr (BareLog c.in-Ok-BareLog.log, rw c.in-Ok-BareLog.field-0-is at c.in-Ok-BareLog.ensures.asked, (c.run_bare_journal.ensures.ends (λ none. omega (arith, two, none)), c.run_bare_journal.ensures.asked)))

pub returns-in-Ok-BareLog-clause-broken : goal.returns-in-Ok-BareLog-clause-broken
returns-in-Ok-BareLog-clause-broken g c =
    λ three.
    let files = call_files (g.N.Files.held c.args.files.now.shelf) (g.L.Logs.asked c.args.files.now.logs) (g.L.Logs.asked c.run_bare_journal.new.files) g.L.Logs.blank (g.L.Logs.named c.run_bare_journal.new.files) (g.L.Logs.kept c.run_bare_journal.new.files) (g.N.Files.failures c.args.files.now.shelf) (g.N.Files.failures c.args.files.now.shelf) (g.L.Logs.failures c.args.files.now.logs) (g.L.Logs.failures c.run_bare_journal.new.files) in
    inr (BareLog c.in-Ok-BareLog.log, rw c.in-Ok-BareLog.field-0-is at c.in-Ok-BareLog.ensures.asked, logs_part files (g.I.Source.left c.args.input.now) (g.O.Sink.held c.args.output.now) (g.O.Sink.held c.run_bare_journal.new.output) (c.run_bare_journal.ensures.part (λ none. omega (arith, three, none))))

pub returns-in-Ok-BareLog-clause-kept : goal.returns-in-Ok-BareLog-clause-kept
returns-in-Ok-BareLog-clause-kept g c =
    λ none two.
    absurd (none.no_log c.in-Ok-BareLog.log (rw c.in-Ok-BareLog.field-0-is at c.in-Ok-BareLog.ensures.asked))

pub returns-in-Ok-BareLog-clause-unlogged : goal.returns-in-Ok-BareLog-clause-unlogged
returns-in-Ok-BareLog-clause-unlogged g c =
    λ none.
    absurd (none.no_log c.in-Ok-BareLog.log (rw c.in-Ok-BareLog.field-0-is at c.in-Ok-BareLog.ensures.asked))

pub returns-in-Ok-BareResume-clause-stopped : goal.returns-in-Ok-BareResume-clause-stopped
returns-in-Ok-BareResume-clause-stopped g c =
    λ two.
    inr (inr (BareResume c.in-Ok-BareResume.old c.in-Ok-BareResume.log, rw c.in-Ok-BareResume.field-0-is at c.in-Ok-BareResume.ensures.asked, c.run_bare_resume.ensures.stopped two))

pub returns-in-Ok-BareResume-clause-kept : goal.returns-in-Ok-BareResume-clause-kept
returns-in-Ok-BareResume-clause-kept g c =
    λ none two.
    absurd (none.no_resume c.in-Ok-BareResume.old c.in-Ok-BareResume.log (rw c.in-Ok-BareResume.field-0-is at c.in-Ok-BareResume.ensures.asked))

pub returns-in-Ok-BareResume-clause-unlogged : goal.returns-in-Ok-BareResume-clause-unlogged
returns-in-Ok-BareResume-clause-unlogged g c =
    λ none.
    absurd (none.no_resume c.in-Ok-BareResume.old c.in-Ok-BareResume.log (rw c.in-Ok-BareResume.field-0-is at c.in-Ok-BareResume.ensures.asked))

pub returns-in-Ok-Check-clause-stopped : goal.returns-in-Ok-Check-clause-stopped
returns-in-Ok-Check-clause-stopped g c =
    λ two.
    inr (inr (Check c.in-Ok-Check.plan, rw c.in-Ok-Check.field-0-is at c.in-Ok-Check.ensures.asked, c.run_check.ensures.stopped two))

pub returns-in-Ok-Net-clause-stopped : goal.returns-in-Ok-Net-clause-stopped
returns-in-Ok-Net-clause-stopped g c =
    λ two.
    inr (inr (Net c.in-Ok-Net.plan, rw c.in-Ok-Net.field-0-is at c.in-Ok-Net.ensures.asked, c.run_net.ensures.stopped two))

pub returns-in-Ok-Run-clause-stopped : goal.returns-in-Ok-Run-clause-stopped
returns-in-Ok-Run-clause-stopped g c =
    λ two.
    inr (inr (Run c.in-Ok-Run.plan, rw c.in-Ok-Run.field-0-is at c.in-Ok-Run.ensures.asked, c.run_run.ensures.stopped two))

pub returns-in-Ok-Run-clause-kept : goal.returns-in-Ok-Run-clause-kept
returns-in-Ok-Run-clause-kept g c =
    λ none two.
    absurd (none.no_run c.in-Ok-Run.plan (rw c.in-Ok-Run.field-0-is at c.in-Ok-Run.ensures.asked))

pub returns-in-Ok-RunLog-clause-stopped : goal.returns-in-Ok-RunLog-clause-stopped
returns-in-Ok-RunLog-clause-stopped g c =
    λ two.
    inr (inr (RunLog c.in-Ok-RunLog.plan c.in-Ok-RunLog.log, rw c.in-Ok-RunLog.field-0-is at c.in-Ok-RunLog.ensures.asked, c.run_run_journal.ensures.stopped two))

pub returns-in-Ok-RunLog-clause-kept : goal.returns-in-Ok-RunLog-clause-kept
returns-in-Ok-RunLog-clause-kept g c =
    λ none two.
    absurd (none.no_run_log c.in-Ok-RunLog.plan c.in-Ok-RunLog.log (rw c.in-Ok-RunLog.field-0-is at c.in-Ok-RunLog.ensures.asked))

pub returns-in-Ok-RunLog-clause-unlogged : goal.returns-in-Ok-RunLog-clause-unlogged
returns-in-Ok-RunLog-clause-unlogged g c =
    λ none.
    absurd (none.no_run_log c.in-Ok-RunLog.plan c.in-Ok-RunLog.log (rw c.in-Ok-RunLog.field-0-is at c.in-Ok-RunLog.ensures.asked))

pub returns-in-Ok-RunResume-clause-stopped : goal.returns-in-Ok-RunResume-clause-stopped
returns-in-Ok-RunResume-clause-stopped g c =
    λ two.
    inr (inr (RunResume c.in-Ok-RunResume.plan c.in-Ok-RunResume.old c.in-Ok-RunResume.log, rw c.in-Ok-RunResume.field-0-is at c.in-Ok-RunResume.ensures.asked, c.run_run_resume.ensures.stopped two))

pub returns-in-Ok-RunResume-clause-kept : goal.returns-in-Ok-RunResume-clause-kept
returns-in-Ok-RunResume-clause-kept g c =
    λ none two.
    absurd (none.no_run_resume c.in-Ok-RunResume.plan c.in-Ok-RunResume.old c.in-Ok-RunResume.log (rw c.in-Ok-RunResume.field-0-is at c.in-Ok-RunResume.ensures.asked))

pub returns-in-Ok-RunResume-clause-unlogged : goal.returns-in-Ok-RunResume-clause-unlogged
returns-in-Ok-RunResume-clause-unlogged g c =
    λ none.
    absurd (none.no_run_resume c.in-Ok-RunResume.plan c.in-Ok-RunResume.old c.in-Ok-RunResume.log (rw c.in-Ok-RunResume.field-0-is at c.in-Ok-RunResume.ensures.asked))

pub returns-in-Ok-Plan-clause-stopped : goal.returns-in-Ok-Plan-clause-stopped
returns-in-Ok-Plan-clause-stopped g c =
    λ two.
    inr (inr (Plan c.in-Ok-Plan.search, rw c.in-Ok-Plan.field-0-is at c.in-Ok-Plan.ensures.asked, c.run_plan.ensures.stopped two))

pub returns-in-Ok-Plan-clause-quiet : goal.returns-in-Ok-Plan-clause-quiet
returns-in-Ok-Plan-clause-quiet g c =
    λ none. c.run_plan.ensures.quiet (none c.in-Ok-Plan.search (rw c.in-Ok-Plan.field-0-is at c.in-Ok-Plan.ensures.asked))

pub returns-in-Ok-Audit-clause-stopped : goal.returns-in-Ok-Audit-clause-stopped
returns-in-Ok-Audit-clause-stopped g c =
    λ two.
    inr (inr (Audit c.in-Ok-Audit.log, rw c.in-Ok-Audit.field-0-is at c.in-Ok-Audit.ensures.asked, c.run_bare_audit.ensures.stopped two))

pub returns-in-Ok-PlanAudit-clause-stopped : goal.returns-in-Ok-PlanAudit-clause-stopped
returns-in-Ok-PlanAudit-clause-stopped g c =
    λ two.
    inr (inr (PlanAudit c.in-Ok-PlanAudit.log c.in-Ok-PlanAudit.plan, rw c.in-Ok-PlanAudit.field-0-is at c.in-Ok-PlanAudit.ensures.asked, c.run_plan_audit.ensures.stopped two))

pub returns-in-Ok-Split-clause-stopped : goal.returns-in-Ok-Split-clause-stopped
returns-in-Ok-Split-clause-stopped g c =
    λ two.
    inr (inr (Split c.in-Ok-Split.plan c.in-Ok-Split.owners, rw c.in-Ok-Split.field-0-is at c.in-Ok-Split.ensures.asked, c.run_split.ensures.stopped two))

pub returns-in-Ok-Part-clause-stopped : goal.returns-in-Ok-Part-clause-stopped
returns-in-Ok-Part-clause-stopped g c =
    λ two.
    inr (inr (Part c.in-Ok-Part.plan c.in-Ok-Part.owners c.in-Ok-Part.agent, rw c.in-Ok-Part.field-0-is at c.in-Ok-Part.ensures.asked, c.run_split-in-Ok-Part.ensures.stopped two))

pub returns-in-Ok-Draw-clause-stopped : goal.returns-in-Ok-Draw-clause-stopped
returns-in-Ok-Draw-clause-stopped g c =
    λ two.
    inr (inr (Draw c.in-Ok-Draw.words, rw c.in-Ok-Draw.field-0-is at c.in-Ok-Draw.ensures.asked, c.run_draw.ensures.stopped two))

pub returns-in-Ok-Help-clause-stopped : goal.returns-in-Ok-Help-clause-stopped
returns-in-Ok-Help-clause-stopped g c =
    λ two.
    let ended = c.show.ensures.stopped (λ none. omega (arith, two, none)) in
    inr (inr (
      Help c.in-Ok-Help.text,
      rw c.in-Ok-Help.field-0-is at c.in-Ok-Help.ensures.asked,
      subst (λ (t : List ℕ). StopsHelp t c.show.result (g.O.Sink.held c.args.output.now) (g.O.Sink.held c.show.new.output) (g.F.Sink.failures c.args.faults.now) (g.F.Sink.held c.args.faults.now) (g.F.Sink.failures c.show.new.faults) (g.F.Sink.held c.show.new.faults)) c.as_str.ensures.value ended,
    ))

pub returns-in-Err-Words-clause-stopped : goal.returns-in-Err-Words-clause-stopped
returns-in-Err-Words-clause-stopped g c =
    λ two.
    let words = map string_bytes c.args.words.now in
    let said : (Words c.in-Err-Words.text ≡ Memory) ⊎ AsksForNothing words = rw c.in-Err-Words.field-0-is at c.in-Err-Words.ensures.refused in
    let nothing : AsksForNothing words = elim said [
      | inl memory ↦ let no : ⊥ = cc memory in absurd no
      | inr none ↦ none
    ] in
    inl (c.refuse_words.ensures.refused words nothing (g.O.Sink.held c.args.output.now) (g.O.Sink.failures c.args.output.now))

pub returns-in-Ok-Bare-clause-unread : goal.returns-in-Ok-Bare-clause-unread
returns-in-Ok-Bare-clause-unread g c =
    λ none.
    absurd (none.no_bare (rw c.in-Ok-Bare.field-0-is at c.in-Ok-Bare.ensures.asked))

pub returns-in-Ok-BareLog-clause-unread : goal.returns-in-Ok-BareLog-clause-unread
returns-in-Ok-BareLog-clause-unread g c =
    λ none.
    absurd (none.no_log c.in-Ok-BareLog.log (rw c.in-Ok-BareLog.field-0-is at c.in-Ok-BareLog.ensures.asked))

pub returns-in-Ok-BareResume-clause-unread : goal.returns-in-Ok-BareResume-clause-unread
returns-in-Ok-BareResume-clause-unread g c =
    λ none.
    absurd (none.no_resume c.in-Ok-BareResume.old c.in-Ok-BareResume.log (rw c.in-Ok-BareResume.field-0-is at c.in-Ok-BareResume.ensures.asked))

pub returns-in-Ok-Run-clause-unread : goal.returns-in-Ok-Run-clause-unread
returns-in-Ok-Run-clause-unread g c =
    λ none.
    absurd (none.no_run c.in-Ok-Run.plan (rw c.in-Ok-Run.field-0-is at c.in-Ok-Run.ensures.asked))

pub returns-in-Ok-RunLog-clause-unread : goal.returns-in-Ok-RunLog-clause-unread
returns-in-Ok-RunLog-clause-unread g c =
    λ none.
    absurd (none.no_run_log c.in-Ok-RunLog.plan c.in-Ok-RunLog.log (rw c.in-Ok-RunLog.field-0-is at c.in-Ok-RunLog.ensures.asked))

pub returns-in-Ok-RunResume-clause-unread : goal.returns-in-Ok-RunResume-clause-unread
returns-in-Ok-RunResume-clause-unread g c =
    λ none.
    absurd (none.no_run_resume c.in-Ok-RunResume.plan c.in-Ok-RunResume.old c.in-Ok-RunResume.log (rw c.in-Ok-RunResume.field-0-is at c.in-Ok-RunResume.ensures.asked))
