-- A run over readers and writers of std.
use Rattle.std.specs.Prelude.{◌≡◌, ◌≢◌, ◌≤◌, ◌⊎◌, ℕ, List, [], ◌++◌, Option, Some, None, MatchOption, IfSome}
use Rattle.std.specs.Io.KnownBytes.{Appends, Keeps}
use Rattle.tp_device.specs.Bytes.{AppendsPart}
use Rattle.tp_cli_bare.specs.Bare.{AnswersAll, AnswersPart, IsRefused}
use Rattle.tp_cli.specs.CallFiles.{CallFiles}
use Rattle.tp_cli.specs.Done.{AnswersNo, DoesPart, DoesWhatIsAsked}
use Rattle.tp_cli.specs.Endings.{EndsCall}
use Rattle.tp_cli.specs.Journaled.{AsksForNoJournal}
use Rattle.tp_cli_files.specs.FaultLines.{IsFaultText, TellsFault, line_of}
use Rattle.tp_cli_files.specs.declared.faults.Fault.TheVariants as faults
use Rattle.tp_cli_args.specs.Requests.{AsksFor, AsksForNoCommands}
use Rattle.tp_cli_args.specs.declared.requests.Request.TheVariants.{Bare}

-- One fault line was written, and behind the line of words that are refused what is said of them; or where the writer failed a first part of
-- these.
abbrev pub TellsSome : Option (List ℕ) → Option (List ℕ) → Type 0
TellsSome before now =
    (text : List ℕ) × (more : List ℕ) × IsFaultText text
    × ((more ≡ []) ⊎ (text ≡ line_of faults.ArgumentsWords))
    × AppendsPart before now (text ++ more)

-- What is written to the output, by the exit status. It was done what the words ask for; the answer is no; of a network of bounds all is
-- answered, or a first part; where memory or a device is wanting, a first part of what the words ask for was done, or nothing; for all
-- else that is refused nothing is written
pub record Runs (words : List (List ℕ)) (files : CallFiles) (input : Option (List ℕ))
    (status : ℕ) (held now : Option (List ℕ)) : Type 0 where
  pub done : status ≡ 0 → DoesWhatIsAsked words files input held now
  pub no : status ≡ 1 → AnswersNo words files input held now
  pub all : AsksFor words Bare → status ≡ 0 → AnswersAll input held now
  pub part : AsksFor words Bare → status ≢ 0 → AnswersPart input held now
  pub broken : status ≡ 3 → DoesPart words files input held now
  pub kept : AsksForNoCommands words → status ≡ 2 → Appends held now []

-- what was written was handed on to the writer, or it is gone: then the status is 3, and a fault line tells so if none was written yet
abbrev pub HandsOn : {W : Type 0} → (W → Option (List ℕ)) → ℕ → Option (List ℕ) → ℕ
    → Option (List ℕ) → ℕ → Option (List ℕ) → ℕ → Option W → Type 0
HandsOn contents status held failures before failures-now now ended (Some w) =
    (ended ≡ status) × Keeps held (contents w) × (now ≡ before)
HandsOn contents status held failures before failures-now now ended None =
    (ended ≡ 3) × (status ≤ 1 → TellsFault [] failures before failures-now now)
    × (2 ≤ status → now ≡ before)

-- What stopped a run was told, and is as it is told: of the output as its buffer took it, from when it held what the writer did until it held
-- what the writer does now, and for some counts of reads and writes that failed
pub record IsStopped (words : List (List ℕ)) (files : CallFiles)
    (input held faults now : Option (List ℕ)) (status : ℕ)
    (faults-now : Option (List ℕ)) : Type 0 where
  pub inside : Option (List ℕ)
  pub inside_now : Option (List ℕ)
  pub reads : ℕ
  pub reads_now : ℕ
  pub failures : ℕ
  pub failures_now : ℕ
  pub lost : ℕ
  pub lost_now : ℕ
  pub begins : Keeps held inside
  pub ends : Keeps inside_now now
  pub told : EndsCall words files input reads reads_now status inside inside_now failures failures_now
      lost faults lost_now faults-now

-- How a run ends. The output holds what the status tells, or it is gone and the status is 3. A network is refused only where it has no head
-- or comes with too many bytes. A fault line goes with each fault, and with nothing else; where the output is not gone, it is as the line
-- tells. A journal file is asked for only where the words ask for a journal
pub record Ends (words : List (List ℕ)) (files : CallFiles)
    (input held faults : Option (List ℕ)) {W : Type 0} (contents : W → Option (List ℕ)) (status : ℕ)
    (output : Option W) (faults-now : Option (List ℕ)) : Type 0 where
  pub output_holds : MatchOption output (status ≡ 3) (λ w.
      Runs words files input status held (contents w))
  pub refused : AsksFor words Bare → status ≡ 2 → IsRefused input
  pub within : status ≤ 3
  pub silent : status ≤ 1 → Appends faults faults-now []
  pub fault : 2 ≤ status → TellsSome faults faults-now
  pub stopped :
      2 ≤ status → IfSome output (λ w.
      IsStopped words files input held faults (contents w) status faults-now)
  pub unlogged : AsksForNoJournal words → files.asked_now ≡ files.asked_before
