-- The files of a call: those that it reads, and the one that it writes a journal to.
use Rattle.std.specs.Prelude.{ℕ, List, Option}
use Rattle.tp_cli_run.specs.LogFile.{LogFile, log_file}

-- As far as these are told, held: what the file of a name holds; asked_before, asked_now: how many journal files were asked for before the
-- call, and by its end; blank: what a journal file holds as it is made; named, kept: the name of the journal file that was made last, and
-- what it holds at the end. unread, unread_now: how often a file could not be opened or read, before the call and by its end; logs, logs_now:
-- how often a journal file could not be made or written
pub record CallFiles : Type 0 where
  pub held : List ℕ → Option (List ℕ)
  pub asked_before : Option ℕ
  pub asked_now : Option ℕ
  pub blank : Option (List ℕ)
  pub named : Option (List ℕ)
  pub kept : Option (List ℕ)
  pub unread : ℕ
  pub unread_now : ℕ
  pub logs : ℕ
  pub logs_now : ℕ

abbrev pub call_files : (List ℕ → Option (List ℕ)) → Option ℕ → Option ℕ → Option (List ℕ)
    → Option (List ℕ) → Option (List ℕ) → ℕ → ℕ → ℕ → ℕ → CallFiles
call_files held before now blank named kept unread unread_now logs logs_now =
    record {
      held = held;
      asked_before = before;
      asked_now = now;
      blank = blank;
      named = named;
      kept = kept;
      unread = unread;
      unread_now = unread_now;
      logs = logs;
      logs_now = logs_now;
    }

-- the journal file of a name, as the call leaves it
abbrev pub journal_file : List ℕ → CallFiles → LogFile
journal_file name files =
    log_file name files.asked_before files.asked_now files.named files.blank files.kept
