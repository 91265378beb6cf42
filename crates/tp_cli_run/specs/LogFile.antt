-- The file of a journal.
use Rattle.std.specs.Prelude.{◌≡◌, ℕ, suc, List, Option, option_map, IfSome}

-- The file that was made last, if any was. name: what was asked for. As far as these are told, asked_before, asked_now: how many files were
-- asked for before, and by now; named: the name under which it was made; blank: what it held as it was made; kept: what it holds at the end
pub record LogFile : Type 0 where
  pub name : List ℕ
  pub asked_before : Option ℕ
  pub asked_now : Option ℕ
  pub named : Option (List ℕ)
  pub blank : Option (List ℕ)
  pub kept : Option (List ℕ)

abbrev pub log_file : List ℕ → Option ℕ → Option ℕ → Option (List ℕ) → Option (List ℕ)
    → Option (List ℕ) → LogFile
log_file name before now named blank kept =
    record {
      name = name;
      asked_before = before;
      asked_now = now;
      named = named;
      blank = blank;
      kept = kept;
    }

-- no file was asked for, and so none was made
abbrev pub MadeNone : LogFile → Type 0
MadeNone file = file.asked_now ≡ file.asked_before

-- just one file was asked for
abbrev pub AskedOnce : LogFile → Type 0
AskedOnce file = file.asked_now ≡ option_map suc file.asked_before

-- just one file was asked for, and it was made under the name that was asked for
abbrev pub IsNamed : LogFile → Type 0
IsNamed file = AskedOnce file × IfSome file.named (λ n. n ≡ file.name)
