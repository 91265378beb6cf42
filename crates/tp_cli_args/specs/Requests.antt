-- What the words of a call ask for.
use Rattle.std.specs.Prelude.{◌≡◌, ◌≤◌, ◌⊎◌, ℕ, Bool, true, false, IfSome, List, [], ◌∷◌, Option, Some, None, option_map, count_by, codes}
use Rattle.std.specs.Borrow.{Bor}
use Rattle.std.specs.List.{list_any}
use Rattle.std.specs.Str.{bytes_eq}
use Rattle.std.specs.Str.Parse.{IsNumeral, digits_value, without_leading_plus}
use Rattle.clap.specs.Words.{IsAmong, Kinds, Row, Text, fault_of, first_of, one_of, subcommand_of}
use Rattle.clap.specs.declared.error.kind.ErrorKind.{ErrorKind}
use Rattle.clap.specs.declared.error.kind.ErrorKind.TheVariants.{DisplayHelp, DisplayVersion}
use Rattle.tp_text.specs.Scales.{scale_ticks}
use Rattle.tp_text.specs.declared.number.Scale.{Scale}
use Rattle.tp_cli_args.specs.Commands.{tempo_app}
use Rattle.tp_cli_inputs.specs.declared.draw_words.DrawWords.{DrawWords}
use Rattle.tp_cli_inputs.specs.declared.plan_words.PlanWords.{PlanWords}
use Rattle.tp_cli_plan.specs.Searches.{tells_progress}
use Rattle.tp_cli_plan.specs.declared.search_words.Order.{Order}
use Rattle.tp_cli_plan.specs.declared.search_words.Order.TheVariants.{Lacking, Guided}
use Rattle.tp_cli_plan.specs.declared.search_words.SearchWords.{SearchWords}
use Rattle.tp_cli_args.specs.declared.requests.Request.{Request}
use Rattle.tp_cli_args.specs.declared.requests.Request.TheVariants.{Bare, BareLog, BareResume, Check, Net, Run, RunLog, RunResume, Plan, Audit, PlanAudit, Split, Part, Draw, Help}

-- the text is there, and is a numeral of the number
pub record Spells (text : Option Text) (n : ℕ) : Type 0 where
  pub numeral : Text
  pub given : text ≡ Some numeral
  pub digits : IsNumeral 10 (without_leading_plus numeral)
  pub value : digits_value 10 (without_leading_plus numeral) ≡ n

-- the values of `check`, `net`, `run`, `audit` and `split`, or their defaults
pub record IsPlanWords (rows : List Row) (w : PlanWords) : Type 0 where
  pub domain : first_of (codes "DOMAIN") rows ≡ Some w.domain.now
  pub problem : first_of (codes "PROBLEM") rows ≡ Some w.problem.now
  pub plan : first_of (codes "PLAN") rows ≡ Some w.plan.now
  pub scale : Spells (one_of (codes "scale") rows) (scale_ticks w.scale)
  pub horizon : Spells (one_of (codes "horizon") rows) w.horizon
  pub within : w.horizon ≤ 1000000000

-- the ticks of a unit of time are one of the four numbers
abbrev pub HasScale : List Row → Type 0
HasScale rows = (scale : Scale) × Spells (one_of (codes "scale") rows) (scale_ticks scale)

-- the values of `plan` and `solve`, or their defaults, with a budget of so many nodes at most
pub record IsSearchWords (greatest : ℕ) (rows : List Row) (w : SearchWords) : Type 0 where
  pub domain : first_of (codes "DOMAIN") rows ≡ Some w.domain.now
  pub problem : first_of (codes "PROBLEM") rows ≡ Some w.problem.now
  pub scale : Spells (one_of (codes "scale") rows) (scale_ticks w.scale)
  pub horizon : Spells (one_of (codes "horizon") rows) w.horizon
  pub within : w.horizon ≤ 1000000000
  pub budget : Spells (one_of (codes "budget") rows) w.budget
  pub most : w.budget ≤ greatest

-- the tick that `--horizon` gives, where that has no default: the value that is given first, and the one that is read
abbrev pub IsUntil : Option Text → Option Text → Option ℕ → Type 0
IsUntil first one None = first ≡ None
IsUntil first one (Some horizon) = Spells one horizon × (horizon ≤ 1000000000)

-- the values of `draw`
pub record IsDrawWords (rows : List Row) (w : DrawWords) : Type 0 where
  pub domain : first_of (codes "DOMAIN") rows ≡ Some w.domain.now
  pub problem : first_of (codes "PROBLEM") rows ≡ Some w.problem.now
  pub plan : first_of (codes "PLAN") rows ≡ Some w.plan.now
  pub scale : Spells (one_of (codes "scale") rows) (scale_ticks w.scale)
  pub until :
      IsUntil (first_of (codes "horizon") rows) (one_of (codes "horizon") rows) w.horizon
  pub journal : option_map (λ s. s.now) w.journal ≡ first_of (codes "journal") rows

-- whether an option is given that has no value: its text is `true` then
abbrev pub IsFlag : Option Text → Bool → Type 0
IsFlag text given =
    (given ≡ true → text ≡ Some (codes "true")) × (text ≡ Some (codes "true") → given ≡ true)

-- `plan` asks for a search of the one order, and `solve` for one of the other, with what is wished for beside
abbrev pub AsksSearch : Option (Text × List Row) → Order → SearchWords → Type 0
AsksSearch named (Lacking progress) w =
    (rows : List Row) × (named ≡ Some (codes "plan", rows)) × IsSearchWords 1000000 rows w
    × IsFlag (one_of (codes "progress") rows) progress
AsksSearch named (Guided wishes) w =
    (rows : List Row) × (named ≡ Some (codes "solve", rows)) × IsSearchWords 1000000000 rows w
    × IsFlag (one_of (codes "improve") rows) wishes.improve
    × IsFlag (one_of (codes "progress") rows) wishes.progress

abbrev pub order_command : Order → Text
order_command (Lacking progress) = codes "plan"
order_command (Guided wishes) = codes "solve"

-- no command is named, or `bare` without files for journals
abbrev pub NamesBare : Option (Text × List Row) → Type 0
NamesBare None = Unit {0}
NamesBare (Some named) =
    (named.0 ≡ codes "bare") × (first_of (codes "journal") named.1 ≡ None)
    × (first_of (codes "resume") named.1 ≡ None)

-- what a command with its values asks for
abbrev pub AsksBy : Option (Text × List Row) → Request → Type 0
AsksBy named Bare = NamesBare named
AsksBy named (BareLog log) =
    (rows : List Row) × (named ≡ Some (codes "bare", rows))
    × (first_of (codes "journal") rows ≡ Some log.now) × (first_of (codes "resume") rows ≡ None)
AsksBy named (BareResume old log) =
    (rows : List Row) × (named ≡ Some (codes "bare", rows))
    × (first_of (codes "journal") rows ≡ Some log.now)
    × (first_of (codes "resume") rows ≡ Some old.now)
AsksBy named (Check w) = (rows : List Row) × (named ≡ Some (codes "check", rows))
    × IsPlanWords rows w
AsksBy named (Net w) = (rows : List Row) × (named ≡ Some (codes "net", rows)) × IsPlanWords rows w
AsksBy named (Run w) =
    (rows : List Row) × (named ≡ Some (codes "run", rows))
    × (first_of (codes "journal") rows ≡ None) × (first_of (codes "resume") rows ≡ None)
    × IsPlanWords rows w
AsksBy named (RunLog w log) =
    (rows : List Row) × (named ≡ Some (codes "run", rows))
    × (first_of (codes "journal") rows ≡ Some log.now) × (first_of (codes "resume") rows ≡ None)
    × IsPlanWords rows w
AsksBy named (RunResume w old log) =
    (rows : List Row) × (named ≡ Some (codes "run", rows))
    × (first_of (codes "journal") rows ≡ Some log.now)
    × (first_of (codes "resume") rows ≡ Some old.now) × IsPlanWords rows w
AsksBy named (Plan w) = AsksSearch named w.order w
AsksBy named (Audit log) =
    (rows : List Row) × (named ≡ Some (codes "audit", rows))
    × (first_of (codes "LOG") rows ≡ Some log.now) × (first_of (codes "DOMAIN") rows ≡ None)
    × HasScale rows
AsksBy named (PlanAudit log w) =
    (rows : List Row) × (named ≡ Some (codes "audit", rows))
    × (first_of (codes "LOG") rows ≡ Some log.now) × IsPlanWords rows w
AsksBy named (Split w owners) =
    (rows : List Row) × (named ≡ Some (codes "split", rows))
    × (first_of (codes "OWNERS") rows ≡ Some owners.now) × (first_of (codes "part") rows ≡ None)
    × IsPlanWords rows w
AsksBy named (Part w owners agent) =
    (rows : List Row) × (named ≡ Some (codes "split", rows))
    × (first_of (codes "OWNERS") rows ≡ Some owners.now)
    × Spells (one_of (codes "part") rows) agent × (agent ≤ 1023) × IsPlanWords rows w
AsksBy named (Draw w) = (rows : List Row) × (named ≡ Some (codes "draw", rows))
    × IsDrawWords rows w
AsksBy named (Help text) = ⊥

-- a parse that ends so gives a text that was called for
abbrev pub TellsText : ErrorKind → Type 0
TellsText kind = (kind ≡ DisplayHelp) ⊎ (kind ≡ DisplayVersion)

-- the words of a call ask for it: they are words of a command, or call for help or for the version
abbrev pub AsksFor : List Text → Request → Type 0
AsksFor words (Help text) =
    IsAmong DisplayHelp (fault_of tempo_app words)
    ⊎ IsAmong DisplayVersion (fault_of tempo_app words)
AsksFor words Bare = (fault_of tempo_app words ≡ []) × AsksBy (subcommand_of tempo_app words) Bare
AsksFor words (BareLog log) =
    (fault_of tempo_app words ≡ []) × AsksBy (subcommand_of tempo_app words) (BareLog log)
AsksFor words (BareResume old log) =
    (fault_of tempo_app words ≡ []) × AsksBy (subcommand_of tempo_app words) (BareResume old log)
AsksFor words (Check w) =
    (fault_of tempo_app words ≡ []) × AsksBy (subcommand_of tempo_app words) (Check w)
AsksFor words (Net w) =
    (fault_of tempo_app words ≡ []) × AsksBy (subcommand_of tempo_app words) (Net w)
AsksFor words (Run w) =
    (fault_of tempo_app words ≡ []) × AsksBy (subcommand_of tempo_app words) (Run w)
AsksFor words (RunLog w log) =
    (fault_of tempo_app words ≡ []) × AsksBy (subcommand_of tempo_app words) (RunLog w log)
AsksFor words (RunResume w old log) =
    (fault_of tempo_app words ≡ [])
    × AsksBy (subcommand_of tempo_app words) (RunResume w old log)
AsksFor words (Plan w) =
    (fault_of tempo_app words ≡ []) × AsksBy (subcommand_of tempo_app words) (Plan w)
AsksFor words (Audit log) =
    (fault_of tempo_app words ≡ []) × AsksBy (subcommand_of tempo_app words) (Audit log)
AsksFor words (PlanAudit log w) =
    (fault_of tempo_app words ≡ []) × AsksBy (subcommand_of tempo_app words) (PlanAudit log w)
AsksFor words (Split w owners) =
    (fault_of tempo_app words ≡ []) × AsksBy (subcommand_of tempo_app words) (Split w owners)
AsksFor words (Part w owners agent) =
    (fault_of tempo_app words ≡ [])
    × AsksBy (subcommand_of tempo_app words) (Part w owners agent)
AsksFor words (Draw w) =
    (fault_of tempo_app words ≡ []) × AsksBy (subcommand_of tempo_app words) (Draw w)

-- the words ask for no answers to commands: for something else, or for nothing
pub record AsksForNoCommands (words : List Text) : Type 0 where
  pub no_bare : AsksFor words Bare → ⊥
  pub no_log : (log : _) → AsksFor words (BareLog log) → ⊥
  pub no_resume : (old : _) (log : _) → AsksFor words (BareResume old log) → ⊥
  pub no_run : (w : PlanWords) → AsksFor words (Run w) → ⊥
  pub no_run_log : (w : PlanWords) (log : _) → AsksFor words (RunLog w log) → ⊥
  pub no_run_resume :
      (w : PlanWords) (old : _) (log : _) → AsksFor words (RunResume w old log) → ⊥

-- the words ask for no search that tells how far it is, or of plans as it finds them
abbrev pub AsksForNoProgress : List Text → Type 0
AsksForNoProgress words =
    (w : SearchWords) → AsksFor words (Plan w) → tells_progress w.order ≡ false

-- the command that a request is one of; a call without words is one of `bare`, and help is none
abbrev pub command_name : Request → Option Text
command_name Bare = Some (codes "bare")
command_name (BareLog log) = Some (codes "bare")
command_name (BareResume old log) = Some (codes "bare")
command_name (Check w) = Some (codes "check")
command_name (Net w) = Some (codes "net")
command_name (Run w) = Some (codes "run")
command_name (RunLog w log) = Some (codes "run")
command_name (RunResume w old log) = Some (codes "run")
command_name (Plan w) = Some (order_command w.order)
command_name (Audit log) = Some (codes "audit")
command_name (PlanAudit log w) = Some (codes "audit")
command_name (Split w owners) = Some (codes "split")
command_name (Part w owners agent) = Some (codes "split")
command_name (Draw w) = Some (codes "draw")
command_name (Help text) = None

-- the file for a journal
abbrev pub journal_name : Request → Option Text
journal_name Bare = None
journal_name (BareLog log) = Some log.now
journal_name (BareResume old log) = Some log.now
journal_name (Check w) = None
journal_name (Net w) = None
journal_name (Run w) = None
journal_name (RunLog w log) = Some log.now
journal_name (RunResume w old log) = Some log.now
journal_name (Plan w) = None
journal_name (Audit log) = None
journal_name (PlanAudit log w) = None
journal_name (Split w owners) = None
journal_name (Part w owners agent) = None
journal_name (Draw w) = None
journal_name (Help text) = None

-- the file of a domain
abbrev pub domain_name : Request → Option Text
domain_name Bare = None
domain_name (BareLog log) = None
domain_name (BareResume old log) = None
domain_name (Check w) = Some w.domain.now
domain_name (Net w) = Some w.domain.now
domain_name (Run w) = Some w.domain.now
domain_name (RunLog w log) = Some w.domain.now
domain_name (RunResume w old log) = Some w.domain.now
domain_name (Plan w) = Some w.domain.now
domain_name (Audit log) = None
domain_name (PlanAudit log w) = Some w.domain.now
domain_name (Split w owners) = Some w.domain.now
domain_name (Part w owners agent) = Some w.domain.now
domain_name (Draw w) = Some w.domain.now
domain_name (Help text) = None

-- the file of the agents
abbrev pub owners_name : Request → Option Text
owners_name Bare = None
owners_name (BareLog log) = None
owners_name (BareResume old log) = None
owners_name (Check w) = None
owners_name (Net w) = None
owners_name (Run w) = None
owners_name (RunLog w log) = None
owners_name (RunResume w old log) = None
owners_name (Plan w) = None
owners_name (Audit log) = None
owners_name (PlanAudit log w) = None
owners_name (Split w owners) = Some owners.now
owners_name (Part w owners agent) = Some owners.now
owners_name (Draw w) = None
owners_name (Help text) = None

-- the file of the journal that a run goes on from
abbrev pub resume_name : Request → Option Text
resume_name Bare = None
resume_name (BareLog log) = None
resume_name (BareResume old log) = Some old.now
resume_name (Check w) = None
resume_name (Net w) = None
resume_name (Run w) = None
resume_name (RunLog w log) = None
resume_name (RunResume w old log) = Some old.now
resume_name (Plan w) = None
resume_name (Audit log) = None
resume_name (PlanAudit log w) = None
resume_name (Split w owners) = None
resume_name (Part w owners agent) = None
resume_name (Draw w) = None
resume_name (Help text) = None

-- the name of a file, if there is one
abbrev pub file_names : Option (Bor Text) → List Text
file_names None = []
file_names (Some name) = name.now ∷ []

-- the files that are read, but for the commands on the standard input
abbrev pub read_files : Request → List Text
read_files Bare = []
read_files (BareLog log) = []
read_files (BareResume old log) = old.now ∷ []
read_files (Check w) = w.domain.now ∷ w.problem.now ∷ w.plan.now ∷ []
read_files (Net w) = w.domain.now ∷ w.problem.now ∷ w.plan.now ∷ []
read_files (Run w) = w.domain.now ∷ w.problem.now ∷ w.plan.now ∷ []
read_files (RunLog w log) = w.domain.now ∷ w.problem.now ∷ w.plan.now ∷ []
read_files (RunResume w old log) = old.now ∷ w.domain.now ∷ w.problem.now ∷ w.plan.now ∷ []
read_files (Plan w) = w.domain.now ∷ w.problem.now ∷ []
read_files (Audit log) = log.now ∷ []
read_files (PlanAudit log w) = log.now ∷ w.domain.now ∷ w.problem.now ∷ w.plan.now ∷ []
read_files (Split w owners) = w.domain.now ∷ w.problem.now ∷ w.plan.now ∷ owners.now ∷ []
read_files (Part w owners agent) = w.domain.now ∷ w.problem.now ∷ w.plan.now ∷ owners.now ∷ []
read_files (Draw w) = w.domain.now ∷ w.problem.now ∷ w.plan.now ∷ file_names w.journal
read_files (Help text) = []

-- how many of the files may be the standard input: none where commands come from there
abbrev pub most_inputs : Request → ℕ
most_inputs Bare = 0
most_inputs (BareLog log) = 0
most_inputs (BareResume old log) = 0
most_inputs (Run w) = 0
most_inputs (RunLog w log) = 0
most_inputs (RunResume w old log) = 0
most_inputs r = 1

-- how many of these files are the standard input
abbrev pub inputs : List Text → ℕ
inputs files = count_by (λ name. bytes_eq name (codes "-")) files

-- a journal that is written is neither the standard input nor one of these files
abbrev pub IsApart : List Text → Text → Type 0
IsApart files log = list_any (λ name. bytes_eq name log) (codes "-" ∷ files) ≡ false

-- the files of a request are apart
abbrev pub HasOwnFiles : Request → Type 0
HasOwnFiles r =
    (inputs (read_files r) ≤ most_inputs r) × IfSome (journal_name r) (IsApart (read_files r))

-- a command with its values asks for nothing whose files are apart
abbrev pub AsksNothing : Option (Text × List Row) → Type 0
AsksNothing named = (r : Request) → AsksBy named r → HasOwnFiles r → ⊥

-- help or the version is called for, and no other fault of the words may come before
abbrev pub CallsForText : Kinds → Type 0
CallsForText faults = (faults ≡ DisplayHelp ∷ []) ⊎ (faults ≡ DisplayVersion ∷ [])

-- the words ask for it, and nothing is against it
abbrev pub AsksRightly : List Text → Request → Type 0
AsksRightly words (Help text) = CallsForText (fault_of tempo_app words)
AsksRightly words r = AsksFor words r × HasOwnFiles r

-- the words ask for nothing, or not rightly
abbrev pub AsksForNothing : List Text → Type 0
AsksForNothing words = (r : Request) → AsksRightly words r → ⊥

-- words ask for one kind of thing at most: for one command, with one file for a journal or none, one to go on from or none, one of
-- a domain or none, and one of agents or none, or for help
pub record AskForOneThing (words : List Text) : Type 0 where
  pub command : (r s : Request) → AsksFor words r → AsksFor words s
      → command_name r ≡ command_name s
  pub journal : (r s : Request) → AsksFor words r → AsksFor words s
      → journal_name r ≡ journal_name s
  pub domain : (r s : Request) → AsksFor words r → AsksFor words s → domain_name r ≡ domain_name s
  pub owners : (r s : Request) → AsksFor words r → AsksFor words s → owners_name r ≡ owners_name s
  pub resume : (r s : Request) → AsksFor words r → AsksFor words s → resume_name r ≡ resume_name s
