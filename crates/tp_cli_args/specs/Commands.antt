-- The commands of the program and their words, as a parse reads them.
use Rattle.std.specs.Prelude.{[], ◌∷◌, Some, true, pos, codes}
use Rattle.clap.specs.Words.{App, Rule, Text, new_app, new_rule, with_rule, with_subcommand}
use Rattle.clap.specs.declared.builder.ArgAction.TheVariants.{Set, SetTrue}
use Rattle.clap.specs.declared.builder.value_parser.ValueParser.TheVariants as vp

-- a file that has to be named
abbrev pub file_rule : Text → Rule
file_rule id = record (new_rule id) { action = Some Set; required = true }

-- a file that may be named
abbrev pub other_rule : Text → Rule
other_rule id = record (new_rule id) { action = Some Set }

-- `--scale`, from 1 to 1000, by default 1
abbrev pub scale_rule : Rule
scale_rule = record (new_rule (codes "scale")) {
  long = Some (codes "scale");
  action = Some Set;
  value_names = 1;
  defaults = codes "1" ∷ [];
  parser = Some (vp.Signed (pos 1) (pos 1000));
}

-- `--horizon`, from 0 to 1000000000, by default 1000000
abbrev pub horizon_rule : Rule
horizon_rule = record (new_rule (codes "horizon")) {
  long = Some (codes "horizon");
  action = Some Set;
  value_names = 1;
  defaults = codes "1000000" ∷ [];
  parser = Some (vp.Signed (pos 0) (pos 1000000000));
}

-- `--horizon`, from 0 to 1000000000, by default none
abbrev pub until_rule : Rule
until_rule = record (new_rule (codes "horizon")) {
  long = Some (codes "horizon");
  action = Some Set;
  value_names = 1;
  parser = Some (vp.Signed (pos 0) (pos 1000000000));
}

-- `--budget`, from 0 to 1000000, by default 100000
abbrev pub budget_rule : Rule
budget_rule = record (new_rule (codes "budget")) {
  long = Some (codes "budget");
  action = Some Set;
  value_names = 1;
  defaults = codes "100000" ∷ [];
  parser = Some (vp.Signed (pos 0) (pos 1000000));
}

-- `--budget` of a guided search, from 0 to 1000000000, by default 1000000
abbrev pub solve_budget_rule : Rule
solve_budget_rule = record (new_rule (codes "budget")) {
  long = Some (codes "budget");
  action = Some Set;
  value_names = 1;
  defaults = codes "1000000" ∷ [];
  parser = Some (vp.Signed (pos 0) (pos 1000000000));
}

-- an option that is given or not
abbrev pub flag_rule : Text → Rule
flag_rule id = record (new_rule id) { long = Some id; action = Some SetTrue }

-- `--journal`, a file, by default none
abbrev pub journal_rule : Rule
journal_rule = record (new_rule (codes "journal")) {
  long = Some (codes "journal");
  action = Some Set;
  value_names = 1;
}

-- `--resume`, a file, by default none
abbrev pub resume_rule : Rule
resume_rule = record (new_rule (codes "resume")) {
  long = Some (codes "resume");
  action = Some Set;
  value_names = 1;
}

-- `--part`, from 0 to 1023, by default none
abbrev pub part_rule : Rule
part_rule = record (new_rule (codes "part")) {
  long = Some (codes "part");
  action = Some Set;
  value_names = 1;
  parser = Some (vp.Signed (pos 0) (pos 1023));
}

-- the options of commands that keep journals
abbrev pub journal_app : App → App
journal_app start = with_rule (with_rule start journal_rule) resume_rule

-- `--explain`
abbrev pub explain_rule : Rule
explain_rule = flag_rule (codes "explain")

-- commands on a network of bounds alone
abbrev pub bare_app : App
bare_app = with_rule (journal_app (new_app (codes "bare"))) explain_rule

-- how time is measured, and whether it explains
abbrev pub timed_app : App → App
timed_app files = with_rule (with_rule (with_rule files scale_rule) horizon_rule) explain_rule

-- the files of a plan, and how its time is measured
abbrev pub plan_app : App → App
plan_app named =
    let files = with_rule
    (with_rule (with_rule named (file_rule (codes "DOMAIN"))) (file_rule (codes "PROBLEM")))
    (file_rule (codes "PLAN")) in
    timed_app files

abbrev pub check_app : App
check_app = plan_app (new_app (codes "check"))

abbrev pub net_app : App
net_app = plan_app (new_app (codes "net"))

-- with files for journals
abbrev pub run_app : App
run_app = journal_app (plan_app (new_app (codes "run")))

-- the files of a problem, how time is measured, the budget of a search, and whether it tells how far it is
abbrev pub search_app : App
search_app =
    let files = with_rule (with_rule (new_app (codes "plan")) (file_rule (codes "DOMAIN")))
    (file_rule (codes "PROBLEM")) in
    with_rule (with_rule (timed_app files) budget_rule) (flag_rule (codes "progress"))

-- the files of a problem, and how time is measured
abbrev pub solve_files : App
solve_files =
    let files = with_rule (with_rule (new_app (codes "solve")) (file_rule (codes "DOMAIN")))
    (file_rule (codes "PROBLEM")) in
    timed_app files

-- with the budget of a guided search, and whether it goes on and tells what it finds
abbrev pub solve_app : App
solve_app =
    with_rule (with_rule (with_rule solve_files solve_budget_rule) (flag_rule (codes "improve")))
    (flag_rule (codes "progress"))

-- the files of a plan, which may be left out
abbrev pub with_others : App → App
with_others log =
    with_rule (with_rule (with_rule log (other_rule (codes "DOMAIN")))
    (other_rule (codes "PROBLEM"))) (other_rule (codes "PLAN"))

-- the file of a journal, and perhaps those of the plan that was run
abbrev pub audit_app : App
audit_app =
    let log = with_rule (new_app (codes "audit")) (file_rule (codes "LOG")) in
    timed_app (with_others log)

-- the files of a plan, that of the agents of its events, and perhaps one of these
abbrev pub split_app : App
split_app =
    with_rule (with_rule (plan_app (new_app (codes "split"))) (file_rule (codes "OWNERS"))) part_rule

-- how time is measured, up to which tick, the file of a journal, and whether it explains
abbrev pub drawing_app : App → App
drawing_app files =
    with_rule (with_rule (with_rule (with_rule files scale_rule) until_rule) journal_rule)
    explain_rule

-- the files of a plan, and perhaps that of a journal
abbrev pub draw_app : App
draw_app =
    let files = with_rule
    (with_rule (with_rule (new_app (codes "draw")) (file_rule (codes "DOMAIN")))
    (file_rule (codes "PROBLEM"))) (file_rule (codes "PLAN")) in
    drawing_app files

-- the program's words begin after its name, and it tells its version
abbrev pub start_app : App
start_app =
    let named = new_app (codes "tempo") in
    record named { top = record named.top { no_binary_name = true; has_version = true } }

-- and explains where it is asked to
abbrev pub options_app : App
options_app = with_rule start_app explain_rule

-- with the commands that judge a plan
abbrev pub judging_app : App
judging_app = with_subcommand (with_subcommand options_app bare_app.top) check_app.top

-- and the network of one
abbrev pub network_app : App
network_app = with_subcommand judging_app net_app.top

-- and with those that run plans and search for them
abbrev pub planning_app : App
planning_app = with_subcommand (with_subcommand network_app run_app.top) search_app.top

-- and with the one that searches larger problems
abbrev pub solving_app : App
solving_app = with_subcommand planning_app solve_app.top

-- and with the one that audits journals
abbrev pub auditing_app : App
auditing_app = with_subcommand solving_app audit_app.top

-- and with the one that splits networks among agents
abbrev pub splitting_app : App
splitting_app = with_subcommand auditing_app split_app.top

-- and with the one that draws plans
abbrev pub tempo_app : App
tempo_app = with_subcommand splitting_app draw_app.top
