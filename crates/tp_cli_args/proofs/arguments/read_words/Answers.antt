use Rattle.std.proofs.Common.{◌∙◌, ap, sym, subst, inl, inr, map}
use Rattle.std.specs.String.{string_bytes}
use Rattle.std.specs.Prelude.{Err, None}
use Rattle.std.specs.Option.{ok_or}
use Rattle.std.proofs.lemmas.Result.{IfOk-weaker}
use Rattle.clap.specs.Words.{App, FailsBy, fault_of, is_simple, is_simple_and_free, subcommand_of}
use Rattle.clap.specs.declared.parser.matches.ArgMatches.{ArgMatches}
use Rattle.tp_cli_args.specs.declared.arguments.NoRequest.TheVariants.{Words}
use Rattle.tp_cli_args.specs.Requests.{AsksForNothing, HasOwnFiles, NamesBare}
use Rattle.tp_cli_args.proofs.ArgumentLemmas.{asks_by, asks_help, only_memory, simple, simple_and_free}
use Rattle.tp_cli_args.proofs.RefusalLemmas.{error_refused, free_nothing, help_own, none_err, none_weaker, some_ok}
use Rattle.tp_cli_args.proofs.arguments.read_words.Goals as goal

pub returns-in-Ok-clause-asked : goal.returns-in-Ok-clause-asked
returns-in-Ok-clause-asked c =
    let words = map string_bytes c.args.words.now in
    let app = c.in_ok-command.ensures in
    let free = ap (λ a. fault_of a words) (sym app) ∙ c.in-Ok.ensures.kinds (ap is_simple_and_free app ∙ simple_and_free) in
    let is = (c.in-Ok.ensures.matches (ap is_simple app ∙ simple)).1 ∙ ap (λ a. subcommand_of a words) app in
    IfOk-weaker c.ok_or.result _ _ (λ r h. asks_by words _ r free is h)
    (rw c.ok_or.ensures.value (some_ok c.asked.result _ _ c.asked.ensures.asked))

pub returns-in-Ok-clause-own : goal.returns-in-Ok-clause-own
returns-in-Ok-clause-own c = rw c.ok_or.ensures.value (some_ok c.asked.result _ HasOwnFiles c.asked.ensures.own)

pub returns-in-Ok-clause-refused : goal.returns-in-Ok-clause-refused
returns-in-Ok-clause-refused c =
    let words = map string_bytes c.args.words.now in
    let app = c.in_ok-command.ensures in
    let free = ap (λ a. fault_of a words) (sym app) ∙ c.in-Ok.ensures.kinds (ap is_simple_and_free app ∙ simple_and_free) in
    let is = (c.in-Ok.ensures.matches (ap is_simple app ∙ simple)).1 ∙ ap (λ a. subcommand_of a words) app in
    rw c.ok_or.ensures.value (none_err c.asked.result _ (AsksForNothing words) (none_weaker c.asked.result _ _ (λ no. free_nothing words _ free is no) c.asked.ensures.refused))

pub returns-in-Ok-clause-bare : goal.returns-in-Ok-clause-bare
returns-in-Ok-clause-bare c =
    λ asks.
    let words = map string_bytes c.args.words.now in
    let app = c.in_ok-command.ensures in
    let is = (c.in-Ok.ensures.matches (ap is_simple app ∙ simple)).1 ∙ ap (λ a. subcommand_of a words) app in
    inl (c.ok_or.ensures.value ∙ ap (λ o. ok_or o (Words None)) (c.asked.ensures.bare (subst NamesBare (sym is) asks.1)))

pub returns-in-Err-clause-asked : goal.returns-in-Err-clause-asked
returns-in-Err-clause-asked c =
    let words = map string_bytes c.args.words.now in
    let app = c.in_ok-command.ensures in
    let fails = subst (λ (a : App). FailsBy {T = ArgMatches} (fault_of a words) (Err c.in-Err.error)) app (c.in-Err.ensures.kinds (ap is_simple_and_free app ∙ simple_and_free)) in
    IfOk-weaker c.without_matches.result _ _ (λ r h. asks_help words c.in-Err.error r fails h) c.without_matches.ensures.help

pub returns-in-Err-clause-own : goal.returns-in-Err-clause-own
returns-in-Err-clause-own c = IfOk-weaker c.without_matches.result _ _ (λ r h. help_own r h.0) c.without_matches.ensures.help

pub returns-in-Err-clause-refused : goal.returns-in-Err-clause-refused
returns-in-Err-clause-refused c =
    let words = map string_bytes c.args.words.now in
    let app = c.in_ok-command.ensures in
    let fails = subst (λ (a : App). FailsBy {T = ArgMatches} (fault_of a words) (Err c.in-Err.error)) app (c.in-Err.ensures.kinds (ap is_simple_and_free app ∙ simple_and_free)) in
    error_refused ArgMatches words c.in-Err.error c.without_matches.result fails c.without_matches.ensures.memory c.without_matches.ensures.refused

pub returns-in-Err-clause-bare : goal.returns-in-Err-clause-bare
returns-in-Err-clause-bare c =
    λ asks.
    let words = map string_bytes c.args.words.now in
    let app = c.in_ok-command.ensures in
    let fails = subst (λ (a : App). FailsBy {T = ArgMatches} (fault_of a words) (Err c.in-Err.error)) app (c.in-Err.ensures.kinds (ap is_simple_and_free app ∙ simple_and_free)) in
    inr (c.without_matches.ensures.memory (only_memory words c.in-Err.error asks.0 fails))
