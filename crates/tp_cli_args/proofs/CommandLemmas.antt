-- What a command reads once an argument or a command was added to it.
use Rattle.std.proofs.Common.{◌≡◌, ◌∙◌, ap, ap₂, false, ◌||◌}
use Rattle.clap.specs.Words.{AddsArg, AddsSubcommand, App, Rule, app_of, rule_of, with_rule, with_subcommand}
use Rattle.clap.specs.declared.builder.arg.Arg.{Arg}
use Rattle.clap.specs.declared.builder.command.Command.{Command}
use Rattle.clap.specs.declared.builder.command.Command.TheViews.{out-Command as fields_of}

pub arg_app : (old : Command) (a : Arg) (new : Command) (app : App) (rule : Rule) → AddsArg old a new → a.global ≡ false → app_of old ≡ app → rule_of a ≡ rule → app_of new ≡ with_rule app rule
arg_app old a new app rule adds local was is = adds.shape local ∙ ap₂ with_rule was is

pub arg_local : (old : Command) (a : Arg) (new : Command) → AddsArg old a new → a.global ≡ false → (fields_of old).has_globals ≡ false → (fields_of new).has_globals ≡ false
arg_local old a new adds local was = adds.globals ∙ ap₂ (λ x y. x || y) was local

pub command_app : (old sub new : Command) (app inner : App) → AddsSubcommand old sub new → (fields_of sub).has_globals ≡ false → app_of old ≡ app → app_of sub ≡ inner → app_of new ≡ with_subcommand app inner.top
command_app old sub new app inner adds local was is =
    adds.shape local ∙ ap₂ with_subcommand was (ap (λ (x : App). x.top) is)
