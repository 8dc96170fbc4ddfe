-- What adding an argument or a subcommand makes of a parser.
use Rattle.std.proofs.Common.{◌≡◌, ◌∙◌, ap₂, Bool, false, ◌||◌}
use Rattle.clap.specs.Words.{AddsArg, App, Rule, Shape, app_of, rule_of, shape_of, with_rule, with_subcommand}
use Rattle.clap.specs.Words.{AddsSubcommand}
use Rattle.clap.specs.declared.builder.arg.Arg.{Arg}
use Rattle.clap.specs.declared.builder.command.Command.{Command}
use Rattle.clap.specs.declared.builder.command.Command.TheViews.{out-Command as fields_of}

-- the parser is this one, and none of its arguments is global
abbrev pub IsParser : Command → App → Type 0
IsParser parser app = (app_of parser ≡ app) × ((fields_of parser).has_globals ≡ false)

pub more_rules : (old new : Command) (arg : Arg) (app : App) (rule : Rule) → AddsArg old arg new → IsParser old app → rule_of arg ≡ rule → arg.global ≡ false → IsParser new (with_rule app rule)
more_rules old new arg app rule adds parser rule_is local = (
  adds.shape local ∙ ap₂ with_rule parser.0 rule_is,
  adds.globals ∙ ap₂ (λ (one other : Bool). one || other) parser.1 local,
)

pub more_subcommands : (old sub new : Command) (app : App) (shape : Shape) → AddsSubcommand old sub new → app_of old ≡ app → shape_of sub ≡ shape → (fields_of sub).has_globals ≡ false → app_of new ≡ with_subcommand app shape
more_subcommands old sub new app shape adds parser shape_is local = adds.shape local ∙ ap₂ with_subcommand parser shape_is
