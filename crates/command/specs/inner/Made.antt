-- The construction of commands.
use Rattle.std.specs.Prelude.{◌≡◌, false}
use Rattle.clap.specs.Words.{App, app_of}
use Rattle.clap.specs.declared.builder.command.Command.{Command}
use Rattle.clap.specs.declared.builder.command.Command.TheViews.{out-Command as fields_of}

-- a command of this shape, which passes no argument down to subcommands
pub record IsMade (app : App) (command : Command) : Type 0 where
  pub shape : app_of command ≡ app
  pub local : (fields_of command).has_globals ≡ false
