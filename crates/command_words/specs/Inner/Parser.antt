-- The parser of the words of a command, as clap reads it, and what is read of its matches.
use Rattle.std.specs.Prelude.{◌≡◌, ℕ, ◌+◌, Bool, true, List, [], ◌∷◌, ◌++◌, map, codes, Some}
use Rattle.std.specs.List.{list_any}
use Rattle.std.specs.Str.{bytes_eq}
use Rattle.clap.specs.Walk.{Row, Rule, all_of, first_of}
use Rattle.clap.specs.Simple.{App, Shape, new_rule, new_shape, with_subcommand}
use Rattle.program_model.specs.declared.machine.TheConstants.{MAX_INSTANCES}
use Rattle.command_words.specs.declared.matching.Command.{Command}
use Rattle.command_words.specs.declared.matching.Command.TheVariants.{Synth, Check, Run, Gen}
use Rattle.command_words.specs.declared.matching.Matched.{Matched}
use Rattle.command_words.specs.Inner.Matching.{options_of, required_of}

-- the name of a command, as words have it
abbrev pub name_of : Command → List ℕ
name_of Synth = codes "synth"
name_of Check = codes "check"
name_of Run = codes "run"
name_of Gen = codes "gen"

-- an option takes one value
abbrev pub option_rule : List ℕ → Bool → Rule
option_rule name is_required = record (new_rule name) { long = Some name; required = is_required }

-- names stand behind the options, as many as those of a domain file and of instance files
abbrev pub names_rule : Rule
names_rule = record (new_rule (codes "names")) {
  range = Some (record { start_inclusive = 2; end_inclusive = MAX_INSTANCES + 1 });
  required = true;
}

-- a command has its options, of which some may not be left out, and names
abbrev pub rules_for : Command → List Rule
rules_for command = map (λ name. option_rule name (list_any (bytes_eq name) (required_of command))) (options_of command) ++ names_rule ∷ []

-- the parser of the words after the name of a command
abbrev pub shape_for : Command → Shape
shape_for command = record (new_shape (name_of command)) { rules = rules_for command }

-- the parser of the words of all commands
abbrev pub parser_app : App
parser_app = with_subcommand (with_subcommand (with_subcommand (with_subcommand
    (record { top = record (new_shape (codes "bfgp")) { no_binary_name = true }; subs = [] })
    (shape_for Synth)) (shape_for Check)) (shape_for Run)) (shape_for Gen)

-- each option has the value that stands in its row, and the names are those of theirs
pub record IsReadFrom (rows : List Row) (matched : Matched) : Type 0 where
  pub pointers : matched.pointers ≡ first_of (codes "pointers") rows
  pub lines : matched.lines ≡ first_of (codes "lines") rows
  pub budget : matched.budget ≡ first_of (codes "budget") rows
  pub run : matched.run ≡ first_of (codes "run") rows
  pub order : matched.order ≡ first_of (codes "order") rows
  pub answer : matched.answer ≡ first_of (codes "answer") rows
  pub program : matched.program ≡ first_of (codes "program") rows
  pub names : all_of (codes "names") rows ≡ Some matched.names
