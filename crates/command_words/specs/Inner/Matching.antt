-- The form of the words after a command, and what is matched in them.
use Rattle.std.specs.Prelude.{◌≡◌, ℕ, ◌+◌, ◌<◌, ◌≤◌, List, [], ◌∷◌, length, find, All, IsTrue, codes, Option, option_map}
use Rattle.std.specs.Str.{bytes_eq}
use Rattle.program_model.specs.declared.machine.TheConstants.{MAX_INSTANCES}
use Rattle.command_words.specs.declared.matching.Command.{Command}
use Rattle.command_words.specs.declared.matching.Command.TheVariants.{Synth, Check, Run, Gen}
use Rattle.command_words.specs.declared.matching.Matched.{Matched}
use Rattle.command_words.specs.Words.{Use, AreOptions, Tells, is_file_name, synth_options, check_options, run_options}

-- the options that a command has
abbrev pub options_of : Command → List (List ℕ)
options_of Synth = synth_options
options_of Check = check_options
options_of Run = run_options
options_of Gen = []

-- the options without which the words are those of no command
abbrev pub required_of : Command → List (List ℕ)
required_of Synth = codes "pointers" ∷ codes "lines" ∷ []
required_of Check = codes "pointers" ∷ codes "lines" ∷ codes "answer" ∷ []
required_of Run = codes "pointers" ∷ codes "program" ∷ []
required_of Gen = []

-- the words are those of options that the command has and of all that it needs, and then names, as many as those of a domain file and of some instance files
pub record IsForm (command : Command) (uses : List Use) (names words : List (List ℕ)) : Type 0 where
  pub options : AreOptions (options_of command) uses names words
  pub values : All (λ used. IsTrue (is_file_name used.value)) uses
  pub required : All (λ name. (value : List ℕ) × Tells uses name value) (required_of command)
  pub are_names : All (λ name. IsTrue (is_file_name name)) names
  pub some_instances : 1 < length names
  pub few_instances : length names ≤ MAX_INSTANCES + 1

-- the words have the form of those after a command
abbrev pub HasForm : Command → List (List ℕ) → Type 0
HasForm command words = (uses : List Use) × (names : List (List ℕ)) × IsForm command uses names words

-- the value of the option of this name, if it is used
abbrev pub value_in : List Use → List ℕ → Option (List ℕ)
value_in uses name = option_map (λ used. used.value) (find (λ used. bytes_eq used.name name) uses)

-- what is matched are the values of the options that the words use, and the names
pub record IsMatched (command : Command) (words : List (List ℕ)) (matched : Matched) : Type 0 where
  pub uses : List Use
  pub form : IsForm command uses matched.names words
  pub pointers : matched.pointers ≡ value_in uses (codes "pointers")
  pub lines : matched.lines ≡ value_in uses (codes "lines")
  pub budget : matched.budget ≡ value_in uses (codes "budget")
  pub run : matched.run ≡ value_in uses (codes "run")
  pub order : matched.order ≡ value_in uses (codes "order")
  pub answer : matched.answer ≡ value_in uses (codes "answer")
  pub program : matched.program ≡ value_in uses (codes "program")
