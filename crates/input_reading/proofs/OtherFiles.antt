-- What is due of the machine over inputs depends on the files of those names alone.
use Rattle.std.proofs.Common.{◌≡◌, ℕ, List, [], ◌∷◌, Option, Result, Ok, Err, sym, subst}
use Rattle.std.specs.Prelude.{All}
use Rattle.std.proofs.lemmas.List.Elements.{All-head, All-tail}
use Rattle.flag_rules.specs.declared.file.TheConstants.{MAX_FILE_BYTES}
use Rattle.bfgp_outside.specs.Shelf.{Files}
use Rattle.bfgp_outside.specs.Whole.{whole_of}
use Rattle.ground_state.specs.Ground.{Ground}
use Rattle.pointer_machine.specs.Machine.{MachineParts}
use Rattle.command_words.specs.declared.job.Inputs.{Inputs}
use Rattle.command_words.specs.Words.{names_of}
use Rattle.input_reading.specs.declared.domain_reading.Domain.{Domain}
use Rattle.input_reading.specs.Steps.{goes_on, ends}
use Rattle.input_reading.specs.Inputs.{file_due, tables_due, machine_due}

module _ (files later : Files) where
  -- the file of this name is as it was
  abbrev IsKept : List ℕ → Type 0
  IsKept name = later name ≡ files name

  file_kept : (limit : ℕ) (name : List ℕ) (r : Result (List ℕ) (List ℕ)) → IsKept name → file_due files limit name r → file_due later limit name r
  file_kept limit name (Ok bytes) kept read = subst (λ (held : Option (List ℕ)). Ok bytes ≡ whole_of held limit) (sym kept) read
  file_kept limit name (Err line) kept told = (told.0, subst (λ (held : Option (List ℕ)). Err told.0 ≡ whole_of held limit) (sym kept) told.1, told.2)

  tables_kept : (domain : Domain) (names : List (List ℕ)) (r : Result (List Ground) (List ℕ)) → All IsKept names → tables_due files domain names r → tables_due later domain names r
  tables_kept domain [] r kept none = none
  tables_kept domain (name ∷ names) r kept (goes_on {a = bytes} read (goes_on {a = table} made (goes_on {a = tables} others all))) =
      goes_on (file_kept MAX_FILE_BYTES name (Ok bytes) (All-head IsKept name names kept) read) (goes_on made
      (goes_on (tables_kept domain names (Ok tables) (All-tail IsKept name names kept) others) all))
  tables_kept domain (name ∷ names) _ kept (goes_on {a = bytes} read (goes_on {a = table} made (ends {line = line} others))) =
      goes_on (file_kept MAX_FILE_BYTES name (Ok bytes) (All-head IsKept name names kept) read) (goes_on made
      (ends (tables_kept domain names (Err line) (All-tail IsKept name names kept) others)))
  tables_kept domain (name ∷ names) _ kept (goes_on {a = bytes} read (ends {line = line} refused)) =
      goes_on (file_kept MAX_FILE_BYTES name (Ok bytes) (All-head IsKept name names kept) read) (ends refused)
  tables_kept domain (name ∷ names) _ kept (ends {line = line} told) =
      ends (file_kept MAX_FILE_BYTES name (Err line) (All-head IsKept name names kept) told)

  pub machine_kept : (inputs : Inputs) (pointers : ℕ) (r : Result MachineParts (List ℕ)) → All IsKept (names_of inputs) → machine_due files inputs pointers r → machine_due later inputs pointers r
  machine_kept inputs pointers r kept (goes_on {a = bytes} read (goes_on {a = domain} numbered (goes_on {a = tables} made counted))) =
      goes_on (file_kept MAX_FILE_BYTES inputs.domain (Ok bytes) (All-head IsKept inputs.domain inputs.instances kept) read) (goes_on numbered
      (goes_on (tables_kept domain inputs.instances (Ok tables) (All-tail IsKept inputs.domain inputs.instances kept) made) counted))
  machine_kept inputs pointers _ kept (goes_on {a = bytes} read (goes_on {a = domain} numbered (ends {line = line} told))) =
      goes_on (file_kept MAX_FILE_BYTES inputs.domain (Ok bytes) (All-head IsKept inputs.domain inputs.instances kept) read) (goes_on numbered
      (ends (tables_kept domain inputs.instances (Err line) (All-tail IsKept inputs.domain inputs.instances kept) told)))
  machine_kept inputs pointers _ kept (goes_on {a = bytes} read (ends {line = line} refused)) =
      goes_on (file_kept MAX_FILE_BYTES inputs.domain (Ok bytes) (All-head IsKept inputs.domain inputs.instances kept) read) (ends refused)
  machine_kept inputs pointers _ kept (ends {line = line} told) =
      ends (file_kept MAX_FILE_BYTES inputs.domain (Err line) (All-head IsKept inputs.domain inputs.instances kept) told)
