-- The words of a command, and the text that is written where they are no job.
use Rattle.std.specs.Prelude.{◌≡◌, ◌≢◌, ℕ, ◌<◌, ◌≤◌, Bool, false, not, ◌==◌, List, [], ◌∷◌, ◌++◌, length, All, AllPairs, Contains, IsTrue, codes, decimal, Result}
use Rattle.std.specs.Prelude.{Ok, Err}
use Rattle.flag_rules.specs.Line.{lines_of}
use Rattle.program_model.specs.declared.alphabet.TheConstants.{MAX_LINES}
use Rattle.program_model.specs.declared.machine.TheConstants.{MAX_INSTANCES, MAX_POINTERS}
use Rattle.program_model.specs.declared.standing.TheConstants.{MAX_RUN}
use Rattle.evaluations.specs.declared.evaluation.Evaluation.{Evaluation}
use Rattle.evaluations.specs.declared.evaluation.Evaluation.TheVariants.{Jumps, MissingAtoms}
use Rattle.evaluations.specs.Orders.{IsOrder, order_text}
use Rattle.search_bounds.specs.Limits.{AreWithinLimits}
use Rattle.family_gen.specs.declared.kinds.TheConstants.{MAX_NUMBER}
use Rattle.family_gen.specs.Families.{family_name}
use Rattle.command_words.specs.declared.job.TheConstants.{LEAST_BUDGET, LEAST_RUN, USUAL_BUDGET, USUAL_RUN}
use Rattle.command_words.specs.declared.job.Job.{Job}
use Rattle.command_words.specs.declared.job.Job.TheVariants.{Synth, Check, Run, Gen}
use Rattle.command_words.specs.declared.job.Inputs.{Inputs}
use Rattle.command_words.specs.declared.job.SynthJob.{SynthJob}
use Rattle.command_words.specs.declared.job.CheckJob.{CheckJob}
use Rattle.command_words.specs.declared.job.RunJob.{RunJob}
use Rattle.command_words.specs.declared.job.GenJob.{GenJob}
use Rattle.command_words.specs.declared.refusal.JobRefusal.{JobRefusal}
use Rattle.command_words.specs.declared.refusal.JobRefusal.TheVariants.{Usage, OutOfMemory}

-- the byte of `-`
abbrev pub DASH : ℕ
DASH = 45

-- a file name is not empty and does not begin with a dash
abbrev pub is_file_name : List ℕ → Bool
is_file_name [] = false
is_file_name (first ∷ _) = not (first == DASH)

-- the names of input files, as they stand among the words
abbrev pub names_of : Inputs → List (List ℕ)
names_of inputs = inputs.domain ∷ inputs.instances

-- the names are those of files, and there are neither too few nor too many instances
pub record AreInputs (inputs : Inputs) : Type 0 where
  pub domain : IsTrue (is_file_name inputs.domain)
  pub instances : All (λ name. IsTrue (is_file_name name)) inputs.instances
  pub some_instances : 0 < length inputs.instances
  pub few_instances : length inputs.instances ≤ MAX_INSTANCES

-- the numbers of a search are within their limits, and its evaluations are an order
pub record IsSynthJob (job : SynthJob) : Type 0 where
  pub some_pointers : 0 < job.pointers
  pub few_pointers : job.pointers ≤ MAX_POINTERS
  pub bounds : AreWithinLimits job.bounds
  pub some_splits : LEAST_BUDGET ≤ job.bounds.budget
  pub least_run : LEAST_RUN ≤ job.bounds.run
  pub order : IsOrder job.bounds.order
  pub inputs : AreInputs job.inputs

-- the numbers of a check are within their limits
pub record IsCheckJob (job : CheckJob) : Type 0 where
  pub some_pointers : 0 < job.pointers
  pub few_pointers : job.pointers ≤ MAX_POINTERS
  pub some_lines : 0 < job.lines
  pub few_lines : job.lines ≤ MAX_LINES
  pub answer : IsTrue (is_file_name job.answer)
  pub inputs : AreInputs job.inputs

-- the numbers of a run are within their limits
pub record IsRunJob (job : RunJob) : Type 0 where
  pub some_pointers : 0 < job.pointers
  pub few_pointers : job.pointers ≤ MAX_POINTERS
  pub least_run : LEAST_RUN ≤ job.run
  pub most_run : job.run ≤ MAX_RUN
  pub program : IsTrue (is_file_name job.program)
  pub inputs : AreInputs job.inputs

-- the number of a family is within its limit
abbrev pub IsGenJob : GenJob → Type 0
IsGenJob job = job.number ≤ MAX_NUMBER

abbrev pub IsJob : Job → Type 0
IsJob (Synth job) = IsSynthJob job
IsJob (Check job) = IsCheckJob job
IsJob (Run job) = IsRunJob job
IsJob (Gen job) = IsGenJob job

-- the order where the words tell none
abbrev pub usual_order : List Evaluation
usual_order = MissingAtoms ∷ Jumps ∷ []

-- an option as words use it: its name, without the dashes before it, and its value
pub record Use : Type 0 where
  pub name : List ℕ
  pub value : List ℕ

-- the words of an option: its name after two dashes and then its value, or both in one word, with `=` between them
pub data AreWordsOf (used : Use) : List (List ℕ) → Type 0 where
  apart : AreWordsOf used ((codes "--" ++ used.name) ∷ used.value ∷ [])
  joined : AreWordsOf used ((codes "--" ++ used.name ++ codes "=" ++ used.value) ∷ [])

-- the words are those of options one after another, and then these names
abbrev pub AreUsesThen : List Use → List (List ℕ) → List (List ℕ) → Type 0
AreUsesThen [] names words = words ≡ names
AreUsesThen (used ∷ uses) names words = (front : List (List ℕ)) × (rest : List (List ℕ)) × AreWordsOf used front × (words ≡ front ++ rest) × AreUsesThen uses names rest

-- the words are those of options in any order, each at most once and each one of those that a command has, and then these names
pub record AreOptions (options : List (List ℕ)) (uses : List Use) (names words : List (List ℕ)) : Type 0 where
  pub spelled : AreUsesThen uses names words
  pub known : All (λ used. Contains options used.name) uses
  pub once : AllPairs (λ one other. one.name ≢ other.name) uses

-- an option of this name is used with this value
abbrev pub Tells : List Use → List ℕ → List ℕ → Type 0
Tells uses name value = Contains uses (record { name = name; value = value })

-- an option of this name is used with the text of a value; or none is, and the value is the usual one
pub data TellsOrUsual {A : Type 0} (uses : List Use) (name : List ℕ) (spelled : A → List ℕ) (usual value : A) : Type 0 where
  told : Tells uses name (spelled value) → TellsOrUsual uses name spelled usual value
  untold : All (λ used. used.name ≢ name) uses → value ≡ usual → TellsOrUsual uses name spelled usual value

-- the options of `synth`
abbrev pub synth_options : List (List ℕ)
synth_options = codes "pointers" ∷ codes "lines" ∷ codes "budget" ∷ codes "run" ∷ codes "order" ∷ []

-- the words after `synth`: some pointers and lines, maybe a budget, a limit of steps and an order; and then inputs
pub record SynthJobOf (words : List (List ℕ)) (job : SynthJob) : Type 0 where
  pub uses : List Use
  pub options : AreOptions synth_options uses (names_of job.inputs) words
  pub pointers : Tells uses (codes "pointers") (decimal job.pointers)
  pub lines : Tells uses (codes "lines") (decimal job.bounds.lines)
  pub budget : TellsOrUsual uses (codes "budget") decimal USUAL_BUDGET job.bounds.budget
  pub run : TellsOrUsual uses (codes "run") decimal USUAL_RUN job.bounds.run
  pub order : TellsOrUsual uses (codes "order") order_text usual_order job.bounds.order
  pub is_job : IsSynthJob job

-- the options of `check`
abbrev pub check_options : List (List ℕ)
check_options = codes "pointers" ∷ codes "lines" ∷ codes "answer" ∷ []

-- the words after `check`: some pointers, lines and a document; and then inputs
pub record CheckJobOf (words : List (List ℕ)) (job : CheckJob) : Type 0 where
  pub uses : List Use
  pub options : AreOptions check_options uses (names_of job.inputs) words
  pub pointers : Tells uses (codes "pointers") (decimal job.pointers)
  pub lines : Tells uses (codes "lines") (decimal job.lines)
  pub answer : Tells uses (codes "answer") job.answer
  pub is_job : IsCheckJob job

-- the options of `run`
abbrev pub run_options : List (List ℕ)
run_options = codes "pointers" ∷ codes "program" ∷ codes "run" ∷ []

-- the words after `run`: some pointers and a program, maybe a limit of steps; and then inputs
pub record RunJobOf (words : List (List ℕ)) (job : RunJob) : Type 0 where
  pub uses : List Use
  pub options : AreOptions run_options uses (names_of job.inputs) words
  pub pointers : Tells uses (codes "pointers") (decimal job.pointers)
  pub program : Tells uses (codes "program") job.program
  pub run : TellsOrUsual uses (codes "run") decimal USUAL_RUN job.run
  pub is_job : IsRunJob job

-- the words after `gen`: the name of a family, and a number
pub record GenJobOf (words : List (List ℕ)) (job : GenJob) : Type 0 where
  pub spelled : words ≡ family_name job.family ∷ decimal job.number ∷ []
  pub is_job : IsGenJob job

-- the words are those of the job: its command first
abbrev pub JobOf : List (List ℕ) → Job → Type 0
JobOf [] job = ⊥
JobOf (command ∷ words) (Synth job) = (command ≡ codes "synth") × SynthJobOf words job
JobOf (command ∷ words) (Check job) = (command ≡ codes "check") × CheckJobOf words job
JobOf (command ∷ words) (Run job) = (command ≡ codes "run") × RunJobOf words job
JobOf (command ∷ words) (Gen job) = (command ≡ codes "gen") × GenJobOf words job

-- what reading words may answer: what they spell, or that they spell nothing
abbrev pub IsReading : {A : Type 0} → (A → Type 0) → Result A JobRefusal → Type 0
IsReading Spells (Ok a) = Spells a
IsReading {A} Spells (Err Usage) = (a : A) → Spells a → ⊥
IsReading Spells (Err OutOfMemory) = Unit {0}

abbrev pub usage_text : List ℕ
usage_text = lines_of (
    codes "usage: bfgp synth --pointers K --lines N [--budget B] [--run R] [--order E] DOMAIN INSTANCE.." ∷
    codes "       bfgp check --pointers K --lines N --answer FILE DOMAIN INSTANCE.." ∷
    codes "       bfgp run --pointers K --program FILE [--run R] DOMAIN INSTANCE.." ∷
    codes "       bfgp gen FAMILY NUMBER" ∷ [])
