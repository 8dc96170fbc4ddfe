-- The tables of the instance files, read one after another.
use Rattle.std.proofs.Common.{◌≡◌, ℕ, ◌+◌, ◌<◌, ◌≤◌, List, [], ◌∷◌, ◌++◌, length, drop, get_or, Option, Result, Ok, Err, refl, sym, ◌∙◌, ap, subst, arith}
use Rattle.std.specs.Prelude.{All}
use Rattle.std.proofs.lemmas.List.{drop_more, drop_all, append-nil, append_assoc}
use Rattle.bfgp_outside.specs.Shelf.{Files, Knowing}
use Rattle.flag_rules.specs.declared.file.TheConstants.{MAX_FILE_BYTES}
use Rattle.ground_state.specs.Ground.{Ground}
use Rattle.input_reading.specs.declared.domain_reading.Domain.{Domain}
use Rattle.input_reading.specs.declared.halt.Halt.{Halt}
use Rattle.input_reading.specs.declared.halt.Halt.TheVariants.{Refused, ReadFault, OutOfMemory}
use Rattle.input_reading.specs.Steps.{◌>>=◌, goes_on, ends, Gives}
use Rattle.input_reading.specs.Inputs.{file_due, table_due, tables_due}
use Rattle.input_reading.proofs.Chain.{knowing_both, knowing_same}
use Rattle.input_reading.proofs.Sequels.{after_others}

pub no_items : {X : Type 0} (P : X → Type 0) → All P []
no_items P k d within = absurd (omega arith)

-- whatever the other instances may come to, all together may come to it with these tables in front
pub record Continues (files : Files) (domain : Domain) (names : List (List ℕ)) (i : ℕ) (front : List Ground) : Type 0 where
  pub goes : (r : Result (List Ground) (List ℕ)) → (tables_due files domain (drop i names) >>= after_others front) r → tables_due files domain names r

-- no table is read yet
pub begins : (files : Files) (domain : Domain) (names : List (List ℕ)) → Continues files domain names 0 []
begins files domain names = record { goes = goes }
  where
    goes : (r : Result (List Ground) (List ℕ)) → (tables_due files domain (drop 0 names) >>= after_others []) r → tables_due files domain names r
    goes r (goes_on {a = rest} these is) = subst (tables_due files domain names) (sym is) these
    goes _ (ends these) = these

module _ (files : Files) (domain : Domain) (names : List (List ℕ)) (i : ℕ) (front : List Ground) (name : List ℕ) (so_far : Continues files domain names i front) (within : i < length names) (here : name ≡ get_or names i name) where
  cut : drop i names ≡ name ∷ drop (i + 1) names
  cut = drop_more names i name within ∙ ap (λ (n : List ℕ). n ∷ drop (i + 1) names) (sym here)

  -- what the first of the other instances comes to
  told : (line : List ℕ) → tables_due files domain (name ∷ drop (i + 1) names) (Err line) → tables_due files domain names (Err line)
  told line ended = so_far.goes (Err line) (ends (subst (λ (n : List (List ℕ)). tables_due files domain n (Err line)) (sym cut) ended))

  -- its file ends the job
  pub ends_at_file : (halt : Halt) → Gives (file_due files MAX_FILE_BYTES name) (Err halt) → Gives (tables_due files domain names) (Err halt)
  ends_at_file (Refused line) ended = told line (ends ended)
  ends_at_file ReadFault ended = tt
  ends_at_file OutOfMemory ended = tt

  -- its text ends the job
  pub ends_at_table : (bytes : List ℕ) (halt : Halt) → file_due files MAX_FILE_BYTES name (Ok bytes) → Gives (table_due name domain bytes) (Err halt) → Gives (tables_due files domain names) (Err halt)
  ends_at_table bytes (Refused line) read ended = told line (goes_on read (ends ended))
  ends_at_table bytes ReadFault read ended = tt
  ends_at_table bytes OutOfMemory read ended = tt

  -- one more table
  pub continues : (bytes : List ℕ) (table : Ground) → file_due files MAX_FILE_BYTES name (Ok bytes) → table_due name domain bytes (Ok table) → Continues files domain names (i + 1) (front ++ table ∷ [])
  continues bytes table read made = record { goes = goes }
    where
      goes : (r : Result (List Ground) (List ℕ)) → (tables_due files domain (drop (i + 1) names) >>= after_others (front ++ table ∷ [])) r → tables_due files domain names r
      goes r (goes_on {a = rest} these is) =
          let all : tables_due files domain (drop i names) (Ok (table ∷ rest)) = subst (λ (n : List (List ℕ)). tables_due files domain n (Ok (table ∷ rest))) (sym cut) (goes_on read (goes_on made (goes_on these refl))) in
          so_far.goes r (goes_on all (is ∙ ap Ok (append_assoc front (table ∷ []) rest)))
      goes _ (ends {line = line} these) = told line (goes_on read (goes_on made (ends these)))

-- all tables are read
pub finished : (files : Files) (domain : Domain) (names : List (List ℕ)) (i : ℕ) (front : List Ground) → Continues files domain names i front → length names ≤ i → tables_due files domain names (Ok front)
finished files domain names i front so_far over =
    let none : tables_due files domain (drop i names) (Ok []) = subst (λ (n : List (List ℕ)). tables_due files domain n (Ok [])) (sym (drop_all i names over)) refl in
    so_far.goes (Ok front) (goes_on none (ap Ok (sym (append-nil front))))

-- a table by slices of the name and of the bytes
pub at_bytes : (name name_slice bytes slice : List ℕ) (domain : Domain) (r : Result Ground Halt) → name_slice ≡ name → slice ≡ bytes → Gives (table_due name_slice domain slice) r → Gives (table_due name domain bytes) r
at_bytes name name_slice bytes slice domain r same_name same here =
    subst (λ (b : List ℕ). Gives (table_due name domain b) r) same (subst (λ (n : List ℕ). Gives (table_due n domain slice) r) same_name here)

-- the same, where the shelf tells its files
module _ (told later : Option Files) (kept : later ≡ told) (domain : Domain) (names : List (List ℕ)) (i : ℕ) (front : List Ground) (name slice : List ℕ) (same : slice ≡ name) (so_far : Knowing told (λ (files : Files). Continues files domain names i front)) (within : i < length names) (here : name ≡ get_or names i name) where
  abbrev Reads : Result (List ℕ) Halt → Type 0
  Reads r = Knowing later (λ (files : Files). Gives (file_due files MAX_FILE_BYTES slice) r)

  pub known_file : (halt : Halt) → Reads (Err halt) → Knowing told (λ (files : Files). Gives (tables_due files domain names) (Err halt))
  known_file halt ended =
      knowing_both told (λ (files : Files). Continues files domain names i front) (λ (files : Files). Gives (file_due files MAX_FILE_BYTES slice) (Err halt)) (λ (files : Files). Gives (tables_due files domain names) (Err halt)) (λ files goes_on ends. ends_at_file files domain names i front name goes_on within here halt (subst (λ (n : List ℕ). Gives (file_due files MAX_FILE_BYTES n) (Err halt)) same ends)) so_far (knowing_same (λ (files : Files). Gives (file_due files MAX_FILE_BYTES slice) (Err halt)) kept ended)

  pub known_table : (bytes : List ℕ) (halt : Halt) → Reads (Ok bytes) → Gives (table_due name domain bytes) (Err halt) → Knowing told (λ (files : Files). Gives (tables_due files domain names) (Err halt))
  known_table bytes halt read ended =
      knowing_both told (λ (files : Files). Continues files domain names i front) (λ (files : Files). Gives (file_due files MAX_FILE_BYTES slice) (Ok bytes)) (λ (files : Files). Gives (tables_due files domain names) (Err halt)) (λ files goes_on was. ends_at_table files domain names i front name goes_on within here bytes halt (subst (λ (n : List ℕ). Gives (file_due files MAX_FILE_BYTES n) (Ok bytes)) same was) ended) so_far (knowing_same (λ (files : Files). Gives (file_due files MAX_FILE_BYTES slice) (Ok bytes)) kept read)

  pub known_more : (bytes : List ℕ) (table : Ground) → Reads (Ok bytes) → Gives (table_due name domain bytes) (Ok table) → Knowing told (λ (files : Files). Continues files domain names (i + 1) (front ++ table ∷ []))
  known_more bytes table read made =
      knowing_both told (λ (files : Files). Continues files domain names i front) (λ (files : Files). Gives (file_due files MAX_FILE_BYTES slice) (Ok bytes)) (λ (files : Files). Continues files domain names (i + 1) (front ++ table ∷ [])) (λ files goes_on was. continues files domain names i front name goes_on within here bytes table (subst (λ (n : List ℕ). Gives (file_due files MAX_FILE_BYTES n) (Ok bytes)) same was) made) so_far (knowing_same (λ (files : Files). Gives (file_due files MAX_FILE_BYTES slice) (Ok bytes)) kept read)
