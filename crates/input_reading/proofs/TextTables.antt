-- The tables of instances whose texts are held in memory, read one after another.
use Rattle.std.proofs.Common.{◌≡◌, ℕ, ◌+◌, ◌<◌, ◌≤◌, List, [], ◌∷◌, ◌++◌, length, drop, get_or, Result, Ok, Err, refl, sym, ◌∙◌, ap, subst}
use Rattle.std.proofs.lemmas.List.{drop_more, drop_all, append-nil, append_assoc}
use Rattle.ground_state.specs.Ground.{Ground}
use Rattle.input_reading.specs.declared.domain_reading.Domain.{Domain}
use Rattle.input_reading.specs.declared.halt.Halt.{Halt}
use Rattle.input_reading.specs.declared.halt.Halt.TheVariants.{Refused, ReadFault, OutOfMemory}
use Rattle.input_reading.specs.Steps.{◌>>=◌, goes_on, ends, Gives}
use Rattle.input_reading.specs.Inputs.{table_due, tables_of_texts_due}
use Rattle.input_reading.proofs.Sequels.{after_others}

module _ (name : List ℕ) (domain : Domain) (texts : List (List ℕ)) where
  -- whatever the other instances may come to, all together may come to it with these tables in front
  pub record Continues (i : ℕ) (front : List Ground) : Type 0 where
    pub goes : (r : Result (List Ground) (List ℕ)) → (tables_of_texts_due name domain (drop i texts) >>= after_others front) r → tables_of_texts_due name domain texts r

  -- no table is made yet
  pub begins : Continues 0 []
  begins = record { goes = goes }
    where
      goes : (r : Result (List Ground) (List ℕ)) → (tables_of_texts_due name domain (drop 0 texts) >>= after_others []) r → tables_of_texts_due name domain texts r
      goes r (goes_on {a = rest} these is) = subst (tables_of_texts_due name domain texts) (sym is) these
      goes _ (ends these) = these

  module _ (i : ℕ) (front : List Ground) (text slice : List ℕ) (same : slice ≡ text) (so_far : Continues i front) (within : i < length texts) (here : text ≡ get_or texts i text) where
    cut : drop i texts ≡ text ∷ drop (i + 1) texts
    cut = drop_more texts i text within ∙ ap (λ (t : List ℕ). t ∷ drop (i + 1) texts) (sym here)

    -- what the first of the other instances comes to, by a slice of its text
    told : (line : List ℕ) → tables_of_texts_due name domain (text ∷ drop (i + 1) texts) (Err line) → tables_of_texts_due name domain texts (Err line)
    told line ended = so_far.goes (Err line) (ends (subst (λ (t : List (List ℕ)). tables_of_texts_due name domain t (Err line)) (sym cut) ended))

    whole : (r : Result Ground (List ℕ)) → table_due name domain slice r → table_due name domain text r
    whole r made = subst (λ (t : List ℕ). table_due name domain t r) same made

    -- its text ends the job
    pub ends_at_table : (halt : Halt) → Gives (table_due name domain slice) (Err halt) → Gives (tables_of_texts_due name domain texts) (Err halt)
    ends_at_table (Refused line) ended = told line (ends (whole (Err line) ended))
    ends_at_table ReadFault ended = tt
    ends_at_table OutOfMemory ended = tt

    -- one more table
    pub continues : (table : Ground) → table_due name domain slice (Ok table) → Continues (i + 1) (front ++ table ∷ [])
    continues table made = record { goes = goes }
      where
        goes : (r : Result (List Ground) (List ℕ)) → (tables_of_texts_due name domain (drop (i + 1) texts) >>= after_others (front ++ table ∷ [])) r → tables_of_texts_due name domain texts r
        goes r (goes_on {a = rest} these is) =
            let all : tables_of_texts_due name domain (drop i texts) (Ok (table ∷ rest)) = subst (λ (t : List (List ℕ)). tables_of_texts_due name domain t (Ok (table ∷ rest))) (sym cut) (goes_on (whole (Ok table) made) (goes_on these refl)) in
            so_far.goes r (goes_on all (is ∙ ap Ok (append_assoc front (table ∷ []) rest)))
        goes _ (ends {line = line} these) = told line (goes_on (whole (Ok table) made) (ends these))

  -- all tables are made
  pub finished : (i : ℕ) (front : List Ground) → Continues i front → length texts ≤ i → tables_of_texts_due name domain texts (Ok front)
  finished i front so_far over =
      let none : tables_of_texts_due name domain (drop i texts) (Ok []) = subst (λ (t : List (List ℕ)). tables_of_texts_due name domain t (Ok [])) (sym (drop_all i texts over)) refl in
      so_far.goes (Ok front) (goes_on none (ap Ok (sym (append-nil front))))
