-- What the tests of uses tell.
use Rattle.std.proofs.Common.{◌≡◌, ◌≢◌, ℕ, zero, suc, ◌+◌, ◌-◌, ◌<◌, ◌≤◌, Bool, true, false, List, [], ◌∷◌, length, map, take, drop, get_or, string_bytes, String, Global, refl, sym, ◌∙◌, ap, subst, inl, inr, arith}
use Rattle.std.specs.Prelude.{◌↔◌, ◌||◌, not, All, Contains, IsTrue}
use Rattle.std.specs.List.{list_all, list_any}
use Rattle.std.specs.Str.{bytes_eq}
use Rattle.std.proofs.lemmas.Bool.{false≢true, not_from_true, or_cases, or_left, or_right}
use Rattle.std.proofs.lemmas.List.{length-map, get_or_default}
use Rattle.std.proofs.lemmas.List.Elements.{All-nil, All-cons, All-head, All-tail, All-map}
use Rattle.std.proofs.lemmas.List.Folds.{Any-from_list_any, list_any_at}
use Rattle.std.proofs.lemmas.List.Kept.{AllPairs-cons}
use Rattle.std.proofs.lemmas.List.Sums.{AllPass-from_list_all, list_all-from_AllPass}
use Rattle.std.proofs.lemmas.Slice.Eq.{bytes_eq-Decides}
use Rattle.program_model.specs.declared.machine.TheConstants.{MAX_INSTANCES}
use Rattle.command_words.specs.declared.scanning.OptionUse.{OptionUse}
use Rattle.command_words.specs.declared.matching.Command.{Command}
use Rattle.command_words.specs.Words.{Use, Tells, is_file_name}
use Rattle.command_words.specs.Inner.Matching.{HasForm, options_of, required_of}
use Rattle.command_words.specs.Inner.Scanning.{AreCutInto, use_of, has_option, is_used}
use Rattle.command_words.proofs.Forms.{form_of_cut, tested_form}
use Rattle.command_words.proofs.Spelled.{first_word}
use Rattle.command_words.proofs.Uses.{AreOnce, once_tail}

-- what holds of each mapped item holds of each item
pub all_unmapped : {X Y : Type 0} (f : X → Y) (P : Y → Type 0) (xs : List X) → All P (map f xs) → All (λ x. P (f x)) xs
all_unmapped f P [] all = All-nil (λ x. P (f x))
all_unmapped f P (x ∷ xs) all = All-cons (λ z. P (f z)) x xs (All-head P (f x) (map f xs) all) (all_unmapped f P xs (All-tail P (f x) (map f xs) all))

pub any_mapped : {X Y : Type 0} (f : X → Y) (test : Y → Bool) (xs : List X) → list_any test (map f xs) ≡ list_any (λ x. test (f x)) xs
any_mapped f test [] = refl
any_mapped f test (x ∷ xs) = ap (λ (b : Bool). test (f x) || b) (any_mapped f test xs)

-- a name is one of the options
is_option : (options : List (List ℕ)) (name : List ℕ) → list_any (λ option. bytes_eq option name) options ≡ true → Contains options name
is_option options name found =
    let any = Any-from_list_any (λ option. bytes_eq option name) options found in
    (any.0, any.2, subst (λ (o : List ℕ). get_or options any.0 o ≡ o) ((bytes_eq-Decides any.1 name).0 any.4) any.3)

option_is : (options : List (List ℕ)) (name : List ℕ) → Contains options name → list_any (λ option. bytes_eq option name) options ≡ true
option_is options name here = list_any_at (λ option. bytes_eq option name) options here.0 name here.1 ((bytes_eq-Decides (get_or options here.0 name) name).1 here.2)

pub known_tested : (command : Command) (uses : List OptionUse) (r : Bool) → r ≡ list_all (λ used. list_any (λ option. bytes_eq option used.name.now) (options_of command)) uses → (r ≡ true) ↔ All (λ used. Contains (options_of command) used.name) (map use_of uses)
known_tested command uses r is = (
  λ yes. All-map (λ used. Contains (options_of command) used.name) use_of uses (λ k d within. is_option (options_of command) (get_or uses k d).name.now (AllPass-from_list_all (λ used. list_any (λ option. bytes_eq option used.name.now) (options_of command)) uses (sym is ∙ yes) k d within)),
  λ all. is ∙ list_all-from_AllPass (λ used. list_any (λ option. bytes_eq option used.name.now) (options_of command)) uses (λ k d within. option_is (options_of command) (get_or uses k d).name.now (all_unmapped use_of (λ used. Contains (options_of command) used.name) uses all k d within)),
)

pub values_tested : (uses : List OptionUse) (r : Bool) → r ≡ list_all (λ used. is_file_name used.value.now) uses → (r ≡ true) ↔ All (λ used. IsTrue (is_file_name used.value)) (map use_of uses)
values_tested uses r is = (
  λ yes. All-map (λ used. IsTrue (is_file_name used.value)) use_of uses (AllPass-from_list_all (λ used. is_file_name used.value.now) uses (sym is ∙ yes)),
  λ all. is ∙ list_all-from_AllPass (λ used. is_file_name used.value.now) uses (all_unmapped use_of (λ used. IsTrue (is_file_name used.value)) uses all),
)

-- an option is used
pub used_tells : (uses : List OptionUse) (name : List ℕ) → list_any (λ used. bytes_eq used.name.now name) uses ≡ true → (value : List ℕ) × Tells (map use_of uses) name value
used_tells [] name found = absurd (false≢true found)
used_tells (used ∷ uses) name found =
    elim (or_cases (bytes_eq used.name.now name) (list_any (λ u. bytes_eq u.name.now name) uses) found) [
      | inl here ↦ (used.value.now, (zero, omega arith, λ i. record { name = (bytes_eq-Decides used.name.now name).0 here i; value = used.value.now }))
      | inr later ↦
          let there = used_tells uses name later in
          let place = there.1 in
          (there.0, (suc place.0, omega (arith, place.1), place.2))
    ]

tells_used_at : (uses : List OptionUse) (name value : List ℕ) (k : ℕ) → k < length (map use_of uses) → get_or (map use_of uses) k (record { name = name; value = value }) ≡ record { name = name; value = value } → list_any (λ used. bytes_eq used.name.now name) uses ≡ true
tells_used_at [] name value k within is = absurd (omega (arith, within))
tells_used_at (used ∷ uses) name value zero within is =
    or_left (bytes_eq used.name.now name) (list_any (λ u. bytes_eq u.name.now name) uses) ((bytes_eq-Decides used.name.now name).1 (ap (λ (u : Use). u.name) is))
tells_used_at (used ∷ uses) name value (suc k) within is =
    or_right (bytes_eq used.name.now name) (list_any (λ u. bytes_eq u.name.now name) uses) (tells_used_at uses name value k (omega (arith, within)) is)

pub tells_used : (uses : List OptionUse) (name value : List ℕ) → Tells (map use_of uses) name value → list_any (λ used. bytes_eq used.name.now name) uses ≡ true
tells_used uses name value tells = tells_used_at uses name value tells.0 tells.1 tells.2

pub required_tested : (uses : List OptionUse) (required : List (List ℕ)) (r : Bool) → r ≡ list_all (λ name. list_any (λ used. bytes_eq used.name.now name) uses) required → (r ≡ true) ↔ All (λ name. (value : List ℕ) × Tells (map use_of uses) name value) required
required_tested uses required r is = (
  λ yes k d within. used_tells uses (get_or required k d) (AllPass-from_list_all (λ name. list_any (λ used. bytes_eq used.name.now name) uses) required (sym is ∙ yes) k d within),
  λ all. is ∙ list_all-from_AllPass (λ name. list_any (λ used. bytes_eq used.name.now name) uses) required (λ k d within.
      let told = all k d within in
      tells_used uses (get_or required k d) told.0 told.1),
)

-- no option is used twice, where there is no use
pub none_differ : (uses : List OptionUse) → length uses < 1 → AreOnce (map use_of uses)
none_differ uses few i j d before within = absurd (omega (arith, few, within, before, length-map uses use_of))

unused_differ : (first : OptionUse) (others : List OptionUse) → list_any (λ used. bytes_eq used.name.now first.name.now) others ≡ false → All (λ other. (use_of first).name ≢ other.name) (map use_of others)
unused_differ first others none =
    All-map (λ other. (use_of first).name ≢ other.name) use_of others (λ k d within same.
    false≢true (sym none ∙ list_any_at (λ used. bytes_eq used.name.now first.name.now) others k d within ((bytes_eq-Decides (get_or others k d).name.now first.name.now).1 (sym same))))

-- the first use differs from the others, which differ
pub first_differs : (first : OptionUse) (others : List OptionUse) → list_any (λ used. bytes_eq used.name.now first.name.now) others ≡ false → AreOnce (map use_of others) → AreOnce (use_of first ∷ map use_of others)
first_differs first others none once = AllPairs-cons (λ one other. one.name ≢ other.name) (use_of first) (map use_of others) (unused_differ first others none) once

-- and not where it is used again
pub used_again : (first : OptionUse) (others : List OptionUse) → list_any (λ used. bytes_eq used.name.now first.name.now) others ≡ true → AreOnce (use_of first ∷ map use_of others) → ⊥
used_again first others found once =
    let told = used_tells others first.name.now found in
    let place = told.1 in
    let d : Use = record { name = first.name.now; value = told.0 } in
    once zero (suc place.0) d (omega arith) (omega (arith, place.1)) (sym (ap (λ (u : Use). u.name) place.2))

-- the first use and the others
split_first : (uses : List OptionUse) (d : OptionUse) → 1 ≤ length uses → map use_of uses ≡ use_of (get_or uses 0 d) ∷ map use_of (take (length uses - 1) (drop 1 uses))
split_first uses d long = first_word use_of uses (get_or uses 0 d) long (get_or_default uses 0 d (get_or uses 0 d) (omega (arith, long)))

pub new_first : (uses : List OptionUse) (d : OptionUse) (used others_differ : Bool) → 1 ≤ length uses → used ≡ is_used (take (length uses - 1) (drop 1 uses)) (get_or uses 0 d).name.now → used ≡ false → (others_differ ≡ true) ↔ AreOnce (map use_of (take (length uses - 1) (drop 1 uses))) → (others_differ ≡ true) ↔ AreOnce (map use_of uses)
new_first uses d used others_differ long is unused both =
    let others = take (length uses - 1) (drop 1 uses) in
    let spelled = split_first uses d long in (
      λ yes. subst (λ (l : List Use). AreOnce l) (sym spelled) (first_differs (get_or uses 0 d) others (sym is ∙ unused) (both.0 yes)),
      λ once. both.1 (once_tail (use_of (get_or uses 0 d)) (map use_of others) (subst (λ (l : List Use). AreOnce l) spelled once)),
    )

pub first_again : (uses : List OptionUse) (d : OptionUse) (used : Bool) → 1 ≤ length uses → used ≡ is_used (take (length uses - 1) (drop 1 uses)) (get_or uses 0 d).name.now → used ≡ true → (not used ≡ true) ↔ AreOnce (map use_of uses)
first_again uses d used long is used_later = (
  λ differ. absurd (false≢true (sym (not_from_true used used_later) ∙ differ)),
  λ once. absurd (used_again (get_or uses 0 d) (take (length uses - 1) (drop 1 uses)) (sym is ∙ used_later) (subst (λ (l : List Use). AreOnce l) (split_first uses d long) once)),
)

-- what is told by the tests of the uses, and by those of the names
abbrev pub PassAsUses : Command → List OptionUse → Type 0
PassAsUses command uses =
    IsTrue (list_all (λ used. has_option command used.name.now) uses)
    × AreOnce (map use_of uses)
    × IsTrue (list_all (λ used. is_file_name used.value.now) uses)
    × IsTrue (list_all (λ name. is_used uses name) (required_of command))

abbrev pub PassAsNames : List (String Global) → Type 0
PassAsNames names = (1 < length names) × (length names ≤ MAX_INSTANCES + 1) × All (λ word. IsTrue (is_file_name (string_bytes word))) names

-- words whose parts pass have the form
pub passed : (command : Command) (uses : List OptionUse) (names : List (String Global)) (words : List (List ℕ)) → AreCutInto (map use_of uses) (map string_bytes names) words → PassAsUses command uses → PassAsNames names → HasForm command words
passed command uses names words cut as_uses as_names =
    let long = length-map names string_bytes in (
      map use_of uses,
      map string_bytes names,
      tested_form command (map use_of uses) (map string_bytes names) words cut
          ((known_tested command uses (list_all (λ used. has_option command used.name.now) uses) refl).0 as_uses.0)
          as_uses.1
          ((values_tested uses (list_all (λ used. is_file_name used.value.now) uses) refl).0 as_uses.2)
          ((required_tested uses (required_of command) (list_all (λ name. is_used uses name) (required_of command)) refl).0 as_uses.3)
          (All-map (λ name. IsTrue (is_file_name name)) string_bytes names as_names.2)
          (omega (arith, long, as_names.0))
          (omega (arith, long, as_names.1)),
    )

-- and the parts of words that have the form pass
pub uses_pass : (command : Command) (uses : List OptionUse) (names : List (String Global)) (words : List (List ℕ)) → AreCutInto (map use_of uses) (map string_bytes names) words → HasForm command words → PassAsUses command uses
uses_pass command uses names words cut has =
    let form = form_of_cut command (map use_of uses) (map string_bytes names) words cut has in (
      (known_tested command uses (list_all (λ used. has_option command used.name.now) uses) refl).1 form.options.known,
      form.options.once,
      (values_tested uses (list_all (λ used. is_file_name used.value.now) uses) refl).1 form.values,
      (required_tested uses (required_of command) (list_all (λ name. is_used uses name) (required_of command)) refl).1 form.required,
    )

pub names_pass : (command : Command) (uses : List OptionUse) (names : List (String Global)) (words : List (List ℕ)) → AreCutInto (map use_of uses) (map string_bytes names) words → HasForm command words → PassAsNames names
names_pass command uses names words cut has =
    let form = form_of_cut command (map use_of uses) (map string_bytes names) words cut has in
    let long = length-map names string_bytes in (
      omega (arith, long, form.some_instances),
      omega (arith, long, form.few_instances),
      all_unmapped string_bytes (λ name. IsTrue (is_file_name name)) names form.are_names,
    )
