-- The rows of clap's matches that stand for uses of options and for names, and what is read in them.
use Rattle.std.proofs.Common.{◌≡◌, ◌≢◌, ◌∙◌, refl, ap, arith, ℕ, zero, suc, Bool, true, false, cond, List, [], ◌∷◌, ◌++◌, map, Option, Some, None, option_map, option_and_then, find, slice_get, slice_index_or, bytes_eq, All, AllPairs, append-nil}
use Rattle.std.proofs.lemmas.Slice.Eq.{bytes_eq-Decides}
use Rattle.clap.specs.Walk.{Row, all_of, at_row, first_of, has_row, more_values, used_as, with_values}
use Rattle.clap.specs.declared.builder.action.ArgAction.TheVariants.{Set}
use Rattle.clap.specs.declared.builder.value_parser.Reading.TheVariants.{AsWritten}
use Rattle.clap.specs.declared.parser.matches.ValueSource.TheVariants.{CommandLine}
use Rattle.command_words.specs.Words.{Use}
use Rattle.command_words.specs.Inner.Matching.{value_in}

-- ---- texts
pub same_bytes : (xs : List ℕ) → bytes_eq xs xs ≡ true
same_bytes xs = (bytes_eq-Decides xs xs).1 refl

pub other_bytes : (xs ys : List ℕ) → xs ≢ ys → bytes_eq xs ys ≡ false
other_bytes xs ys differ = go (bytes_eq xs ys) refl
  where
    go : (t : Bool) → bytes_eq xs ys ≡ t → t ≡ false
    go true e = absurd (differ ((bytes_eq-Decides xs ys).0 e))
    go false e = refl

-- ---- rows
-- what the words give to an id
abbrev pub given : List ℕ → List (List ℕ) → Row
given id values = record { id = id; values = values; count = None; source = Some CommandLine; reading = AsWritten }

abbrev pub row_for : Use → Row
row_for one = given one.name (one.value ∷ [])

-- no use has the id as its name
abbrev pub IsFresh : List ℕ → List Use → Type 0
IsFresh id [] = Unit {0}
IsFresh id (one ∷ uses) = (bytes_eq one.name id ≡ false) × IsFresh id uses

pub fresh_more : (id : List ℕ) (before : List Use) (one : Use) → IsFresh id before → bytes_eq one.name id ≡ false → IsFresh id (before ++ one ∷ [])
fresh_more id [] one fresh differ = (differ, tt)
fresh_more id (first ∷ before) one fresh differ = (fresh.0, fresh_more id before one fresh.1 differ)

-- a row of a new id joins at the end
fresh_row : (id : List ℕ) (change : Row → List Row) (missing : List Row) (uses : List Use) → IsFresh id uses → at_row id change missing (map row_for uses) ≡ map row_for uses ++ missing
fresh_row id change missing [] fresh = refl
fresh_row id change missing (one ∷ uses) fresh = rw fresh.0 (ap (λ (rows : List Row). row_for one ∷ rows) (fresh_row id change missing uses fresh.1))

pub used_fresh : (id : List ℕ) (values : List (List ℕ)) (uses : List Use) → IsFresh id uses → used_as Set id AsWritten values (map row_for uses) ≡ map row_for uses ++ given id values ∷ []
used_fresh id values uses fresh =
    ap (with_values id AsWritten CommandLine values) (fresh_row id (λ _. []) [] uses fresh ∙ append-nil (map row_for uses))
    ∙ fresh_row id (more_values CommandLine values) (given id values ∷ []) uses fresh

pub fresh_no_row : (id : List ℕ) (uses : List Use) → IsFresh id uses → has_row id (map row_for uses) ≡ false
fresh_no_row id [] fresh = refl
fresh_no_row id (one ∷ uses) fresh = rw fresh.0 (fresh_no_row id uses fresh.1)

-- ---- reading
abbrev value_of_row : Option Row → Option (List ℕ)
value_of_row = option_and_then (λ row. slice_get row.values 0)

abbrev value_of_use : Option Use → Option (List ℕ)
value_of_use = option_map (λ one. one.value)

same_value : (t : Bool) (one : Use) (rows : Option Row) (uses : Option Use) → value_of_row rows ≡ value_of_use uses → value_of_row (cond t (Some (row_for one)) rows) ≡ value_of_use (cond t (Some one) uses)
same_value true one rows uses same = refl
same_value false one rows uses same = same

-- the value of an option is the one that a use gives it
pub first_given : (id other : List ℕ) (values : List (List ℕ)) (uses : List Use) → bytes_eq other id ≡ false → first_of id (map row_for uses ++ given other values ∷ []) ≡ value_in uses id
first_given id other values [] differ = rw differ refl
first_given id other values (one ∷ uses) differ =
    same_value (bytes_eq one.name id) one (find (λ (row : Row). bytes_eq row.id id) (map row_for uses ++ given other values ∷ [])) (find (λ (u : Use). bytes_eq u.name id) uses) (first_given id other values uses differ)

-- the values of an id that no use has are those given to it
pub all_given : (id : List ℕ) (values : List (List ℕ)) (uses : List Use) → IsFresh id uses → all_of id (map row_for uses ++ given id values ∷ []) ≡ Some values
all_given id values [] fresh = rw (same_bytes id) refl
all_given id values (one ∷ uses) fresh = rw fresh.0 (all_given id values uses fresh.1)

-- ---- uses of different options
-- each use has a name that those before it do not have
abbrev pub AreFresh : List Use → List Use → Type 0
AreFresh before [] = Unit {0}
AreFresh before (one ∷ uses) = IsFresh one.name before × AreFresh (before ++ one ∷ []) uses

pub are_fresh : (before uses : List Use) → All (λ other. IsFresh other.name before) uses → AllPairs (λ one other. one.name ≢ other.name) uses → AreFresh before uses
are_fresh before [] fresh once = tt
are_fresh before (one ∷ uses) fresh once = (
  fresh zero one (omega arith),
  are_fresh (before ++ one ∷ []) uses
      (λ k d within. fresh_more (slice_index_or uses k d).name before one (fresh (suc k) d (omega (arith, within)))
      (other_bytes one.name (slice_index_or uses k d).name (once zero (suc k) d (omega arith) (omega (arith, within)))))
      (λ i j d less within. once (suc i) (suc j) d (omega (arith, less)) (omega (arith, within))),
)
