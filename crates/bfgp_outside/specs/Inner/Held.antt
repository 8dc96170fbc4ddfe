-- The files of a shelf in memory, as the list that it keeps stands for them.
use Rattle.std.specs.Prelude.{ℕ, List, map}
use Rattle.std.specs.Ordering.{nat_cmp}
use Rattle.std.specs.Cmp.Lexicographic.{slice_cmp}
use Rattle.std.specs.FinMap.{FinMap, from_entries}
use Rattle.bfgp_outside.specs.declared.memory_shelf.Held.{Held}

-- the files by their names: of a name that stands twice the first one counts
abbrev pub files_of : List Held → FinMap (slice_cmp nat_cmp) (List ℕ)
files_of files = from_entries (map (λ file. (file.name, file.bytes)) files)
