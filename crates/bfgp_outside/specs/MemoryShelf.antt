-- A shelf in memory, and what its reads answer.
use Rattle.std.specs.Prelude.{ℕ, refl, ◌==◌, List, length, take, drop, ◌++◌, Option, Some, None, Result, Ok, Err, if◌then◌else◌}
use Rattle.std.specs.List.{list_any}
use Rattle.std.specs.Ordering.{nat_cmp}
use Rattle.std.specs.Cmp.Lexicographic.{slice_cmp}
use Rattle.std.specs.FinMap.{FinMap, get, code}
use Rattle.std.specs.Coded.{Coded, code_by, coded×, coded_ℕ, coded_list}
use Rattle.bfgp_outside.specs.Causes.{counted}
use Rattle.bfgp_outside.specs.declared.shelf.ShelfFault.{ShelfFault}
use Rattle.bfgp_outside.specs.declared.shelf.ShelfFault.TheVariants.{Absent, Failed}

-- the files by their names, the numbers of the reads that fail, and how many reads, faults and absences there were
pub record ShelfState : Type 0 where
  pub held : FinMap (slice_cmp nat_cmp) (List ℕ)
  pub failing : List ℕ
  pub reads : ℕ
  pub faults : ℕ
  pub absences : ℕ

-- such a shelf is stored as the tuple of its parts
abbrev pub shelf_code : Coded ShelfState
shelf_code =
    code_by
    (FinMap (slice_cmp nat_cmp) (List ℕ) × (List ℕ × (ℕ × (ℕ × ℕ))))
    (coded× (code (coded_list coded_ℕ) (coded_list coded_ℕ)) (coded× (coded_list coded_ℕ) (coded× coded_ℕ (coded× coded_ℕ coded_ℕ))))
    (λ shelf. (shelf.held, (shelf.failing, (shelf.reads, (shelf.faults, shelf.absences)))))
    (λ parts. record { held = parts.0; failing = parts.1.0; reads = parts.1.1.0; faults = parts.1.1.1.0; absences = parts.1.1.1.1 })
    (λ _. refl)

-- the bytes of a file from a place on, as many as there is room for; a file that is not held is absent
abbrev pub served : Option (List ℕ) → (from room : ℕ) → Result (List ℕ) ShelfFault
served None from room = Err Absent
served (Some bytes) from room = Ok (take room (drop from bytes))

-- the bytes that the next read gives: it fails where its number is among the failing ones
abbrev pub next_read : ShelfState → List ℕ → (from room : ℕ) → Result (List ℕ) ShelfFault
next_read shelf name from room = if list_any (λ number. number == shelf.reads) shelf.failing then Err Failed else served (get shelf.held name) from room

-- what a read answers that gives some bytes
abbrev pub count_of : Result (List ℕ) ShelfFault → Result ℕ ShelfFault
count_of (Ok bytes) = Ok (length bytes)
count_of (Err fault) = Err fault

-- the buffer after a read that gives some bytes; a read that fails leaves it
abbrev pub filled : Result (List ℕ) ShelfFault → List ℕ → List ℕ
filled (Ok bytes) into = bytes ++ drop (length bytes) into
filled (Err fault) into = into

-- the shelf after a read: the read is counted, and its fault
abbrev pub after_read : ShelfState → Result ℕ ShelfFault → ShelfState
after_read shelf (Ok count) = record shelf { reads = counted shelf.reads }
after_read shelf (Err Failed) = record shelf { reads = counted shelf.reads; faults = counted shelf.faults }
after_read shelf (Err Absent) = record shelf { reads = counted shelf.reads; absences = counted shelf.absences }
