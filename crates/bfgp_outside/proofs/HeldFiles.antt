-- The files of a list, by looking through it.
use Rattle.std.proofs.Common.{◌≡◌, ℕ, ◌+◌, ◌<◌, ◌≤◌, Bool, true, false, cond, List, ◌∷◌, length, drop, get_or, None, Some, sym, ◌∙◌, ap, add-one}
use Rattle.std.proofs.Math.Seq.{drop-cons}
use Rattle.std.proofs.lemmas.List.{drop_all}
use Rattle.std.proofs.lemmas.Cmp.{eq_by_cmp_equiv}
use Rattle.std.specs.Prelude.{nat_eq}
use Rattle.std.specs.Ordering.{nat_cmp}
use Rattle.std.specs.Cmp.Lexicographic.{slice_cmp, pointwise, nat_list_cmp_total, texts_ties}
use Rattle.std.specs.FinMap.{get, get-insert, get-empty}
use Rattle.bfgp_outside.specs.Inner.Held.{files_of}
use Rattle.bfgp_outside.specs.declared.memory_shelf.Held.{Held}

-- the files from an index on are the file there and those behind it
opened : (files : List Held) (index : ℕ) (file : Held) → index < length files → drop index files ≡ get_or files index file ∷ drop (index + 1) files
opened files index file within = rw (add-one, drop-cons files index file)

-- looking from an index on is asking the file there first
at_index : (files : List Held) (index : ℕ) (file : Held) (name : List ℕ) (same : Bool) → index < length files → file ≡ get_or files index file → same ≡ pointwise nat_eq file.name name → get (files_of (drop index files)) name ≡ cond same (Some file.bytes) (get (files_of (drop (index + 1) files)) name)
at_index files index file name same within is tests =
    ap (λ (l : List Held). get (files_of l) name) (opened files index file within ∙ ap (λ (f : Held). f ∷ drop (index + 1) files) (sym is))
    ∙ get-insert nat_list_cmp_total (files_of (drop (index + 1) files)) file.name file.bytes name
    ∙ ap (λ (b : Bool). cond b (Some file.bytes) (get (files_of (drop (index + 1) files)) name)) (sym (tests ∙ texts_ties file.name name ∙ (eq_by_cmp_equiv nat_list_cmp_total).symm file.name name))

-- a file of the name is what is held under it
pub found : (files : List Held) (index : ℕ) (file : Held) (name : List ℕ) → index < length files → file ≡ get_or files index file → true ≡ pointwise nat_eq file.name name → get (files_of (drop index files)) name ≡ Some file.bytes
found files index file name within is tests = at_index files index file name true within is tests

-- a file of another name leaves the look to those behind it
pub passed : (files : List Held) (index : ℕ) (file : Held) (name : List ℕ) → index < length files → file ≡ get_or files index file → false ≡ pointwise nat_eq file.name name → get (files_of (drop index files)) name ≡ get (files_of (drop (index + 1) files)) name
passed files index file name within is tests = at_index files index file name false within is tests

-- behind the last there is none
pub ended : (files : List Held) (index : ℕ) (name : List ℕ) → length files ≤ index → get (files_of (drop index files)) name ≡ None
ended files index name past = ap (λ (l : List Held). get (files_of l) name) (drop_all index files past) ∙ get-empty (slice_cmp nat_cmp) name
