-- The texts of a family are short.
use Rattle.std.proofs.Common.{◌≡◌, ℕ, ◌+◌, ◌-◌, ◌*◌, ◌<◌, ◌≤◌, false, List, [], ◌∷◌, ◌++◌, map, length, length-append, codes, refl, ap, ◌∙◌, subst, arith, lit≤, suc-mul}
use Rattle.std.specs.Prelude.{All}
use Rattle.std.specs.List.{flat_map, list_any, range_with_len}
use Rattle.std.proofs.lemmas.Fmt.{length-decimal-le}
use Rattle.std.proofs.lemmas.List.Elements.{All-head, All-tail}
use Rattle.std.proofs.lemmas.List.FromFn.{length-map-range_with_len}
use Rattle.flag_rules.specs.declared.file.TheConstants.{MAX_FILE_BYTES}
use Rattle.pddl_forms.specs.declared.texts.AtomText.{AtomText}
use Rattle.pddl_printer.specs.Printing.{spaced, line_of_words, in_parentheses, section, has_type, typed_words, atom_words, formula_words, predicate_words, effect_words, deleted_words, part_words, action_words, domain_section_words, domain_words, problem_section_words, problem_words, printed_domain, printed_problem}
use Rattle.pddl_printer.proofs.Spaced.{spaced-append}
use Rattle.family_gen.specs.declared.kinds.Family.{Family}
use Rattle.family_gen.specs.declared.kinds.Family.TheVariants.{Lights, Corridor}
use Rattle.family_gen.specs.Domains.{untyped, atom, domain_of}
use Rattle.family_gen.specs.Problems.{lamp, cell, lit, at, next, problem, lights_problem, corridor_problem, problem_of}
use Rattle.family_gen.proofs.Lists.{all_numbered}

-- how many bytes words have, each with a space before it
weight : List (List ℕ) → ℕ
weight words = length (spaced words)

weight-nil : weight [] ≡ 0
unfolding weight
weight-nil = refl

weight-append : (us vs : List (List ℕ)) → weight (us ++ vs) ≡ weight us + weight vs
unfolding weight
weight-append us vs = ap length (spaced-append us vs) ∙ length-append (spaced us) (spaced vs)

weight-cons : (w : List ℕ) (ws : List (List ℕ)) → weight (w ∷ ws) ≡ length w + weight ws + 1
unfolding weight
weight-cons w ws = omega (arith, length-append w (spaced ws))

length-line : (w : List ℕ) (ws : List (List ℕ)) → length (line_of_words (w ∷ ws)) ≡ weight (w ∷ ws)
unfolding weight
length-line w ws = omega (arith, length-append (w ++ spaced ws) (10 ∷ []), length-append w (spaced ws))

weight-parentheses : (ws : List (List ℕ)) → weight (in_parentheses ws) ≡ weight ws + 4
weight-parentheses ws = omega (arith, weight-cons (codes "(") (ws ++ codes ")" ∷ []), weight-append ws (codes ")" ∷ []), weight-cons (codes ")") [], weight-nil)

weight-section : (key : List ℕ) (ws : List (List ℕ)) → weight (section key ws) ≡ weight ws + length key + 5
weight-section key ws = omega (arith, weight-parentheses (key ∷ ws), weight-cons key ws)

-- items of which each has so many bytes at most
weight-each : {X : Type 0} (f : X → List (List ℕ)) (most : ℕ) (xs : List X) → All (λ x. weight (f x) ≤ most) xs → weight (flat_map f xs) ≤ length xs * most
weight-each f most [] each = omega (arith, weight-nil)
weight-each f most (x ∷ xs) each =
    let first = All-head (λ x. weight (f x) ≤ most) x xs each in
    let rest = weight-each f most xs (All-tail (λ x. weight (f x) ≤ most) x xs each) in
    omega (arith, weight-append (f x) (flat_map f xs), first, rest, suc-mul (length xs) most)

weight-words : (most : ℕ) (ws : List (List ℕ)) → All (λ w. length w ≤ most) ws → weight ws ≤ length ws * (most + 1)
weight-words most [] each = omega (arith, weight-nil)
weight-words most (w ∷ ws) each =
    let first = All-head (λ w. length w ≤ most) w ws each in
    let rest = weight-words most ws (All-tail (λ w. length w ≤ most) w ws each) in
    omega (arith, weight-cons w ws, first, rest, suc-mul (length ws) (most + 1))

-- a typed list without types is its words
no_types : (names : List (List ℕ)) → list_any has_type (map untyped names) ≡ false
no_types [] = refl
no_types (name ∷ names) = no_types names

untyped_words : (names : List (List ℕ)) → typed_words (map untyped names) ≡ names
untyped_words [] = refl
untyped_words (name ∷ names) = rw (no_types names) (ap (λ l. name ∷ l) (untyped_words names))

-- ---- domains

pub domain_fits_into_file : (family : Family) → length (printed_domain (domain_of family)) ≤ MAX_FILE_BYTES
unfolding predicate_words atom_words deleted_words formula_words effect_words part_words action_words domain_section_words domain_words
domain_fits_into_file Lights = lit≤ tt
domain_fits_into_file Corridor = lit≤ tt

-- ---- problems

-- a problem of so many bytes of objects and of atoms
length-problem : (name : List ℕ) (objects : List (List ℕ)) (init goal : List AtomText)
    → length (printed_problem (problem name objects init goal)) ≡ length name + length name + weight objects + weight (flat_map atom_words init) + weight (flat_map atom_words goal) + 96
unfolding problem_words problem_section_words formula_words
length-problem name objects init goal =
    let own = section (codes "problem") (name ∷ []) in
    let of_domain = section (codes ":domain") (name ∷ []) in
    let needs = section (codes ":requirements") [] in
    let of_objects = section (codes ":objects") (typed_words (map untyped objects)) in
    let of_init = section (codes ":init") (flat_map atom_words init) in
    let of_goal = section (codes ":goal") (formula_words goal) in
    let sections = (((of_domain ++ needs) ++ of_objects) ++ of_init) ++ of_goal in
    let all : length (printed_problem (problem name objects init goal)) ≡ weight (codes "define" ∷ (own ++ sections)) + 4
    = length-line (codes "(") ((codes "define" ∷ (own ++ sections)) ++ codes ")" ∷ []) ∙ weight-parentheses (codes "define" ∷ (own ++ sections)) in
    let body : weight (codes "define" ∷ (own ++ sections)) ≡ 6 + (weight own + weight sections) + 1
    = weight-cons (codes "define") (own ++ sections) ∙ ap (λ n. 6 + n + 1) (weight-append own sections) in
    let named : weight (name ∷ []) ≡ length name + 1 = omega (arith, weight-cons name [], weight-nil) in
    let one : weight own ≡ length name + 13 = omega (arith, weight-section (codes "problem") (name ∷ []), named) in
    let two : weight of_domain ≡ length name + 13 = omega (arith, weight-section (codes ":domain") (name ∷ []), named) in
    let three : weight needs ≡ 18 = omega (arith, weight-section (codes ":requirements") [], weight-nil) in
    let plain : weight (typed_words (map untyped objects)) ≡ weight objects = ap weight (untyped_words objects) in
    let four : weight of_objects ≡ weight objects + 13 = omega (arith, weight-section (codes ":objects") (typed_words (map untyped objects)), plain) in
    let five : weight of_init ≡ weight (flat_map atom_words init) + 10 = omega (arith, weight-section (codes ":init") (flat_map atom_words init)) in
    let six : weight of_goal ≡ weight (flat_map atom_words goal) + 18
    = omega (arith, weight-section (codes ":goal") (formula_words goal), weight-parentheses (codes "and" ∷ flat_map atom_words goal), weight-cons (codes "and") (flat_map atom_words goal)) in
    let sum : weight sections ≡ weight of_domain + weight needs + weight of_objects + weight of_init + weight of_goal
    = weight-append (((of_domain ++ needs) ++ of_objects) ++ of_init) of_goal
    ∙ ap (λ n. n + weight of_goal) (weight-append ((of_domain ++ needs) ++ of_objects) of_init
    ∙ ap (λ n. n + weight of_init) (weight-append (of_domain ++ needs) of_objects
    ∙ ap (λ n. n + weight of_objects) (weight-append of_domain needs))) in
    omega (arith, all, body, one, two, three, four, five, six, sum)

lamp_short : (number : ℕ) → number ≤ 256 → length (lamp number) ≤ 4
lamp_short number few = omega (arith, length-decimal-le 3 number (omega arith) (omega arith) (omega arith))

cell_short : (number : ℕ) → number ≤ 256 → length (cell number) ≤ 4
cell_short number few = omega (arith, length-decimal-le 3 number (omega arith) (omega arith) (omega arith))

-- the bytes of so many names that are numbered
weight-numbered : (object : ℕ → List ℕ) (size : ℕ) → ((k : ℕ) → k < size → length (object k) ≤ 4) → weight (map object (range_with_len 0 size)) ≤ size * 5
weight-numbered object size short =
    subst (λ n. weight (map object (range_with_len 0 size)) ≤ n * 5) (length-map-range_with_len object 0 size)
    (weight-words 4 (map object (range_with_len 0 size)) (all_numbered (λ w. length w ≤ 4) object size short))

-- and of so many atoms
weight-atoms : (of : ℕ → AtomText) (most size : ℕ) → ((k : ℕ) → k < size → weight (atom_words (of k)) ≤ most) → weight (flat_map atom_words (map of (range_with_len 0 size))) ≤ size * most
weight-atoms of most size short =
    subst (λ n. weight (flat_map atom_words (map of (range_with_len 0 size))) ≤ n * most) (length-map-range_with_len of 0 size)
    (weight-each atom_words most (map of (range_with_len 0 size)) (all_numbered (λ a. weight (atom_words a) ≤ most) of size short))

weight-of_one : (head name : List ℕ) → weight (atom_words (atom head (name ∷ []))) ≡ length head + length name + 6
unfolding atom_words
weight-of_one head name = omega (arith, weight-parentheses (head ∷ name ∷ []), weight-cons head (name ∷ []), weight-cons name [], weight-nil)

weight-of_two : (head one other : List ℕ) → weight (atom_words (atom head (one ∷ other ∷ []))) ≡ length head + length one + length other + 7
unfolding atom_words
weight-of_two head one other = omega (arith, weight-parentheses (head ∷ one ∷ other ∷ []), weight-cons head (one ∷ other ∷ []), weight-cons one (other ∷ []), weight-cons other [], weight-nil)

lights_problem_short : (size : ℕ) → size ≤ 256 → length (printed_problem (lights_problem size)) ≤ MAX_FILE_BYTES
lights_problem_short size few =
    let all = length-problem (codes "lights") (map lamp (range_with_len 0 size)) [] (map lit (range_with_len 0 size)) in
    let objects = weight-numbered lamp size (λ k less. lamp_short k (omega arith)) in
    let atoms = weight-atoms lit 13 size (λ k less. omega (arith, weight-of_one (codes "lit") (lamp k), lamp_short k (omega arith))) in
    omega (arith, all, objects, atoms, weight-nil)

corridor_problem_short : (size : ℕ) → size ≤ 256 → length (printed_problem (corridor_problem size)) ≤ MAX_FILE_BYTES
corridor_problem_short size few =
    let steps = map next (range_with_len 0 (size - 1)) in
    let all = length-problem (codes "corridor") (map cell (range_with_len 0 size)) (at 0 ∷ steps) (at (size - 1) ∷ []) in
    let objects = weight-numbered cell size (λ k less. cell_short k (omega arith)) in
    let atoms = weight-atoms next 19 (size - 1) (λ k less. omega (arith, weight-of_two (codes "next") (cell k) (cell (k + 1)), cell_short k (omega arith), cell_short (k + 1) (omega arith))) in
    let init = weight-append (atom_words (at 0)) (flat_map atom_words steps) in
    let goal = weight-append (atom_words (at (size - 1))) [] in
    omega (arith, all, objects, atoms, init, goal, weight-of_one (codes "at") (cell 0), cell_short 0 (omega arith), weight-of_one (codes "at") (cell (size - 1)), cell_short (size - 1) (omega arith), weight-nil)

pub problem_fits_into_file : (family : Family) (size : ℕ) → size ≤ 256 → length (printed_problem (problem_of family size)) ≤ MAX_FILE_BYTES
problem_fits_into_file Lights size few = lights_problem_short size few
problem_fits_into_file Corridor size few = corridor_problem_short size few
