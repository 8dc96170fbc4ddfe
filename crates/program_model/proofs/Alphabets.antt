-- Alphabets: their length, which instructions stand in them and at which rank, and that none stands twice.
use Rattle.std.proofs.Common.{◌≡◌, ℕ, zero, suc, ◌+◌, ◌-◌, ◌*◌, ◌<◌, ◌≤◌, ◌≢◌, ◌⊎◌, ◌↔◌, List, [], ◌∷◌, ◌++◌, map, length, Some, refl, sym, ◌∙◌, ap, inl, inr, arith, length-append}
use Rattle.std.specs.Prelude.{slice_get, Contains, flat_map, option_map}
use Rattle.std.specs.List.{range_with_len}
use Rattle.std.proofs.lemmas.Option.{slice_get_within, slice_get-map, same_Some}
use Rattle.std.proofs.lemmas.List.{length-map}
use Rattle.std.proofs.lemmas.List.FromFn.{length-range_with_len}
use Rattle.std.proofs.lemmas.Bool.{cases_lt, cond-true, cond-false, ne_eqb, eq-eqb}
use Rattle.flag_rules.specs.declared.flags.Cond.{Cond}
use Rattle.flag_rules.specs.declared.flags.Cond.TheVariants.{Zero, Nonzero, Carry, Nocarry}
use Rattle.program_model.specs.declared.instr.Instr.{Instr}
use Rattle.program_model.specs.declared.instr.Instr.TheVariants.{Op, Goto, End}
use Rattle.program_model.specs.Alphabet.{conditions, targets, jumps_to, inner_alphabet, alphabet}
use Rattle.program_model.proofs.Places.{get-append_left, get-append_right, get-range, contains_at, at_contains}

-- ---- targets

length-targets_sum : (lines line : ℕ) → length (targets lines line) ≡ line + (lines - (line + 2))
length-targets_sum lines line = simp (length-append, length-range_with_len)

pub length-targets : (lines line : ℕ) → line + 1 < lines → length (targets lines line) ≡ lines - 2
length-targets lines line h = omega (arith, length-targets_sum lines line)

-- the target at a place below the line
pub target_below : (lines line place : ℕ) → place < line → slice_get (targets lines line) place ≡ Some place
target_below lines line place h =
    get-append_left (range_with_len 0 line) _ place (omega (arith, length-range_with_len 0 line))
    ∙ get-range 0 line place h
    ∙ ap Some (omega arith)

-- the target at a place from the line on
pub target_above : (lines line place : ℕ) → line ≤ place → place + 2 < lines → slice_get (targets lines line) place ≡ Some (place + 2)
target_above lines line place h k =
    get-append_right (range_with_len 0 line) (range_with_len (line + 2) (lines - (line + 2))) (place - line) place (omega (arith, length-range_with_len 0 line))
    ∙ get-range (line + 2) (lines - (line + 2)) (place - line) (omega arith)
    ∙ ap Some (omega arith)

-- a target by its place: below the line it is the place, and from the line on two more
abbrev pub TargetAt : ℕ → ℕ → ℕ → ℕ → Type 0
TargetAt lines line place target = ((place < line) × (target ≡ place)) ⊎ ((line ≤ place) × (place + 2 < lines) × (target ≡ place + 2))

pub target_at_place : (lines line place target : ℕ) → slice_get (targets lines line) place ≡ Some target → TargetAt lines line place target
target_at_place lines line place target e =
    let within = slice_get_within (targets lines line) place target e in
    elim (cases_lt place line) [
      | inl h ↦ inl (h, same_Some target place (sym e ∙ target_below lines line place h))
      | inr h ↦
          let k : place + 2 < lines = omega (arith, length-targets_sum lines line) in
          inr (h, k, same_Some target (place + 2) (sym e ∙ target_above lines line place h k))
    ]

-- the lines that a jump may go to
pub record IsTarget (lines line target : ℕ) : Type 0 where
  pub within : target < lines
  pub not_here : target ≢ line
  pub not_next : target ≢ line + 1

pub is_target_at : (lines line place target : ℕ) → line < lines → TargetAt lines line place target → IsTarget lines line target
is_target_at lines line place target l h = elim h [
  | inl k ↦ record { within = omega arith; not_here = λ e. omega arith; not_next = λ e. omega arith }
  | inr k ↦ record { within = omega arith; not_here = λ e. omega arith; not_next = λ e. omega arith }
]

-- a target has one place
pub same_target_place : (lines line a b target : ℕ) → TargetAt lines line a target → TargetAt lines line b target → a ≡ b
same_target_place lines line a b target h k = elim h [ inl x ↦ elim k [ inl y ↦ omega arith | inr y ↦ omega arith ] | inr x ↦ elim k [ inl y ↦ omega arith | inr y ↦ omega arith ] ]

-- the place of a target
pub place_of_target : (lines line target : ℕ) → IsTarget lines line target → (place : ℕ) × (slice_get (targets lines line) place ≡ Some target)
place_of_target lines line target l = elim (cases_lt target line) [
  | inl h ↦ (target, target_below lines line target h)
  | inr h ↦
      let above : line + 1 < target = omega (arith, l.not_here, l.not_next) in
      let two : target - 2 + 2 ≡ target = omega arith in
      let within : target < lines = l.within in
      (target - 2, target_above lines line (target - 2) (omega arith) (omega arith) ∙ ap Some two)
]

-- ---- conditions and jumps

-- the place of a condition
abbrev pub condition_rank : Cond → ℕ
condition_rank Zero = 0
condition_rank Nonzero = 1
condition_rank Carry = 2
condition_rank Nocarry = 3

pub get-conditions : (cond : Cond) → slice_get conditions (condition_rank cond) ≡ Some cond
get-conditions Zero = refl
get-conditions Nonzero = refl
get-conditions Carry = refl
get-conditions Nocarry = refl

pub condition_at : (place : ℕ) (cond : Cond) → slice_get conditions place ≡ Some cond → place ≡ condition_rank cond
condition_at zero cond e = ap condition_rank (same_Some Zero cond e)
condition_at (suc zero) cond e = ap condition_rank (same_Some Nonzero cond e)
condition_at (suc (suc zero)) cond e = ap condition_rank (same_Some Carry cond e)
condition_at (suc (suc (suc zero))) cond e = ap condition_rank (same_Some Nocarry cond e)
condition_at (suc (suc (suc (suc place)))) cond e = absurd cc

-- a jump by its place among the jumps to some targets
pub record JumpAt (places : List ℕ) (rank : ℕ) (instr : Instr) : Type 0 where
  pub place : ℕ
  pub cond_place : ℕ
  pub target : ℕ
  pub cond : Cond
  pub rank_is : rank ≡ 4 * place + cond_place
  pub target_is : slice_get places place ≡ Some target
  pub cond_is : slice_get conditions cond_place ≡ Some cond
  pub instr_is : instr ≡ Goto target cond

later_jump : (target : ℕ) (rest : List Instr) (rank after : ℕ) → rank ≡ 4 + after → slice_get (jumps_to target ++ rest) rank ≡ slice_get rest after
later_jump target rest rank after e = get-append_right (jumps_to target) rest after rank e

first_jump : (target : ℕ) (rest : List Instr) (rank : ℕ) (cond : Cond) → slice_get conditions rank ≡ Some cond → slice_get (jumps_to target ++ rest) rank ≡ Some (Goto target cond)
first_jump target rest zero cond e = cc
first_jump target rest (suc zero) cond e = cc
first_jump target rest (suc (suc zero)) cond e = cc
first_jump target rest (suc (suc (suc zero))) cond e = cc
first_jump target rest (suc (suc (suc (suc rank)))) cond e = cc

pub jump_at_rank : (places : List ℕ) (rank place cond_place target : ℕ) (cond : Cond) → rank ≡ 4 * place + cond_place → slice_get places place ≡ Some target → slice_get conditions cond_place ≡ Some cond → slice_get (flat_map jumps_to places) rank ≡ Some (Goto target cond)
jump_at_rank [] rank place cond_place target cond e h k = cc
jump_at_rank (first ∷ places) rank zero cond_place target cond e h k =
    let here : rank ≡ cond_place = omega arith in
    let same = same_Some first target h in
    rw (here, ← same) (first_jump first (flat_map jumps_to places) cond_place cond k)
jump_at_rank (first ∷ places) rank (suc place) cond_place target cond e h k =
    later_jump first (flat_map jumps_to places) rank (rank - 4) (omega arith)
    ∙ jump_at_rank places (rank - 4) place cond_place target cond (omega arith) h k

pub rank_of_jump : (places : List ℕ) (rank : ℕ) (instr : Instr) → slice_get (flat_map jumps_to places) rank ≡ Some instr → JumpAt places rank instr
rank_of_jump [] rank instr e = absurd cc
rank_of_jump (first ∷ places) zero instr e = record { place = 0; cond_place = 0; target = first; cond = Zero; rank_is = refl; target_is = refl; cond_is = refl; instr_is = cc }
rank_of_jump (first ∷ places) (suc zero) instr e = record { place = 0; cond_place = 1; target = first; cond = Nonzero; rank_is = refl; target_is = refl; cond_is = refl; instr_is = cc }
rank_of_jump (first ∷ places) (suc (suc zero)) instr e = record { place = 0; cond_place = 2; target = first; cond = Carry; rank_is = refl; target_is = refl; cond_is = refl; instr_is = cc }
rank_of_jump (first ∷ places) (suc (suc (suc zero))) instr e = record { place = 0; cond_place = 3; target = first; cond = Nocarry; rank_is = refl; target_is = refl; cond_is = refl; instr_is = cc }
rank_of_jump (first ∷ places) (suc (suc (suc (suc rank)))) instr e =
    let later = rank_of_jump places rank instr e in
    record { place = suc later.place; cond_place = later.cond_place; target = later.target; cond = later.cond; rank_is = omega arith; target_is = later.target_is; cond_is = later.cond_is; instr_is = later.instr_is }

length-jumps : (places : List ℕ) → length (flat_map jumps_to places) ≡ 4 * length places
length-jumps [] = refl
length-jumps (first ∷ places) = omega (arith, length-append (jumps_to first) (flat_map jumps_to places), length-jumps places)

-- ---- the alphabet of a line that is not the last

pub alphabet-inner : (ops lines line : ℕ) → line + 1 < lines → alphabet ops lines line ≡ inner_alphabet ops lines line
alphabet-inner ops lines line h = cond-false _ _ _ (ne_eqb (line + 1) lines (λ e. omega arith))

pub alphabet-last : (ops lines line : ℕ) → line + 1 ≡ lines → alphabet ops lines line ≡ End ∷ []
alphabet-last ops lines line h = cond-true _ _ _ (eq-eqb (line + 1) lines h)

length-ops : (ops : ℕ) → length (map Op (range_with_len 0 ops)) ≡ ops
length-ops ops = length-map (range_with_len 0 ops) Op ∙ length-range_with_len 0 ops

pub length-inner : (ops lines line : ℕ) → line + 1 < lines → length (inner_alphabet ops lines line) ≡ ops + 4 * (lines - 2)
length-inner ops lines line h =
    omega (arith, length-append (map Op (range_with_len 0 ops)) (flat_map jumps_to (targets lines line)), length-ops ops, length-jumps (targets lines line), length-targets lines line h)

-- an operation stands at its number
pub get-inner_op : (ops lines line op : ℕ) → op < ops → slice_get (inner_alphabet ops lines line) op ≡ Some (Op op)
get-inner_op ops lines line op h =
    get-append_left (map Op (range_with_len 0 ops)) _ op (omega (arith, length-ops ops))
    ∙ slice_get-map Op (range_with_len 0 ops) op
    ∙ ap (option_map Op) (get-range 0 ops op h)
    ∙ ap (λ n. Some (Op n)) (omega arith)

-- a jump stands by its target's place and its condition's
pub get-inner_jump : (ops lines line rank place cond_place target : ℕ) (cond : Cond) → rank ≡ ops + 4 * place + cond_place → slice_get (targets lines line) place ≡ Some target → slice_get conditions cond_place ≡ Some cond → slice_get (inner_alphabet ops lines line) rank ≡ Some (Goto target cond)
get-inner_jump ops lines line rank place cond_place target cond e h k =
    get-append_right (map Op (range_with_len 0 ops)) (flat_map jumps_to (targets lines line)) (rank - ops) rank (omega (arith, length-ops ops))
    ∙ jump_at_rank (targets lines line) (rank - ops) place cond_place target cond (omega arith) h k

-- what stands at a rank
abbrev pub InnerAt : ℕ → ℕ → ℕ → ℕ → Instr → Type 0
InnerAt ops lines line rank instr = ((rank < ops) × (instr ≡ Op rank)) ⊎ ((ops ≤ rank) × JumpAt (targets lines line) (rank - ops) instr)

pub inner_at : (ops lines line rank : ℕ) (instr : Instr) → slice_get (inner_alphabet ops lines line) rank ≡ Some instr → InnerAt ops lines line rank instr
inner_at ops lines line rank instr e =
    elim (cases_lt rank ops) [
      | inl h ↦ inl (h, same_Some instr (Op rank) (sym e ∙ get-inner_op ops lines line rank h))
      | inr h ↦ inr (
        h,
        rank_of_jump (targets lines line) (rank - ops) instr
            (sym (get-append_right (map Op (range_with_len 0 ops)) (flat_map jumps_to (targets lines line)) (rank - ops) rank (omega (arith, length-ops ops))) ∙ e),
      )
    ]

-- ---- alphabets

pub length-alphabet : (ops lines line : ℕ) → line + 1 < lines → length (alphabet ops lines line) ≡ ops + 4 * (lines - 2)
length-alphabet ops lines line h = ap length (alphabet-inner ops lines line h) ∙ length-inner ops lines line h

same_jump_rank : (lines line a b : ℕ) (instr : Instr) → JumpAt (targets lines line) a instr → JumpAt (targets lines line) b instr → a ≡ b
same_jump_rank lines line a b instr x y =
    let same_target : x.target ≡ y.target = cc (x.instr_is, y.instr_is) in
    let same_cond : x.cond ≡ y.cond = cc (x.instr_is, y.instr_is) in
    let same_place : x.place ≡ y.place = same_target_place lines line x.place y.place y.target
    (target_at_place lines line x.place y.target (x.target_is ∙ ap Some same_target))
    (target_at_place lines line y.place y.target y.target_is) in
    let same_cond_place : x.cond_place ≡ y.cond_place =
    condition_at x.cond_place x.cond x.cond_is ∙ ap condition_rank same_cond ∙ sym (condition_at y.cond_place y.cond y.cond_is) in
    omega arith

same_inner_rank : (ops lines line a b : ℕ) (instr : Instr) → InnerAt ops lines line a instr → InnerAt ops lines line b instr → a ≡ b
same_inner_rank ops lines line a b instr x y = elim x [
  | inl h ↦ elim y [ inl k ↦ cc (h.1, k.1) | inr k ↦ absurd (cc (h.1, k.1.instr_is)) ]
  | inr h ↦ elim y [
    | inl k ↦ absurd (cc (k.1, h.1.instr_is))
    | inr k ↦ let same : a - ops ≡ b - ops = same_jump_rank lines line (a - ops) (b - ops) instr h.1 k.1 in omega arith
  ]
]

-- no instruction stands at two ranks
pub same_rank : (ops lines line a b : ℕ) (instr : Instr) → line < lines → slice_get (alphabet ops lines line) a ≡ Some instr → slice_get (alphabet ops lines line) b ≡ Some instr → a ≡ b
same_rank ops lines line a b instr l x y = elim (cases_lt (line + 1) lines) [
  | inl h ↦
      let inner = alphabet-inner ops lines line h in
      same_inner_rank ops lines line a b instr (inner_at ops lines line a instr (rw inner at x)) (inner_at ops lines line b instr (rw inner at y))
  | inr h ↦
      let last = alphabet-last ops lines line (omega arith) in
      let a_in = slice_get_within (End ∷ []) a instr (rw last at x) in
      let b_in = slice_get_within (End ∷ []) b instr (rw last at y) in
      omega arith
]

-- ---- what an alphabet contains

pub inner_contains : (ops lines line : ℕ) (instr : Instr) → line + 1 < lines → Contains (alphabet ops lines line) instr → (rank : ℕ) × InnerAt ops lines line rank instr
inner_contains ops lines line instr h c =
    let found = at_contains (alphabet ops lines line) instr c in
    (found.0, inner_at ops lines line found.0 instr (ap (λ xs. slice_get xs found.0) (sym (alphabet-inner ops lines line h)) ∙ found.1))

contains_inner : (ops lines line rank : ℕ) (instr : Instr) → line + 1 < lines → slice_get (inner_alphabet ops lines line) rank ≡ Some instr → Contains (alphabet ops lines line) instr
contains_inner ops lines line rank instr h e = contains_at (alphabet ops lines line) rank instr (ap (λ xs. slice_get xs rank) (alphabet-inner ops lines line h) ∙ e)

-- an inner line may have each operation
pub contains_op : (ops lines line op : ℕ) → line + 1 < lines → Contains (alphabet ops lines line) (Op op) ↔ (op < ops)
contains_op ops lines line op h = (
  (λ c. let found = inner_contains ops lines line (Op op) h c in
      elim found.1 [ inl k ↦ let same : op ≡ found.0 = cc (k.1) in omega arith | inr k ↦ absurd (cc (k.1.instr_is)) ]),
  (λ l. contains_inner ops lines line op (Op op) h (get-inner_op ops lines line op l)),
)

-- the target of a jump that an inner line may have is one of the line's
pub contains_target : (ops lines line target : ℕ) (cond : Cond) → line + 1 < lines → Contains (alphabet ops lines line) (Goto target cond) → Contains (targets lines line) target
contains_target ops lines line target cond h c =
    let found = inner_contains ops lines line (Goto target cond) h c in
    elim found.1 [
      | inl k ↦ absurd (cc (k.1))
      | inr k ↦
          let same : k.1.target ≡ target = cc (k.1.instr_is) in
          contains_at (targets lines line) k.1.place target (k.1.target_is ∙ ap Some same)
    ]

-- an inner line may have each jump to one of its targets
pub contains_jump : (ops lines line target : ℕ) (cond : Cond) → line + 1 < lines → Contains (alphabet ops lines line) (Goto target cond) ↔ IsTarget lines line target
contains_jump ops lines line target cond h = (
  (λ c. let found = at_contains (targets lines line) target (contains_target ops lines line target cond h c) in
      is_target_at lines line found.0 target (omega arith) (target_at_place lines line found.0 target found.1)),
  (λ l. let at_place = place_of_target lines line target l in
      contains_inner ops lines line (ops + 4 * at_place.0 + condition_rank cond) (Goto target cond) h
      (get-inner_jump ops lines line _ at_place.0 (condition_rank cond) target cond refl at_place.1 (get-conditions cond))),
)

-- an inner line may not have `end`
pub no_inner_end : (ops lines line : ℕ) → line + 1 < lines → Contains (alphabet ops lines line) End → ⊥
no_inner_end ops lines line h c =
    let found = inner_contains ops lines line End h c in
    elim found.1 [ inl k ↦ cc (k.1) | inr k ↦ cc (k.1.instr_is) ]

only_end : (rank : ℕ) (instr : Instr) → slice_get (End ∷ []) rank ≡ Some instr → instr ≡ End
only_end zero instr e = sym (same_Some End instr e)
only_end (suc rank) instr e = absurd cc

-- the last line has `end` alone
pub contains_last : (ops lines line : ℕ) (instr : Instr) → line + 1 ≡ lines → Contains (alphabet ops lines line) instr ↔ (instr ≡ End)
contains_last ops lines line instr h = (
  (λ c. let found = at_contains (alphabet ops lines line) instr c in only_end found.0 instr (ap (λ xs. slice_get xs found.0) (sym (alphabet-last ops lines line h)) ∙ found.1)),
  (λ e. contains_at (alphabet ops lines line) 0 instr (ap (λ xs. slice_get xs 0) (alphabet-last ops lines line h) ∙ ap Some (sym e))),
)
