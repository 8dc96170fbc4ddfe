-- A type that reaches type 0 does so within as many steps as there are types.
use Rattle.std.proofs.Common.{◌≡◌, ℕ, zero, suc, ◌<◌, ◌≤◌, ◌+◌, ◌-◌, Bool, true, false, ◌==◌, nat_lt, List, length, map, slice_index, get_or, [], ◌∷◌, ◌*◌, refl, sym, ap, ◌∙◌, arith}
use Rattle.std.specs.Prelude.{All}
use Rattle.std.proofs.lemmas.Bool.Decides.{nat_tests}
use Rattle.std.proofs.lemmas.List.{get_or-map, length-map}
use Rattle.indexmap.proofs.IndexTableLemmas.Probe.{pigeonhole}
use Rattle.ground_state.specs.declared.parts.TypeEntry.{TypeEntry}
use Rattle.ground_state.specs.Task.{ancestor}
use Rattle.ground_state.proofs.Typing.{steps_from_Reaches, Reaches-from_steps}
use Rattle.pddl_task.specs.Inner.Faults.{AreTops}

-- the parents of types
abbrev pub parents : List TypeEntry → List ℕ
parents types = map (λ (entry : TypeEntry). entry.parent) types

-- so many steps above another type
pub ancestor_sum : (types : List TypeEntry) (a b number : ℕ) → ancestor types (a + b) number ≡ ancestor types a (ancestor types b number)
ancestor_sum types zero b number = let sum : 0 + b ≡ b = omega arith in ap (λ k. ancestor types k number) sum
ancestor_sum types (suc a) b number = let sum : suc a + b ≡ suc (a + b) = omega arith in ap (λ k. ancestor types k number) sum ∙ ap (slice_index (parents types)) (ancestor_sum types a b number)

pub zero_stays : (types : List TypeEntry) → slice_index (parents types) 0 ≡ 0 → (steps : ℕ) → ancestor types steps 0 ≡ 0
zero_stays types rooted zero = refl
zero_stays types rooted (suc steps) = ap (slice_index (parents types)) (zero_stays types rooted steps) ∙ rooted

-- once at type 0, it stays there
pub stays : (types : List TypeEntry) → slice_index (parents types) 0 ≡ 0 → (number some more : ℕ) → some ≤ more → ancestor types some number ≡ 0 → ancestor types more number ≡ 0
stays types rooted number some more less is =
    let sum : more ≡ (more - some) + some = omega (arith, less) in
    ap (λ k. ancestor types k number) sum ∙ ancestor_sum types (more - some) some number ∙ ap (ancestor types (more - some)) is ∙ zero_stays types rooted (more - some)

pub in_range : (types : List TypeEntry) → ((k : ℕ) → k < length types → slice_index (parents types) k < length types) → (number : ℕ) → number < length types → (steps : ℕ) → ancestor types steps number < length types
in_range types low number within zero = within
in_range types low number within (suc steps) = low (ancestor types steps number) (in_range types low number within steps)

-- what comes back to a type it was at, before it is at type 0, never gets there
never : (types : List TypeEntry) → slice_index (parents types) 0 ≡ 0 → (number most i j : ℕ) → i < j → j ≤ most → ancestor types i number ≡ ancestor types j number → (ancestor types most number ≡ 0 → ⊥)
    → (fuel steps : ℕ) → steps ≤ fuel → ancestor types steps number ≡ 0 → ⊥
never types rooted number most i j less few same not zero steps low is = not (stays types rooted number steps most (omega (arith, low)) is)
never types rooted number most i j less few same not (suc fuel) steps low is = by (never types rooted number most i j less few same not fuel ((steps - j) + i)) (nat_lt most steps) refl
  where
    back : most < steps → ancestor types ((steps - j) + i) number ≡ 0
    back far =
        let sum : (steps - j) + j ≡ steps = omega (arith, far, few) in
        ancestor_sum types (steps - j) i number ∙ ap (ancestor types (steps - j)) same ∙ sym (ancestor_sum types (steps - j) j number) ∙ ap (λ k. ancestor types k number) sum ∙ is

    by : ((steps - j) + i ≤ fuel → ancestor types ((steps - j) + i) number ≡ 0 → ⊥) → (b : Bool) → nat_lt most steps ≡ b → ⊥
    by sooner true far =
        let more : most < steps = grind (arith, nat_tests) in
        sooner (omega (arith, more, few, less, low)) (back more)
    by sooner false near = not (stays types rooted number steps most (grind (arith, nat_tests)) is)

pub reaches_soon : (types : List TypeEntry) → slice_index (parents types) 0 ≡ 0 → ((k : ℕ) → k < length types → slice_index (parents types) k < length types)
    → (number steps most : ℕ) → number < length types → length types ≤ most → ancestor types steps number ≡ 0 → ancestor types most number ≡ 0
reaches_soon types rooted low number steps most within long is = by (ancestor types most number == 0) refl
  where
    apart : (ancestor types most number ≡ 0 → ⊥) → (i j : ℕ) → i < j → j < suc most → ancestor types i number ≡ ancestor types j number → ⊥
    apart not i j less few same = never types rooted number most i j less (omega (arith, few)) same not steps steps (omega arith) is

    one : (ancestor types most number ≡ 0 → ⊥) → (i j : ℕ) → i < suc most → j < suc most → ancestor types i number ≡ ancestor types j number → i ≡ j
    one not i j few small same = test (nat_lt i j) (nat_lt j i) refl refl
      where
        test : (a b : Bool) → nat_lt i j ≡ a → nat_lt j i ≡ b → i ≡ j
        test true b less other = absurd (apart not i j (grind (arith, nat_tests)) small same)
        test false true other less = absurd (apart not j i (grind (arith, nat_tests)) few (sym same))
        test false false one other = grind (arith, nat_tests)

    by : (b : Bool) → (ancestor types most number == 0) ≡ b → ancestor types most number ≡ 0
    by true same = grind (arith, nat_tests)
    by false other =
        let not : ancestor types most number ≡ 0 → ⊥ = λ same. grind (arith, nat_tests) in
        absurd (let few = pigeonhole (suc most) (length types) (λ k. ancestor types k number) (λ k less. in_range types low number within k) (one not) in omega (arith, few, long))

-- parents of types are types
pub low_parents : (types : List TypeEntry) → All (λ (entry : TypeEntry). entry.parent < length types) types → (k : ℕ) → k < length types → slice_index (parents types) k < length types
low_parents [] all k less = absurd (omega (arith, less))
low_parents (entry ∷ rest) all k less =
    let is = get_or-map (λ (other : TypeEntry). other.parent) (entry ∷ rest) k entry 0 less in
    let low = all k entry less in
    omega (arith, is, low)

-- a number of a list, whatever stands for one past the end
same_default : (numbers : List ℕ) (k d e : ℕ) → k < length numbers → get_or numbers k d ≡ get_or numbers k e
same_default [] k d e less = absurd (omega (arith, less))
same_default (number ∷ rest) zero d e less = refl
same_default (number ∷ rest) (suc k) d e less = same_default rest k d e (omega (arith, less))

-- of each type the one that stands so many steps above it
abbrev pub AreAbove : List TypeEntry → ℕ → List ℕ → Type 0
AreAbove types steps above = (number : ℕ) → number < length types → slice_index above number ≡ ancestor types steps number

pub above_low : (types : List TypeEntry) → All (λ (entry : TypeEntry). entry.parent < length types) types → (above : List ℕ) (steps : ℕ) → length above ≡ length types → AreAbove types steps above
    → All (λ number. number < length above) above
above_low types all above steps long are = λ k d less.
    let within : k < length types = omega (arith, less, long) in
    let low = in_range types (low_parents types all) k within steps in
    omega (arith, same_default above k d 0 less, are k within, low, long)

pub above_twice : (types : List TypeEntry) → All (λ (entry : TypeEntry). entry.parent < length types) types → (above further : List ℕ) (steps : ℕ) → length above ≡ length types → AreAbove types steps above
    → further ≡ map (slice_index above) above → (length further ≡ length types) × AreAbove types (steps * 2) further
above_twice types all above further steps long are is = (
  ap length is ∙ length-map above (slice_index above) ∙ long,
  λ number within.
      let less : number < length above = omega (arith, within, long) in
      let sum : steps + steps ≡ steps * 2 = omega arith in
      ap (λ l. slice_index l number) is ∙ get_or-map (slice_index above) above number 0 0 less
      ∙ ap (slice_index above) (are number within) ∙ are (ancestor types steps number) (in_range types (low_parents types all) number within steps)
      ∙ sym (ancestor_sum types steps steps number) ∙ ap (λ k. ancestor types k number) sum,
)

pub tops_are : (types : List TypeEntry) → All (λ (entry : TypeEntry). entry.parent < length types) types → ancestor types 1 0 ≡ 0 → (above : List ℕ) (steps : ℕ) → length above ≡ length types → AreAbove types steps above → length types ≤ steps → AreTops types above
tops_are types all root above steps long are enough = (
  long,
  λ number within. (
    (λ zero_above. Reaches-from_steps types steps number 0 all within (sym (are number within) ∙ zero_above)),
    λ reaches. let up = steps_from_Reaches reaches in are number within ∙ reaches_soon types root (low_parents types all) number up.0 steps within enough up.1,
  ),
)
