-- The steps of the marks: that they are far apart, and that one is near each number.
use Rattle.std.proofs.Common.{◌≡◌, ◌≢◌, ℕ, zero, suc, ◌+◌, ◌*◌, ◌^◌, ◌<◌, ◌≤◌, refl, inl, inr, arith, pow-suc}
use Rattle.std.proofs.Math.Pow.{pow_mono}
use Rattle.std.proofs.lemmas.Bool.{cases_lt}
use Rattle.loop_witness.specs.Marks.{IsMarkStep, Counted, IsLatest}

-- of two steps of marks, the greater is more than twice the lesser
pub marks_apart : (a b : ℕ) → IsMarkStep a → IsMarkStep b → a < b → 2 * a + 1 ≤ b
marks_apart a b x y less = elim (cases_lt x.0 y.0) [
  | inl h ↦
      let more : 2 ^ suc x.0 ≤ 2 ^ y.0 = pow_mono (omega arith) in
      omega (arith, x.1, y.1, pow-suc 2 x.0)
  | inr h ↦
      let no : 2 ^ y.0 ≤ 2 ^ x.0 = pow_mono (omega arith) in
      absurd (omega (arith, x.1, y.1))
]

-- twice the step of a mark plus one is the step of a mark
pub next_mark : (a b : ℕ) → IsMarkStep a → b ≡ 2 * a + 1 → IsMarkStep b
next_mark a b x e = (suc x.0, omega (arith, x.1, e, pow-suc 2 x.0))

-- a step of a mark from a number on, which is at most twice the number
pub record MarkFrom (number : ℕ) : Type 0 where
  pub mark : ℕ
  pub is_mark_step : IsMarkStep mark
  pub above : number ≤ mark
  pub near : mark ≤ 2 * number

pub mark_from : (number : ℕ) → MarkFrom number
mark_from zero = record { mark = 0; is_mark_step = (0, refl); above = omega arith; near = omega arith }
mark_from (suc number) =
    let last = mark_from number in
    let above = last.above in
    let near = last.near in
    elim (cases_lt number last.mark) [
      | inl h ↦ record { mark = last.mark; is_mark_step = last.is_mark_step; above = omega arith; near = omega arith }
      | inr h ↦ record { mark = 2 * last.mark + 1; is_mark_step = next_mark last.mark (2 * last.mark + 1) last.is_mark_step refl; above = omega arith; near = omega arith }
    ]

-- the latest mark is at half of the steps at least
pub latest_half : (marks : Counted) → IsLatest marks → marks.steps ≤ 2 * marks.mark
latest_half marks latest = elim (cases_lt (2 * marks.mark) marks.steps) [
  | inl h ↦
      let no = latest.greatest (2 * marks.mark + 1) (next_mark marks.mark (2 * marks.mark + 1) latest.is_mark_step refl) (omega arith) in
      absurd (omega arith)
  | inr h ↦ h
]

-- a mark that moves to the step that is counted is the latest
pub latest_moved : (old new : Counted) → IsLatest old → new.steps ≡ 2 * old.mark + 1 → new.mark ≡ new.steps → IsLatest new
latest_moved old new latest here moved = record {
  is_mark_step = next_mark old.mark new.mark latest.is_mark_step (omega arith);
  reached = omega arith;
  greatest = λ step mark counted. omega arith;
}

-- a mark that stays where the step that is counted is not the next is the latest
pub latest_kept : (old new : Counted) → IsLatest old → new.steps ≡ old.steps + 1 → new.steps ≢ 2 * old.mark + 1 → new.mark ≡ old.mark → IsLatest new
latest_kept old new latest counted apart kept =
    let half = latest_half old latest in
    let reached = latest.reached in
    record {
      is_mark_step = rw kept latest.is_mark_step;
      reached = omega arith;
      greatest = λ step mark few. elim (cases_lt old.mark step) [
        | inl h ↦
            let far = marks_apart old.mark step latest.is_mark_step mark h in
            absurd (omega arith)
        | inr h ↦ omega arith
      ];
    }
