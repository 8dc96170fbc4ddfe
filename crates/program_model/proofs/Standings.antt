-- Standings: a run has one standing under a limit, at one step.
use Rattle.std.proofs.Common.{◌≡◌, ℕ, suc, ◌+◌, ◌-◌, ◌≤◌, ◌⊎◌, length, refl, sym, ◌∙◌, ap, ap₂, inl, inr, arith}
use Rattle.std.proofs.lemmas.Option.{none-some, same_Some}
use Rattle.std.proofs.lemmas.Bool.{cases_order}
use Rattle.program_model.specs.Semantics.{Semantics}
use Rattle.program_model.specs.Program.{Program, line_at, IsPartial}
use Rattle.program_model.specs.Run.{Config, EndsMissing, Loops}
use Rattle.program_model.specs.declared.standing.Stand.{Stand}
use Rattle.program_model.specs.declared.standing.Stand.TheVariants as stands
use Rattle.program_model.specs.Standing.{IsNoticed, Waits, Comes, NothingBefore, IsStanding}
use Rattle.program_model.proofs.Runs.{open_stops, same_missing, loops_on, loops_go_on}

module _ {C : Type 0} (m : Semantics C) (ops : ℕ) (q : Program) (t : ℕ) (partial : IsPartial ops q) where
  -- a run that waits does not stand on the last line
  ends_or_waits : (s a line : ℕ) → EndsMissing m q t s a → Waits m q t s line → ⊥
  ends_or_waits s a line ends waiting =
      let config : ends.config ≡ waiting.config = same_Some ends.config waiting.config (sym ends.comes ∙ waiting.comes) in
      let here : line ≡ ends.config.line = sym (ap (λ (c : Config C). c.line) config ∙ waiting.here) in
      let last = ends.last in
      let same : line ≡ length q - 1 = omega arith in
      none-some _ (sym waiting.is_open.undefined ∙ ap (line_at q) same ∙ partial.last)

  -- a run that waits does not repeat
  waits_or_loops : (s line i j : ℕ) → Waits m q t s line → Loops m q t i j → ⊥
  waits_or_loops s line i j waiting repeats =
      loops_go_on m q t i j s waiting.config repeats waiting.comes
      (open_stops m q t s waiting.config waiting.comes (ap (line_at q) waiting.here ∙ waiting.is_open.undefined))

  same_waits : (s line other : ℕ) → Waits m q t s line → Waits m q t s other → line ≡ other
  same_waits s line other x y = sym x.here ∙ ap (λ (c : Config C). c.line) (same_Some x.config y.config (sym x.comes ∙ y.comes)) ∙ y.here

  -- one repetition is noticed
  pub same_noticed : (i j a b : ℕ) → IsNoticed m q t i j → IsNoticed m q t a b → (i ≡ a) × (j ≡ b)
  same_noticed i j a b x y =
      let mark : i ≡ a = elim (cases_order i a) [
        | inl e ↦ e
        | inr o ↦ elim o [ inl h ↦ absurd (y.least_mark i j h x.noticeable) | inr h ↦ absurd (x.least_mark a b h y.noticeable) ]
      ] in (
        mark,
        elim (cases_order j b) [
          | inl e ↦ e
          | inr o ↦ elim o [
            | inl h ↦ absurd (y.least_repeat j h (rw (sym mark) x.noticeable))
            | inr h ↦ absurd (x.least_repeat b h (rw mark y.noticeable))
          ]
        ],
      )

  -- a run comes to one thing at a step
  same_coming : (s : ℕ) (x y : Stand) → Comes m q t s x → Comes m q t s y → x ≡ y
  same_coming s stands.Ended stands.Ended x y = refl
  same_coming s stands.Ended stands.Unmet x y = absurd (let e = same_missing m ops q t s s 0 (suc y.0) partial x y.1 in omega arith)
  same_coming s stands.Ended (stands.Waits line) x y = absurd (ends_or_waits s 0 line x y)
  same_coming s stands.Ended (stands.Repeats i j) x y = absurd (loops_on m ops q t i j s 0 partial y.1.noticeable.loops x)
  same_coming s stands.Ended stands.AtLimit x y = absurd y
  same_coming s stands.Ended stands.QuotaUsed x y = absurd y
  same_coming s stands.Unmet stands.Ended x y = absurd (let e = same_missing m ops q t s s 0 (suc x.0) partial y x.1 in omega arith)
  same_coming s stands.Unmet stands.Unmet x y = refl
  same_coming s stands.Unmet (stands.Waits line) x y = absurd (ends_or_waits s (suc x.0) line x.1 y)
  same_coming s stands.Unmet (stands.Repeats i j) x y = absurd (loops_on m ops q t i j s (suc x.0) partial y.1.noticeable.loops x.1)
  same_coming s stands.Unmet stands.AtLimit x y = absurd y
  same_coming s stands.Unmet stands.QuotaUsed x y = absurd y
  same_coming s (stands.Waits line) stands.Ended x y = absurd (ends_or_waits s 0 line y x)
  same_coming s (stands.Waits line) stands.Unmet x y = absurd (ends_or_waits s (suc y.0) line y.1 x)
  same_coming s (stands.Waits line) (stands.Waits other) x y = ap stands.Waits (same_waits s line other x y)
  same_coming s (stands.Waits line) (stands.Repeats i j) x y = absurd (waits_or_loops s line i j x y.1.noticeable.loops)
  same_coming s (stands.Waits line) stands.AtLimit x y = absurd y
  same_coming s (stands.Waits line) stands.QuotaUsed x y = absurd y
  same_coming s (stands.Repeats i j) stands.Ended x y = absurd (loops_on m ops q t i j s 0 partial x.1.noticeable.loops y)
  same_coming s (stands.Repeats i j) stands.Unmet x y = absurd (loops_on m ops q t i j s (suc y.0) partial x.1.noticeable.loops y.1)
  same_coming s (stands.Repeats i j) (stands.Waits line) x y = absurd (waits_or_loops s line i j y x.1.noticeable.loops)
  same_coming s (stands.Repeats i j) (stands.Repeats a b) x y = let same = same_noticed i j a b x.1 y.1 in ap₂ stands.Repeats same.0 same.1
  same_coming s (stands.Repeats i j) stands.AtLimit x y = absurd y
  same_coming s (stands.Repeats i j) stands.QuotaUsed x y = absurd y
  same_coming s stands.AtLimit y x z = absurd x
  same_coming s stands.QuotaUsed y x z = absurd x

  -- a standing is come to within the limit, or it is the limit
  Reached : ℕ → ℕ → Stand → Type 0
  Reached limit s x = (s ≤ limit) × Comes m q t s x × NothingBefore m q t s

  AtLimit : ℕ → ℕ → Stand → Type 0
  AtLimit limit s x = (x ≡ stands.AtLimit) × (s ≡ limit) × NothingBefore m q t (limit + 1)

  reached_or_not : (limit s : ℕ) (x : Stand) → IsStanding m q t limit s x → Reached limit s x ⊎ AtLimit limit s x
  unfolding Reached AtLimit
  reached_or_not limit s stands.Ended h = inl h
  reached_or_not limit s stands.Unmet h = inl h
  reached_or_not limit s (stands.Waits line) h = inl h
  reached_or_not limit s (stands.Repeats i j) h = inl h
  reached_or_not limit s stands.AtLimit h = inr (refl, h.0, h.2)
  reached_or_not limit s stands.QuotaUsed h = absurd h

  pub same_standing : (limit s r : ℕ) (x y : Stand) → IsStanding m q t limit s x → IsStanding m q t limit r y → (s ≡ r) × (x ≡ y)
  unfolding Reached AtLimit
  same_standing limit s r x y h k = elim (reached_or_not limit s x h) [
    | inl a ↦ elim (reached_or_not limit r y k) [
      | inl b ↦ elim (cases_order s r) [
        | inl e ↦ (e, same_coming s x y a.1 (rw e b.1))
        | inr o ↦ elim o [ inl l ↦ absurd (b.2 s x l a.1) | inr l ↦ absurd (a.2 r y l b.1) ]
      ]
      | inr b ↦ absurd (b.2 s x (omega arith) a.1)
    ]
    | inr a ↦ elim (reached_or_not limit r y k) [
      | inl b ↦ absurd (a.2 r y (omega arith) b.1)
      | inr b ↦ (a.1 ∙ sym b.1, a.0 ∙ sym b.0)
    ]
  ]
