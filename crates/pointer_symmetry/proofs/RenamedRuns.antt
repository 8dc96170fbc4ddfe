-- Programs over renamed pointers: they are programs, they run as those that they rename, and they solve the same instances.
use Rattle.std.proofs.Common.{◌≡◌, ℕ, zero, suc, ◌+◌, ◌-◌, ◌<◌, List, length, Option, Some, None, refl, sym, ◌∙◌, ap, subst, inl, inr, arith}
use Rattle.std.specs.Prelude.{◌↔◌, option_map, option_and_then, slice_get, if◌then◌else◌, IsSome}
use Rattle.std.proofs.lemmas.Option.{slice_get-map, none-some, same_Some, option_and_then_some}
use Rattle.std.proofs.lemmas.Bool.{cases_lt, false≢true}
use Rattle.std.proofs.lemmas.List.{length-map}
use Rattle.flag_rules.specs.Flags.{holds_at}
use Rattle.program_model.specs.declared.instr.Instr.{Instr}
use Rattle.program_model.specs.declared.instr.Instr.TheVariants.{Op, Goto, End}
use Rattle.program_model.specs.Semantics.{Semantics}
use Rattle.program_model.specs.Symmetry.{IsSymmetric}
use Rattle.program_model.specs.Renaming.{IsRenamingOf}
use Rattle.program_model.specs.Program.{Program, line_at, IsInstr, IsPartial, IsProgram}
use Rattle.program_model.specs.Run.{Config, step, next, at, Solves, SolvesAll}
use Rattle.program_model.proofs.Alphabets.{contains_op, contains_last}
use Rattle.program_model.proofs.Programs.{line_within}
use Rattle.pointer_symmetry.specs.Renamed.{renamed_instr, renamed_program}

-- ---- optional values, mapped

-- what a mapped optional value comes from
pub record MapsFrom {A B : Type 0} (f : A → B) (o : Option A) (y : B) : Type 0 where
  pub from : A
  pub is : o ≡ Some from
  pub gives : f from ≡ y

pub maps_from : {A B : Type 0} (f : A → B) (o : Option A) (y : B) → option_map f o ≡ Some y → MapsFrom f o y
maps_from f None y e = absurd (none-some y e)
maps_from f (Some x) y e = record { from = x; is = refl; gives = same_Some (f x) y e }

-- two continuations that agree on what is mapped agree
mapped_and_then : {A B X Y : Type 0} (f : A → X) (g : B → Y) (k : A → Option B) (l : X → Option Y) (o : Option A) → ((x : A) → o ≡ Some x → l (f x) ≡ option_map g (k x)) → option_and_then l (option_map f o) ≡ option_map g (option_and_then k o)
mapped_and_then f g k l None agree = refl
mapped_and_then f g k l (Some x) agree = agree x refl

some_map : {A B : Type 0} (f : A → B) (o : Option A) → IsSome o → IsSome (option_map f o)
some_map f None h = absurd (false≢true h)
some_map f (Some x) h = refl

-- ---- lines

-- an operation of a line's alphabet stands before the last line, and is one of the machine
pub op_fits : (ops lines line op : ℕ) → line < lines → IsInstr ops lines line (Op op) → (line + 1 < lines) × (op < ops)
op_fits ops lines line op within fits = elim (cases_lt (line + 1) lines) [
  | inl inner ↦ (inner, (contains_op ops lines line op inner).0 fits)
  | inr h ↦
      let no : Op op ≡ End = (contains_last ops lines line (Op op) (omega arith)).0 fits in
      absurd (cc)
]

pub op_below : (ops : ℕ) (q : Program) (line op : ℕ) → IsPartial ops q → line_at q line ≡ Some (Op op) → op < ops
op_below ops q line op partial e = (op_fits ops (length q) line op (line_within q line (Op op) e) (partial.each line (Op op) e)).1

module _ {C : Type 0} (m : Semantics C) (by : List ℕ) where
  pub line_at-renamed : (q : Program) (line : ℕ) → line_at (renamed_program m by q) line ≡ option_map (renamed_instr m by) (line_at q line)
  line_at-renamed q line =
      ap (option_and_then (λ w. w)) (slice_get-map (option_map (renamed_instr m by)) q line)
      ∙ mapped_and_then (option_map (renamed_instr m by)) (renamed_instr m by) (λ w. w) (λ w. w) (slice_get q line) (λ x e. refl)

  pub length-renamed : (q : Program) → length (renamed_program m by q) ≡ length q
  length-renamed q = length-map q (option_map (renamed_instr m by))

-- a configuration over renamed pointers
abbrev pub renamed_config : {C : Type 0} → Semantics C → List ℕ → Config C → Config C
renamed_config m by c = record { line = c.line; value = m.renamed by c.value }

module _ {C : Type 0} (m : Semantics C) (belongs : ℕ → C → Type 0) (by : List ℕ) (symmetric : IsSymmetric m belongs) (renaming : IsRenamingOf m.pointers by) where
  -- ---- programs

  -- a renamed instruction is of the same alphabets
  pub renamed_fits : (lines line : ℕ) (instr : Instr) → line < lines → IsInstr m.ops lines line instr → IsInstr m.ops lines line (renamed_instr m by instr)
  renamed_fits lines line (Op op) within fits =
      let old = op_fits m.ops lines line op within fits in
      (contains_op m.ops lines line (m.rename by op) old.0).1 (symmetric.is_operation by op renaming old.1)
  renamed_fits lines line (Goto target cond) within fits = fits
  renamed_fits lines line End within fits = fits

  pub renamed_is_partial : (q : Program) → IsPartial m.ops q → IsPartial m.ops (renamed_program m by q)
  renamed_is_partial q partial =
      let size = length-renamed m by q in
      let some = partial.some in
      record {
        some = omega arith;
        last = ap (λ n. line_at (renamed_program m by q) (n - 1)) size ∙ line_at-renamed m by q (length q - 1) ∙ ap (option_map (renamed_instr m by)) partial.last;
        each = λ line instr e.
            let old = maps_from (renamed_instr m by) (line_at q line) instr (sym (line_at-renamed m by q line) ∙ e) in
            let within = line_within q line old.from old.is in
            subst (λ n. IsInstr m.ops n line instr) (sym size)
            (subst (IsInstr m.ops (length q) line) old.gives (renamed_fits (length q) line old.from within (partial.each line old.from old.is)));
      }

  pub renamed_is_program : (p : Program) → IsProgram m.ops p → IsProgram m.ops (renamed_program m by p)
  renamed_is_program p program =
      let size = length-renamed m by p in
      record {
        is_partial = renamed_is_partial p program.is_partial;
        whole = λ line h. subst IsSome (sym (line_at-renamed m by p line)) (some_map (renamed_instr m by) (line_at p line) (program.whole line (omega arith)));
      }

  -- ---- runs

  module _ (t : ℕ) (is_instance : t < m.instances) where
    renamed_step : (instr : Instr) (c : Config C) → ((op : ℕ) → instr ≡ Op op → op < m.ops) → belongs t c.value → step m t (renamed_instr m by instr) (renamed_config m by c) ≡ option_map (renamed_config m by) (step m t instr c)
    renamed_step (Op op) c below its =
        ap (λ value. Some (record { line = c.line + 1; value = value })) (symmetric.acts by t op c.value renaming is_instance (below op refl) its)
    renamed_step (Goto target cond) c below its =
        ap (λ sign. Some (record { line = if holds_at cond sign then target else c.line + 1; value = m.renamed by c.value }))
        (symmetric.sign by t c.value renaming is_instance its)
    renamed_step End c below its = refl

    -- a value after a step belongs to the instance
    step_belongs : (instr : Instr) (c d : Config C) → ((op : ℕ) → instr ≡ Op op → op < m.ops) → belongs t c.value → step m t instr c ≡ Some d → belongs t d.value
    step_belongs (Op op) c d below its e =
        subst (λ (x : Config C). belongs t x.value) (same_Some (record { line = c.line + 1; value = m.act t op c.value }) d e)
        (symmetric.act_belongs t op c.value is_instance (below op refl) its)
    step_belongs (Goto target cond) c d below its e =
        subst (λ (x : Config C). belongs t x.value) (same_Some (record { line = if holds_at cond (m.sign c.value) then target else c.line + 1; value = c.value }) d e) its
    step_belongs End c d below its e = absurd (none-some d e)

    module _ (q : Program) (partial : IsPartial m.ops q) where
      ops_below : (line : ℕ) (instr : Instr) → line_at q line ≡ Some instr → (op : ℕ) → instr ≡ Op op → op < m.ops
      ops_below line instr e op is = op_below m.ops q line op partial (e ∙ ap Some is)

      -- a run comes to values of its instance
      pub at_belongs : (j : ℕ) (c : Config C) → at m q t j ≡ Some c → belongs t c.value
      at_belongs zero c e = subst (λ (x : Config C). belongs t x.value) (same_Some (record { line = 0; value = m.start t }) c e) (symmetric.start_belongs t is_instance)
      at_belongs (suc j) c e =
          option_and_then_some (next m q t) (at m q t j) c e
          (λ b here moved. option_and_then_some (λ instr. step m t instr b) (line_at q b.line) c moved
          (λ instr there stepped. step_belongs instr b c (ops_below b.line instr there) (at_belongs j b here) stepped))

      renamed_next : (c : Config C) → belongs t c.value → next m (renamed_program m by q) t (renamed_config m by c) ≡ option_map (renamed_config m by) (next m q t c)
      renamed_next c its =
          ap (option_and_then (λ instr. step m t instr (renamed_config m by c))) (line_at-renamed m by q c.line)
          ∙ mapped_and_then (renamed_instr m by) (renamed_config m by) (λ instr. step m t instr c) (λ instr. step m t instr (renamed_config m by c)) (line_at q c.line)
          (λ instr there. renamed_step instr c (ops_below c.line instr there) its)

      -- after each step the renamed program stands where the program does, on a renamed value
      pub renamed_at : (j : ℕ) → at m (renamed_program m by q) t j ≡ option_map (renamed_config m by) (at m q t j)
      renamed_at zero = ap (λ value. Some (record { line = 0; value = value })) (sym (symmetric.start by t renaming is_instance))
      renamed_at (suc j) =
          ap (option_and_then (next m (renamed_program m by q) t)) (renamed_at j)
          ∙ mapped_and_then (renamed_config m by) (renamed_config m by) (next m q t) (next m (renamed_program m by q) t) (at m q t j)
          (λ c here. renamed_next c (at_belongs j c here))

      pub solves_alike : Solves m q t ↔ Solves m (renamed_program m by q) t
      solves_alike =
          let size = length-renamed m by q in (
            λ solves.
                let ends = solves.1 in (
                  solves.0,
                  record {
                    config = renamed_config m by ends.config;
                    comes = renamed_at solves.0 ∙ ap (option_map (renamed_config m by)) ends.comes;
                    last = ends.last ∙ sym size;
                    lacks = symmetric.missing by t ends.config.value renaming is_instance (at_belongs solves.0 ends.config ends.comes) ∙ ends.lacks;
                  },
                ),
            λ solves.
                let ends = solves.1 in
                let old = maps_from (renamed_config m by) (at m q t solves.0) ends.config (sym (renamed_at solves.0) ∙ ends.comes) in (
                  solves.0,
                  record {
                    config = old.from;
                    comes = old.is;
                    last = ap (λ (c : Config C). c.line + 1) old.gives ∙ ends.last ∙ size;
                    lacks =
                        sym (symmetric.missing by t old.from.value renaming is_instance (at_belongs solves.0 old.from old.is))
                        ∙ ap (λ (c : Config C). m.missing t c.value) old.gives
                        ∙ ends.lacks;
                  },
                ),
          )

  pub all_alike : (p : Program) → IsPartial m.ops p → SolvesAll m p ↔ SolvesAll m (renamed_program m by p)
  all_alike p partial = (
    λ solves t h. (solves_alike t h p partial).0 (solves t h),
    λ solves t h. (solves_alike t h p partial).1 (solves t h),
  )
