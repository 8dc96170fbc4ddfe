-- A run that stands where the program's run does: how it goes on, and where there is no further step.
use Rattle.std.proofs.Common.{◌≡◌, ℕ, suc, ◌+◌, ◌-◌, ◌<◌, length, Option, Some, None, refl, sym, ◌∙◌, ap, subst, inl, inr, arith, nat_lt, Bool, eqb, eqb-true, eq-eqb}
use Rattle.std.specs.Prelude.{◌↔◌, IsTrue, option_and_then, unwrap_or, IfSome}
use Rattle.std.specs.Option.{option_eq}
use Rattle.std.proofs.lemmas.Option.{none-some, same_Some}
use Rattle.std.proofs.lemmas.Bool.{cases_cond, false≢true}
use Rattle.std.proofs.lemmas.Bool.Decides.{nat_tests}
use Rattle.flag_rules.specs.Flags.{holds_at}
use Rattle.program_model.specs.declared.instr.Instr.{Instr}
use Rattle.program_model.specs.declared.instr.Instr.TheVariants.{Op, Goto, End}
use Rattle.program_model.specs.Semantics.{Semantics}
use Rattle.program_model.specs.Program.{Program, line_at, Extends, IsInstr, IsPartial}
use Rattle.program_model.specs.Run.{Config, step, next, at, EndsMissing, Ends, Unmet, Loops}
use Rattle.program_model.proofs.Alphabets.{contains_op, contains_jump, no_inner_end}
use Rattle.program_model.proofs.Runs.{at-extends, over_stays, same_missing, open_stops, last_stops}
use Rattle.refutation_check.specs.declared.configuration.Configuration.{Configuration}
use Rattle.refutation_check.specs.declared.run.Run.{Run}
use Rattle.refutation_check.specs.Inner.Runs.{config_of, StandsAt, TellsEnd}

-- the operations of a line that is not the last are there
pub op_is_there : (ops : ℕ) (q : Program) (line : ℕ) (instr : Instr) → IsPartial ops q → line + 1 < length q → line_at q line ≡ Some instr → (op : ℕ) → instr ≡ Op op → op < ops
op_is_there ops q line instr partial inner defined op is = (contains_op ops (length q) line op inner).0 (subst (IsInstr ops (length q) line) is (partial.each line instr defined))

-- a step from a line that is not the last leads to a line
step_within : {C : Type 0} (m : Semantics C) (q : Program) (t : ℕ) (instr : Instr) (here after : Config C) → IsInstr m.ops (length q) here.line instr → here.line + 1 < length q → step m t instr here ≡ Some after → after.line < length q
step_within m q t (Op op) here after fits inner e = let line : here.line + 1 ≡ after.line = ap (λ (config : Config _). config.line) (same_Some _ after e) in omega arith
step_within m q t (Goto target cond) here after fits inner e =
    let line = ap (λ (config : Config _). config.line) (same_Some _ after e) in
    let within = ((contains_jump m.ops (length q) here.line target cond inner).0 fits).within in
    elim (cases_cond (holds_at cond (m.sign here.value)) target (here.line + 1) after.line (sym line)) [ inl k ↦ omega arith | inr k ↦ omega arith ]
step_within m q t End here after fits inner e = absurd (none-some after e)

-- the instruction of a line that is not the last has a step
step_made : {C : Type 0} (m : Semantics C) (q : Program) (t : ℕ) (instr : Instr) (line : ℕ) (here after : Config C) → IsInstr m.ops (length q) line instr → line + 1 < length q → IfSome (step m t instr here) (λ config. after ≡ config) → step m t instr here ≡ Some after
step_made m q t (Op op) line here after fits inner e = ap Some (sym e)
step_made m q t (Goto target cond) line here after fits inner e = ap Some (sym e)
step_made m q t End line here after fits inner e = absurd (no_inner_end m.ops (length q) line inner fits)

module _ {C : Type 0} (m : Semantics C) (belongs : ℕ → C → Type 0) (q : Program) (t : ℕ) (partial : IsPartial m.ops q) (run : Run C) (stands : StandsAt m belongs q t run) where
  -- after the step of its line's instruction the run stands where the program's run does
  pub stands_on : (instr : Instr) → run.here.line + 1 < length q → line_at q run.here.line ≡ Some instr
      → (here : Configuration C) → IfSome (step m t instr (config_of run.here)) (λ config. config_of here ≡ config) → belongs t here.value
      → StandsAt m belongs q t (record { here = here; steps = run.steps + 1 })
  stands_on instr inner defined here stepped value =
      let fits = partial.each run.here.line instr defined in
      let made : step m t instr (config_of run.here) ≡ Some (config_of here) = step_made m q t instr run.here.line (config_of run.here) (config_of here) fits inner stepped in
      let after : run.steps + 1 ≡ suc run.steps = omega arith in
      record {
        here =
            ap (at m q t) after
            ∙ ap (option_and_then (next m q t)) stands.here
            ∙ ap (option_and_then (λ w. step m t w (config_of run.here))) defined
            ∙ made;
        within = step_within m q t instr (config_of run.here) (config_of here) fits inner made;
        value = value;
      }

  -- on the last line there is no further step
  pub stops_at_last : run.here.line + 1 ≡ length q → at m q t (run.steps + 1) ≡ None
  stops_at_last last =
      let after : run.steps + 1 ≡ suc run.steps = omega arith in
      ap (at m q t) after ∙ last_stops m m.ops q t run.steps (config_of run.here) partial stands.here last

  -- nor is there one on an undefined line
  pub stops_at_open : line_at q run.here.line ≡ None → at m q t (run.steps + 1) ≡ None
  stops_at_open undefined =
      let after : run.steps + 1 ≡ suc run.steps = omega arith in
      ap (at m q t) after ∙ open_stops m q t run.steps (config_of run.here) stands.here undefined

-- where there is no further step, there is none later
pub none_later : {C : Type 0} (m : Semantics C) (q : Program) (t steps later : ℕ) → at m q t (steps + 1) ≡ None → steps < later → at m q t later ≡ None
none_later m q t steps later none less = over_stays m q t (steps + 1) (later - (steps + 1)) later (omega arith) none

-- a run that came to the last line at a step ends there
pub ends_at : {C : Type 0} (m : Semantics C) (belongs : ℕ → C → Type 0) (q : Program) (t steps : ℕ) (run : Run C) → StandsAt m belongs q t run → run.steps ≡ steps → run.here.line + 1 ≡ length q → EndsMissing m q t steps (m.missing t run.here.value)
ends_at m belongs q t steps run stands come last = record { config = config_of run.here; comes = ap (at m q t) (sym come) ∙ stands.here; last = last; lacks = refl }

-- a run that came to two steps loops where the configurations are the same
pub loops_where_same : {C : Type 0} (m : Semantics C) (belongs : ℕ → C → Type 0) (q : Program) (t i j : ℕ) (before after : Run C) → i < j
    → StandsAt m belongs q t before → before.steps ≡ i → StandsAt m belongs q t after → after.steps ≡ j → (config_of after.here ≡ config_of before.here) ↔ Loops m q t i j
loops_where_same m belongs q t i j before after less first first_step second second_step = (
  λ same. record { config = config_of before.here; before = less; first_time = ap (at m q t) (sym first_step) ∙ first.here; second_time = ap (at m q t) (sym second_step) ∙ second.here ∙ ap Some same },
  λ loops.
      same_Some (config_of after.here) (config_of before.here)
      (sym second.here ∙ ap (at m q t) second_step ∙ loops.second_time ∙ sym loops.first_time ∙ ap (at m q t) (sym first_step) ∙ first.here),
)

-- what is told of the end of a run tells whether the goal is unmet there
pub told_unmet : {C : Type 0} (m : Semantics C) (q : Program) (t steps : ℕ) (told : Option ℕ) → IsPartial m.ops q → TellsEnd m q t steps told → (0 < unwrap_or told 0) ↔ Unmet m q t steps
told_unmet m q t steps None partial tells = (λ h. absurd (omega arith), λ unmet. absurd (tells (suc unmet.0) unmet.1))
told_unmet m q t steps (Some missing) partial tells = (
  λ h. let less : missing ≡ suc (missing - 1) = omega arith in (missing - 1, subst (EndsMissing m q t steps) less tells),
  λ unmet. let same = same_missing m m.ops q t steps steps missing (suc unmet.0) partial tells unmet.1 in omega arith,
)

-- and whether it is met
pub told_met : {C : Type 0} (m : Semantics C) (q : Program) (t steps : ℕ) (told : Option ℕ) → IsPartial m.ops q → TellsEnd m q t steps told → (told ≡ Some 0) ↔ Ends m q t steps
told_met m q t steps None partial tells = (λ h. absurd (none-some 0 h), λ ends. absurd (tells 0 ends))
told_met m q t steps (Some missing) partial tells = (
  λ h. subst (EndsMissing m q t steps) (same_Some missing 0 h) tells,
  λ ends. ap Some (same_missing m m.ops q t steps steps missing 0 partial tells ends),
)

above : (r n : ℕ) → r ≡ n → IsTrue (nat_lt 0 r) → 0 < n
above r n same h = grind (arith, nat_tests)

is_above : (r n : ℕ) → r ≡ n → 0 < n → IsTrue (nat_lt 0 r)
is_above r n same h = grind (arith, nat_tests)

-- a number that is tested for being above 0
pub tested_above : {P : Type 0} (r n : ℕ) → r ≡ n → (0 < n) ↔ P → IsTrue (nat_lt 0 r) ↔ P
tested_above r n same says = (λ h. says.0 (above r n same h), λ p. let some = says.1 p in is_above r n same some)

-- an answer that is tested for being 0
pub tested_zero : {P : Type 0} (b : Bool) (told : Option ℕ) → b ≡ option_eq eqb told (Some 0) → (told ≡ Some 0) ↔ P → IsTrue b ↔ P
tested_zero b None same says = (λ h. absurd (false≢true (sym same ∙ h)), λ p. absurd (none-some 0 (says.1 p)))
tested_zero b (Some missing) same says = (
  λ h. says.0 (ap Some (eqb-true missing 0 (sym same ∙ h))),
  λ p. same ∙ eq-eqb missing 0 (same_Some missing 0 (says.1 p)),
)

-- a run of a partial program is, where it stands, the run of each that extends it
pub stands_extended : {C : Type 0} (m : Semantics C) (belongs : ℕ → C → Type 0) (p q : Program) (t : ℕ) (run : Run C) → Extends p q → StandsAt m belongs q t run → StandsAt m belongs p t run
stands_extended m belongs p q t run extends stands = record {
  here = at-extends m p q t run.steps (config_of run.here) extends stands.here;
  within = (let size = extends.size in let within = stands.within in omega arith);
  value = stands.value;
}
