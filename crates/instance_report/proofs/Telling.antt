-- What was told of the first instances, and how it grows to the whole report.
use Rattle.std.proofs.Common.{◌≡◌, ℕ, ◌+◌, ◌<◌, ◌≤◌, Bool, true, false, cond, List, [], ◌∷◌, ◌++◌, length, map, count_by, append_assoc, append-nil, length-append, refl, sym, ◌∙◌, ap, ap₂, inl, inr, arith}
use Rattle.std.specs.Int.{from_bool}
use Rattle.std.specs.List.{list_all}
use Rattle.std.specs.Prelude.{◌==◌}
use Rattle.std.proofs.lemmas.List.{map-append}
use Rattle.std.proofs.lemmas.List.Sums.{sum_by-cons, sum_by_push, count_by-le-length}
use Rattle.std.proofs.lemmas.Bool.{cases_Bool, and_parts, and_cases, eq-eqb, ne_eqb, false≢true}
use Rattle.flag_rules.specs.Line.{line, lines_of}
use Rattle.program_model.specs.Semantics.{Semantics}
use Rattle.program_model.specs.Program.{Program, IsPartial}
use Rattle.program_model.specs.declared.outcome.RunOutcome.{RunOutcome}
use Rattle.program_model.specs.Outcome.{IsOutcome, AreOutcomesFrom, AreOutcomes}
use Rattle.flag_rules.specs.Counts.{raised}
use Rattle.program_model.specs.Counts.{operations_made}
use Rattle.instance_report.specs.declared.answer.Report.{Report}
use Rattle.instance_report.specs.Runs.{is_solved, operations_of}
use Rattle.instance_report.specs.Report.{run_text, count_text, IsReport}
use Rattle.program_model.proofs.Outcomes.{same_outcomes}

-- the lines of two lists, one after the other
lines_of-append : (xs ys : List (List ℕ)) → lines_of (xs ++ ys) ≡ lines_of xs ++ lines_of ys
lines_of-append [] ys = refl
lines_of-append (x ∷ xs) ys = rw (lines_of-append xs ys, append_assoc (line x) (lines_of xs) (lines_of ys))

-- a count that rose twice
raised_twice : (count x y : ℕ) → raised (raised count x) y ≡ raised count (x + y)
raised_twice count x y = omega arith

count_of_all : (p : RunOutcome → Bool) (xs : List RunOutcome) → list_all p xs ≡ true → count_by p xs ≡ length xs
count_of_all p [] e = refl
count_of_all p (x ∷ xs) e =
    let both = and_parts (p x) (list_all p xs) e in
    let later = count_of_all p xs both.1 in
    sum_by-cons (λ y. cond (p y) 1 0) x xs ∙ rw both.0 (omega arith)

count_of_fewer : (p : RunOutcome → Bool) (xs : List RunOutcome) → list_all p xs ≡ false → count_by p xs < length xs
count_of_fewer p [] e = absurd (false≢true (sym e))
count_of_fewer p (x ∷ xs) e =
    rw (sum_by-cons (λ y. cond (p y) 1 0) x xs) (elim (and_cases (p x) (list_all p xs) e) [
      | inl fails ↦ rw fails (omega (arith, count_by-le-length p xs))
      | inr later ↦ let fewer = count_of_fewer p xs later in elim (p x) as (λ b. cond b 1 0 + count_by p xs < length (x ∷ xs)) [ true ↦ omega arith | false ↦ omega arith ]
    ])

-- all of a list pass exactly where as many do as there are
all_counted : (p : RunOutcome → Bool) (xs : List RunOutcome) → (count_by p xs == length xs) ≡ list_all p xs
all_counted p xs = elim (cases_Bool (list_all p xs)) [
  | inl e ↦ eq-eqb (count_by p xs) (length xs) (count_of_all p xs e) ∙ sym e
  | inr e ↦ ne_eqb (count_by p xs) (length xs) (λ same. let fewer = count_of_fewer p xs e in omega arith) ∙ sym e
]

-- a truth value as a number
pub byte_of : (b : Bool) → from_bool b ≡ cond b 1 0
byte_of true = refl
byte_of false = refl

-- the lines of the first t instances, how many of them are solved, and the operations_made made
pub record IsTold {C : Type 0} (m : Semantics C) (p : Program) (limit start t : ℕ) (text : List ℕ) (solved acts : ℕ) : Type 0 where
  pub runs : List RunOutcome
  pub before : (later : List RunOutcome) → AreOutcomesFrom m p limit t later → AreOutcomesFrom m p limit 0 (runs ++ later)
  pub many : length runs ≡ t
  pub told : text ≡ lines_of (map (run_text limit) runs)
  pub counted : solved ≡ count_by is_solved runs
  pub made : acts ≡ raised start (operations_of m p runs)

module _ {C : Type 0} (m : Semantics C) (p : Program) (limit start : ℕ) where
  pub told_nothing : (text : List ℕ) → text ≡ [] → IsTold m p limit start 0 text 0 start
  told_nothing text e = record { runs = []; before = λ later h. h; many = refl; told = e; counted = refl; made = omega arith }

  pub told_few : (t : ℕ) (text : List ℕ) (solved acts : ℕ) → IsTold m p limit start t text solved acts → solved ≤ t
  told_few t text solved acts h = omega (arith, h.counted, h.many, count_by-le-length is_solved h.runs)

  pub told_more : (t : ℕ) (text : List ℕ) (solved acts : ℕ) → IsTold m p limit start t text solved acts →
      (x : RunOutcome) → x.instance ≡ t → IsOutcome m p limit x → (new : List ℕ) (more after : ℕ) → new ≡ text ++ line (run_text limit x) → more ≡ solved + cond (is_solved x) 1 0 → after ≡ raised acts (operations_made m p x.instance x.steps) →
      IsTold m p limit start (t + 1) new more after
  told_more t text solved acts h x instance stood new more after told counted made = record {
    runs = h.runs ++ x ∷ [];
    before = λ later k. rw (append_assoc h.runs (x ∷ []) later) (h.before (x ∷ later) (instance, stood, k));
    many = length-append h.runs (x ∷ []) ∙ ap (λ n. n + 1) h.many;
    told =
        told
        ∙ ap (λ old. old ++ line (run_text limit x)) h.told
        ∙ sym (ap lines_of (map-append (run_text limit) h.runs (x ∷ [])) ∙ lines_of-append (map (run_text limit) h.runs) (run_text limit x ∷ []) ∙ ap (λ new. lines_of (map (run_text limit) h.runs) ++ new) (append-nil (line (run_text limit x))));
    counted = counted ∙ ap (λ n. n + cond (is_solved x) 1 0) h.counted ∙ sym (sum_by_push (λ y. cond (is_solved y) 1 0) h.runs x);
    made =
        made
        ∙ ap (λ count. raised count (operations_made m p x.instance x.steps)) h.made
        ∙ raised_twice start (operations_of m p h.runs) (operations_made m p x.instance x.steps)
        ∙ ap (raised start) (sym (sum_by_push (λ y. operations_made m p y.instance y.steps) h.runs x));
  }

  -- where the lines of all instances stand, and the last one after them
  pub told_all : (t : ℕ) (text : List ℕ) (solved acts : ℕ) → IsTold m p limit start t text solved acts → t ≡ m.instances → (report : Report) → report.text ≡ text ++ line (count_text solved m.instances) → report.all_solved ≡ (solved == m.instances) →
      IsReport m p limit report
  told_all t text solved acts h all report told counted = record {
    runs = h.runs;
    are_runs = rw (sym (append-nil h.runs)) (h.before [] all);
    text =
        told
        ∙ ap₂ (λ old n. old ++ line (count_text n m.instances)) h.told h.counted
        ∙ sym (lines_of-append (map (run_text limit) h.runs) (count_text (count_by is_solved h.runs) m.instances ∷ []) ∙ ap (λ new. lines_of (map (run_text limit) h.runs) ++ new) (append-nil (line (count_text (count_by is_solved h.runs) m.instances))));
    all_solved = counted ∙ ap₂ ◌==◌ h.counted (sym (h.many ∙ all)) ∙ all_counted is_solved h.runs;
  }

  -- the meter then counted the operations of all runs
  pub all_operations_made : (ops t : ℕ) (text : List ℕ) (solved acts : ℕ) → IsPartial ops p → IsTold m p limit start t text solved acts → t ≡ m.instances → (xs : List RunOutcome) → AreOutcomes m p limit xs → acts ≡ raised start (operations_of m p xs)
  all_operations_made ops t text solved acts partial h all xs are_runs =
      h.made ∙ ap (λ runs. raised start (operations_of m p runs)) (same_outcomes m ops p limit partial h.runs xs 0 (rw (sym (append-nil h.runs)) (h.before [] all)) are_runs)
