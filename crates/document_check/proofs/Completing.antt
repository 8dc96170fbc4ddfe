-- How the bytes of a piece complete what was read.
use Rattle.std.proofs.Common.{◌≡◌, ◌≢◌, ℕ, ◌+◌, ◌<◌, ◌≤◌, Bool, true, suc, List, [], ◌∷◌, ◌++◌, length, refl, sym, ◌∙◌, ap, subst, arith}
use Rattle.std.specs.Prelude.{IsTrue, ◌↔◌, ◌==◌, All, not, take}
use Rattle.std.proofs.lemmas.Bool.{false≢true, and_parts}
use Rattle.std.proofs.lemmas.List.{append_assoc, append-nil, length-append}
use Rattle.std.proofs.lemmas.List.Elements.{All-nil, All-cons, All-head, All-tail}
use Rattle.flag_rules.specs.Line.{line, lines_of}
use Rattle.program_model.specs.Semantics.{Semantics}
use Rattle.answer_lines.specs.Cuts.{is_free_of}
use Rattle.answer_lines.proofs.Cutting.{free-append, same_line, no_line}
use Rattle.document_check.specs.declared.stage.Stage.{Stage}
use Rattle.document_check.specs.declared.stage.Stage.TheVariants as stages
use Rattle.document_check.specs.declared.progress.Progress.{Progress}
use Rattle.document_check.specs.declared.reading.Reading.{Reading}
use Rattle.document_check.specs.Fronts.{LineFront}
use Rattle.document_check.specs.Standing.{CompletesReading, Expects, ExpectsAt, FitsRoom}
use Rattle.document_check.specs.Inner.Steps.{Steps}
use Rattle.document_check.specs.Inner.Pieces.{Advances}
use Rattle.document_check.proofs.Steps.{no_heading, no_trees, no_marks, no_program, no_instrs, no_ends, no_last}
use Rattle.program_model.specs.Program.{Program}
use Rattle.refutation_check.specs.Walking.{pending}
use Rattle.refutation_check.specs.declared.walk.Walk.{Walk}

-- ---- lines and bytes

-- bytes that begin with a line are those of lines of which it is the first
record FirstLine (text more : List ℕ) (rest : List (List ℕ)) (room : ℕ) : Type 0 where
  later : List (List ℕ)
  split : rest ≡ text ∷ later
  after : more ≡ lines_of later

first_line : (text more : List ℕ) (rest : List (List ℕ)) (room : ℕ) → is_free_of 10 text ≡ true → All (FitsRoom room) rest → line text ++ more ≡ lines_of rest → FirstLine text more rest room
first_line text more [] room free each whole = let count = ap length whole in let all = length-append (line text) more in let one = length-append text (10 ∷ []) in absurd (omega (arith, count, all, one))
first_line text more (t ∷ rest) room free each whole =
    let both = same_line text t more (lines_of rest) free (All-head (FitsRoom room) t rest each).free whole in
    record { later = rest; split = ap (λ (l : List ℕ). l ∷ rest) (sym both.0); after = both.1 }

later_free : (b : ℕ) (bs : List ℕ) → is_free_of 10 (b ∷ bs) ≡ true → is_free_of 10 bs ≡ true
later_free b bs free = (and_parts (not (b == 10)) (is_free_of 10 bs) free).1

-- bytes without a line feed are no longer than the line that they begin
front_within : (front more text after : List ℕ) → is_free_of 10 front ≡ true → front ++ more ≡ line text ++ after → length front ≤ length text
front_within [] more text after free e = omega arith
front_within (b ∷ front) more [] after free e = let first : b ≡ 10 = cc e in let clash : is_free_of 10 (10 ∷ front) ≡ true = subst (λ (n : ℕ). is_free_of 10 (n ∷ front) ≡ true) first free in absurd (false≢true clash)
front_within (b ∷ front) more (c ∷ text) after free e =
    let rest : front ++ more ≡ line text ++ after = cc e in
    let shorter = front_within front more text after (later_free b front free) rest in omega (arith, shorter)

-- too long a front begins no line that has room
no_room : (front more : List ℕ) (rest : List (List ℕ)) (room : ℕ) → is_free_of 10 front ≡ true → room < length front → All (FitsRoom room) rest → front ++ more ≡ lines_of rest → ⊥
no_room front more [] room free long each whole = let count = ap length whole in let all = length-append front more in omega (arith, count, all, long)
no_room front more (text ∷ rest) room free long each whole =
    let within = front_within front more text (lines_of rest) free whole in
    let short = (All-head (FitsRoom room) text rest each).short in omega (arith, within, short, long)

-- ---- lines

module _ {C : Type 0} (m : Semantics C) (texts : List (List ℕ)) where
  line_bytes : (front part more : List ℕ) → front ++ (line part ++ more) ≡ line (front ++ part) ++ more
  line_bytes front part more = sym (append_assoc front (line part) more) ∙ ap (λ (l : List ℕ). l ++ more) (sym (append_assoc front part (10 ∷ [])))

  -- a line that has room came to its end
  pub line_ends : (old new : Reading C) (part : List ℕ) → is_free_of 10 old.front.bytes ≡ true → is_free_of 10 part ≡ true → new.lines ≡ old.lines → new.front.bytes ≡ [] → new.front.room ≡ old.front.room
      → length (old.front.bytes ++ part) ≤ old.front.room → Steps m texts old.lines old.progress (old.front.bytes ++ part) new.progress → Advances m texts old (line part) new
  line_ends old new part free part_free lines none room short steps = λ more.
      let text = old.front.bytes ++ part in
      let text_free = free-append 10 old.front.bytes part free part_free in
      let bytes = line_bytes old.front.bytes part more in (
        λ h.
            let it = first_line text more h.rest old.front.room text_free h.each (sym bytes ∙ h.whole) in
            let each : All (FitsRoom old.front.room) (text ∷ it.later) = subst (All (FitsRoom old.front.room)) it.split h.each in
            let expected : Expects m texts old.lines old.progress (text ∷ it.later) = subst (Expects m texts old.lines old.progress) it.split h.expected in
            record {
              rest = it.later;
              whole = ap (λ (l : List ℕ). l ++ more) none ∙ it.after;
              each = subst (λ (n : ℕ). All (FitsRoom n) it.later) (sym room) (All-tail (FitsRoom old.front.room) text it.later each);
              expected = subst (λ (n : ℕ). Expects m texts n new.progress it.later) (sym lines) ((steps it.later).0 expected);
            },
        λ h.
            let after : more ≡ lines_of h.rest = sym (ap (λ (l : List ℕ). l ++ more) none) ∙ h.whole in
            record {
              rest = text ∷ h.rest;
              whole = bytes ∙ ap (λ (l : List ℕ). line text ++ l) after;
              each = All-cons (FitsRoom old.front.room) text h.rest (record { free = text_free; short = short }) (subst (λ (n : ℕ). All (FitsRoom n) h.rest) room h.each);
              expected = (steps h.rest).1 (subst (λ (n : ℕ). Expects m texts n new.progress h.rest) lines h.expected);
            },
      )

  -- more of a line came
  pub front_grows : (old new : Reading C) (part : List ℕ) → new.lines ≡ old.lines → new.progress ≡ old.progress → new.front.bytes ≡ old.front.bytes ++ part → new.front.room ≡ old.front.room → Advances m texts old part new
  front_grows old new part lines progress grown room = λ more.
      let bytes : old.front.bytes ++ (part ++ more) ≡ new.front.bytes ++ more = sym (append_assoc old.front.bytes part more) ∙ ap (λ (l : List ℕ). l ++ more) (sym grown) in (
        λ h. record {
          rest = h.rest;
          whole = sym bytes ∙ h.whole;
          each = subst (λ (n : ℕ). All (FitsRoom n) h.rest) (sym room) h.each;
          expected = subst (λ (n : ℕ). Expects m texts n new.progress h.rest) (sym lines) (subst (λ (p : Progress C). Expects m texts old.lines p h.rest) (sym progress) h.expected);
        },
        λ h. record {
          rest = h.rest;
          whole = bytes ∙ h.whole;
          each = subst (λ (n : ℕ). All (FitsRoom n) h.rest) room h.each;
          expected = subst (λ (p : Progress C). Expects m texts old.lines p h.rest) progress (subst (λ (n : ℕ). Expects m texts n new.progress h.rest) lines h.expected);
        },
      )

  rejected_completes : (reading : Reading C) (more : List ℕ) → reading.progress.stage ≡ stages.Rejected → CompletesReading m texts reading more → ⊥
  rejected_completes reading more is h = subst (λ (s : Stage). ExpectsAt m texts reading.lines reading.progress.walk reading.progress.program s h.rest) is h.expected

  -- what is rejected stays so
  pub stays_rejected : (old new : Reading C) (piece : List ℕ) → old.progress.stage ≡ stages.Rejected → new.progress.stage ≡ stages.Rejected → Advances m texts old piece new
  stays_rejected old new piece was is = λ more. (λ h. absurd (rejected_completes old (piece ++ more) was h), λ h. absurd (rejected_completes new more is h))

  -- a line that has no room came to its end
  pub line_too_long : (old new : Reading C) (part : List ℕ) → is_free_of 10 old.front.bytes ≡ true → is_free_of 10 part ≡ true → old.front.room < length old.front.bytes + length part → new.progress.stage ≡ stages.Rejected → Advances m texts old (line part) new
  line_too_long old new part free part_free long is = λ more. (
    λ h.
        let count = length-append old.front.bytes part in
        let bytes : (old.front.bytes ++ part) ++ (10 ∷ more) ≡ lines_of h.rest = sym (append_assoc (old.front.bytes ++ part) (10 ∷ []) more) ∙ sym (line_bytes old.front.bytes part more) ∙ h.whole in
        absurd (no_room (old.front.bytes ++ part) (10 ∷ more) h.rest old.front.room (free-append 10 old.front.bytes part free part_free) (omega (arith, count, long)) h.each bytes),
    λ h. absurd (rejected_completes new more is h),
  )

  -- more of a line came than there is room for
  pub front_too_long : (old new : Reading C) (part : List ℕ) → is_free_of 10 old.front.bytes ≡ true → is_free_of 10 part ≡ true → old.front.room < length old.front.bytes + length part → new.progress.stage ≡ stages.Rejected → Advances m texts old part new
  front_too_long old new part free part_free long is = λ more. (
    λ h.
        let count = length-append old.front.bytes part in
        absurd (no_room (old.front.bytes ++ part) more h.rest old.front.room (free-append 10 old.front.bytes part free part_free) (omega (arith, count, long)) h.each (append_assoc old.front.bytes part more ∙ h.whole)),
    λ h. absurd (rejected_completes new more is h),
  )

  pub goes_on : (one two three : Reading C) (x y : List ℕ) → Advances m texts one x two → Advances m texts two y three → Advances m texts one (x ++ y) three
  goes_on one two three x y first second = λ more.
      let bytes = append_assoc x y more in (
        λ h. (second more).0 ((first (y ++ more)).0 (subst (CompletesReading m texts one) bytes h)),
        λ h. subst (CompletesReading m texts one) (sym bytes) ((first (y ++ more)).1 ((second more).1 h)),
      )

  pub nothing_taken : (reading : Reading C) → Advances m texts reading [] reading
  nothing_taken reading = λ more. (λ h. h, λ h. h)

  -- of a piece all but the rest was taken
  pub record IsTaken (old new : Reading C) (piece rest : List ℕ) : Type 0 where
    pub before : List ℕ
    pub cut : piece ≡ before ++ rest
    pub goes_on : Advances m texts old before new

  pub line_taken : (old now new : Reading C) (piece rest part after : List ℕ) → IsTaken old now piece rest → rest ≡ line part ++ after → Advances m texts now (line part) new → IsTaken old new piece after
  line_taken old now new piece rest part after taken cut on = record {
    before = taken.before ++ line part;
    cut = taken.cut ∙ ap (λ (l : List ℕ). taken.before ++ l) cut ∙ sym (append_assoc taken.before (line part) after);
    goes_on = goes_on old now new taken.before (line part) taken.goes_on on;
  }

  -- ---- nothing follows

  none_expected : (lines : ℕ) (walk : Walk C) (program : Program) (stage : Stage) → ExpectsAt m texts lines walk program stage [] → stage ≡ stages.Nothing
  none_expected lines walk program stages.Form h = absurd (no_heading m texts lines 0 h)
  none_expected lines walk program stages.Pointers h = absurd (no_heading m texts lines 1 h)
  none_expected lines walk program stages.Lines h = absurd (no_heading m texts lines 2 h)
  none_expected lines walk program stages.Instances h = absurd (no_heading m texts lines 3 h)
  none_expected lines walk program stages.Verdict h = absurd (no_heading m texts lines 4 h)
  none_expected lines walk program (stages.Tree outcome size) h = absurd (no_trees m texts lines outcome size h)
  none_expected lines walk program (stages.Mark outcome size) h = absurd (no_marks m texts lines outcome size walk.covering (pending m walk) h)
  none_expected lines walk program (stages.Program size) h = absurd (no_program m texts lines size h)
  none_expected lines walk program (stages.Instr line) h = absurd (no_instrs m texts lines (length program) (take line program) h)
  none_expected lines walk program (stages.Ends t) h = absurd (no_ends m texts lines program t h)
  none_expected lines walk program stages.End h = absurd (no_last m texts lines h)
  none_expected lines walk program stages.Nothing h = refl
  none_expected lines walk program stages.Rejected h = absurd h

  no_front : (front : List ℕ) (rest : List (List ℕ)) → is_free_of 10 front ≡ true → front ++ [] ≡ lines_of rest → (front ≡ []) × (rest ≡ [])
  no_front front [] free whole = (sym (append-nil front) ∙ whole, refl)
  no_front front (text ∷ rest) free whole = absurd (no_line front text (lines_of rest) free (sym (append-nil front) ∙ whole))

  -- a reading is complete where the document is whole, and no front of a further line came
  pub is_complete : (reading : Reading C) → is_free_of 10 reading.front.bytes ≡ true → CompletesReading m texts reading [] ↔ ((reading.progress.stage ≡ stages.Nothing) × (reading.front.bytes ≡ []))
  is_complete reading free = (
    λ h.
        let none = no_front reading.front.bytes h.rest free h.whole in
        (none_expected reading.lines reading.progress.walk reading.progress.program reading.progress.stage (subst (Expects m texts reading.lines reading.progress) none.1 h.expected), none.0),
    λ both. record {
      rest = [];
      whole = append-nil reading.front.bytes ∙ both.1;
      each = All-nil (FitsRoom reading.front.room);
      expected = subst (λ (s : Stage). ExpectsAt m texts reading.lines reading.progress.walk reading.progress.program s []) (sym both.0) refl;
    },
  )
