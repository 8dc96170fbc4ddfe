-- What bytes say, by the places that their lines lead to.
use Rattle.std.proofs.Common.{◌≡◌, ℕ, ◌+◌, false, List, [], ◌∷◌, ◌++◌, length, refl, sym, ◌∙◌, ap, subst, inl, inr, arith, append_assoc}
use Rattle.std.specs.Prelude.{All}
use Rattle.std.proofs.lemmas.List.{append-nil, length_push}
use Rattle.std.proofs.lemmas.List.Elements.{All-nil, All-cons, All-head, All-tail}
use Rattle.refutation_tree.specs.declared.evidence.Answer.{Answer}
use Rattle.flag_rules.specs.Line.{line, lines_of}
use Rattle.answer_writer.specs.Document.{document_lines}
use Rattle.refutation_tree.specs.Grammar.{IsGrammatical}
use Rattle.answer_reader.specs.Inner.Following.{Place, at_form, at_rest, Leads, LeadOn}
use Rattle.std.proofs.Common.{◌≢◌}
use Rattle.std.specs.Prelude.{Result, Ok, Err, ◌==◌, not, IsTrue}
use Rattle.std.proofs.lemmas.Bool.{and_from, not_from_false}
use Rattle.program_text.specs.Names.{AreNames}
use Rattle.flag_rules.proofs.Lines.{lines_of-append}
use Rattle.answer_reader.specs.declared.refusal.AnswerRefusal.{AnswerRefusal}
use Rattle.answer_reader.specs.declared.refusal.AnswerRefusal.TheVariants.{Line, OutOfMemory}
use Rattle.answer_writer.specs.Document.{document}
use Rattle.answer_reader.specs.Reading.{IsDocument, Begins, IsAstray, Reads}
use Rattle.answer_lines.specs.Cuts.{is_free_of}
use Rattle.answer_reader.specs.Inner.Unread.{Unread, TakesLine}
use Rattle.answer_reader.specs.Inner.ReadingOn.{TakesSuch, StandsAt, ReadsOn}
use Rattle.answer_reader.proofs.Places.{IsPlace}
use Rattle.answer_reader.proofs.Steps.{step, from_start}
use Rattle.answer_reader.proofs.Told.{same_next, HasNoFeed, no_feed}
use Rattle.answer_reader.proofs.Whole.{lead_append, document_leads}
use Rattle.answer_reader.proofs.Ending.{can_end}
use Rattle.answer_reader.proofs.Cut.{align, no_bytes}

-- ---- lines that lead on

-- lines lead through a place to another
pub record LeadThrough (texts : List (List ℕ)) (from : Place) (xs ys : List (List ℕ)) (to : Place) : Type 0 where
  pub through : Place
  pub first : LeadOn texts from xs through
  pub then : LeadOn texts through ys to

pub lead_through : (texts xs ys : List (List ℕ)) (from to : Place) → LeadOn texts from (xs ++ ys) to → LeadThrough texts from xs ys to
lead_through texts [] ys from to lead = record { through = from; first = refl; then = lead }
lead_through texts (x ∷ xs) ys from to lead =
    let rest = lead_through texts xs ys lead.0 to lead.2 in
    record { through = rest.through; first = (lead.0, lead.1, rest.first); then = rest.then }

pub lead_same : (texts lines : List (List ℕ)) (from one other : Place) → AreNames texts → IsPlace (length texts) from → LeadOn texts from lines one → LeadOn texts from lines other → one ≡ other
lead_same texts [] from one other names known a b = sym a ∙ b
lead_same texts (text ∷ lines) from one other names known a b =
    let same : b.0 ≡ a.0 = same_next texts from text b.0 a.0 names known b.1 a.1 in
    lead_same texts lines a.0 one other names (step texts from a.0 text known a.1).known a.2 (subst (λ (p : Place). LeadOn texts p lines other) same b.2)

lines_no_feed : (texts lines : List (List ℕ)) (from to : Place) → AreNames texts → IsPlace (length texts) from → LeadOn texts from lines to → All HasNoFeed lines
lines_no_feed texts [] from to names known lead = All-nil HasNoFeed
lines_no_feed texts (text ∷ lines) from to names known lead =
    All-cons HasNoFeed text lines (no_feed texts from lead.0 text names known lead.1) (lines_no_feed texts lines lead.0 to names (step texts from lead.0 text known lead.1).known lead.2)

-- ---- what may follow is what begins a document

pub begins_of_lead : (texts front : List (List ℕ)) (place : Place) → AreNames texts → LeadOn texts at_form front place → Begins texts front
begins_of_lead texts front place names lead =
    let can = can_end texts place names.some (from_start texts front place lead).known in
    let whole = from_start texts (front ++ can.more) (at_rest can.answer) (lead_append texts front can.more at_form place (at_rest can.answer) lead can.lead) in
    (can.more, can.answer, whole.known, sym whole.lines)

pub lead_of_begins : (texts front : List (List ℕ)) → Begins texts front → (place : Place) × LeadOn texts at_form front place
lead_of_begins texts front begins =
    let lead = subst (λ (l : List (List ℕ)). LeadOn texts at_form l (at_rest begins.1)) (sym begins.3) (document_leads texts begins.1 begins.2) in
    let parts = lead_through texts front begins.0 at_form (at_rest begins.1) lead in
    (parts.through, parts.first)

begins_front : (texts xs ys : List (List ℕ)) → Begins texts (xs ++ ys) → Begins texts xs
begins_front texts xs ys begins = (ys ++ begins.0, begins.1, begins.2, sym (append_assoc xs ys begins.0) ∙ begins.3)

begins_no_feed : (texts front : List (List ℕ)) → AreNames texts → Begins texts front → All HasNoFeed front
begins_no_feed texts front names begins = let lead = lead_of_begins texts front begins in lines_no_feed texts front at_form lead.0 names tt lead.1

-- a line leads on from the place where others led, and with them begins a document
leads_of_begins : (texts before : List (List ℕ)) (place : Place) (text : List ℕ) → AreNames texts → LeadOn texts at_form before place → Begins texts (before ++ text ∷ []) → (next : Place) × Leads texts place text next
leads_of_begins texts before place text names lead begins =
    let all = lead_of_begins texts (before ++ text ∷ []) begins in
    let parts = lead_through texts before (text ∷ []) at_form all.0 all.1 in
    let same = lead_same texts before at_form parts.through place names tt parts.first lead in
    (parts.then.0, subst (λ (p : Place). Leads texts p text parts.then.0) same parts.then.1)

-- ---- bytes that are no document

-- no document goes on from the place with what is left
NoneOn : List (List ℕ) → List ℕ → Place → Type 0
NoneOn texts rest place = (text after : List ℕ) (next : Place) → rest ≡ line text ++ after → Leads texts place text next → ⊥

NotWhole : List ℕ → Place → Type 0
NotWhole rest place = rest ≡ [] → (a : Answer) → place ≡ at_rest a → ⊥

-- lines that go on from the place to an answer would be what is left
no_more : (texts more : List (List ℕ)) (rest : List ℕ) (place : Place) (a : Answer) → NoneOn texts rest place → NotWhole rest place → rest ≡ lines_of more ++ [] → LeadOn texts place more (at_rest a) → ⊥
unfolding NoneOn NotWhole
no_more texts [] rest place a none not_whole bytes lead = not_whole bytes a lead
no_more texts (text ∷ more) rest place a none not_whole bytes lead = none text (lines_of more ++ []) lead.0 (bytes ∙ append_assoc (line text) (lines_of more) []) lead.1

no_document : (texts before : List (List ℕ)) (bytes rest : List ℕ) (place : Place) (a : Answer) → AreNames texts → bytes ≡ lines_of before ++ rest → LeadOn texts at_form before place
    → NoneOn texts rest place → NotWhole rest place → IsDocument texts bytes a → ⊥
no_document texts before bytes rest place a names cut lead none not_whole is =
    let docs : List (List ℕ) = document_lines texts a in
    let whole = document_leads texts a is.0 in
    let same : lines_of before ++ rest ≡ lines_of docs ++ [] = sym cut ∙ is.1 ∙ sym (append-nil (lines_of docs)) in
    elim (align before docs rest [] (lines_no_feed texts before at_form place names tt lead) (lines_no_feed texts docs at_form (at_rest a) names tt whole) same) [
      | inl on ↦
          let parts = lead_through texts before on.more at_form (at_rest a) (subst (λ (l : List (List ℕ)). LeadOn texts at_form l (at_rest a)) on.lines whole) in
          let here = lead_same texts before at_form parts.through place names tt parts.first lead in
          no_more texts on.more rest place a none not_whole on.bytes (subst (λ (p : Place). LeadOn texts p on.more (at_rest a)) here parts.then)
      | inr on ↦
          let empty_rest = no_bytes on.more rest on.bytes in
          let all : before ≡ docs = on.lines ∙ ap (λ (l : List (List ℕ)). docs ++ l) empty_rest.0 ∙ append-nil docs in
          let there : LeadOn texts at_form before (at_rest a) = subst (λ (l : List (List ℕ)). LeadOn texts at_form l (at_rest a)) (sym all) whole in
          no_more texts [] rest place a none not_whole empty_rest.1 (lead_same texts before at_form place (at_rest a) names tt lead there)
    ]

is_astray : (texts : List (List ℕ)) (bytes : List ℕ) (left : Unread) (place : Place) → AreNames texts → StandsAt texts bytes left place → NoneOn texts left.rest place → NotWhole left.rest place → IsAstray texts bytes left.number
unfolding NoneOn
is_astray texts bytes left place names at none not_whole = record {
  before = at.before;
  rest = left.rest;
  cut = at.cut;
  number_is = at.number_is;
  begins = begins_of_lead texts at.before place names at.lead;
  astray = λ text after e begins.
      let leads = leads_of_begins texts at.before place text names at.lead begins in
      none text after leads.0 e leads.1;
  no_document = λ a is. no_document texts at.before bytes left.rest place a names at.cut at.lead none not_whole is;
}

-- bytes are left after the last line
pub astray_at_rest : (texts : List (List ℕ)) (bytes : List ℕ) (left : Unread) (a : Answer) → AreNames texts → StandsAt texts bytes left (at_rest a) → (left.rest ≡ [] → ⊥) → IsAstray texts bytes left.number
unfolding NoneOn NotWhole
astray_at_rest texts bytes left a names at some = is_astray texts bytes left (at_rest a) names at
    (λ text after next e leads. absurd leads)
    (λ e b is. some e)

-- all bytes are read
pub whole_document : (texts : List (List ℕ)) (bytes : List ℕ) (left : Unread) (a : Answer) → StandsAt texts bytes left (at_rest a) → left.rest ≡ [] → IsDocument texts bytes a
whole_document texts bytes left a at none =
    let whole = from_start texts at.before (at_rest a) at.lead in
    (whole.known, at.cut ∙ ap (λ (l : List ℕ). lines_of at.before ++ l) none ∙ append-nil (lines_of at.before) ∙ ap lines_of (sym whole.lines))

-- ---- reading on

pub at_start : (texts : List (List ℕ)) (bytes : List ℕ) (left : Unread) → left.rest ≡ bytes → left.number ≡ 1 → StandsAt texts bytes left at_form
at_start texts bytes left rest number = record { before = []; cut = sym rest; number_is = omega (arith, number); lead = refl }

-- the line that was read leads on
on_by_line : (texts : List (List ℕ)) (bytes text : List ℕ) (old new : Unread) (place next : Place) → StandsAt texts bytes old place → TakesLine old new text → Leads texts place text next → StandsAt texts bytes new next
on_by_line texts bytes text old new place next at takes leads = record {
  before = at.before ++ text ∷ [];
  cut =
      at.cut ∙ ap (λ (l : List ℕ). lines_of at.before ++ l) (takes.cut ∙ ap (λ (l : List ℕ). l ++ new.rest) (sym (append-nil (line text))))
      ∙ sym (append_assoc (lines_of at.before) (lines_of (text ∷ [])) new.rest)
      ∙ ap (λ (l : List ℕ). l ++ new.rest) (sym (lines_of-append at.before (text ∷ [])));
  number_is = omega (arith, at.number_is, takes.number_is, length_push at.before text);
  lead = lead_append texts at.before (text ∷ []) at_form place next at.lead (next, leads, refl);
}

free_of_feed : (text : List ℕ) → HasNoFeed text → IsTrue (is_free_of 10 text)
free_of_feed [] none = refl
free_of_feed (b ∷ bs) none =
    let P : ℕ → Type 0 = λ (c : ℕ). (c == 10) ≡ false in
    and_from (not (b == 10)) (is_free_of 10 bs) (not_from_false (b == 10) (All-head P b bs none)) (free_of_feed bs (All-tail P b bs none))

-- a line that says such a thing as leads on from the place
pub reads_such : {A : Type 0} (texts : List (List ℕ)) (from : Place) (to : A → Place) (Says : A → List ℕ → Type 0) (old new : Unread) (result : Result A AnswerRefusal) → AreNames texts
    → ((a : A) (text : List ℕ) → Says a text → Leads texts from text (to a)) → ((text : List ℕ) (next : Place) → Leads texts from text next → (a : A) × Says a text)
    → ((a : Answer) → from ≡ at_rest a → ⊥) → TakesSuch Says old new result → ReadsOn texts from to old new result
unfolding NoneOn NotWhole
reads_such texts from to Says old new (Ok a) names leads told not_rest took = λ bytes at. on_by_line texts bytes took.0 old new from (to a) at took.1 (leads a took.0 took.2)
reads_such texts from to Says old new (Err (Line number)) names leads told not_rest took = λ bytes at.
    let known = (from_start texts at.before from at.lead).known in
    let astray = is_astray texts bytes old from names at
    (λ text after next e lead. let a = told text next lead in took.1 text after a.0 e (free_of_feed text (no_feed texts from next text names known lead)) a.1)
    (λ e a is. not_rest a is) in
    subst (IsAstray texts bytes) (sym took.0) astray
reads_such texts from to Says old new (Err OutOfMemory) names leads told not_rest took = absurd took

-- ---- what bytes say is one

same_answer : (texts : List (List ℕ)) (bytes : List ℕ) (one other : Answer) → AreNames texts → IsDocument texts bytes one → IsDocument texts bytes other → one ≡ other
same_answer texts bytes one other names x y =
    let a = document_leads texts one x.0 in
    let b = document_leads texts other y.0 in
    let same : lines_of (document_lines texts one) ++ [] ≡ lines_of (document_lines texts other) ++ [] = ap (λ (l : List ℕ). l ++ []) (sym x.1 ∙ y.1) in
    let no_feeds = lines_no_feed texts (document_lines texts one) at_form (at_rest one) names tt a in
    let none_other = lines_no_feed texts (document_lines texts other) at_form (at_rest other) names tt b in
    let lines : document_lines texts one ≡ document_lines texts other = elim (align (document_lines texts one) (document_lines texts other) [] [] no_feeds none_other same) [
      | inl on ↦ sym (on.lines ∙ ap (λ (l : List (List ℕ)). document_lines texts one ++ l) (no_bytes on.more [] on.bytes).0 ∙ append-nil (document_lines texts one))
      | inr on ↦ on.lines ∙ ap (λ (l : List (List ℕ)). document_lines texts other ++ l) (no_bytes on.more [] on.bytes).0 ∙ append-nil (document_lines texts other)
    ] in
    let places : at_rest one ≡ at_rest other = lead_same texts (document_lines texts one) at_form (at_rest one) (at_rest other) names tt a
    (subst (λ (l : List (List ℕ)). LeadOn texts at_form l (at_rest other)) (sym lines) b) in
    cc

-- the first line that goes astray does not stand before another
not_before : (texts : List (List ℕ)) (bytes : List ℕ) (n m : ℕ) (more : List (List ℕ)) → (x : IsAstray texts bytes n) (y : IsAstray texts bytes m) → y.before ≡ x.before ++ more → x.rest ≡ lines_of more ++ y.rest → n ≡ m
not_before texts bytes n m [] x y lines rests = x.number_is ∙ ap (λ (l : List (List ℕ)). length l + 1) (sym (lines ∙ append-nil x.before)) ∙ sym y.number_is
not_before texts bytes n m (text ∷ more) x y lines rests =
    let begins : Begins texts ((x.before ++ text ∷ []) ++ more) = subst (Begins texts) (lines ∙ sym (append_assoc x.before (text ∷ []) more)) y.begins in
    absurd (x.astray text (lines_of more ++ y.rest) (rests ∙ append_assoc (line text) (lines_of more) y.rest) (begins_front texts (x.before ++ text ∷ []) more begins))

same_line_number : (texts : List (List ℕ)) (bytes : List ℕ) (n m : ℕ) → AreNames texts → IsAstray texts bytes n → IsAstray texts bytes m → n ≡ m
same_line_number texts bytes n m names x y =
    elim (align x.before y.before x.rest y.rest (begins_no_feed texts x.before names x.begins) (begins_no_feed texts y.before names y.begins) (sym x.cut ∙ y.cut)) [
      | inl on ↦ not_before texts bytes n m on.more x y on.lines on.bytes
      | inr on ↦ sym (not_before texts bytes m n on.more y x on.lines on.bytes)
    ]

pub reads_one : (texts : List (List ℕ)) (bytes : List ℕ) (one other : Result Answer AnswerRefusal) → AreNames texts → Reads texts bytes one → Reads texts bytes other → one ≢ Err OutOfMemory → other ≢ Err OutOfMemory → one ≡ other
reads_one texts bytes (Ok a) (Ok b) names x y h k = ap (λ (r : Answer). Ok r) (same_answer texts bytes a b names x y)
reads_one texts bytes (Ok a) (Err (Line n)) names x y h k = absurd (y.no_document a x)
reads_one texts bytes (Ok a) (Err OutOfMemory) names x y h k = absurd (k refl)
reads_one texts bytes (Err (Line n)) (Ok b) names x y h k = absurd (x.no_document b y)
reads_one texts bytes (Err (Line n)) (Err (Line m)) names x y h k = ap (λ (i : ℕ). Err (Line i)) (same_line_number texts bytes n m names x y)
reads_one texts bytes (Err (Line n)) (Err OutOfMemory) names x y h k = absurd (k refl)
reads_one texts bytes (Err OutOfMemory) other names x y h k = absurd (h refl)

pub read_as_written : (texts : List (List ℕ)) (answer : Answer) (result : Result Answer AnswerRefusal) → AreNames texts → IsGrammatical (length texts) answer → Reads texts (document texts answer) result → result ≢ Err OutOfMemory
    → result ≡ Ok answer
read_as_written texts answer result names is reads some = reads_one texts (document texts answer) result (Ok answer) names reads (is, refl) some (λ e. cc)
