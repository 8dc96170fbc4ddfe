-- What a line tells: each line is of words, and no two that may stand at one place lead on to different places.
use Rattle.std.proofs.Common.{◌≡◌, ℕ, ◌+◌, ◌<◌, ◌≤◌, ◌^◌, false, List, [], ◌∷◌, ◌++◌, length, refl, sym, ◌∙◌, ap, subst, arith}
use Rattle.std.specs.Prelude.{Some, All, codes, ◌==◌}
use Rattle.std.proofs.lemmas.List.Elements.{All-head}
use Rattle.program_model.specs.declared.instr.Instr.{Instr}
use Rattle.program_model.specs.declared.alphabet.TheConstants.{MAX_LINES}
use Rattle.program_model.specs.Program.{Program}
use Rattle.answer_reader.specs.declared.heading.Heading.{Heading}
use Rattle.refutation_tree.specs.declared.evidence.Mark.{Mark}
use Rattle.refutation_tree.specs.declared.evidence.Mark.TheVariants as marks
use Rattle.refutation_tree.specs.declared.evidence.Tree.{Tree}
use Rattle.refutation_tree.specs.declared.evidence.Outcome.{Outcome}
use Rattle.refutation_tree.specs.Grammar.{IsInRange}
use Rattle.answer_reader.specs.Inner.Following.{Place, at_form, at_pointers, at_lines, at_instances, at_verdict, at_tree, at_mark, at_program, at_instr, at_ends, at_end, at_rest, past_marks, past_ends, past_instrs, MayMark, brought, Leads}
use Rattle.program_text.specs.Names.{IsWorded, AreNames}
use Rattle.program_text.proofs.Spelled.{line_as_written, plain_instr, instr_worded}
use Rattle.program_text.proofs.Apart.{same_instr_of_lines}
use Rattle.answer_lines.proofs.Worded.{one_word, three_words, one_number, number_worded, IsSmall, same_mark, mark_worded, same_verdict, verdict_worded, one_ends, ends_worded}
use Rattle.answer_lines.proofs.OneReading.{small_outcome}
use Rattle.answer_reader.proofs.Places.{AreFirstTrees, IsTreePlace, IsMarkPlace, IsPlace, size_of_place}

-- ---- numbers that can be told

small_mark : (instances size : ℕ) (q : Program) (mark : Mark) → instances ≤ 64 → length q ≤ 64 → IsInRange instances mark → MayMark q mark → IsSmall mark
small_mark instances size q (marks.Split line stamp) few short h may = (omega (arith, may.within), omega arith)
small_mark instances size q (marks.Unmet t steps) few short h may = (omega (arith, h.0), omega (arith, h.1))
small_mark instances size q (marks.Loops t from to) few short h may = (omega (arith, h.0), omega (arith, h.1, h.2), omega (arith, h.2))
small_mark instances size q marks.Twin few short h may = tt
small_mark instances size q marks.Waiting few short h may = tt
small_mark instances size q marks.Solved few short h may = tt
small_mark instances size q (marks.AtLimit t) few short h may = omega (arith, h)

-- ---- limits at a place

few_instances : (ops : ℕ) (h : Heading) (trees : List Tree) → AreFirstTrees ops h trees → h.instances ≤ 64
few_instances ops h trees first = omega (arith, first.heading.instances.1)

few_lines : (ops : ℕ) (h : Heading) (trees : List Tree) → IsTreePlace ops h trees → length trees + 1 ≤ MAX_LINES
few_lines ops h trees place = omega (arith, place.more, place.first.heading.told.0.1, place.first.heading.lines.1)

small_at : (ops : ℕ) (h : Heading) (trees : List Tree) (ms : List Mark) (q : Program) (qs : List Program) (mark : Mark)
    → IsMarkPlace ops h trees ms (q ∷ qs) → IsInRange h.instances mark → MayMark q mark → IsSmall mark
small_at ops h trees ms q qs mark known in_range may =
    let size : length q ≡ length trees + 1 = All-head (λ (p : Program). length p ≡ length trees + 1) q qs known.sizes in
    small_mark h.instances (length trees + 1) q mark (few_instances ops h trees known.place.first) (omega (arith, size, few_lines ops h trees known.place)) in_range may

-- ---- a line leads to one place

pub same_next : (texts : List (List ℕ)) (place : Place) (text : List ℕ) (next other : Place) → AreNames texts → IsPlace (length texts) place → Leads texts place text next → Leads texts place text other → next ≡ other
same_next texts at_form text next other names known a b = a.1 ∙ sym b.1
same_next texts at_pointers text next other names known a b =
    let same = one_number (codes "pointers") a.0 b.0 (omega (arith, a.1.1)) (omega (arith, b.1.1)) (sym a.2 ∙ b.2) in
    a.3 ∙ ap at_lines same ∙ sym b.3
same_next texts (at_lines k) text next other names known a b =
    let same = one_number (codes "lines") a.0 b.0 (omega (arith, a.1.1)) (omega (arith, b.1.1)) (sym a.2 ∙ b.2) in
    a.3 ∙ ap (at_instances k) same ∙ sym b.3
same_next texts (at_instances k n) text next other names known a b =
    let same = one_number (codes "instances") a.0 b.0 (omega (arith, a.1.1)) (omega (arith, b.1.1)) (sym a.2 ∙ b.2) in
    a.3 ∙ ap (at_verdict k n) same ∙ sym b.3
same_next texts (at_verdict k n t) text next other names known a b =
    let lines : n ≤ 2 ^ 8 = omega (arith, known.1.1) in
    let instances : t ≤ 2 ^ 8 = omega (arith, known.2.1) in
    let same = same_verdict a.0 b.0 (small_outcome n t a.0 lines instances a.1) (small_outcome n t b.0 lines instances b.1) (sym a.2 ∙ b.2) in
    a.3 ∙ ap (λ (o : Outcome). at_tree (record { pointers = k; lines = n; instances = t; outcome = o }) []) same ∙ sym b.3
same_next texts (at_tree h trees) text next other names known a b = a.1 ∙ sym b.1
same_next texts (at_mark h trees ms q qs) text next other names known a b =
    let same = same_mark a.0 b.0 (small_at (length texts) h trees ms q qs a.0 known a.1 a.2) (small_at (length texts) h trees ms q qs b.0 known b.1 b.2) (sym a.3 ∙ b.3) in
    a.4 ∙ ap (λ (m : Mark). past_marks h trees (ms ++ m ∷ []) (brought (length texts) q m ++ qs)) same ∙ sym b.4
same_next texts (at_program h trees size) text next other names known a b = a.1 ∙ sym b.1
same_next texts (at_instr h trees size program) text next other names known a b =
    let few = (size_of_place texts h trees size known.place).1 in
    let same = same_instr_of_lines texts size (length program) (length program) a.0 b.0 names few known.few known.few a.1 b.1 (sym a.2 ∙ b.2) in
    a.3 ∙ ap (λ (i : Instr). past_instrs h trees size (program ++ Some i ∷ [])) same ∙ sym b.3
same_next texts (at_ends h trees program ends) text next other names known a b =
    let few : length ends < 2 ^ 64 = omega (arith, known.few, few_instances (length texts) h trees known.place.first) in
    let same = (one_ends (length ends) (length ends) a.0 b.0 few few (omega (arith, a.1)) (omega (arith, b.1)) (sym a.2 ∙ b.2)).1 in
    a.3 ∙ ap (λ (j : ℕ). past_ends h trees program (ends ++ j ∷ [])) same ∙ sym b.3
same_next texts (at_end h trees program ends) text next other names known a b = a.1 ∙ sym b.1
same_next texts (at_rest answer) text next other names known a b = absurd a

-- ---- a line is of words

worded : (texts : List (List ℕ)) (place next : Place) (text : List ℕ) → AreNames texts → IsPlace (length texts) place → Leads texts place text next → IsWorded text
worded texts at_form next text names known a =
    subst IsWorded (sym a.0) (record { words = codes "bfgp" ∷ codes "answer" ∷ codes "1" ∷ []; some = omega arith; each = three_words (codes "bfgp") (codes "answer") (codes "1") refl refl refl; joined = refl })
worded texts at_pointers next text names known a = subst IsWorded (sym a.2) (number_worded (codes "pointers") a.0 refl (omega (arith, a.1.1)))
worded texts (at_lines k) next text names known a = subst IsWorded (sym a.2) (number_worded (codes "lines") a.0 refl (omega (arith, a.1.1)))
worded texts (at_instances k n) next text names known a = subst IsWorded (sym a.2) (number_worded (codes "instances") a.0 refl (omega (arith, a.1.1)))
worded texts (at_verdict k n t) next text names known a = subst IsWorded (sym a.2) (verdict_worded a.0 (small_outcome n t a.0 (omega (arith, known.1.1)) (omega (arith, known.2.1)) a.1))
worded texts (at_tree h trees) next text names known a = subst IsWorded (sym a.0) (number_worded (codes "tree") (length trees + 1) refl (omega (arith, few_lines (length texts) h trees known)))
worded texts (at_mark h trees ms q qs) next text names known a = subst IsWorded (sym a.3) (mark_worded a.0 (small_at (length texts) h trees ms q qs a.0 known a.1 a.2))
worded texts (at_program h trees size) next text names known a =
    subst IsWorded (sym a.0) (record { words = codes "program" ∷ []; some = omega arith; each = one_word (codes "program") refl; joined = refl })
worded texts (at_instr h trees size program) next text names known a =
    let few = (size_of_place texts h trees size known.place).1 in
    subst IsWorded (sym a.2) (instr_worded texts a.0 names (plain_instr texts size (length program) a.0 few known.few a.1))
worded texts (at_ends h trees program ends) next text names known a =
    subst IsWorded (sym a.2) (ends_worded (length ends) a.0 (omega (arith, known.few, few_instances (length texts) h trees known.place.first)) (omega (arith, a.1)))
worded texts (at_end h trees program ends) next text names known a =
    subst IsWorded (sym a.0) (record { words = codes "end" ∷ codes "of" ∷ codes "answer" ∷ []; some = omega arith; each = three_words (codes "end") (codes "of") (codes "answer") refl refl refl; joined = refl })
worded texts (at_rest answer) next text names known a = absurd a

-- no line of a document has a line feed
abbrev pub HasNoFeed : List ℕ → Type 0
HasNoFeed text = All (λ b. (b == 10) ≡ false) text

pub no_feed : (texts : List (List ℕ)) (place next : Place) (text : List ℕ) → AreNames texts → IsPlace (length texts) place → Leads texts place text next → HasNoFeed text
no_feed texts place next text names known leads = (line_as_written text (worded texts place next text names known leads)).no_feed
