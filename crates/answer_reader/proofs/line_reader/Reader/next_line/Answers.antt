use Rattle.std.proofs.Common.{◌≡◌, ◌∙◌, ℕ, ◌+◌, List, [], ◌∷◌, ◌++◌, None, Some, append_assoc, sym, ap}
use Rattle.std.proofs.lemmas.Bool.Decides.{Decides-eqb}
use Rattle.std.proofs.lemmas.List.{append-nil}
use Rattle.std.proofs.lemmas.Slice.Eq.{strip_prefix_is}
use Rattle.answer_lines.specs.Cuts.{is_free_of}
use Rattle.answer_reader.specs.Inner.Unread.{Unread}
use Rattle.answer_lines.proofs.Cutting.{nothing_left}
use Rattle.answer_reader.proofs.line_reader.Reader.next_line.Goals as goal

pub returns-in_default-clause-none : goal.returns-in_default-clause-none
returns-in_default-clause-none c =
    let front = c.cut_before.result.0.now in
    let back = c.cut_before.result.1.now in
    let feed : c.as_slice.result.now ≡ 10 ∷ [] = cc in
    let unlike = strip_prefix_is Decides-eqb back c.as_slice.result.now None c.in_default.ensures.cases in
    let nothing : back ≡ [] = nothing_left 10 back c.cut_before.ensures.back (λ rest same. unlike rest (same ∙ ap (λ (p : List ℕ). p ++ rest) (sym feed))) in
    ap (λ (u : Unread). is_free_of 10 u.rest) (sym c.self.view_is)
    ∙ ap (is_free_of 10) (c.cut_before.ensures.whole ∙ ap (λ (l : List ℕ). front ++ l) nothing ∙ append-nil front)
    ∙ c.cut_before.ensures.front

pub returns-clause-ok : goal.returns-clause-ok
returns-clause-ok c =
    let front = c.cut_before.result.0.now in
    let back = c.cut_before.result.1.now in
    let after = c.in-Some.rest.now in
    let feed : c.as_slice.result.now ≡ 10 ∷ [] = cc in
    let stripped : back ≡ c.as_slice.result.now ++ after = strip_prefix_is Decides-eqb back c.as_slice.result.now (Some c.in-Some.rest) c.in-Some.ensures.cases in
    record {
      cut =
          ap (λ (u : Unread). u.rest) (sym c.self.view_is)
          ∙ c.cut_before.ensures.whole
          ∙ ap (λ (l : List ℕ). front ++ l) (stripped ∙ ap (λ (p : List ℕ). p ++ after) feed)
          ∙ sym (append_assoc front (10 ∷ []) after);
      one_line = c.cut_before.ensures.front;
      number_is = ap (λ (u : Unread). u.number + 1) c.self.view_is;
    }
