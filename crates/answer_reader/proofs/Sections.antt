-- The parts of a document, read one after another: where a reader stands after each.
use Rattle.std.proofs.Common.{◌≡◌, ℕ, List, [], ◌++◌}
use Rattle.std.specs.Prelude.{Ok, codes}
use Rattle.flag_rules.specs.Line.{then_number}
use Rattle.program_model.specs.declared.alphabet.TheConstants.{MAX_LINES}
use Rattle.program_model.specs.declared.machine.TheConstants.{MAX_INSTANCES, MAX_POINTERS}
use Rattle.program_text.specs.Names.{AreNames}
use Rattle.refutation_tree.specs.declared.evidence.Tree.{Tree}
use Rattle.refutation_tree.specs.Grammar.{IsFromOneTo}
use Rattle.answer_reader.specs.declared.heading.Heading.{Heading}
use Rattle.answer_reader.specs.declared.reading.Found.{Found}
use Rattle.answer_reader.specs.Inner.Following.{at_form, at_pointers, at_lines, at_instances, at_verdict, at_end, at_rest, answer_of, past_tree, past_trees}
use Rattle.answer_reader.specs.Inner.Unread.{Unread}
use Rattle.answer_reader.specs.Inner.ReadingOn.{TakesSuch, StandsAt, ReadsOn}
use Rattle.answer_reader.proofs.Onwards.{form_reads, pointers_reads, lines_reads, instances_reads, last_reads}

module _ (texts : List (List ℕ)) (names : AreNames texts) (bytes : List ℕ) (old : Unread) (start : StandsAt texts bytes old at_form) where
  -- ---- the lines of the heading

  module _ (one : Unread) (form : TakesSuch {A = Unit {0}} (λ _ line. line ≡ codes "bfgp answer 1") old one (Ok tt)) where
    pub after_form : StandsAt texts bytes one at_pointers
    after_form = form_reads {U = Unit {0}} tt texts names old one (Ok tt) form bytes start

    module _ (two : Unread) (k : ℕ) (pointers : TakesSuch {A = ℕ} (λ number line. IsFromOneTo MAX_POINTERS number × (line ≡ codes "pointers" ++ then_number number)) one two (Ok k)) where
      pub after_pointers : StandsAt texts bytes two (at_lines k)
      after_pointers = pointers_reads texts names one two (Ok k) pointers bytes after_form

      module _ (three : Unread) (n : ℕ) (lines : TakesSuch {A = ℕ} (λ number line. IsFromOneTo MAX_LINES number × (line ≡ codes "lines" ++ then_number number)) two three (Ok n)) where
        pub after_lines : StandsAt texts bytes three (at_instances k n)
        after_lines = lines_reads texts names two three k (Ok n) lines bytes after_pointers

        pub after_instances : (four : Unread) (t : ℕ) → TakesSuch {A = ℕ} (λ number line. IsFromOneTo MAX_INSTANCES number × (line ≡ codes "instances" ++ then_number number)) three four (Ok t) → StandsAt texts bytes four (at_verdict k n t)
        after_instances four t instances = instances_reads texts names three four k n (Ok t) instances bytes after_lines

  -- ---- the heading, the trees, the program with its ends, and the last line

  module _ (one : Unread) (h : Heading) (heading : ReadsOn texts at_form (λ (h : Heading). past_tree h []) old one (Ok h)) where
    pub after_heading : StandsAt texts bytes one (past_tree h [])
    after_heading = heading bytes start

    module _ (two : Unread) (trees : List Tree) (read : ReadsOn texts (past_tree h []) (λ (trees : List Tree). past_trees h trees h.outcome) one two (Ok trees)) where
      pub after_trees : StandsAt texts bytes two (past_trees h trees h.outcome)
      after_trees = read bytes after_heading

      module _ (three : Unread) (found : Found) (ends : ReadsOn texts (past_trees h trees h.outcome) (λ (found : Found). at_end h trees found.program found.ends) two three (Ok found)) where
        pub after_found : StandsAt texts bytes three (at_end h trees found.program found.ends)
        after_found = ends bytes after_trees

        pub after_last : (four : Unread) → TakesSuch {A = Unit {0}} (λ _ line. line ≡ codes "end of answer") three four (Ok tt) → StandsAt texts bytes four (at_rest (answer_of h trees found.program found.ends))
        after_last four last = last_reads {U = Unit {0}} tt texts names three four (Ok tt) h trees found.program found.ends last bytes after_found
