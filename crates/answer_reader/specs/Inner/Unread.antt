-- What is left of a text of lines while it is read.
use Rattle.std.specs.Prelude.{◌≡◌, ℕ, ◌+◌, IsTrue, List, ◌++◌}
use Rattle.flag_rules.specs.Line.{line}
use Rattle.answer_lines.specs.Cuts.{is_free_of}

-- the bytes that are left, and the number of the line that they begin with, from 1
pub record Unread : Type 0 where
  pub rest : List ℕ
  pub number : ℕ

-- the first line, of this text, is taken off; the text has no line feed (10)
pub record TakesLine (old new : Unread) (text : List ℕ) : Type 0 where
  pub cut : old.rest ≡ line text ++ new.rest
  pub one_line : IsTrue (is_free_of 10 text)
  pub number_is : new.number ≡ old.number + 1
