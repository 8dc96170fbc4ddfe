-- The instruction lines of a program text.
use Rattle.std.specs.Prelude.{ℕ, ◌+◌, Bool, true, false, ◌||◌, ◌==◌, not, if◌then◌else◌, List, [], ◌∷◌, map, filter, take_while}
use Rattle.std.specs.List.{slice_split, join_with_byte}
use Rattle.std.specs.Char.{to_ascii_lowercase}
use Rattle.program_text.specs.declared.lines.InstructionLine.{InstructionLine}

-- the lines of a text, which is cut at each line feed (10). What follows the last one is a line too, maybe without a byte
abbrev pub lines_of_text : List ℕ → List (List ℕ)
lines_of_text = slice_split (λ b. b == 10)

-- the bytes between words: the tab, the carriage return and the space
abbrev pub is_blank : ℕ → Bool
is_blank b = b == 9 || b == 13 || b == 32

-- whether there is anything in a list
abbrev pub has_items : {X : Type 0} → List X → Bool
has_items [] = false
has_items (x ∷ xs) = true

-- what a line says: all that stands before its first semicolon (59), in lower case
abbrev pub said_by_line : List ℕ → List ℕ
said_by_line line = map to_ascii_lowercase (take_while (λ b. not (b == 59)) line)

-- the words of a line
abbrev pub words_of_line : List ℕ → List (List ℕ)
words_of_line line = filter has_items (slice_split is_blank (said_by_line line))

-- the words of a line, joined by one space
abbrev pub line_text : List ℕ → List ℕ
line_text line = join_with_byte 32 (words_of_line line)

-- whether a line has a word, and so is an instruction line
abbrev pub has_words : List ℕ → Bool
has_words line = has_items (words_of_line line)

-- the instruction lines among lines of which the first has this number
abbrev pub numbered_from : ℕ → List (List ℕ) → List InstructionLine
numbered_from number [] = []
numbered_from number (line ∷ lines) =
    if has_words line
    then record { number = number; text = line_text line } ∷ numbered_from (number + 1) lines
    else numbered_from (number + 1) lines

-- the instruction lines of a text; all lines are numbered, from 1
abbrev pub instruction_lines : List ℕ → List InstructionLine
instruction_lines bytes = numbered_from 1 (lines_of_text bytes)
