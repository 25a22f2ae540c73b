-- The message of a linter.
use Rattle.std.specs.Prelude.{ℕ, ◌≡◌, ◌+◌, ◌-◌, ◌++◌, [], get_or, take, replicate, codes}
use Rattle.std.specs.Fmt.{decimal, char_count}
use Rattle.std.specs.Str.Lines.{lines}
use Rattle.timefd_parse.specs.Faults.{Fault}
use Rattle.timefd_parse.specs.Sentences.{sentence}
use Rattle.timefd_parse.specs.Tree.{Text}
use Rattle.timefd_test_uses.specs.Positions.{newlines, begun_line}

-- the line and the column of the position after a text
abbrev pub line_after : Text → ℕ
line_after front = newlines front + 1

abbrev pub column_after : Text → ℕ
column_after front = char_count (begun_line front) + 1

-- the message about a fault at a line and a column, with the line that is shown
abbrev pub message : Text → ℕ → ℕ → Text → Text → Text
message name line column sentence shown =
    name ++ (codes ":" ++ (decimal line ++ (codes ":" ++ (decimal column ++ (codes ": " ++ (sentence
    ++ (codes
    "\n" ++ (shown ++ (codes "\n" ++ ((replicate (column - 1) 32 ++ codes "^") ++ codes
    "\n"))))))))))

-- the line with this number, from 1, without its end; empty if there is none
abbrev pub line_at : Text → ℕ → Text
line_at text line = get_or (lines text) (line - 1) []

-- the message about a fault that follows this part of the text
abbrev pub message_after : Text → Text → Text → Text → Text
message_after name text front sentence =
    message name (line_after front) (column_after front) sentence
    (line_at text (line_after front))

-- The message names the fault's line and column, and has its sentence, that line, and a caret under its
-- column.
abbrev pub IsMessage : Text → Text → Fault → Text → Type 0
IsMessage name text f result = result ≡ message_after name text (take f.index text) (sentence f)
