-- A document in which an editor replaces a range.
use Rattle.std.specs.Prelude.{ℕ, Bool, ◌&&◌, nat_le, if◌then◌else◌, Option, Some, None, ◌++◌, take, drop}
use Rattle.timefd_parse.specs.Tree.{Text}
use Rattle.timefd_lint_lsp.specs.declared.editor.position.DocumentRange.{DocumentRange}
use Rattle.timefd_lint_lsp.specs.Editor.Positions.{index_of, start, walked}

abbrev pub joined : Text → Text → Text → Text
joined front new back = front ++ (new ++ back)

-- the number of the last line
abbrev pub last_line : Text → ℕ
last_line text = (walked start text).position.line

-- whether a text has the lines of a range
abbrev pub has_lines : Text → DocumentRange → Bool
has_lines text range = nat_le range.start.line (last_line text) && nat_le range.end.line (last_line text)

-- whether a range is in a text, and doesn't end before it begins
abbrev pub is_in : Text → DocumentRange → Bool
is_in text range = has_lines text range && nat_le (index_of text range.start) (index_of text range.end)

-- What is before the range, the new text, and what is after the range: if the range is in the text.
abbrev pub replaced : Text → DocumentRange → Text → Option Text
replaced text range new =
    if is_in text range
    then Some (joined (take (index_of text range.start) text) new (drop (index_of text range.end) text))
    else None
