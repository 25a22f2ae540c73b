-- The line that a finding begins in, with carets under the part.
use Rattle.std.specs.Prelude.{ℕ, Bool, false, ◌++◌, chars, codes, decimal, length, max}
use Rattle.std.specs.List.{repeat}
use Rattle.unicode_width.specs.Width.{str_width}
use Rattle.timefd_lang_component.specs.Tree.{Text}
use Rattle.timefd_lint_drawing.specs.declared.lines.Paint.{Paint}
use Rattle.timefd_lint_drawing.specs.Lines.{bar_line, text_line, caret_line}
use Rattle.timefd_lint_drawing.specs.Shown.{cut_end, cut_start, most_shown, safe}

-- As many spaces as the number of the line has digits.
abbrev pub margin : ℕ → Text
margin line = repeat (length (decimal line)) (codes " ")

-- The columns that a text takes in a terminal.
abbrev pub width : Text → ℕ
width text = str_width false (chars text)

-- The line that a span begins in, with a caret of this colour under each column of the span, and one caret if the span has
-- none. A long part is cut.
abbrev pub source_of : Bool → Paint → ℕ → Text → Text → Text → Text
source_of colored paint line before at after =
    bar_line colored (margin line) ++ (text_line colored line before at after
    ++ caret_line colored paint (margin line) (repeat (width before) (codes " "))
    (repeat (max (width at) 1) (codes "^")))

abbrev pub source : Bool → Paint → ℕ → Text → Text → Text → Text
source colored paint line before at after =
    source_of colored paint line (safe (cut_start most_shown before)) (safe (cut_end most_shown at))
    (safe (cut_end most_shown after))
