-- The lines of a file.
use Rattle.std.specs.Prelude.{◌≡◌, ◌≢◌, Bool, true, false, ◌||◌, List, [], ◌∷◌, Option, Some, None, length, drop, nat_eq, if◌then◌else◌, ⊤}
use Rattle.std.specs.Io.BufRead.{ends_with_byte, strip_last, take_through, drop_through}
use Rattle.std.specs.List.{list_any, starts_with}
use denote.Ref.{Bor}
use Rattle.timefd_parse.specs.Tree.{Text}
use Rattle.timefd_language.specs.Grammar.{is_empty}

-- A line without its newline, and without a carriage return in front of it.
abbrev pub without_newline : Text → Text
without_newline line = if ends_with_byte 10 line then strip_last 13 (strip_last 10 line) else line

-- The end of a line: what follows the text without the newline.
abbrev pub end_of : Text → Text
end_of line = drop (length (without_newline line)) line

-- Whether a text has a newline, and so is more than a line.
abbrev pub has_newline : Text → Bool
has_newline text = list_any (λ b. nat_eq b 10) text

-- An empty line is passed over, and so is one that begins with the mark of a comment.
abbrev pub is_passed_over : Option (Bor Text) → Text → Bool
is_passed_over None line = is_empty line
is_passed_over (Some mark) line = is_empty line || starts_with nat_eq line mark.now

-- The lines of some bytes, up to a rest: each goes up to its newline, or to the end.
abbrev pub AreLines : Text → List Text → Text → Type 0
AreLines bytes [] rest = bytes ≡ rest
AreLines bytes (line ∷ lines) rest = (line ≢ []) × (line ≡ take_through 10 bytes)
    × AreLines (drop_through 10 bytes) lines rest

-- The lines of a reader's bytes, up to the rest that is left, if both are known.
abbrev pub AreLinesUpTo : Option Text → List Text → Option Text → Type 0
AreLinesUpTo None lines rest = ⊤
AreLinesUpTo (Some bytes) lines None = ⊥
AreLinesUpTo (Some bytes) lines (Some rest) = AreLines bytes lines rest

-- All lines of a reader's bytes, if they are known; if the reader fails, only the lines in front of a rest.
abbrev pub AreLinesOf : Option Text → List Text → Bool → Type 0
AreLinesOf None lines failed = ⊤
AreLinesOf (Some bytes) lines true = (rest : Text) × AreLines bytes lines rest
AreLinesOf (Some bytes) lines false = AreLines bytes lines []

-- The first line of the bytes is read.
abbrev pub IsNextLine : Option Text → Text → Option Text → Type 0
IsNextLine None line rest = ⊤
IsNextLine (Some bytes) line rest = (line ≢ []) × (line ≡ take_through 10 bytes)
    × (rest ≡ Some (drop_through 10 bytes))
