-- Comments that name the language of literals: `// timefd: 3`
use Rattle.std.specs.Prelude.{ℕ, ◌-◌, Bool, true, false, not, ◌&&◌, ◌==◌, nat_eq, nat_le, nat_lt, if◌then◌else◌, List, [], ◌∷◌, bytes_eq, codes, drop, is_none}
use Rattle.std.specs.Prelude.{length, take, Option, Some, None}
use Rattle.std.specs.List.{flat_map, starts_with}
use Rattle.std.specs.Option.{option_to_list}
use Rattle.timefd_lint_scan.specs.declared.dialect.FormatLanguage.{FormatLanguage}
use Rattle.timefd_lint_scan.specs.declared.marks.LanguageMark.{LanguageMark}
use Rattle.timefd_lint_scan.specs.declared.piece.PlacedToken.{PlacedToken}
use Rattle.timefd_lint_scan.specs.declared.token.Token.{Token}
use Rattle.timefd_lint_scan.specs.declared.token.Token.TheVariants.{White, Comment, Word, Lifetime, Character, Literal, Sign, Unclosed}
use Rattle.timefd_lint_scan.specs.After.{after_run}
use Rattle.timefd_lint_scan.specs.Bytes.{Text, is_white, is_word}
use Rattle.timefd_lint_scan.specs.Dialects.{dialect_named}
use Rattle.timefd_lint_scan.specs.Lines.{line_start, next_line_end}
use Rattle.timefd_lint_scan.specs.Literals.{cut}

-- the text without this front; none if it begins differently
abbrev pub after : Text → Text → Option Text
after text front = if starts_with nat_eq text front then Some (drop (length front) text) else None

-- the front of a text, up to this rest
abbrev pub in_front : Text → Text → Text
in_front text rest = take (length text - length rest) text

-- the language that a text names if it is one word, with only white bytes after it
abbrev pub word_dialect : Text → Option FormatLanguage
word_dialect text =
    if length (after_run is_white (after_run is_word text)) == 0 then
    dialect_named (in_front text (after_run is_word text))
    else None

abbrev pub mark_reported : Option Text → Option FormatLanguage
mark_reported None = None
mark_reported (Some text) = word_dialect (after_run is_white text)

abbrev pub line_reported : Option Text → Option FormatLanguage
line_reported None = None
line_reported (Some text) = mark_reported (after (after_run is_white text) (codes "timefd:"))

abbrev pub comment_dialect : Option Text → Option FormatLanguage
comment_dialect None = None
comment_dialect (Some text) = line_reported (after text (codes "//"))

-- The text after `timefd:` neither names a language nor silences a warning.
abbrev pub is_unknown : Text → Bool
is_unknown text =
    is_none (word_dialect text) && not (bytes_eq (in_front text (after_run is_word text)) (codes "allow"))

abbrev pub mark_word : Option Text → Option Text
mark_word None = None
mark_word (Some text) = Some (after_run is_white text)

abbrev pub line_word : Option Text → Option Text
line_word None = None
line_word (Some text) = mark_word (after (after_run is_white text) (codes "timefd:"))

-- a comment with `timefd:`, from the word on that follows that
abbrev pub marked : Option Text → Option Text
marked None = None
marked (Some text) = line_word (after text (codes "//"))

-- Only white bytes precede a position in its line.
abbrev pub is_alone : Text → ℕ → Bool
is_alone source at =
    length (after_run is_white (take (at - line_start source at) (drop (line_start source at) source))) == 0

-- A comment applies to the literals before it in its line, or to those of the next line if nothing else is
-- in its own.
abbrev pub mark_of : Text → PlacedToken → Option FormatLanguage → Option LanguageMark
mark_of source p None = None
mark_of source p (Some dialect) =
    if is_alone source p.start then
    Some (record { from = p.end; to = next_line_end source p.end; dialect = dialect })
    else Some (record { from = line_start source p.start; to = p.start; dialect = dialect })

abbrev pub is_comment : Token → Bool
is_comment White = false
is_comment Comment = true
is_comment Word = false
is_comment Lifetime = false
is_comment Character = false
is_comment (Literal kind) = false
is_comment Sign = false
is_comment Unclosed = false

abbrev pub mark_at : Text → PlacedToken → Option LanguageMark
mark_at source p = if is_comment p.token then mark_of source p (comment_dialect (cut source p)) else None

-- the start of a text that ends at an index, if it should name a language, but doesn't
abbrev pub unknown_in : ℕ → Option Text → List ℕ
unknown_in end None = []
unknown_in end (Some text) = if is_unknown text then (end - length text) ∷ [] else []

abbrev pub unknown_mark : Text → PlacedToken → List ℕ
unknown_mark source p = if is_comment p.token then unknown_in p.end (marked (cut source p)) else []

-- where the words of comments begin that should name a language, but don't, in order
abbrev pub unknown_marks : Text → List PlacedToken → List ℕ
unknown_marks source ps = flat_map (unknown_mark source) ps

-- the comments that name a language, in order
abbrev pub marks : Text → List PlacedToken → List LanguageMark
marks source ps = flat_map (λ p. option_to_list (mark_at source p)) ps

-- the marks from the first one on that ends after this position
abbrev pub still_open : ℕ → List LanguageMark → List LanguageMark
still_open position [] = []
still_open position (m ∷ ms) = if nat_lt position m.to then m ∷ ms else still_open position ms

-- the language that the first of these marks names for a position
abbrev pub reported_at : List LanguageMark → ℕ → Option FormatLanguage
reported_at [] position = None
reported_at (m ∷ ms) position = if nat_le m.from position && nat_lt position m.to then Some m.dialect else None
