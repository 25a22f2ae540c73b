-- The literal that a description would become.
use Rattle.std.specs.Prelude.{ℕ, ◌≡◌, ◌≤◌, ◌-◌, ◌⊎◌, false, [], ◌++◌, length, slice_range, Option, Some, None, IfSome, IsUtf8}
use Rattle.std.specs.Fmt.{debug_str}
use Rattle.std.specs.Str.{IsCharBoundary}
use Rattle.timefd_parse.specs.Tree.{Text}
use Rattle.timefd_lint_scan.specs.declared.description.SourceDescription.{SourceDescription}
use Rattle.timefd_lint_scan.specs.Literals.{body_end, inside}
use Rattle.timefd_lint_scan.specs.Written.{IsBodyFor, has_body}

-- A literal with escapes. What they are is known for ASCII.
abbrev pub IsEscaped : Text → Text → Type 0
IsEscaped text literal = IfSome (debug_str text) (λ escaped. literal ≡ escaped)

abbrev pub length_in : Option Text → ℕ
length_in None = 0
length_in (Some body) = length body

-- how many bytes are between the quotes of a description's literal
abbrev pub old_length : Text → SourceDescription → ℕ
old_length source d = length_in (inside source d.piece d.kind)

-- What is between two positions of a source, which are in order and on character boundaries. Else it is empty.
abbrev pub IsPart : Text → ℕ → ℕ → Text → Type 0
IsPart source from to part = ((part ≡ slice_range source from to) × (to ≤ length source))
    ⊎ ((from ≤ to → IsCharBoundary source from → ¬ IsCharBoundary source to) × (part ≡ []))

-- The bytes as a text. It is empty if they aren't one.
abbrev pub IsTextOf : Text → Text → Type 0
IsTextOf bytes text = (IsUtf8 bytes × (text ≡ bytes)) ⊎ ((¬ IsUtf8 bytes) × (text ≡ []))

-- the literal of a description, with another body between its quotes
abbrev pub IsQuoted : Text → SourceDescription → Text → Text → Type 0
IsQuoted source d body literal = (opening : Text) × (text : Text) × (closing : Text)
    × IsPart source d.piece.start (body_end d.piece d.kind - old_length source d) opening
    × IsTextOf body text × IsPart source (body_end d.piece d.kind) d.piece.end closing
    × (literal ≡ opening ++ (text ++ closing))

-- A literal of the description's kind denotes the text, if there is one. Else one with escapes does.
abbrev pub IsLiteralOf : Text → SourceDescription → Text → Text → Type 0
IsLiteralOf source d text literal = ((body : Text) × IsBodyFor d.kind text body × IsQuoted source d body literal)
    ⊎ ((has_body d.kind text ≡ false) × IsEscaped text literal)
