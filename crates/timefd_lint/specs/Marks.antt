-- The byte-order mark at the front of a file.
use Rattle.std.specs.Prelude.{◌≡◌, Bool, true, false, [], ◌∷◌, ◌++◌, Option, codes, nat_eq}
use Rattle.std.specs.Io.KnownBytes.{Appends}
use Rattle.std.specs.List.{starts_with}
use Rattle.timefd_parse.specs.Tree.{Text}
use Rattle.timefd_lint_drawing.specs.declared.draw.Style.{Style}
use Rattle.timefd_lint_drawing.specs.declared.severity.FindingSeverity.TheVariants.{Warning}
use Rattle.timefd_lint_drawing.specs.declared.position.Origin.{Origin}
use Rattle.timefd_lint_drawing.specs.Drawing.{note_as}

-- U+FEFF in UTF-8
abbrev pub has_mark : Text → Bool
has_mark text = starts_with nat_eq text (239 ∷ 187 ∷ 191 ∷ [])

-- the code of the note
abbrev pub code : Text
code = codes "byte-order-mark"

abbrev pub sentence : Text
sentence =
    codes "a byte-order mark is a literal of the first description, and hides a comment mark"

-- The note is in the mark's line and is a warning.
abbrev pub mark_note : Style → Origin → Text
mark_note style origin = note_as Warning style origin code sentence

abbrev pub IsNote : Bool → Style → Origin → Text → Type 0
IsNote true style origin note = note ≡ mark_note style origin
IsNote false style origin note = note ≡ []

-- A note is written if there is a mark to be noted, and nothing else is.
abbrev pub Notes : Bool → Style → Origin → Option Text → Option Text → Type 0
Notes is_marked style origin before after =
    (note : Text) × IsNote is_marked style origin note × Appends before after note
