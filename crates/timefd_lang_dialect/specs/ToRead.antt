-- What reads the texts that a format writes, and where and why a format is refused for reading.
use Rattle.std.specs.Prelude.{ℕ, ◌≡◌, ◌+◌, if◌then◌else◌, List, [], ◌∷◌, length, Option, Some, None, string_bytes, ⊤}
use Rattle.std.specs.Str.{bytes_eq}
use Rattle.timefd_lang_component.specs.Tree.{Text}
use Rattle.timefd_lang_dialect.specs.declared.dialect.Dialect.{Dialect}
use Rattle.timefd_lang_dialect.specs.declared.error.DialectError.{DialectError}
use Rattle.timefd_lang_dialect.specs.declared.error.DialectError.TheVariants.{Refused, Memory}
use Rattle.timefd_lang_dialect.specs.declared.reading.Converted.{Converted}
use Rattle.timefd_lang_dialect.specs.declared.reason.Reason.{Reason}
use Rattle.timefd_lang_dialect.specs.Limits.{all_limits, limits_from}
use Rattle.timefd_lang_dialect.specs.Reading.{Piece, Front, ended, piece, refused_for, front_meant, front_of, text_of}
use Rattle.timefd_lang_dialect.specs.Readings.{readings_of}
use Rattle.timefd_lang_dialect.specs.Rows.{Entry, entry_of}
use Rattle.timefd_lang_dialect.specs.declared.row.Row.{Row}

-- the row with this text
abbrev pub named : List Entry → Text → Option Entry
named [] text = None
named (row ∷ rows) text = if bytes_eq row.text text then Some row else named rows text

-- a row of the code, if there is one, as a row of the specification
abbrev pub row_option : Option Row → Option Entry
row_option None = None
row_option (Some row) = Some (entry_of row)

-- A piece reads what it writes, unless a row has its text: then the row says what reads it, or refuses it.
abbrev pub piece_read : Option Entry → Piece → Text → Front
piece_read None p rest = piece p rest
piece_read (Some row) p rest = front_meant row.meaning rest

abbrev pub front_read : Dialect → Front → Front
front_read dialect ended = ended
front_read dialect (piece p rest) = piece_read (named (readings_of dialect) p.text) p rest
front_read dialect (refused_for reason) = refused_for reason

-- what reads the texts that the front of a format writes
abbrev pub front_to_read : Dialect → Text → Front
front_to_read dialect text = front_read dialect (front_of dialect text)

-- for reading, the format is these pieces and then the rest
abbrev pub LeadsToRead : Dialect → Text → List Piece → Text → Type 0
LeadsToRead dialect text [] rest = text ≡ rest
LeadsToRead dialect text (p ∷ ps) rest =
    (after : Text) × (front_to_read dialect text ≡ piece p after) × LeadsToRead dialect after ps rest

-- These pieces read the texts of the format.
abbrev pub ReadsBy : Dialect → Text → List Piece → Type 0
ReadsBy dialect text ps = LeadsToRead dialect text ps []

-- For reading, the format is refused for the reason, because of what begins at the index.
abbrev pub UnreadAt : Dialect → Text → Reason → ℕ → Type 0
UnreadAt dialect text reason index =
    (ps : List Piece) × (rest : Text) × LeadsToRead dialect text ps rest
    × (front_to_read dialect rest ≡ refused_for reason) × (index + length rest ≡ length text)

-- some pieces read the texts of the format, and have this text and these limits
abbrev pub IsToRead : Dialect → Text → Converted → Type 0
IsToRead dialect format answer =
    (ps : List Piece) × ReadsBy dialect format ps × (string_bytes answer.text ≡ text_of ps)
    × (answer.limits ≡ limits_from all_limits ps)

-- for reading, the format is refused for the reason at the index, or memory ran out
abbrev pub IsUnreadFor : Dialect → Text → DialectError → Type 0
IsUnreadFor dialect format (Refused refusal) =
    UnreadAt dialect format refusal.reason refusal.index
IsUnreadFor dialect format (Memory e) = ⊤
