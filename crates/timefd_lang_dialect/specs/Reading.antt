-- What a format of a dialect means, and where and why it is refused.
use Rattle.std.specs.Prelude.{ℕ, ◌≡◌, ◌+◌, ◌==◌, if◌then◌else◌, List, [], ◌∷◌, ◌++◌, take, drop, length, Option, Some, None}
use Rattle.timefd_lang_component.specs.Tree.{Text}
use Rattle.timefd_lang_dialect.specs.declared.dialect.Dialect.{Dialect}
use Rattle.timefd_lang_dialect.specs.declared.dialect.Quoting.{Quoting}
use Rattle.timefd_lang_dialect.specs.declared.dialect.Quoting.TheVariants.{Unquoted, Apostrophes, Brackets}
use Rattle.timefd_lang_dialect.specs.declared.reason.Reason.{Reason}
use Rattle.timefd_lang_dialect.specs.declared.reason.Reason.TheVariants.{UnclosedQuote}
use Rattle.timefd_lang_dialect.specs.declared.row.Range.{Range}
use Rattle.timefd_lang_dialect.specs.declared.row.Range.TheVariants.{Years0To9999}
use Rattle.timefd_lang_dialect.specs.Rows.{Entry, Meaning, written, refused, longest}
use Rattle.timefd_lang_dialect.specs.Dialects.{quoting_of}
use Rattle.timefd_lang_dialect.specs.Tables.{rows_of}
use Rattle.timefd_lang_dialect.specs.Quotes.{escaped, char_len, apostrophe, quotation, or_apostrophe, closing}
use Rattle.timefd_language.specs.Bytes.{left}

-- A text of version 3 for a part of a format, and for which moments it writes the same.
pub record Piece : Type 0 where
  pub text : Text
  pub range : Range

-- what a format begins with: a piece and the rest, or something that has no text of version 3
pub data Front : Type 0 where
  ended : Front
  piece : Piece → Text → Front
  refused_for : Reason → Front

abbrev pub literal : Text → Piece
literal bytes = record { text = escaped bytes; range = Years0To9999 }

abbrev pub front_meant : Meaning → Text → Front
front_meant (written text range) rest = piece (record { text = text; range = range }) rest
front_meant (refused reason) rest = refused_for reason

-- a character that no row begins with is literal
abbrev pub front_row : Option Entry → Text → Front
front_row None text = piece (literal (take (char_len text) text)) (drop (char_len text) text)
front_row (Some row) text = front_meant row.meaning (drop (length row.text) text)

-- what is quoted between apostrophes, and the rest
abbrev pub front_quotation : Option (Text × Text) → Front
front_quotation None = refused_for UnclosedQuote
front_quotation (Some x) = piece (literal (or_apostrophe x.0)) x.1

-- what is in front of the `]` at the index, and the rest
abbrev pub front_closing : Option ℕ → Text → Front → Front
front_closing None rest other = other
front_closing (Some index) rest other = piece (literal (take index rest)) (drop (index + 1) rest)

-- what is quoted, if the text begins with this byte, or else what is there otherwise
abbrev pub front_quote : Quoting → ℕ → Text → Front → Front
front_quote Unquoted b rest other = other
front_quote Apostrophes b rest other =
    if b == apostrophe then front_quotation (quotation rest) else other
front_quote Brackets b rest other =
    if b == left then front_closing (closing rest) rest other else other

-- what is quoted there, or else the longest row there, or else a character
abbrev pub front_of : Dialect → Text → Front
front_of dialect [] = ended
front_of dialect (b ∷ rest) =
    front_quote (quoting_of dialect) b rest
    (front_row (longest (rows_of dialect) (b ∷ rest)) (b ∷ rest))

-- the text is these pieces, and then the rest
abbrev pub Leads : Dialect → Text → List Piece → Text → Type 0
Leads dialect text [] rest = text ≡ rest
Leads dialect text (p ∷ ps) rest =
    (after : Text) × (front_of dialect text ≡ piece p after) × Leads dialect after ps rest

-- The text means these pieces.
abbrev pub Means : Dialect → Text → List Piece → Type 0
Means dialect text ps = Leads dialect text ps []

-- The text is refused for the reason, because of what begins at the index.
abbrev pub RefusedAt : Dialect → Text → Reason → ℕ → Type 0
RefusedAt dialect text reason index =
    (ps : List Piece) × (rest : Text) × Leads dialect text ps rest
    × (front_of dialect rest ≡ refused_for reason) × (index + length rest ≡ length text)

-- the texts of the pieces, one after another
abbrev pub text_of : List Piece → Text
text_of [] = []
text_of (p ∷ ps) = p.text ++ text_of ps
