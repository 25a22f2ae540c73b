-- Which dialects read a text as a format.
use Rattle.std.specs.Prelude.{ℕ, zero, suc, ◌==◌, if◌then◌else◌, Bool, true, false, List, [], ◌∷◌, length, Option, Some, None}
use Rattle.std.specs.List.{filter}
use Rattle.timefd_lang_component.specs.Tree.{Text}
use Rattle.timefd_lang_dialect.specs.declared.dialect.Dialect.{Dialect}
use Rattle.timefd_lang_dialect.specs.Dialects.{all}
use Rattle.timefd_lang_dialect.specs.Reading.{Piece, Front, ended, piece, refused_for, front_of, text_of}
use Rattle.timefd_language.specs.Bytes.{left, backslash}

abbrev mutual
  -- the text of version 3 has a component: a `[` that no backslash escapes
  pub has_component : Text → Bool
  has_component [] = false
  has_component (b ∷ rest) =
      if b == left then true else if b == backslash then has_component_after rest else has_component rest

  pub has_component_after : Text → Bool
  has_component_after [] = false
  has_component_after (b ∷ rest) = has_component rest

-- The pieces that a format means, if no part of it is refused.

abbrev pub and_more : Option (List Piece) → Piece → Option (List Piece)
and_more None p = None
and_more (Some ps) p = Some (p ∷ ps)

abbrev pub pieces_from : (Text → Option (List Piece)) → Front → Option (List Piece)
pieces_from more ended = Some []
pieces_from more (piece p rest) = and_more (more rest) p
pieces_from more (refused_for reason) = None

-- the pieces, if they are fewer than this many
abbrev pub pieces_below : ℕ → Dialect → Text → Option (List Piece)
pieces_below zero dialect text = None
pieces_below (suc n) dialect text = pieces_from (pieces_below n dialect) (front_of dialect text)

-- A piece has bytes in the format, so no format has more pieces than bytes.
abbrev pub pieces_of : Dialect → Text → Option (List Piece)
pieces_of dialect text = pieces_below (suc (length text)) dialect text

abbrev pub some_component : Option (List Piece) → Bool
some_component None = false
some_component (Some ps) = has_component (text_of ps)

-- The dialect reads the text: it refuses no part of it, and the text has a component.
abbrev pub reads : Text → Dialect → Bool
reads text dialect = some_component (pieces_of dialect text)

-- all dialects that read the text
abbrev pub readers : Text → List Dialect
readers text = filter (reads text) all
