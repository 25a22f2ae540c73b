-- The format that a text of version 3 asks for: a row's text for each bracket, and literals quoted.
use Rattle.std.specs.Prelude.{ℕ, ◌≡◌, ◌<◌, ◌==◌, ◌&&◌, Bool, true, false, if◌then◌else◌, List, [], ◌∷◌, ◌++◌, length, Some}
use Rattle.timefd_lang_component.specs.Tree.{Text}
use Rattle.timefd_lang_dialect.specs.declared.dialect.Dialect.{Dialect}
use Rattle.timefd_lang_dialect.specs.declared.dialect.Leading.{Leading}
use Rattle.timefd_lang_dialect.specs.declared.dialect.Leading.TheVariants.{Percent, Bare}
use Rattle.timefd_lang_dialect.specs.declared.dialect.Quoting.{Quoting}
use Rattle.timefd_lang_dialect.specs.declared.dialect.Quoting.TheVariants.{Unquoted, Apostrophes, Brackets}
use Rattle.timefd_lang_dialect.specs.Best.{chosen, own_text}
use Rattle.timefd_lang_dialect.specs.Dialects.{leading_of, quoting_of}
use Rattle.timefd_lang_dialect.specs.Plain.{is_plain}
use Rattle.timefd_lang_dialect.specs.Quotes.{apostrophe}
use Rattle.timefd_lang_dialect.specs.Rows.{Entry}
use Rattle.timefd_language.specs.Bytes.{left, right, backslash}

-- Literals of version 3: what they mean up to the next `[`, and what follows.

pub record Run : Type 0 where
  pub literal : Text
  pub rest : Text

abbrev pub run : Text → Text → Run
run literal rest = record { literal = literal; rest = rest }

abbrev pub and_byte : ℕ → Run → Run
and_byte b r = run (b ∷ r.literal) r.rest

abbrev mutual
  pub run_of : Text → Run
  run_of [] = run [] []
  run_of (b ∷ rest) =
      if b == left then run [] (b ∷ rest)
      else if b == backslash then escaped_run rest
      else and_byte b (run_of rest)

  -- after a backslash
  pub escaped_run : Text → Run
  escaped_run [] = run (backslash ∷ []) []
  escaped_run (b ∷ rest) = and_byte b (run_of rest)

-- Literals of a dialect.

-- the text, with each of its bytes that is the mark written twice
abbrev pub doubled : ℕ → Text → Text
doubled mark [] = []
doubled mark (b ∷ bytes) =
    if b == mark then mark ∷ b ∷ doubled mark bytes else b ∷ doubled mark bytes

abbrev pub are_plain : Dialect → Text → Bool
are_plain dialect [] = true
are_plain dialect (b ∷ bytes) = is_plain dialect b && are_plain dialect bytes

abbrev pub unquoted : Leading → Text → Text
unquoted Percent literal = doubled 37 literal
unquoted Bare literal = literal

abbrev pub quoted_by : Quoting → Leading → Text → Text
quoted_by Unquoted leading literal = unquoted leading literal
quoted_by Apostrophes leading literal =
    (apostrophe ∷ []) ++ (doubled apostrophe literal ++ (apostrophe ∷ []))
quoted_by Brackets leading literal = (left ∷ []) ++ (literal ++ (right ∷ []))

-- a literal, quoted unless each of its bytes is literal anyway
abbrev pub quoted : Dialect → Text → Text
quoted dialect literal =
    if are_plain dialect literal then literal
    else quoted_by (quoting_of dialect) (leading_of dialect) literal

-- Parts of a description.

-- a literal ends there: at the end, or at a bracket
abbrev pub ends_literal : Text → Bool
ends_literal [] = true
ends_literal (b ∷ rest) = b == left

-- the row that is chosen for the bracket at the front, and what follows its text
abbrev pub AsksRow : Dialect → Text → Text → Text → Type 0
AsksRow dialect text part rest = (row : Entry) × (chosen dialect text ≡ Some row)
    × (part ≡ row.text) × (text ≡ own_text row.meaning ++ rest)

abbrev pub AsksLiteral : Dialect → Text → Text → Text → Type 0
AsksLiteral dialect text part rest =
    (part ≡ quoted dialect (run_of text).literal) × (rest ≡ (run_of text).rest)

abbrev pub AsksBy : Bool → Dialect → Text → Text → Text → Type 0
AsksBy true dialect text part rest = AsksRow dialect text part rest
AsksBy false dialect text part rest = AsksLiteral dialect text part rest

-- the front of the description asks for this part of a format, and the rest follows
abbrev pub AsksFront : Dialect → Text → Text → Text → Type 0
AsksFront dialect text part rest =
    (0 < length text) × AsksBy (ends_literal text) dialect text part rest

-- the description asks for these parts, and then for what the rest asks for
abbrev pub AsksTo : Dialect → Text → List Text → Text → Type 0
AsksTo dialect text [] rest = text ≡ rest
AsksTo dialect text (part ∷ parts) rest =
    (after : Text) × AsksFront dialect text part after × AsksTo dialect after parts rest

abbrev pub joined_parts : List Text → Text
joined_parts [] = []
joined_parts (part ∷ parts) = part ++ joined_parts parts

-- The description asks for this format.
abbrev pub AsksFor : Dialect → Text → Text → Type 0
AsksFor dialect description format =
    (parts : List Text) × AsksTo dialect description parts [] × (format ≡ joined_parts parts)
