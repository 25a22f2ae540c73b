-- The answers to the page about formats of other languages, and about texts whose description is looked for.
use Rattle.std.specs.Prelude.{ℕ, ◌≡◌, ◌⊎◌, IsUtf8, Some, None, Result, Ok, Err, ⊤}
use Rattle.std.specs.declared.alloc.Global.{Global}
use Rattle.std.specs.declared.vec.Vec.{Vec}
use Rattle.timefd_parse.specs.Tree.{Text}
use Rattle.timefd_lang_dialect.specs.Dialects.{named}
use Rattle.timefd_lang_dialect.specs.declared.dialect.Dialect.{Dialect}
use Rattle.timefd_web.specs.declared.answer.ReportAnswer.{ReportAnswer}
use Rattle.timefd_web.specs.declared.silence.Silence.{Silence}
use Rattle.timefd_web.specs.declared.silence.Silence.TheVariants.{NotUtf8, NoMemory, NoLanguage, OutOfRange}
use Rattle.timefd_web.specs.Answers.{IsAnswer}
use Rattle.timefd_web.specs.Conversions.{Converts, Formats}
use Rattle.timefd_web.specs.Guesses.{Guessed}

-- why nothing is reported about a text by the dialect with this name
abbrev pub IsDialectSilence : Text → Text → Silence → Type 0
IsDialectSilence name text NotUtf8 = ¬ (IsUtf8 name) ⊎ ¬ (IsUtf8 text)
IsDialectSilence name text NoMemory = ⊤
IsDialectSilence name text NoLanguage = named name ≡ None
IsDialectSilence name text OutOfRange = ⊥

-- Formats as descriptions of version 3.

-- The object says what a format of the dialect with this name is in version 3.
pub record ConvertsOf (name format object : Text) : Type 0 where
  pub dialect : Dialect
  pub is_dialect : named name ≡ Some dialect
  pub converts : Converts dialect format object

-- what the format is in version 3, or why nothing is reported
abbrev pub IsConvertSaid : Text → Text → Result (Vec ℕ Global) Silence → Type 0
IsConvertSaid name format (Ok object) = ConvertsOf name format object.items
IsConvertSaid name format (Err silence) = IsDialectSilence name format silence

abbrev pub ConvertAnswers : Text → Text → Text → Text → ReportAnswer → Type 0
ConvertAnswers name format before after answer =
    (said : Result (Vec ℕ Global) Silence) × IsConvertSaid name format said
    × IsAnswer said before after answer

-- Descriptions of version 3 as formats.

-- The object says what a description is as a format of the dialect with this name.
pub record FormatsOf (name description object : Text) : Type 0 where
  pub dialect : Dialect
  pub is_dialect : named name ≡ Some dialect
  pub formats : Formats dialect description object

-- what the description is as a format, or why nothing is reported
abbrev pub IsFormatSaid : Text → Text → Result (Vec ℕ Global) Silence → Type 0
IsFormatSaid name description (Ok object) = FormatsOf name description object.items
IsFormatSaid name description (Err silence) = IsDialectSilence name description silence

abbrev pub FormatAnswers : Text → Text → Text → Text → ReportAnswer → Type 0
FormatAnswers name description before after answer =
    (said : Result (Vec ℕ Global) Silence) × IsFormatSaid name description said
    × IsAnswer said before after answer

-- Texts whose description is looked for.

-- why nothing is reported about texts
abbrev pub IsGuessSilence : Text → Silence → Type 0
IsGuessSilence texts NotUtf8 = ¬ (IsUtf8 texts)
IsGuessSilence texts NoMemory = ⊤
IsGuessSilence texts NoLanguage = ⊥
IsGuessSilence texts OutOfRange = ⊥

-- the descriptions of the texts, or why nothing is reported
abbrev pub IsGuessSaid : Text → Result (Vec ℕ Global) Silence → Type 0
IsGuessSaid texts (Ok object) = Guessed texts object.items
IsGuessSaid texts (Err silence) = IsGuessSilence texts silence

abbrev pub GuessAnswers : Text → Text → Text → ReportAnswer → Type 0
GuessAnswers texts before after answer =
    (said : Result (Vec ℕ Global) Silence) × IsGuessSaid texts said
    × IsAnswer said before after answer
