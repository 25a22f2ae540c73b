-- What a word means where an option may be given, and what the values of options name.
use Rattle.std.specs.Prelude.{ℕ, zero, suc, ◌+◌, ◌-◌, ◌*◌, ◌&&◌, nat_le, [], ◌∷◌, Option, Some, None, codes, bytes_eq, nat_eq, if◌then◌else◌}
use Rattle.std.specs.List.{starts_with}
use denote.Ref.{Bor}
use Rattle.timefd_lang_component.specs.Tree.{Text}
use Rattle.timefd_parse.specs.DescriptionVersion.TheVariants.{One, Two, Three}
use Rattle.timefd_parse.specs.LanguageType.{Language}
use Rattle.timefd_parse.specs.LanguageType.TheVariants as languages
use Rattle.timefd_format.specs.declared.column.Column.{Column}
use Rattle.timefd_format.specs.declared.column.Column.TheVariants.{After, Named}
use Rattle.timefd_format.specs.declared.otherwise.Otherwise.{Otherwise}
use Rattle.timefd_format.specs.declared.otherwise.Otherwise.TheVariants.{Keep, Empty, Fail}
use Rattle.timefd_lang_dialect.specs.declared.dialect.Dialect.{Dialect}
use Rattle.timefd_lang_dialect.specs.Dialects.{named}
use Rattle.timefd_format.specs.declared.language.Wording.{Wording}
use Rattle.timefd_format.specs.declared.language.Wording.TheVariants.{Own, Other}
use Rattle.timefd_format.specs.declared.word.LanguageOption.{LanguageOption}
use Rattle.timefd_format.specs.declared.word.LanguageOption.TheVariants as options
use Rattle.timefd_format.specs.declared.word.GivenWord.{GivenWord}
use Rattle.timefd_format.specs.declared.word.GivenWord.TheVariants as words

-- the option as it is written, if its value is a language
abbrev pub option_name : LanguageOption → Text
option_name options.Both = codes "--language"
option_name options.Written = codes "--to-language"

-- a word that begins with a dash looks like an option
abbrev pub other_word : Text → GivenWord
other_word word =
    if starts_with nat_eq word (codes "-") then words.Unknown else words.Description

abbrev pub word_of : Text → GivenWord
word_of word =
    if bytes_eq word (codes "--language") then words.Language options.Both
    else if bytes_eq word (codes "--to-language") then words.Language options.Written
    else if bytes_eq word (codes "--read") then words.Read
    else if bytes_eq word (codes "--csv") then words.Csv
    else if bytes_eq word (codes "--else") then words.Else
    else if bytes_eq word (codes "--guess") then words.Guess
    else if bytes_eq word (codes "--zone") then words.Zone
    else if bytes_eq word (codes "--quiet") then words.Quiet
    else if bytes_eq word (codes "-q") then words.Quiet
    else if bytes_eq word (codes "--help") then words.Help
    else if bytes_eq word (codes "-h") then words.Help
    else if bytes_eq word (codes "--version") then words.Version
    else if bytes_eq word (codes "-V") then words.Version
    else if bytes_eq word (codes "--") then words.End
    else other_word word

-- the wording if no option names one
abbrev pub default_wording : Wording
default_wording = Own (languages.Version Three)

abbrev pub language_named : Text → Option Language
language_named word =
    if bytes_eq word (codes "1") then Some (languages.Version One)
    else if bytes_eq word (codes "2") then Some (languages.Version Two)
    else if bytes_eq word (codes "3") then Some (languages.Version Three)
    else if bytes_eq word (codes "strftime") then Some languages.Strftime
    else None

abbrev pub otherwise_named : Text → Option Otherwise
otherwise_named word =
    if bytes_eq word (codes "keep") then Some Keep
    else if bytes_eq word (codes "empty") then Some Empty
    else if bytes_eq word (codes "fail") then Some Fail
    else None

-- the value of a decimal digit
abbrev pub digit : ℕ → Option ℕ
digit b = if nat_le 48 b && nat_le b 57 then Some (b - 48) else None

-- a digit with this weight, and a number after it
abbrev pub plus : ℕ → Option ℕ → Option ℕ → Option ℕ
plus worth None more = None
plus worth (Some d) None = None
plus worth (Some d) (Some n) = Some (worth * d + n)

-- one to four decimal digits
abbrev pub number_in : Text → Option ℕ
number_in [] = None
number_in (a ∷ []) = digit a
number_in (a ∷ b ∷ []) = plus 10 (digit a) (digit b)
number_in (a ∷ b ∷ c ∷ []) = plus 100 (digit a) (plus 10 (digit b) (digit c))
number_in (a ∷ b ∷ c ∷ d ∷ []) =
    plus 1000 (digit a) (plus 100 (digit b) (plus 10 (digit c) (digit d)))
number_in (a ∷ b ∷ c ∷ d ∷ e ∷ more) = None

abbrev pub column_numbered : ℕ → Option Column
column_numbered zero = None
column_numbered (suc n) = Some (After n)

abbrev pub column_by : Option ℕ → Bor Text → Option Column
column_by (Some number) word = column_numbered number
column_by None word = Some (Named word)

-- Numbers count from 1. A word that isn't a number is a name.
abbrev pub column_named : Bor Text → Option Column
column_named word = column_by (number_in word.now) word

abbrev pub dialect_by : Option Dialect → Option Wording
dialect_by (Some dialect) = Some (Other dialect)
dialect_by None = None

-- the format of another language that the word names
abbrev pub dialect_named : Text → Option Wording
dialect_named word = dialect_by (named word)

abbrev pub wording_by : Option Language → Option Wording → Option Wording
wording_by (Some language) other = Some (Own language)
wording_by None other = other

abbrev pub wording_named : Text → Option Wording
wording_named word = wording_by (language_named word) (dialect_named word)
