-- The name of each dialect, what its directives begin with, and how it quotes.
use Rattle.std.specs.Prelude.{ℕ, ◌==◌, codes, if◌then◌else◌, List, [], ◌∷◌, Option, Some, None}
use Rattle.std.specs.Str.{bytes_eq}
use Rattle.timefd_lang_component.specs.Tree.{Text}
use Rattle.timefd_lang_dialect.specs.declared.dialect.Dialect.{Dialect}
use Rattle.timefd_lang_dialect.specs.declared.dialect.Dialect.TheVariants.{Python, C, Gnu, Chrono, Jiff, Ruby, Java, Go, Moment}
use Rattle.timefd_lang_dialect.specs.declared.dialect.Leading.{Leading}
use Rattle.timefd_lang_dialect.specs.declared.dialect.Leading.TheVariants.{Percent, Bare}
use Rattle.timefd_lang_dialect.specs.declared.dialect.Quoting.{Quoting}
use Rattle.timefd_lang_dialect.specs.declared.dialect.Quoting.TheVariants.{Unquoted, Apostrophes, Brackets}
use Rattle.timefd_lang_dialect.specs.declared.reason.Reason.TheVariants.{UnknownDirective}
use Rattle.timefd_lang_dialect.specs.Rows.{Entry, ◌refused_for◌}

abbrev pub name_of : Dialect → Text
name_of Python = codes "python"
name_of C = codes "c"
name_of Gnu = codes "gnu"
name_of Chrono = codes "chrono"
name_of Jiff = codes "jiff"
name_of Ruby = codes "ruby"
name_of Java = codes "java"
name_of Go = codes "go"
name_of Moment = codes "moment"

-- all dialects, in the order in which they are named
abbrev pub all : List Dialect
all =
    Python ∷ C ∷ Gnu ∷ Chrono ∷ Jiff ∷ Ruby ∷ Java ∷ Go ∷ Moment ∷ []

-- the dialect with this name
abbrev pub named : Text → Option Dialect
named name =
    if bytes_eq name (codes "python") then Some Python
    else if bytes_eq name (codes "c") then Some C
    else if bytes_eq name (codes "gnu") then Some Gnu
    else if bytes_eq name (codes "chrono") then Some Chrono
    else if bytes_eq name (codes "jiff") then Some Jiff
    else if bytes_eq name (codes "ruby") then Some Ruby
    else if bytes_eq name (codes "java") then Some Java
    else if bytes_eq name (codes "go") then Some Go
    else if bytes_eq name (codes "moment") then Some Moment
    else None

abbrev pub quoting_of : Dialect → Quoting
quoting_of Python = Unquoted
quoting_of C = Unquoted
quoting_of Gnu = Unquoted
quoting_of Chrono = Unquoted
quoting_of Jiff = Unquoted
quoting_of Ruby = Unquoted
quoting_of Java = Apostrophes
quoting_of Go = Unquoted
quoting_of Moment = Brackets

-- What selects a row.

abbrev pub leading_of : Dialect → Leading
leading_of Python = Percent
leading_of C = Percent
leading_of Gnu = Percent
leading_of Chrono = Percent
leading_of Jiff = Percent
leading_of Ruby = Percent
leading_of Java = Bare
leading_of Go = Bare
leading_of Moment = Bare

abbrev pub first_byte : Text → Option ℕ
first_byte [] = None
first_byte (b ∷ rest) = Some b

-- the byte after a `%`
abbrev pub second_byte : Text → Option ℕ
second_byte [] = None
second_byte (b ∷ rest) = if b == 37 then first_byte rest else None

abbrev pub key_of : Leading → Text → Option ℕ
key_of Percent text = second_byte text
key_of Bare text = first_byte text

-- the row of a `%` that begins no other row
abbrev pub unknown_rows : Leading → List Entry
unknown_rows Percent = codes "%" refused_for UnknownDirective ∷ []
unknown_rows Bare = []
