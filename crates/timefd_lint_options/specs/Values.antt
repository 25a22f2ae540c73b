-- What the values of options name.
use Rattle.std.specs.Prelude.{Option, Some, None, codes, bytes_eq, if◌then◌else◌}
use Rattle.timefd_parse.specs.Tree.{Text}
use Rattle.timefd_parse.specs.DescriptionVersion.{DescriptionVersion}
use Rattle.timefd_parse.specs.DescriptionVersion.TheVariants.{One, Two, Three}
use Rattle.timefd_parse.specs.LanguageType.{Language}
use Rattle.timefd_parse.specs.LanguageType.TheVariants.{Version, Strftime}
use Rattle.timefd_lang_dialect.specs.declared.dialect.Dialect.{Dialect}
use Rattle.timefd_lang_dialect.specs.Dialects.{named}
use Rattle.timefd_lint_options.specs.declared.settings.Color.{Color}
use Rattle.timefd_lint_options.specs.declared.settings.Color.TheVariants.{Always, Never, Auto}
use Rattle.timefd_lint_options.specs.declared.wording.LineLanguage.{LineLanguage}
use Rattle.timefd_lint_options.specs.declared.wording.LineLanguage.TheVariants.{Own, Other}

abbrev pub language_named : Text → Option Language
language_named word =
    if bytes_eq word (codes "1") then Some (Version One)
    else if bytes_eq word (codes "2") then Some (Version Two)
    else if bytes_eq word (codes "3") then Some (Version Three)
    else if bytes_eq word (codes "strftime") then Some Strftime
    else None

-- the language, if it is one of `time`
abbrev pub language_of : LineLanguage → Option Language
language_of (Own language) = Some language
language_of (Other dialect) = None

abbrev pub dialect_by : Option Dialect → Option LineLanguage
dialect_by (Some dialect) = Some (Other dialect)
dialect_by None = None

abbrev pub dialect_named : Text → Option LineLanguage
dialect_named word = dialect_by (named word)

abbrev pub wording_by : Option Language → Option LineLanguage → Option LineLanguage
wording_by (Some language) other = Some (Own language)
wording_by None other = other

-- a language of `time`, or else a dialect
abbrev pub wording_named : Text → Option LineLanguage
wording_named word = wording_by (language_named word) (dialect_named word)

abbrev pub color_named : Text → Option Color
color_named word =
    if bytes_eq word (codes "always") then Some Always
    else if bytes_eq word (codes "never") then Some Never
    else if bytes_eq word (codes "auto") then Some Auto
    else None

abbrev pub version_named : Text → Option DescriptionVersion
version_named word =
    if bytes_eq word (codes "2") then Some Two
    else if bytes_eq word (codes "3") then Some Three
    else None
