-- The words that name languages.
use Rattle.std.specs.Prelude.{Option, Some, None, codes, bytes_eq, if◌then◌else◌}
use Rattle.timefd_lint_scan.specs.declared.dialect.FormatLanguage.{FormatLanguage}
use Rattle.timefd_lint_scan.specs.declared.dialect.FormatLanguage.TheVariants.{One, Two, Three, Strftime, Python, C, Gnu, Chrono, Jiff, Ruby, Java, Go, Moment}
use Rattle.timefd_lint_scan.specs.Bytes.{Text}

-- the other language or library that a word names
abbrev pub other_named : Text → Option FormatLanguage
other_named word =
    if bytes_eq word (codes "python") then Some Python
    else if bytes_eq word (codes "c") then Some C
    else if bytes_eq word (codes "gnu") then Some Gnu
    else if bytes_eq word (codes "chrono") then Some Chrono
    else if bytes_eq word (codes "jiff") then Some Jiff
    else if bytes_eq word (codes "ruby") then Some Ruby
    else if bytes_eq word (codes "java") then Some Java
    else if bytes_eq word (codes "go") then Some Go
    else if bytes_eq word (codes "moment") then Some Moment
    else None

-- the language that a word names
abbrev pub dialect_named : Text → Option FormatLanguage
dialect_named word =
    if bytes_eq word (codes "1") then Some One
    else if bytes_eq word (codes "2") then Some Two
    else if bytes_eq word (codes "3") then Some Three
    else if bytes_eq word (codes "strftime") then Some Strftime
    else other_named word

abbrev pub version_in : Option FormatLanguage → Option FormatLanguage
version_in None = None
version_in (Some One) = Some One
version_in (Some Two) = Some Two
version_in (Some Three) = Some Three
version_in (Some Strftime) = None
version_in (Some Python) = None
version_in (Some C) = None
version_in (Some Gnu) = None
version_in (Some Chrono) = None
version_in (Some Jiff) = None
version_in (Some Ruby) = None
version_in (Some Java) = None
version_in (Some Go) = None
version_in (Some Moment) = None

-- the version that a number names
abbrev pub version_named : Text → Option FormatLanguage
version_named word = version_in (dialect_named word)
