-- How the descriptions of a source are laid out, and which versions they have then.
use Rattle.std.specs.Prelude.{ℕ, ◌==◌, Option, None, Some, option_map, if◌then◌else◌}
use Rattle.timefd_parse.specs.Tree.{Text}
use Rattle.timefd_lang_convert.specs.declared.conversion.Conversion.{Conversion}
use Rattle.timefd_lang_convert.specs.Conversions.{conversion_between}
use Rattle.timefd_language.specs.declared.description_version.DescriptionVersion.{DescriptionVersion}
use Rattle.timefd_language.specs.declared.description_version.DescriptionVersion.TheVariants as versions
use Rattle.timefd_language.specs.declared.description_version.Language.TheVariants as languages
use Rattle.timefd_lint_rewrite.specs.declared.layout.Layout.{Layout}
use Rattle.timefd_lint_rewrite.specs.declared.layout.Layout.TheVariants as layouts
use Rattle.timefd_lint_scan.specs.declared.dialect.FormatLanguage.{FormatLanguage}
use Rattle.timefd_lint_scan.specs.declared.dialect.FormatLanguage.TheVariants.{One, Two, Three, Strftime, Python, C, Gnu, Chrono, Jiff, Ruby, Java, Go, Moment}
use Rattle.timefd_lint_scan.specs.Versions.{digit_of}
use Rattle.timefd_lint_sources.specs.Judged.{is_passed_over, language_of}
use Rattle.timefd_lint_sources.specs.declared.rewriting.change.Change.{Change}
use Rattle.timefd_lint_sources.specs.declared.rewriting.change.Change.TheVariants.{Mended, Least, Normal}

-- the conversion of a description to a version: none from strftime, which has other calls
abbrev pub conversion_to : FormatLanguage → DescriptionVersion → Option Conversion
conversion_to One version = conversion_between (language_of One) (languages.Version version)
conversion_to Two version = conversion_between (language_of Two) (languages.Version version)
conversion_to Three version = conversion_between (language_of Three) (languages.Version version)
conversion_to Strftime version = None
conversion_to Python version = None
conversion_to C version = None
conversion_to Gnu version = None
conversion_to Chrono version = None
conversion_to Jiff version = None
conversion_to Ruby version = None
conversion_to Java version = None
conversion_to Go version = None
conversion_to Moment version = None

-- What only another language or library knows isn't fixed.
abbrev pub layout_of : Change → FormatLanguage → Text → Option Layout
layout_of (Mended fixes) dialect text =
    if is_passed_over dialect text then None else Some (layouts.Fixed (language_of dialect) fixes)
layout_of (Least version) dialect text = option_map layouts.Least (conversion_to dialect version)
layout_of Normal dialect text = option_map layouts.Normal (conversion_to dialect versions.Three)

abbrev pub digit_in : DescriptionVersion → ℕ
digit_in versions.One = 49
digit_in versions.Two = 50
digit_in versions.Three = 51

abbrev pub other_digit : Option ℕ → ℕ → Option ℕ
other_digit None new = Some new
other_digit (Some old) new = if old == new then None else Some new

-- the new digit of a description's version; none if the version stays
abbrev pub new_digit : Change → FormatLanguage → Option ℕ
new_digit (Mended fixes) dialect = None
new_digit (Least version) dialect = other_digit (digit_of dialect) (digit_in version)
new_digit Normal dialect = other_digit (digit_of dialect) (digit_in versions.Three)
