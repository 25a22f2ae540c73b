-- Which outcome a description of a source has.
use Rattle.std.specs.Prelude.{◌≡◌, Bool, true, false, List, Option, Some, None, IsUtf8, IsTrue, IsFalse}
use Rattle.timefd_parse.specs.Tree.{Text, Tree}
use Rattle.timefd_lang_dialect.specs.declared.dialect.Dialect as other
use Rattle.timefd_lang_dialect.specs.declared.dialect.Dialect.TheVariants as others
use Rattle.timefd_parse.specs.Faults.{Fault}
use Rattle.timefd_language.specs.Grammar.{nesting_limit}
use Rattle.timefd_language.specs.declared.description_version.DescriptionVersion.TheVariants as versions
use Rattle.timefd_language.specs.declared.description_version.Language.{Language}
use Rattle.timefd_language.specs.declared.description_version.Language.TheVariants as languages
use Rattle.timefd_parse.specs.Language.{SpellsIn, FaultIn}
use Rattle.timefd_lint_scan.specs.declared.description.SourceDescription.{SourceDescription}
use Rattle.timefd_lint_scan.specs.declared.dialect.FormatLanguage.{FormatLanguage}
use Rattle.timefd_lint_scan.specs.declared.dialect.FormatLanguage.TheVariants.{One, Two, Three, Strftime, Python, C, Gnu, Chrono, Jiff, Ruby, Java, Go, Moment}
use Rattle.timefd_lint_scan.specs.Chrono.{is_of_chrono, is_of_jiff}
use Rattle.timefd_lang_warnings.specs.declared.levels.Level.TheVariants as level
use Rattle.timefd_lang_warnings.specs.declared.levels.Levels.{Levels}
use Rattle.timefd_lang_warnings.specs.Levels.{all_at}
use Rattle.timefd_lint_warnings.specs.Found.{found_in}
use Rattle.timefd_lint_sources.specs.declared.reported.ItemEnd.{ItemEnd}
use Rattle.timefd_lint_sources.specs.declared.reported.ItemEnd.TheVariants.{PassedOver, Accepted, Converted, Refused, NotText, Allowed, UnreadCall, UnreadValue, WrongComment}

-- the other language or library whose formats these are; none if they are of `time`
abbrev pub other_of : FormatLanguage → Option other.Dialect
other_of One = None
other_of Two = None
other_of Three = None
other_of Strftime = None
other_of Python = Some others.Python
other_of C = Some others.C
other_of Gnu = Some others.Gnu
other_of Chrono = Some others.Chrono
other_of Jiff = Some others.Jiff
other_of Ruby = Some others.Ruby
other_of Java = Some others.Java
other_of Go = Some others.Go
other_of Moment = Some others.Moment

-- The language of `time`. What chrono and jiff have in common with it is strftime; for all other formats that aren't of
-- `time` it has no meaning.
abbrev pub language_of : FormatLanguage → Language
language_of One = languages.Version versions.One
language_of Two = languages.Version versions.Two
language_of Three = languages.Version versions.Three
language_of Strftime = languages.Strftime
language_of Python = languages.Strftime
language_of C = languages.Strftime
language_of Gnu = languages.Strftime
language_of Chrono = languages.Strftime
language_of Jiff = languages.Strftime
language_of Ruby = languages.Strftime
language_of Java = languages.Strftime
language_of Go = languages.Strftime
language_of Moment = languages.Strftime

-- Whether an editor doesn't explain a text, and whether it isn't mended: one of another language or library, unless it is
-- of chrono or jiff and has no directive that only these know.
abbrev pub is_passed_over : FormatLanguage → Text → Bool
is_passed_over One text = false
is_passed_over Two text = false
is_passed_over Three text = false
is_passed_over Strftime text = false
is_passed_over Chrono text = is_of_chrono text
is_passed_over Jiff text = is_of_jiff text
is_passed_over Python text = true
is_passed_over C text = true
is_passed_over Gnu text = true
is_passed_over Ruby text = true
is_passed_over Java text = true
is_passed_over Go text = true
is_passed_over Moment text = true

-- what the literal of a description denotes
abbrev pub text_of : SourceDescription → Text
text_of d = d.unescaped.text.items

abbrev pub language_in : SourceDescription → Language
language_in d = language_of d.dialect

-- These levels if warnings are asked for; with `None` every warning is allowed.
abbrev pub found_by : Option Levels → Language → List Tree → Levels
found_by None language list = all_at level.Allowed
found_by (Some levels) language list = found_in language levels list

-- A text is accepted if it spells a list, with the warnings of that list; refused if it has a fault;
-- and otherwise it isn't UTF-8.
abbrev pub IsJudged : Option Levels → Language → Text → ItemEnd → Type 0
IsJudged levels language text PassedOver = ⊥
IsJudged levels language text (Accepted found) = IsUtf8 text
    × ((list : List Tree) × SpellsIn language nesting_limit text list
    × (found ≡ found_by levels language list))
IsJudged levels language text (Converted count) = ⊥
IsJudged levels language text Refused = IsUtf8 text
    × ((f : Fault) × FaultIn language nesting_limit text f)
IsJudged levels language text NotText = ¬ IsUtf8 text
IsJudged levels language text (Allowed left) = ⊥
IsJudged levels language text UnreadCall = ⊥
IsJudged levels language text UnreadValue = ⊥
IsJudged levels language text WrongComment = ⊥

-- The outcome of a description: it is passed over, or else judged by its text.
abbrev pub IsEndOf : Option Levels → SourceDescription → ItemEnd → Type 0
IsEndOf levels d PassedOver = IsTrue (is_passed_over d.dialect (text_of d))
IsEndOf levels d (Accepted found) = IsFalse (is_passed_over d.dialect (text_of d))
    × IsJudged levels (language_in d) (text_of d) (Accepted found)
IsEndOf levels d (Converted count) = ⊥
IsEndOf levels d Refused = IsFalse (is_passed_over d.dialect (text_of d))
    × IsJudged levels (language_in d) (text_of d) Refused
IsEndOf levels d NotText = IsFalse (is_passed_over d.dialect (text_of d))
    × IsJudged levels (language_in d) (text_of d) NotText
IsEndOf levels d (Allowed left) = ⊥
IsEndOf levels d UnreadCall = ⊥
IsEndOf levels d UnreadValue = ⊥
IsEndOf levels d WrongComment = ⊥
