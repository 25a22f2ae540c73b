-- How files are rewritten, and what is reported about it.
use Rattle.std.specs.Prelude.{ℕ, Bool, true, false, ◌++◌, codes, Option, Some, None, if◌then◌else◌}
use Rattle.std.specs.Fmt.{decimal}
use Rattle.timefd_parse.specs.Tree.{Text}
use Rattle.timefd_lang_convert.specs.declared.conversion.Conversion.{Conversion}
use Rattle.timefd_lang_convert.specs.Conversions.{conversion_between}
use Rattle.timefd_lang_dialect.specs.declared.dialect.Dialect.{Dialect}
use Rattle.timefd_parse.specs.DescriptionVersion.{DescriptionVersion}
use Rattle.timefd_parse.specs.DescriptionVersion.TheVariants.{One, Two, Three}
use Rattle.timefd_parse.specs.LanguageType.{Language}
use Rattle.timefd_parse.specs.LanguageType.TheVariants.{Version}
use Rattle.timefd_lint_rewrite.specs.declared.counts.Counts.{Counts}
use Rattle.timefd_lint_rewrite.specs.declared.layout.Layout.TheVariants as layouts
use Rattle.timefd_lint_rewrite.specs.declared.line_change.LineChange.{LineChange}
use Rattle.timefd_lint_rewrite.specs.declared.line_change.LineChange.TheVariants as line_changes
use Rattle.timefd_lint_rewrite.specs.declared.cure.Fixes.{Fixes}
use Rattle.timefd_lint_rewrite.specs.declared.cure.Fixes.TheVariants.{All, Sure}
use Rattle.timefd_lint_sources.specs.declared.rewriting.change.Change.{Change}
use Rattle.timefd_lint_sources.specs.declared.rewriting.change.Change.TheVariants as changes
use Rattle.timefd_lint_options.specs.declared.settings.RunSettings.{RunSettings}
use Rattle.timefd_lint_options.specs.Settings.{target}
use Rattle.timefd_lint_options.specs.declared.wording.LineLanguage.{LineLanguage}
use Rattle.timefd_lint_options.specs.declared.wording.LineLanguage.TheVariants.{Own, Other}
use Rattle.timefd_lint_options.specs.Values.{language_of}
use Rattle.timefd_lint.specs.declared.found.CountedUnit.{CountedUnit}
use Rattle.timefd_lint.specs.declared.found.CountedUnit.TheVariants.{Line, Description}
use Rattle.timefd_lint.specs.declared.rewriting.Rewriting.{Rewriting}
use Rattle.timefd_lint.specs.Summaries.{descriptions}
use Rattle.timefd_lint.specs.Summaries as summaries

-- Which fixes may be made.
abbrev pub fixes_of : RunSettings → Fixes
fixes_of s = if s.is_unsafe then All else Sure

abbrev pub change_by : Bool → Option Conversion → Option LineChange
change_by is_normal None = None
change_by true (Some conversion) = Some (line_changes.Own (layouts.Normal conversion))
change_by false (Some conversion) = Some (line_changes.Own (layouts.Least conversion))

abbrev pub own_change : Bool → Language → DescriptionVersion → Option LineChange
own_change is_normal language version =
    change_by is_normal (conversion_between language (Version version))

-- Formats of other languages become texts of version 3.
abbrev pub other_change : Dialect → DescriptionVersion → Option LineChange
other_change dialect One = None
other_change dialect Two = None
other_change dialect Three = Some (line_changes.Other dialect)

abbrev pub change_from : Bool → LineLanguage → DescriptionVersion → Option LineChange
change_from is_normal (Own language) version = own_change is_normal language version
change_from is_normal (Other dialect) version = other_change dialect version

-- How lines are changed to a version; not at all if no conversion leads there.
abbrev pub lines_to : RunSettings → DescriptionVersion → Option LineChange
lines_to s version = change_from s.is_normal s.language version

-- How lines are mended; not at all if their language isn't one of `time`.
abbrev pub mended : Option Language → Fixes → Option LineChange
mended (Some language) fixes = Some (line_changes.Own (layouts.Fixed language fixes))
mended None fixes = None

abbrev pub change_to : RunSettings → DescriptionVersion → Change
change_to s version = if s.is_normal then changes.Normal else changes.Least version

abbrev pub mending : RunSettings → Rewriting
mending s = record {
  lines = mended (language_of s.language) (fixes_of s);
  sources = changes.Mended (fixes_of s);
  writes = s.writes;
  is_partial = s.is_partial;
}

abbrev pub converting : RunSettings → DescriptionVersion → Rewriting
converting s version = record {
  lines = lines_to s version;
  sources = change_to s version;
  writes = s.writes;
  is_partial = s.is_partial;
}

abbrev pub converting_to : RunSettings → Option DescriptionVersion → Option Rewriting
converting_to s None = None
converting_to s (Some version) = Some (converting s version)

-- How files are rewritten, if they are.
abbrev pub rewriting_of : RunSettings → Option Rewriting
rewriting_of s = if s.fixes then Some (mending s) else converting_to s (target s)

abbrev pub noun : CountedUnit → ℕ → Text
noun Line n = summaries.noun n (codes "line") (codes "lines")
noun Description n = descriptions n

abbrev pub be : ℕ → Text
be n = summaries.noun n (codes "is") (codes "are")

-- as `2 of 3 lines`
abbrev pub part : ℕ → CountedUnit → ℕ → Text
part n unit lines = decimal n ++ (codes " of " ++ (decimal lines ++ (codes " " ++ noun unit lines)))

-- a file that is left out, as some of it is refused
abbrev pub left_out : Bool → Text → CountedUnit → Counts → Text
left_out true file unit counts =
    codes "not rewritten " ++ (file ++ (codes ": " ++ (part counts.refused unit counts.lines
    ++ (codes " " ++ (be counts.refused ++ codes " refused; --partial rewrites the others\n")))))
left_out false file unit counts =
    codes "no diff of " ++ (file ++ (codes ": " ++ (part counts.refused unit counts.lines
    ++ (codes " " ++ (be counts.refused ++ codes " refused; --write --partial rewrites the others\n")))))

-- a file that was written back, and the end of that report
abbrev pub rewrote : Text → CountedUnit → Counts → Text → Text
rewrote file unit counts end =
    codes "rewrote " ++ (file ++ (codes ": " ++ (part counts.rewritten unit counts.lines ++ (end ++ codes "\n"))))
