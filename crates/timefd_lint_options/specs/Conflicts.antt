-- Settings that conflict, with each other or with the names of files.
use Rattle.std.specs.Prelude.{Bool, true, false, ◌&&◌, ◌||◌, ◌==◌, not, Option, Some, None, is_some, if◌then◌else◌}
use Rattle.timefd_lint_drawing.specs.Forms.{is_drawn, is_log}
use Rattle.timefd_parse.specs.DescriptionVersion.{DescriptionVersion}
use Rattle.timefd_parse.specs.DescriptionVersion.TheVariants.{One, Two, Three}
use Rattle.timefd_parse.specs.LanguageType.{Language}
use Rattle.timefd_parse.specs.LanguageType.TheVariants as languages
use Rattle.timefd_lint_options.specs.declared.error.Conflict.{Conflict}
use Rattle.timefd_lint_options.specs.declared.error.Conflict.TheVariants.{ServesFiles, ServesAlone, ExplainUndrawn, LogRewritten, WriteWithoutVersion, PartialWithoutWrite, UnsafeWithoutFix, FixesRewritten, FixesWhole, FixesNoFile, FixesInput, NormalOfAnother, NoConversion, ExplainsOther, FixesOther, RewritesWarned, RewritesWhole, RewritesNoFile, RewritesInput}
use Rattle.timefd_lint_options.specs.declared.names.NamedFiles.{NamedFiles}
use Rattle.timefd_lint_options.specs.declared.settings.RunSettings.{RunSettings}
use Rattle.timefd_lint_options.specs.declared.wording.LineLanguage.{LineLanguage}
use Rattle.timefd_lint_options.specs.declared.wording.LineLanguage.TheVariants.{Own, Other}
use Rattle.timefd_lint_options.specs.Settings.{target}

-- from version 1 to 2 or 3, and from each other language to 3
abbrev pub is_rewritten : Language → DescriptionVersion → Bool
is_rewritten (languages.Version One) One = false
is_rewritten (languages.Version One) Two = true
is_rewritten (languages.Version One) Three = true
is_rewritten (languages.Version Two) One = false
is_rewritten (languages.Version Two) Two = false
is_rewritten (languages.Version Two) Three = true
is_rewritten (languages.Version Three) One = false
is_rewritten (languages.Version Three) Two = false
is_rewritten (languages.Version Three) Three = false
is_rewritten languages.Strftime One = false
is_rewritten languages.Strftime Two = false
is_rewritten languages.Strftime Three = true

abbrev pub is_three : DescriptionVersion → Bool
is_three One = false
is_three Two = false
is_three Three = true

abbrev pub rewriting_conflict : RunSettings → DescriptionVersion → NamedFiles → Option Conflict
rewriting_conflict s version names =
    if s.is_normal && not (is_three version) then Some NormalOfAnother
    else if s.warns then Some RewritesWarned
    else if s.is_whole then Some RewritesWhole
    else if names.count == 0 then Some RewritesNoFile
    else if names.has_input then Some RewritesInput
    else None

abbrev pub conversion_conflict : Language → DescriptionVersion → Option Conflict
conversion_conflict language version = if is_rewritten language version then None else Some NoConversion

abbrev pub lines_conflict_by : Option DescriptionVersion → Bool → Language → Option Conflict
lines_conflict_by None is_normal language = None
lines_conflict_by (Some version) is_normal language =
    if is_normal then None else conversion_conflict language version

-- why lines in a language of `time` can't be rewritten: no conversion exists from their language to the version
abbrev pub own_conflict : RunSettings → Language → Option Conflict
own_conflict s language = lines_conflict_by (target s) s.is_normal language

-- Formats of other languages are rewritten in version 3 alone, and not in its normal form.
abbrev pub other_target : Option DescriptionVersion → Bool → Option Conflict
other_target None is_normal = None
other_target (Some version) is_normal =
    if is_normal || not (is_three version) then Some NoConversion else None

-- what can't be done with formats of other languages
abbrev pub other_conflict : RunSettings → Option Conflict
other_conflict s =
    if s.explains then Some ExplainsOther
    else if s.fixes then Some FixesOther
    else other_target (target s) s.is_normal

abbrev pub lines_conflict_in : LineLanguage → RunSettings → Option Conflict
lines_conflict_in (Own language) s = own_conflict s language
lines_conflict_in (Other dialect) s = other_conflict s

-- why lines can't be looked at or rewritten as the options ask
abbrev pub lines_conflict : RunSettings → Option Conflict
lines_conflict s = lines_conflict_in s.language s

abbrev pub fixing_conflict : RunSettings → NamedFiles → Option Conflict
fixing_conflict s names =
    if is_some (target s) then Some FixesRewritten
    else if s.is_whole then Some FixesWhole
    else if names.count == 0 then Some FixesNoFile
    else if names.has_input then Some FixesInput
    else None

abbrev pub version_conflict : RunSettings → NamedFiles → Option DescriptionVersion → Option Conflict
version_conflict s names (Some version) = rewriting_conflict s version names
version_conflict s names None = if s.writes then Some WriteWithoutVersion else None

-- whether the settings say how files are checked
abbrev pub looks_at_files : RunSettings → Bool
looks_at_files s =
    s.is_whole || s.is_source || s.explains || is_some s.comment || not (is_drawn s.format)

-- whether the settings say how files are rewritten
abbrev pub rewrites : RunSettings → Bool
rewrites s = s.fixes || s.is_unsafe || s.writes || s.is_partial || is_some (target s)

-- An editor is served alone: no file is named, checked or rewritten.
abbrev pub serving_conflict : RunSettings → NamedFiles → Option Conflict
serving_conflict s names =
    if not (names.count == 0) then Some ServesFiles
    else if looks_at_files s || rewrites s then Some ServesAlone
    else None

abbrev pub conflict : RunSettings → NamedFiles → Option Conflict
conflict s names =
    if s.serves then serving_conflict s names
    else if s.explains && not (is_drawn s.format) then Some ExplainUndrawn
    else if s.is_partial && not s.writes then Some PartialWithoutWrite
    else if s.is_unsafe && not s.fixes then Some UnsafeWithoutFix
    else if is_log s.format && (s.fixes || is_some (target s)) then Some LogRewritten
    else if s.fixes then fixing_conflict s names
    else version_conflict s names (target s)
