-- What each option sets.
use Rattle.std.specs.Prelude.{Bool, true, false, ◌||◌, Option, Some, None, is_some, option_map, Result, Ok, Err, if◌then◌else◌}
use denote.Ref.{Bor}
use Rattle.timefd_parse.specs.Tree.{Text}
use Rattle.timefd_lint_drawing.specs.declared.form.Format.TheVariants as formats
use Rattle.timefd_lint_drawing.specs.Forms as forms
use Rattle.timefd_parse.specs.DescriptionVersion.{DescriptionVersion}
use Rattle.timefd_parse.specs.DescriptionVersion.TheVariants.{One, Two, Three}
use Rattle.timefd_parse.specs.Grammar.{is_empty}
use Rattle.timefd_parse.specs.LanguageType as languages_of
use Rattle.timefd_parse.specs.LanguageType.TheVariants as languages
use Rattle.timefd_lint_options.specs.declared.error.OptionError.{OptionError}
use Rattle.timefd_lint_options.specs.declared.error.OptionError.TheVariants.{NotAKey, NotAValue}
use Rattle.timefd_lint_options.specs.declared.settings.Color.TheVariants as colors
use Rattle.timefd_lint_options.specs.declared.settings.RunSettings.{RunSettings}
use Rattle.timefd_lint_options.specs.declared.wording.LineLanguage.{LineLanguage}
use Rattle.timefd_lint_options.specs.declared.wording.LineLanguage.TheVariants as wordings
use Rattle.timefd_lint_options.specs.declared.word.Flag.{Flag}
use Rattle.timefd_lint_options.specs.declared.word.Flag.TheVariants.{Whole, Source, Explain, Normal, Fix, Unsafe, Write, Partial, Warn, Lsp, Quiet}
use Rattle.timefd_lint_options.specs.declared.word.Valued.{Valued}
use Rattle.timefd_lint_options.specs.declared.word.Valued.TheVariants.{Language, Format, Color, Comment, Key, To, Deny, Allow}
use Rattle.timefd_lint_options.specs.Values.{wording_named, color_named, version_named}
use Rattle.timefd_lint_scan.specs.declared.keys.key.KeyFault.{KeyFault}
use Rattle.timefd_lint_scan.specs.Keys.Keys.{key_fault}
use Rattle.timefd_lang_warnings.specs.declared.levels.Level.{Level}
use Rattle.timefd_lang_warnings.specs.declared.levels.Level.TheVariants.{Allowed, Warned, Denied}
use Rattle.timefd_lang_warnings.specs.Codes as warnings
use Rattle.timefd_lang_warnings.specs.Levels.{all_at, with_level}

abbrev pub initial : RunSettings
initial = record {
  language = wordings.Own (languages.Version Three);
  format = formats.Human;
  color = colors.Auto;
  comment = None;
  is_whole = false;
  is_source = false;
  explains = false;
  to = None;
  is_normal = false;
  fixes = false;
  is_unsafe = false;
  writes = false;
  is_partial = false;
  warns = false;
  levels = all_at Warned;
  serves = false;
  is_quiet = false;
}

abbrev pub is_chosen_language : languages_of.Language → Bool
is_chosen_language (languages.Version One) = true
is_chosen_language (languages.Version Two) = true
is_chosen_language (languages.Version Three) = false
is_chosen_language languages.Strftime = true

-- whether a wording is another than without an option
abbrev pub is_chosen : LineLanguage → Bool
is_chosen (wordings.Own language) = is_chosen_language language
is_chosen (wordings.Other dialect) = true

-- whether the settings are about lines or a whole text, which may be read from the standard input
abbrev pub reads_lines : RunSettings → Bool
reads_lines s = is_some s.comment || (s.is_whole || (s.is_source || (s.serves || is_chosen s.language)))

abbrev pub target_by : Option DescriptionVersion → Bool → Option DescriptionVersion
target_by (Some version) is_normal = Some version
target_by None is_normal = if is_normal then Some Three else None

-- the version that descriptions are rewritten in: version 3 if only the normal form is asked for
abbrev pub target : RunSettings → Option DescriptionVersion
target s = target_by s.to s.is_normal

abbrev pub with_flag : RunSettings → Flag → RunSettings
with_flag s Whole = record s { is_whole = true }
with_flag s Source = record s { is_source = true }
with_flag s Explain = record s { explains = true }
with_flag s Normal = record s { is_normal = true }
with_flag s Fix = record s { fixes = true }
with_flag s Unsafe = record s { is_unsafe = true }
with_flag s Write = record s { writes = true }
with_flag s Partial = record s { is_partial = true }
with_flag s Warn = record s { warns = true }
with_flag s Lsp = record s { serves = true }
with_flag s Quiet = record s { is_quiet = true }

abbrev pub with_language : RunSettings → Text → Option RunSettings
with_language s word = option_map (λ l. record s { language = l }) (wording_named word)

abbrev pub with_format : RunSettings → Text → Option RunSettings
with_format s word = option_map (λ f. record s { format = f }) (forms.named word)

abbrev pub with_color : RunSettings → Text → Option RunSettings
with_color s word = option_map (λ c. record s { color = c }) (color_named word)

-- An empty mark isn't taken.
abbrev pub with_comment : RunSettings → Bor Text → Option RunSettings
with_comment s word = if is_empty word.now then None else Some (record s { comment = Some word })

abbrev pub keyed_by : RunSettings → Option KeyFault → Option RunSettings
keyed_by s None = Some s
keyed_by s (Some fault) = None

abbrev pub with_key : RunSettings → Text → Option RunSettings
with_key s word = keyed_by s (key_fault word)

abbrev pub with_version : RunSettings → Text → Option RunSettings
with_version s word = option_map (λ v. record s { to = Some v }) (version_named word)

-- Setting the level of one warning also turns on the reports of all others.
abbrev pub with_warning : RunSettings → Text → Level → Option RunSettings
with_warning s word level =
    option_map (λ w. record s { warns = true; levels = with_level s.levels w level })
    (warnings.named word)

abbrev pub set : RunSettings → Valued → Bor Text → Option RunSettings
set s Language word = with_language s word.now
set s Format word = with_format s word.now
set s Color word = with_color s word.now
set s Comment word = with_comment s word
set s Key word = with_key s word.now
set s To word = with_version s word.now
set s Deny word = with_warning s word.now Denied
set s Allow word = with_warning s word.now Allowed

abbrev pub or_error : OptionError → Option RunSettings → Result RunSettings OptionError
or_error e (Some s) = Ok s
or_error e None = Err e

abbrev pub key_refused_by : Option KeyFault → Bor Text → OptionError
key_refused_by (Some fault) word = NotAKey fault word
key_refused_by None word = NotAValue Key word

abbrev pub key_refused : Bor Text → OptionError
key_refused word = key_refused_by (key_fault word.now) word

-- why an option doesn't take a word
abbrev pub refused : Valued → Bor Text → OptionError
refused Language word = NotAValue Language word
refused Format word = NotAValue Format word
refused Color word = NotAValue Color word
refused Comment word = NotAValue Comment word
refused Key word = key_refused word
refused To word = NotAValue To word
refused Deny word = NotAValue Deny word
refused Allow word = NotAValue Allow word

abbrev pub with_value : RunSettings → Valued → Bor Text → Result RunSettings OptionError
with_value s option word = or_error (refused option word) (set s option word)
