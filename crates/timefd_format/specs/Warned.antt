-- The warnings that are reported about descriptions.
use Rattle.std.specs.Prelude.{◌≡◌, Bool, true, false, List, [], ◌++◌, codes, Option, Some, None}
use denote.Ref.{Bor}
use Rattle.timefd_lang_component.specs.Tree.{Text, Tree}
use Rattle.timefd_lint_drawing.specs.declared.form.Format.{Format}
use Rattle.timefd_lint_drawing.specs.declared.position.Origin.{Origin}
use Rattle.timefd_lint_warnings.specs.Found.{output_parts, style_of}
use Rattle.timefd_lint_warnings.specs.Messages.{messages}
use Rattle.timefd_parse.specs.LanguageType.{Language}
use Rattle.timefd_parse.specs.declared.parsing.BorrowedOutput.{BorrowedOutput}
use Rattle.timefd_lang_warnings.specs.declared.levels.Level.{Level}
use Rattle.timefd_lang_warnings.specs.declared.levels.Level.TheVariants.{Allowed, Warned}
use Rattle.timefd_lang_warnings.specs.declared.levels.Levels.{Levels}
use Rattle.timefd_lang_warnings.specs.declared.warned.LanguageStyle.{LanguageStyle}
use Rattle.timefd_lang_warnings.specs.declared.warning.Warning.TheVariants.{NoComponent, OtherLanguage}
use Rattle.timefd_lang_warnings.specs.Levels.{all_at, with_level}
use Rattle.timefd_lang_warnings.specs.Warns.{warns}
use Rattle.timefd_format.specs.declared.language.Languages.{Languages}
use Rattle.timefd_format.specs.declared.report.MessageFate.{MessageFate}
use Rattle.timefd_format.specs.declared.source.MomentSource.{MomentSource}
use Rattle.timefd_format.specs.declared.source.SourceKind.{SourceKind}
use Rattle.timefd_format.specs.declared.source.SourceKind.TheVariants.{Names, Texts}
use Rattle.timefd_format.specs.declared.warned.Texts as reported_texts
use Rattle.timefd_format.specs.declared.warned.Warned as reported
use Rattle.timefd_format.specs.Reports.{ReachesPeople}

-- how components are written in the language
abbrev pub spelling_of : Language → LanguageStyle
spelling_of language = style_of language

abbrev pub level_if : Bool → Level
level_if true = Warned
level_if false = Allowed

-- Two warnings, each if the parts call for it: that there is no component, and that another language reads
-- one in a literal. All others are allowed.
abbrev pub warned_in : LanguageStyle → List Tree → Levels
warned_in style ts =
    with_level (with_level (all_at Allowed) NoComponent (level_if (warns style NoComponent ts))) OtherLanguage
    (level_if (warns style OtherLanguage ts))

-- the warnings about a description of the language
abbrev pub warned_of : Language → BorrowedOutput → Levels
warned_of language o = warned_in (style_of language) (output_parts o)

-- no warnings if there is no description
abbrev pub warned_of_kind : Language → SourceKind → Levels
warned_of_kind language (Names now) = all_at Allowed
warned_of_kind language (Texts o) = warned_of language o

abbrev pub warned_of_source : Language → MomentSource → Levels
warned_of_source language source = warned_of_kind language source.kind

-- Each description gets the warnings of its own language and parts, unless they are left out.
abbrev pub warned_by : Bool → Languages → MomentSource → BorrowedOutput → reported.Warned
warned_by true languages source o = record { read = all_at Allowed; written = all_at Allowed }
warned_by false languages source o = record {
  read = warned_of_source languages.read source;
  written = warned_of languages.written o;
}

-- the text of the description to read by; empty if there is none, which has no warnings either
abbrev pub read_text : Option (Bor Text) → Text
read_text None = []
read_text (Some text) = text.now

-- The linter's messages about both, in order.
abbrev pub warned_text : Bool → Origin → Origin → reported_texts.Texts → reported.Warned → Text
warned_text colored read written texts w =
    messages (record { format = Format.Human; is_colored = colored }) read (read_text texts.read) w.read
    ++ messages (record { format = Format.Human; is_colored = colored }) written texts.written.now w.written

-- what messages call a description
abbrev pub IsNamed : Text → Origin → Type 0
IsNamed name origin = (origin.file.now ≡ name) × (origin.line ≡ 1)

-- People see them, unless the stream has failed.
abbrev pub ReportsWarnings : Bool → reported_texts.Texts → reported.Warned → Option Text → Option Text → Bool
    → MessageFate → Type 0
ReportsWarnings colored texts warned before after failed r =
    (read : Origin) × (written : Origin) × IsNamed (codes "<read>") read × IsNamed (codes "<description>") written
    × ReachesPeople colored (warned_text colored read written texts warned) before after failed r
