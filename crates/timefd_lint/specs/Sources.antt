-- What a run reports about a source of Rust, or a file with keys.
use Rattle.std.specs.Prelude.{◌≡◌, ◌⊎◌, Bool, true, false, not, ◌&&◌, ◌||◌, ◌==◌, if◌then◌else◌, is_some, length, None, Some, List, [], ◌∷◌, ◌++◌, codes, nat_eq, Option, All, IfSome, IsFalse, IsTrue, IsUtf8}
use Rattle.std.specs.List.{ends_with}
use Rattle.std.specs.Io.KnownBytes.{Appends}
use denote.Ref.{Bor}
use Rattle.timefd_parse.specs.Tree.{Text}
use Rattle.timefd_lint_options.specs.declared.wording.LineLanguage.{LineLanguage}
use Rattle.timefd_lint_scan.specs.declared.description.SourceDescription.{SourceDescription}
use Rattle.timefd_lint_scan.specs.declared.keys.format.FileFormat.{FileFormat}
use Rattle.timefd_lint_scan.specs.Keys.Formats.{format_named}
use Rattle.timefd_lint_sources.specs.declared.remark.Remark.{Remark}
use Rattle.timefd_lint_sources.specs.declared.source.Report.{Report}
use Rattle.timefd_lint_sources.specs.Remarks.{end_of, message_of}
use Rattle.timefd_lint_sources.specs.declared.reported.ItemEnd.{ItemEnd}
use Rattle.timefd_lint_sources.specs.declared.reported.ItemEnd.TheVariants as sources
use Rattle.timefd_lint_sources.specs.declared.reported.Finder.{Finder}
use Rattle.timefd_lint_sources.specs.declared.reported.Finder.TheVariants.{Rust, Keys}
use Rattle.timefd_lint_sources.specs.declared.reported.SourceText.{SourceText}
use Rattle.timefd_lint_sources.specs.declared.reported.Reporting.{Reporting}
use Rattle.timefd_lint_sources.specs.Allowances.Found.{AreAllowances}
use Rattle.timefd_lint_sources.specs.Judged.{text_of}
use Rattle.timefd_lint_sources.specs.Reported.{AreSeen, IsJudgedFound, IsSourceReported}
use Rattle.timefd_lint_sources.specs.Whole.{no_text_note, origin_of}
use Rattle.timefd_lint_sources.specs.Reported as literal
use Rattle.timefd_lint.specs.declared.line.TextEnd.{TextEnd}
use Rattle.timefd_lint.specs.declared.line.TextEnd.TheVariants.{PassedOver, Accepted, Converted, Refused, NotText, Allowed, Failed, UnreadCall, UnreadValue, WrongComment}
use Rattle.timefd_lint.specs.declared.options.RunOptions.{RunOptions}
use Rattle.timefd_lint.specs.declared.tally.LintTally.{LintTally}
use Rattle.timefd_lint.specs.Reported.{IsReadUp, IsRun, IsReportOn, SaysUnread, Reported, both, messages, position, tally_of, tally_of_one}

-- whether a file with this name is read as a source of Rust
abbrev pub is_rust : RunOptions → Text → Bool
is_rust options name = options.is_source || ends_with nat_eq name (codes ".rs")

-- whether a file with this name is read for keys
abbrev pub has_keys : RunOptions → Text → Bool
has_keys options name = is_some (format_named name) && not (length options.keys.now == 0)

-- whether a file with this name is read as a source
abbrev pub is_source : RunOptions → Text → Bool
is_source options name = is_rust options name || has_keys options name

abbrev pub finder_by : RunOptions → Option FileFormat → Finder
finder_by options None = Rust options.calls
finder_by options (Some format) = Keys format options.keys

-- how the descriptions are found in a file with this name
abbrev pub finder_of : RunOptions → Text → Finder
finder_of options name = if is_rust options name then Rust options.calls else finder_by options (format_named name)

-- whether one of these files is read as a source; without files, whether the input is
abbrev pub any_source : RunOptions → List (Bor Text) → Bool
any_source options [] = options.is_source
any_source options (name ∷ names) = is_source options name.now || any_source options names

-- how the check of a description in a source ended, in the terms of one in a line
abbrev pub text_end : ItemEnd → TextEnd
text_end sources.PassedOver = PassedOver
text_end (sources.Accepted found) = Accepted found
text_end (sources.Converted traps) = Converted traps
text_end sources.Refused = Refused
text_end sources.NotText = NotText
text_end (sources.Allowed left) = Allowed left
text_end sources.UnreadCall = UnreadCall
text_end sources.UnreadValue = UnreadValue
text_end sources.WrongComment = WrongComment

-- the tally of these ends, added to an earlier tally
abbrev pub tally_from : LintTally → List ItemEnd → LintTally
tally_from found [] = found
tally_from found (e ∷ ends) = tally_from (both found (tally_of_one (text_end e))) ends

abbrev pub tally_of_ends : List ItemEnd → LintTally
tally_of_ends ends = tally_from (tally_of []) ends

-- The report on the descriptions of a source, in their order, is written, and nothing else.
abbrev pub IsReported : Finder → Reporting → Text → Text → Option Text → Option Text → LintTally → Type 0
IsReported finder reporting name bytes before after tally =
    (s : SourceText) × (s.file.now ≡ name) × (s.finder ≡ finder) × (s.text.now ≡ bytes)
    × AreAllowances s.finder s.text.now s.allowances.now
    × ((r : Report) × IsSourceReported reporting s r
    × Appends before after r.message.items × (tally ≡ tally_of_ends r.ends.items))

-- The note that a source isn't UTF-8 is written, and nothing else.
abbrev pub IsNotText : Reporting → Text → Option Text → Option Text → LintTally → Type 0
IsNotText reporting name before after tally = (file : Bor Text) × (file.now ≡ name)
    × Appends before after (no_text_note reporting.style (position file 1)) × (tally ≡ tally_of_one NotText)

abbrev pub IsSaid : Finder → Reporting → Text → Text → Option Text → Option Text → LintTally → Type 0
IsSaid finder reporting name bytes before after tally =
    (IsUtf8 bytes × IsReported finder reporting name bytes before after tally)
    ⊎ ((¬ IsUtf8 bytes) × IsNotText reporting name before after tally)

-- For a source that can't be read, since the reader has failed, the note on why is written.
abbrev pub IsUnread : Reporting → Text → Bool → Option Text → Option Text → LintTally → Type 0
IsUnread reporting name has_failed before after tally = (file : Bor Text) × (file.now ≡ name)
    × IsTrue has_failed × SaysUnread reporting.style file before after × (tally ≡ tally_of_one Failed)

-- All bytes of a reader are the source, unless they can't be read.
abbrev pub IsRunOfSource : Finder → Reporting → Text → Option Text → Option Text → Bool → Option Text
    → Option Text → LintTally → Type 0
IsRunOfSource finder reporting name bytes rest has_failed before after tally =
    ((source : Text) × IfSome bytes (λ all. source ≡ all) × IsReadUp bytes rest
    × IsSaid finder reporting name source before after tally)
    ⊎ IsUnread reporting name has_failed before after tally

-- The report is about a description in a source, in the line where it begins.
pub record IsOfLiteral (reporting : Reporting) (t : Reported) : Type 0 where
  pub source : SourceText
  pub description : SourceDescription
  pub came : ItemEnd
  pub stands : IsJudgedFound source description
  pub allowed : AreAllowances source.finder source.text.now source.allowances.now
  pub reported : literal.IsReported reporting source description came t.message
  pub line : t.line ≡ text_of description
  pub origin : t.origin ≡ origin_of source description
  pub unmarked : IsFalse t.is_marked
  pub end : t.end ≡ text_end came

-- The report is about a source that isn't UTF-8.
pub record IsOfNoText (reporting : Reporting) (t : Reported) : Type 0 where
  pub no_text : ¬ IsUtf8 t.line
  pub unmarked : IsFalse t.is_marked
  pub end : t.end ≡ NotText
  pub message : t.message ≡ no_text_note reporting.style t.origin

-- The report is about something in a source besides its descriptions: a call, a value, or a comment.
pub record IsOfRemark (reporting : Reporting) (t : Reported) : Type 0 where
  pub source : SourceText
  pub found : List SourceDescription
  pub remarks : List Remark
  pub seen : AreSeen source found remarks
  pub allowed : AreAllowances source.finder source.text.now source.allowances.now
  pub front : List Remark
  pub remark : Remark
  pub rest : List Remark
  pub is : remarks ≡ front ++ remark ∷ rest
  pub unmarked : IsFalse t.is_marked
  pub end : t.end ≡ text_end (end_of remark)
  pub message : t.message ≡ message_of reporting.style source remark

-- The report is about a text, a literal of a source, a source that isn't UTF-8, or something else in a
-- source.
abbrev pub IsReportedOfAny : Bool → LineLanguage → Option (Bor Text) → Reporting → Reported → Type 0
IsReportedOfAny is_whole language comment reporting t =
    IsReportOn is_whole language comment reporting t
    ⊎ (IsOfLiteral reporting t ⊎ (IsOfNoText reporting t ⊎ IsOfRemark reporting t))

-- The result of a run, like `IsRun`, that also reads sources.
pub record IsRunOfAny (is_whole : Bool) (language : LineLanguage) (comment : Option (Bor Text))
    (reporting : Reporting) (before after : Option Text) (tally : LintTally) : Type 0 where
  pub reported : List Reported
  pub each : All (IsReportedOfAny is_whole language comment reporting) reported
  pub found : tally ≡ tally_of reported
  pub written : Appends before after (messages reported)

-- The result of a run that reads sources, or of one that doesn't.
abbrev pub IsRunWith : Bool → Bool → LineLanguage → Option (Bor Text) → Reporting → Option Text → Option Text
    → LintTally → Type 0
IsRunWith true is_whole language comment reporting before after tally =
    IsRunOfAny is_whole language comment reporting before after tally
IsRunWith false is_whole language comment reporting before after tally =
    IsRun is_whole language comment reporting before after tally
