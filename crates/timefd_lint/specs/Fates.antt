-- What becomes of a file that may be rewritten.
use Rattle.std.specs.Prelude.{◌≡◌, ◌⊎◌, ◌==◌, Bool, true, false, ◌&&◌, not, nat_eq, nat_lt, if◌then◌else◌, length, Option, Some, None, [], IsFalse, IsTrue, string_bytes}
use Rattle.std.specs.Io.KnownBytes.{Appends}
use denote.Ref.{Bor}
use Rattle.timefd_parse.specs.Tree.{Text}
use Rattle.timefd_lint_rewrite.specs.Diffs.{WritesDiff}
use Rattle.timefd_lint_rewrite.specs.Rewriting.{AreRewritten}
use Rattle.timefd_lint_rewrite.specs.declared.counts.Counts.{Counts}
use Rattle.timefd_lint_rewrite.specs.declared.line_change.LineChange.{LineChange}
use Rattle.timefd_lint.specs.declared.fix.FixError.{FixError}
use Rattle.timefd_lint.specs.declared.fix.FixError.TheVariants.{Memory, Failed}
use Rattle.timefd_lint.specs.declared.found.FoundInFile.{FoundInFile}
use Rattle.timefd_lint.specs.declared.line.TextEnd.TheVariants as ends
use Rattle.timefd_lint.specs.declared.options.RunOptions.{RunOptions}
use Rattle.timefd_lint.specs.declared.output.Audience.{Audience}
use Rattle.timefd_lint.specs.declared.rewriting.Rewriting.{Rewriting}
use Rattle.timefd_lint.specs.declared.fate.Fate.{Fate}
use Rattle.timefd_lint.specs.declared.fate.Fate.TheVariants.{Same, LeftOut, Replaced, Shown}
use Rattle.timefd_lint.specs.declared.tally.LintTally.{LintTally}
use Rattle.timefd_lint.specs.Failures.{note_of}
use Rattle.timefd_lint.specs.Limited.{AreNotesFor}
use Rattle.timefd_lint.specs.Outputs.{without_colors}
use Rattle.timefd_lint.specs.Reported.{IsRunOver, both, tally_of, tally_of_one}
use Rattle.timefd_lint.specs.Rewritten.{IsFileNoted, IsFileRewritten}
use Rattle.timefd_lint.specs.Sources.{IsRunOfSource, finder_of, is_source}

-- A file stays the same if nothing in it is rewritten. It is left out if some of it is refused, unless a part may
-- be rewritten. Else it is replaced, or the changes are shown.
abbrev pub fate_of : Rewriting → Counts → Fate
fate_of rewriting counts = if nat_eq counts.rewritten 0 then Same
    else if nat_lt 0 counts.refused && not rewriting.is_partial then LeftOut
    else if rewriting.writes then Replaced else Shown

-- This and the diff of two texts are written, with what people see of it.
abbrev pub ShowsDiff : Audience → Text → Text → Text → Text → Option Text → Option Text → Type 0
ShowsDiff audience head file old new before after = (diff : Text)
    × WritesDiff file old new (Some head) (Some diff) × Appends before after (without_colors audience diff)

-- What is found in a source, or in the lines of a file. Its messages are written. The bytes are in memory, so no read
-- of them fails.
abbrev pub IsFoundInSource : RunOptions → Rewriting → Text → Text → Option Text → Option Text → FoundInFile → Type 0
IsFoundInSource options rewriting name old before after found = (rest : Option Text)
    × IsRunOfSource (finder_of options name) options.reporting name (Some old) rest false before after found.tally
    × IsFileRewritten rewriting.sources (finder_of options name) old found.counts found.bytes.items
    × IsFileNoted rewriting.sources (finder_of options name) name old (string_bytes found.manual)
    (string_bytes found.limits)

abbrev pub IsFoundInLines : RunOptions → LineChange → Text → Text → Option Text → Option Text → FoundInFile → Type 0
IsFoundInLines options change name old before after found = (rest : Option Text)
    × IsRunOver options.language options.comment options.reporting name (Some old) rest false before after found.tally
    × IsFalse found.tally.failed
    × AreRewritten change options.comment (Some old) (Some []) (Some found.bytes.items) found.counts
    × (string_bytes found.manual ≡ []) × AreNotesFor change options.comment name old (string_bytes found.limits)

-- Lines are looked at if there is a change for them.
abbrev pub IsFoundByChange : RunOptions → Option LineChange → Text → Text → Option Text → Option Text → Option FoundInFile
    → Type 0
IsFoundByChange options (Some change) name old before after (Some found) =
    IsFoundInLines options change name old before after found
IsFoundByChange options (Some change) name old before after None = ⊥
IsFoundByChange options None name old before after (Some found) = ⊥
IsFoundByChange options None name old before after None = after ≡ before

abbrev pub IsFoundAs : Bool → RunOptions → Rewriting → Text → Text → Option Text → Option Text → Option FoundInFile
    → Type 0
IsFoundAs true options rewriting name old before after (Some found) =
    IsFoundInSource options rewriting name old before after found
IsFoundAs true options rewriting name old before after None = ⊥
IsFoundAs false options rewriting name old before after found =
    IsFoundByChange options rewriting.lines name old before after found

-- What is found in a file with these bytes: the name decides whether it is a source.
abbrev pub IsFoundIn : RunOptions → Rewriting → Text → Text → Option Text → Option Text → Option FoundInFile → Type 0
IsFoundIn options rewriting name old before after found =
    IsFoundAs (is_source options name) options rewriting name old before after found

-- The message reaches people, unless their stream has failed by then.
abbrev pub Reports : Option Text → Option Text → Bool → Text → Type 0
Reports before after has_failed message = Appends before after message ⊎ IsTrue has_failed

-- descriptions are left that have to be changed manually
abbrev pub left_in : FoundInFile → LintTally
left_in found = record {
  descriptions = 0;
  refused = 0;
  warnings = 0;
  unread_calls = 0;
  unread_values = 0;
  wrong_comments = 0;
  allowed = 0;
  not_text = false;
  failed = false;
  is_left = not (length (string_bytes found.manual) == 0);
}

abbrev pub tally_in : FoundInFile → LintTally
tally_in found = both found.tally (left_in found)

-- The note on why a file can't be read or replaced is written, and nothing else.
abbrev pub IsNoted : RunOptions → Bor Text → FixError → Option Text → Option Text → LintTally → Type 0
IsNoted options name Memory before after tally = ⊥
IsNoted options name (Failed failure) before after tally =
    Appends before after (note_of options.reporting.style name failure) × (tally ≡ tally_of_one ends.Failed)
