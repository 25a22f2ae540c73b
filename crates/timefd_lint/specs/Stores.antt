-- Named files that are rewritten, one after another.
use Rattle.std.specs.Prelude.{◌≡◌, ◌⊎◌, ◌++◌, Bool, true, false, List, [], ◌∷◌, Option, Some, None, string_bytes}
use Rattle.std.specs.Option.{option_to_list}
use denote.Ref.{Bor}
use Rattle.timefd_parse.specs.Tree.{Text}
use Rattle.timefd_lint_drawing.specs.Shown.{safe}
use Rattle.timefd_lint.specs.declared.fix.FixError.{FixError}
use Rattle.timefd_lint.specs.declared.found.FoundInFile.{FoundInFile}
use Rattle.timefd_lint.specs.declared.identity.Identity.{Identity}
use Rattle.timefd_lint.specs.declared.options.RunOptions.{RunOptions}
use Rattle.timefd_lint.specs.declared.output.Audience.{Audience}
use Rattle.timefd_lint.specs.declared.rewriting.Rewriting.{Rewriting}
use Rattle.timefd_lint.specs.declared.fate.Fate.{Fate}
use Rattle.timefd_lint.specs.declared.fate.Fate.TheVariants.{Same, LeftOut, Replaced, Shown}
use Rattle.timefd_lint.specs.declared.tally.LintTally.{LintTally}
use Rattle.timefd_lint.specs.Fates.{IsFoundIn, IsNoted, ShowsDiff, Reports, fate_of, tally_in}
use Rattle.timefd_lint.specs.Identities.{is_met}
use Rattle.timefd_lint.specs.Releases.{end_of, head_of}
use Rattle.timefd_lint.specs.Reported.{both, tally_of}
use Rattle.timefd_lint.specs.Rewriting.{left_out, rewrote}

-- How far a run has come: the files, what was reported to people, whether that failed, and what is written.
pub record Stage (S : Type 0) : Type 0 where
  pub store : S
  pub messages : Option Text
  pub has_failed : Bool
  pub written : Option Text

abbrev pub stage : {S : Type 0} → S → Option Text → Bool → Option Text → Stage S
stage files said failed output =
    record { store = files; messages = said; has_failed = failed; written = output }

-- A message is reported to people, and nothing else happens.
pub record IsReportedTo {S : Type 0} (a b : Stage S) (message : Text) : Type 0 where
  pub store : b.store ≡ a.store
  pub messages : Reports a.messages b.messages b.has_failed message
  pub written : b.written ≡ a.written

-- Nothing but reports is written, and no file is replaced.
pub record OnlyReports {S : Type 0} (a b : Stage S) : Type 0 where
  pub store : b.store ≡ a.store
  pub messages : b.messages ≡ a.messages
  pub has_failed : b.has_failed ≡ a.has_failed

-- A file is replaced by just the bytes that are found for it, and that is reported to people, with this end.
pub record IsWrittenBack {S : Type 0} (replaces : S → Text → Text → S → Type 0) (name : Text) (file end : Text)
    (found : FoundInFile) (a b : Stage S) (tally : LintTally) : Type 0 where
  pub replaced : replaces a.store name found.bytes.items b.store
  pub messages : Reports a.messages b.messages b.has_failed (rewrote file found.unit found.counts end)
  pub written : b.written ≡ a.written
  pub counted : tally ≡ tally_in found

-- A file can't be replaced, and the note on why is written.
pub record IsRefused {S : Type 0} (refuses : S → Text → Text → FixError → S → Type 0) (options : RunOptions)
    (name : Bor Text) (found : FoundInFile) (a b : Stage S) (tally : LintTally) : Type 0 where
  pub error : FixError
  pub one : LintTally
  pub refused : refuses a.store name.now found.bytes.items error b.store
  pub noted : IsNoted options name error a.written b.written one
  pub messages : b.messages ≡ a.messages
  pub has_failed : b.has_failed ≡ a.has_failed
  pub counted : tally ≡ both (tally_in found) one

abbrev pub IsReplaced : {S : Type 0} → (S → Text → Text → S → Type 0) → (S → Text → Text → FixError → S → Type 0)
    → RunOptions → Bor Text → Text → Text → FoundInFile → Stage S → Stage S → LintTally → Type 0
IsReplaced replaces refuses options name file end found a b tally =
    IsWrittenBack replaces name.now file end found a b tally ⊎ IsRefused refuses options name found a b tally

-- What becomes of a file in which this is found.
abbrev pub IsSettled : {S : Type 0} → (S → Text → Text → S → Type 0) → (S → Text → Text → FixError → S → Type 0)
    → RunOptions → Rewriting → Audience → Bor Text → Text → FoundInFile → Fate → Stage S → Stage S → LintTally → Type 0
IsSettled replaces refuses options rewriting audience name old found Same a b tally =
    (b ≡ a) × (tally ≡ tally_in found)
IsSettled replaces refuses options rewriting audience name old found LeftOut a b tally =
    IsReportedTo a b (left_out rewriting.writes (safe name.now) found.unit found.counts) × (tally ≡ tally_in found)
IsSettled replaces refuses options rewriting audience name old found Replaced a b tally =
    IsReplaced replaces refuses options name (safe name.now) (end_of options rewriting name.now) found a b tally
IsSettled replaces refuses options rewriting audience name old found Shown a b tally = OnlyReports a b
    × ShowsDiff audience (head_of options rewriting name.now) (safe name.now) old found.bytes.items a.written b.written
    × (tally ≡ tally_in found)

-- What is found in a file with these bytes is reported, then the notes on it, and then it is settled.
pub record IsFoundDone {S : Type 0} (replaces : S → Text → Text → S → Type 0)
    (refuses : S → Text → Text → FixError → S → Type 0) (options : RunOptions) (rewriting : Rewriting)
    (audience : Audience) (name : Bor Text) (old : Text) (a b : Stage S) (tally : LintTally) : Type 0 where
  pub found : FoundInFile
  pub reported : Stage S
  pub half : Stage S
  pub noted : Stage S
  pub reports : OnlyReports a reported
  pub is : IsFoundIn options rewriting name.now old a.written reported.written (Some found)
  pub manual_notes : IsReportedTo reported half (string_bytes found.manual)
  pub limit_notes : IsReportedTo half noted (string_bytes found.limits)
  pub settled : IsSettled replaces refuses options rewriting audience name old found
      (fate_of rewriting found.counts) noted b tally

-- Nothing is found in lines that no conversion is for.
pub record IsFoundNothing {S : Type 0} (options : RunOptions) (rewriting : Rewriting) (name old : Text) (a b : Stage S)
    (tally : LintTally) : Type 0 where
  pub reports : OnlyReports a b
  pub is : IsFoundIn options rewriting name old a.written b.written None
  pub counted : tally ≡ tally_of []

-- What becomes of a file with these bytes.
abbrev pub IsReadDone : {S : Type 0} → (S → Text → Text → S → Type 0) → (S → Text → Text → FixError → S → Type 0)
    → RunOptions → Rewriting → Audience → Bor Text → Text → Stage S → Stage S → LintTally → Type 0
IsReadDone replaces refuses options rewriting audience name old a b tally =
    IsFoundDone replaces refuses options rewriting audience name old a b tally
    ⊎ IsFoundNothing options rewriting name.now old a b tally

-- A file can't be read, and the note on why is written.
pub record IsUnread {S : Type 0} (fails : S → Text → FixError → Type 0) (options : RunOptions) (name : Bor Text)
    (a b : Stage S) (tally : LintTally) : Type 0 where
  pub error : FixError
  pub failed : fails a.store name.now error
  pub reports : OnlyReports a b
  pub noted : IsNoted options name error a.written b.written tally

-- What becomes of a named file: it is read once.
abbrev pub IsFileDone : {S : Type 0} → (S → Text → Text → Type 0) → (S → Text → FixError → Type 0)
    → (S → Text → Text → S → Type 0) → (S → Text → Text → FixError → S → Type 0)
    → RunOptions → Rewriting → Audience → Bor Text → Stage S → Stage S → LintTally → Type 0
IsFileDone holds fails replaces refuses options rewriting audience name a b tally =
    ((old : Text) × holds a.store name.now old
    × IsReadDone replaces refuses options rewriting audience name old a b tally)
    ⊎ IsUnread fails options name a b tally

-- A file that was met under another name isn't taken again. Writing back creates another file with the same name.
abbrev pub IsTakenOnce : {S : Type 0} → Bool → (S → Text → Option Identity → Type 0)
    → (Bor Text → Stage S → Stage S → LintTally → Type 0) → Bor Text → Option Identity → List Identity → List Identity
    → Stage S → Stage S → LintTally → Type 0
IsTakenOnce true leads one name identity met met' a b tally = (met' ≡ met) × (b ≡ a) × (tally ≡ tally_of [])
IsTakenOnce false leads one name identity met met' a b tally = one name a b tally
    × ((later : Option Identity) × leads b.store name.now later
    × (met' ≡ met ++ option_to_list identity ++ option_to_list later))

abbrev pub IsNameDone : {S : Type 0} → (S → Text → Option Identity → Type 0)
    → (Bor Text → Stage S → Stage S → LintTally → Type 0) → Bor Text → List Identity → List Identity
    → Stage S → Stage S → LintTally → Type 0
IsNameDone leads one name met met' a b tally = (identity : Option Identity) × leads a.store name.now identity
    × IsTakenOnce (is_met met identity) leads one name identity met met' a b tally

-- The first name, then the others.
abbrev pub AreRewritten : {S : Type 0} → (S → Text → Option Identity → Type 0)
    → (Bor Text → Stage S → Stage S → LintTally → Type 0) → List (Bor Text) → List Identity → LintTally
    → Stage S → Stage S → LintTally → Type 0
AreRewritten leads one [] met found a b tally = (b ≡ a) × (tally ≡ found)
AreRewritten {S} leads one (name ∷ names) met found a b tally = (middle : Stage S) × (met' : List Identity)
    × (this : LintTally) × IsNameDone leads one name met met' a middle this
    × AreRewritten leads one names met' (both found this) middle b tally
