-- The parts of a run: files that have the settings of one file.
use Rattle.std.specs.Prelude.{ℕ, ◌≡◌, ◌==◌, ◌+◌, ◌-◌, ◌^◌, ◌&&◌, ◌||◌, codes, is_some, min, nat_eq, Bool, true, false, not, if◌then◌else◌, List, [], ◌∷◌, ◌++◌, Option, Some, None, is_none, length, map, string_bytes, ⊤}
use denote.Ref.{Bor}
use Rattle.std.specs.List.{ends_with, list_all}
use Rattle.std.specs.declared.io.ErrorKind.{ErrorKind}
use Rattle.timefd_parse.specs.Tree.{Text}
use Rattle.timefd_lint_diagnosis.specs.Words.{texts}
use Rattle.timefd_lint_files.specs.declared.entry.FolderEntry.{FolderEntry}
use Rattle.timefd_lint_files.specs.declared.start.Excluded.{Excluded}
use Rattle.timefd_lint_files.specs.declared.walk_error.WalkError.{WalkError}
use Rattle.timefd_lint_files.specs.Errors.{IsBelowAny, IsWalkError, OneOf}
use Rattle.timefd_lint_files.specs.Walks.{AreExpanded, IsKept, IsWalkBut}
use Rattle.timefd_lint_options.specs.declared.settings.RunSettings.{RunSettings}
use Rattle.timefd_lint_options.specs.Config.Config as configs
use Rattle.timefd_lint_options.specs.Config.Over.{with_levels}
use Rattle.timefd_lint_scan.specs.declared.keys.key.DescriptionKey.{DescriptionKey}
use Rattle.timefd_lint_scan.specs.Keys.Formats.{format_named}
use Rattle.timefd_lint_scan.specs.Keys.Keys.{named_all}
use Rattle.timefd_lint.specs.declared.config.Project.{Project}
use Rattle.timefd_lint.specs.declared.options.RunOptions.{RunOptions}
use Rattle.timefd_lint.specs.declared.parts.RunPart.{RunPart}
use Rattle.timefd_lint.specs.declared.projects.Named.{Named}
use Rattle.timefd_lint.specs.declared.tally.LintTally.{LintTally}
use Rattle.timefd_lint.specs.Counted.{counted_keys, counted_levels, endings}
use Rattle.timefd_lint.specs.Reported.{both, tally_of}
use Rattle.timefd_lint.specs.Rewriting.{rewriting_of}
use Rattle.timefd_lint.specs.Sources.{IsRunWith, any_source}

-- What a file of settings excludes.
pub record IsExcludedBy (project : Project) (excluded : Excluded) : Type 0 where
  pub patterns : excluded.patterns.now ≡ string_bytes project.config.exclude
  pub folder : excluded.folder.now ≡ string_bytes project.folder
  pub front : excluded.front.now ≡ project.front.items

-- The files that names lead to, except what is excluded.
pub record AreFilesOf (lists : Text → List FolderEntry → Type 0) (holds : Text → Text → Type 0) (folders : Text → Bool → Type 0)
    (settings : RunSettings) (keys : List DescriptionKey) (named : Named) (files : List Text) : Type 0 where
  pub ends : List (Bor Text)
  pub sought : texts ends ≡ endings settings keys
  pub excluded : Excluded
  pub but : IsExcludedBy named.project excluded
  pub expanded : AreExpanded (IsWalkBut ends excluded lists holds) (IsKept excluded) folders named.names.now files

-- The keys and levels of the command line come first, then those of the names' file of settings, which also names the calls.
pub record IsPartOf (lists : Text → List FolderEntry → Type 0) (holds : Text → Text → Type 0) (folders : Text → Bool → Type 0)
    (settings : RunSettings) (keys : List DescriptionKey) (named : Named) (part : RunPart) : Type 0 where
  pub settings_are : part.settings
      ≡ with_levels settings (counted_levels (rewriting_of settings) named.project.config.levels)
  pub keys_are : named_all part.keys.items ≡ named_all keys
      ++ configs.named_all (counted_keys (rewriting_of settings) named.project.config.keys.items)
  pub calls_are : part.calls.now ≡ named.project.config.calls.items
  pub input : part.reads_input ≡ (length named.names.now == 0)
  pub files_are : AreFilesOf lists holds folders settings part.keys.items named (map string_bytes part.files.items)

-- a part for the names of each file of settings
abbrev pub ArePartsOf : (Text → List FolderEntry → Type 0) → (Text → Text → Type 0) → (Text → Bool → Type 0) → RunSettings
    → List DescriptionKey → List Named → List RunPart → Type 0
ArePartsOf lists holds folders settings keys [] [] = ⊤
ArePartsOf lists holds folders settings keys [] (part ∷ parts) = ⊥
ArePartsOf lists holds folders settings keys (named ∷ all) [] = ⊥
ArePartsOf lists holds folders settings keys (named ∷ all) (part ∷ parts) =
    IsPartOf lists holds folders settings keys named part × ArePartsOf lists holds folders settings keys all parts

-- A folder that names lead to, or what is below it, can't be read or is too deep.
abbrev pub IsUnwalked : (Text → ErrorKind → Type 0) → Named → WalkError → Type 0
IsUnwalked fails named error = IsWalkError fails (IsBelowAny named.names.now) 255 error

-- the same for the names of one of these files of settings
abbrev pub IsOneUnwalked : (Text → ErrorKind → Type 0) → List Named → WalkError → Type 0
IsOneUnwalked fails all error = OneOf (λ named. IsUnwalked fails named error) all

-- The options of a run have these settings, keys, calls and files.
pub record AreOptions (is_colored : Bool) (part : RunPart) (files : List (Bor Text)) (options : RunOptions) : Type 0 where
  pub language : options.language ≡ part.settings.language
  pub format : options.reporting.style.format ≡ part.settings.format
  pub color : options.reporting.style.is_colored ≡ is_colored
  pub comment : options.comment ≡ part.settings.comment
  pub whole : options.is_whole ≡ part.settings.is_whole
  pub source : options.is_source ≡ part.settings.is_source
  pub explains : options.reporting.explains ≡ part.settings.explains
  pub levels : options.reporting.levels ≡ (if part.settings.warns then Some part.settings.levels else None)
  pub allows : options.reporting.allows ≡ is_none (rewriting_of part.settings)
  pub keys : options.keys.now ≡ part.keys.items
  pub calls : options.calls.now ≡ part.calls.now
  pub same_files : options.files.now ≡ files

-- No file is named, and the input isn't read.
abbrev pub is_empty : RunPart → Bool
is_empty part = (length part.files.items == 0) && not part.reads_input

-- The input is one file.
abbrev pub file_count_of : RunPart → ℕ
file_count_of part = if part.reads_input then 1 else length part.files.items

abbrev pub count_from : ℕ → List RunPart → ℕ
count_from count [] = count
count_from count (part ∷ parts) = count_from (min (count + file_count_of part) (2 ^ 64 - 1)) parts

-- how many files the parts have, or the largest number
abbrev pub file_count : List RunPart → ℕ
file_count parts = count_from 0 parts

-- whether a file with this name is read as a source, by the settings and keys of a part
abbrev pub is_source_in : RunPart → Text → Bool
is_source_in part name = (part.settings.is_source || ends_with nat_eq name (codes ".rs"))
    || (is_some (format_named name) && not (length part.keys.items == 0))

-- Whether something is read line by line, or as a whole text: the input, or a file that is no source.
abbrev pub has_lines : RunPart → Bool
has_lines part =
    if part.reads_input then not part.settings.is_source
    else not (list_all (λ name. is_source_in part (string_bytes name)) part.files.items)

-- The files of a part are reported by its settings.
pub record IsReportedBy (is_colored : Bool) (part : RunPart) (before after : Option Text) (tally : LintTally) : Type 0 where
  pub files : List (Bor Text)
  pub spelled : texts files ≡ map string_bytes part.files.items
  pub options : RunOptions
  pub by : AreOptions is_colored part files options
  pub reported : IsRunWith (any_source options options.files.now) options.is_whole options.language options.comment
      options.reporting before after tally

abbrev pub IsRunOfPartIf : Bool → Bool → RunPart → Option Text → Option Text → LintTally → Type 0
IsRunOfPartIf true is_colored part before after tally = (after ≡ before) × (tally ≡ tally_of [])
IsRunOfPartIf false is_colored part before after tally = IsReportedBy is_colored part before after tally

-- Nothing is reported of a part without files.
abbrev pub IsRunOfPart : Bool → RunPart → Option Text → Option Text → LintTally → Type 0
IsRunOfPart is_colored part before after tally =
    IsRunOfPartIf (is_empty part) is_colored part before after tally

-- The first part, then the others.
abbrev pub AreRunFrom : Bool → List RunPart → LintTally → Option Text → Option Text → LintTally → Type 0
AreRunFrom is_colored [] found before after tally = (after ≡ before) × (tally ≡ found)
AreRunFrom is_colored (part ∷ parts) found before after tally = (one : LintTally) × (between : Option Text)
    × IsRunOfPart is_colored part before between one
    × AreRunFrom is_colored parts (both found one) between after tally

-- The files of the parts are reported, one part after another, each by its own settings and keys.
abbrev pub AreRun : Bool → List RunPart → Option Text → Option Text → LintTally → Type 0
AreRun is_colored parts before after tally = AreRunFrom is_colored parts (tally_of []) before after tally

-- the names of the files of all parts
abbrev pub all_files : List RunPart → List Text
all_files [] = []
all_files (part ∷ parts) = map string_bytes part.files.items ++ all_files parts
