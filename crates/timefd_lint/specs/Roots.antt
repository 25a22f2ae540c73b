-- The settings by which an editor is served.
use Rattle.std.specs.Prelude.{ℕ, ◌≡◌, ◌⊎◌, ◌++◌, Bool, List, Option, Some, None, Result, Ok, Err, IsUtf8, String, codes, string_bytes, if◌then◌else◌, ⊤}
use Rattle.std.specs.declared.alloc.Global.{Global}
use Rattle.std.specs.declared.io.ErrorKind.{ErrorKind}
use Rattle.timefd_parse.specs.Tree.{Text}
use Rattle.timefd_lint_lsp.specs.declared.server.Server.{Server}
use Rattle.timefd_lint_lsp.specs.declared.server.EditorSettings as editors
use Rattle.timefd_lint_lsp.specs.declared.session.SessionEnd.{SessionEnd}
use Rattle.timefd_lint_lsp.specs.declared.session.SessionEnd.TheVariants.{Done, Left, InputEnded, Cut, NoFrame, Unread, Unwritten}
use Rattle.timefd_lint_lsp.specs.declared.session.SessionEnd.TheVariants as ends
use Rattle.timefd_lint_lsp.specs.Documents.{NoneOpen}
use Rattle.timefd_lint_lsp.specs.Servers.{first}
use Rattle.timefd_lint_lsp.specs.Sessions.{At, IsGreeted, IsServedFrom, at}
use Rattle.timefd_lint_lsp.specs.Uris as uris
use Rattle.timefd_lint_options.specs.declared.settings.RunSettings.{RunSettings}
use Rattle.timefd_lint_options.specs.Config.Config as configs
use Rattle.timefd_lint_options.specs.Config.Levels.{Levels}
use Rattle.timefd_lint_options.specs.Config.Over.{with_levels}
use Rattle.timefd_lint_scan.specs.declared.keys.key.DescriptionKey.{DescriptionKey}
use Rattle.timefd_lint_scan.specs.Keys.Keys.{named_all}
use Rattle.timefd_lint.specs.declared.config.ConfigFailure.{ConfigFailure}
use Rattle.timefd_lint.specs.declared.config.ConfigFailure.TheVariants.{Memory, Wrong}
use Rattle.timefd_lint.specs.declared.config.Project.{Project}
use Rattle.timefd_lint.specs.Counted.{counted_keys, counted_levels}
use Rattle.timefd_lint.specs.Projects.{IsProjectFor}
use Rattle.timefd_lint.specs.Rewriting.{rewriting_of}
use Rattle.timefd_lint.specs.Statuses.{IsToldIf, IsUnsetStatus}
use Rattle.timefd_lint.specs.Unusable.{IsUnset, unset_status}

-- A path that isn't UTF-8 is none.
abbrev pub IsTextOf : Option Text → Option (String Global) → Type 0
IsTextOf None path = path ≡ None
IsTextOf (Some bytes) None = ¬ IsUtf8 bytes
IsTextOf (Some bytes) (Some path) = string_bytes path ≡ bytes

-- the path that a URI names
abbrev pub IsPathOf : Text → Option (String Global) → Type 0
IsPathOf uri path = IsTextOf (uris.path_of uri) path

abbrev pub IsRootPath : Option (String Global) → Option (String Global) → Type 0
IsRootPath None path = path ≡ None
IsRootPath (Some uri) path = IsPathOf (string_bytes uri) path

-- the name from which the file of settings is sought: the working directory, as for the standard input, without a path
abbrev pub name_of : Option (String Global) → Text
name_of (Some path) = string_bytes path
name_of None = codes "-"

-- What the file of settings says that is found from the folder that an editor has open.
abbrev pub IsRootProject : (Text → Text → Type 0) → (Text → ErrorKind → Type 0) → (Text → Bool → Type 0) → Text
    → Option (String Global) → Project → Type 0
IsRootProject holds fails folders here root project = (path : Option (String Global)) × IsRootPath root path
    × IsProjectFor holds fails folders here (name_of path) project

-- The file of settings that is sought from that folder can't be read, or the one that is found can't be used.
abbrev pub IsRootUnset : (Text → Text → Type 0) → (Text → ErrorKind → Type 0) → (Text → Bool → Type 0) → Text
    → Option (String Global) → ConfigFailure → Type 0
IsRootUnset holds fails folders here root Memory = ⊤
IsRootUnset holds fails folders here root (Wrong sentence) = (path : Option (String Global)) × IsRootPath root path
    × IsUnset holds fails folders here (name_of path) (Wrong sentence)

abbrev pub levels_of : RunSettings → Option Levels
levels_of settings = if settings.warns then Some settings.levels else None

-- An editor that has a folder open is served by the keys and levels of the command line, and those of that file after them, and by
-- the calls of that file.
pub record IsServedBy (holds : Text → Text → Type 0) (fails : Text → ErrorKind → Type 0) (folders : Text → Bool → Type 0)
    (settings : RunSettings) (keys : List DescriptionKey) (here : Text) (server : Server)
    (left written left_then written_then : Option Text) (end : SessionEnd) : Type 0 where
  pub project : Project
  pub found : IsRootProject holds fails folders here server.root project
  pub served : editors.EditorSettings
  pub keys_are : named_all served.keys.now ≡ named_all keys
      ++ configs.named_all (counted_keys (rewriting_of settings) project.config.keys.items)
  pub calls_are : served.calls.now ≡ project.config.calls.items
  pub levels_are : served.levels
      ≡ levels_of (with_levels settings (counted_levels (rewriting_of settings) project.config.levels))
  pub session : IsServedFrom served server left written left_then written_then end

-- A server that hasn't taken a message yet.
pub record IsNew (server : Server) : Type 0 where
  pub phase : server.phase ≡ first
  pub root : server.root ≡ None
  pub documents : NoneOpen server.documents

-- The session ends before the editor has sent `initialize`.
pub record IsEndedEarly (start : Server) (left written left_then written_then : Option Text) (end : SessionEnd) : Type 0 where
  pub served : editors.EditorSettings
  pub last : Server
  pub greeted : IsGreeted served (at left written start) (at left_then written_then last) (Some end)

-- The editor has sent `initialize`, and the session goes on from there.
pub record IsMet (start : Server) (left written : Option Text) (met : At) : Type 0 where
  pub served : editors.EditorSettings
  pub greeted : IsGreeted served (at left written start) met None

-- A session from its first byte on: the settings are those of the folder that `initialize` names.
abbrev pub IsSession : (Text → Text → Type 0) → (Text → ErrorKind → Type 0) → (Text → Bool → Type 0) → RunSettings
    → List DescriptionKey → Text → Option Text → Option Text → Option Text → Option Text → SessionEnd → Type 0
IsSession holds fails folders settings keys here left written left_then written_then end =
    (start : Server) × IsNew start × (IsEndedEarly start left written left_then written_then end
    ⊎ ((met : At) × IsMet start left written met
    × IsServedBy holds fails folders settings keys here met.server met.input met.output left_then written_then end))

-- The settings for the folder that `initialize` names can't be had. Nothing is read or written after that.
abbrev pub IsSessionUnset : (Text → Text → Type 0) → (Text → ErrorKind → Type 0) → (Text → Bool → Type 0) → Text
    → Option Text → Option Text → Option Text → Option Text → ConfigFailure → Type 0
IsSessionUnset holds fails folders here left written left_then written_then failure = (start : Server) × IsNew start
    × ((known : Server) × IsMet start left written (at left_then written_then known)
    × IsRootUnset holds fails folders here known.root failure)

-- the status of a session that ends so
abbrev pub end_status : SessionEnd → ℕ
end_status Done = 0
end_status Left = 1
end_status InputEnded = 1
end_status Cut = 1
end_status NoFrame = 1
end_status Unread = 4
end_status Unwritten = 4
end_status ends.Memory = 3

-- the status of a session by its answer: how it ends, or why it has no settings
abbrev pub session_status : Result SessionEnd ConfigFailure → ℕ
session_status (Ok end) = end_status end
session_status (Err failure) = unset_status failure

-- Some session has this status.
abbrev pub IsSessionStatus : ℕ → Type 0
IsSessionStatus status = (answer : Result SessionEnd ConfigFailure) × (status ≡ session_status answer)

-- what is reported of a session that ends so: nothing, if the editor asked for the end
abbrev pub sentence_on : SessionEnd → Option Text
sentence_on Done = None
sentence_on Left = None
sentence_on InputEnded = Some (codes "the standard input ended, and no `exit` was sent")
sentence_on Cut = Some (codes "the standard input ended within a message")
sentence_on NoFrame = Some (codes "what came isn't a message: it has no header `Content-Length`, or more than 4096 bytes of headers")
sentence_on Unread = Some (codes "the standard input can't be read")
sentence_on Unwritten = Some (codes "the standard output can't be written")
sentence_on ends.Memory = Some (codes "memory ran out")

-- The answer of a session is reported with its status.
abbrev pub IsAnswerTold : Result SessionEnd ConfigFailure → Option Text → Option Text → Bool → ℕ → Type 0
IsAnswerTold (Ok end) before after has_failed status = IsToldIf (sentence_on end) before after has_failed
IsAnswerTold (Err failure) before after has_failed status = IsUnsetStatus failure before after has_failed status
