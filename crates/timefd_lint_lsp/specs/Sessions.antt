-- A session with an editor.
use Rattle.std.specs.Prelude.{◌≡◌, ◌≢◌, ◌⊎◌, ℕ, ◌-◌, ◌^◌, List, [], ◌∷◌, ◌++◌, Option, Some, None, length}
use Rattle.std.specs.Io.KnownBytes.{Appends}
use Rattle.serde_json.specs.Written.{compact_text}
use Rattle.timefd_lint_lsp.specs.Documents.{AreAfter, NoneOpen}
use Rattle.timefd_lint_lsp.specs.Frames.{framed, IsFrame}
use Rattle.timefd_lint_lsp.specs.Messages.{IsMessageOf}
use Rattle.timefd_lint_lsp.specs.Servers.{IsStep, first, phase_after, root_after, unanswered}
use Rattle.timefd_lint_lsp.specs.Texts.{reply_data}
use Rattle.timefd_lint_lsp.specs.declared.frame.MessageFrame.{MessageFrame}
use Rattle.timefd_lint_lsp.specs.declared.frame.MessageFrame.TheVariants as got
use Rattle.timefd_lint_lsp.specs.declared.message.Message.{Message}
use Rattle.timefd_lint_lsp.specs.declared.reply.RequestRefusal.TheVariants as refusals
use Rattle.timefd_lint_lsp.specs.declared.reply.ServerMessage.{ServerMessage}
use Rattle.timefd_lint_lsp.specs.declared.session.SessionEnd.{SessionEnd}
use Rattle.timefd_lint_lsp.specs.declared.session.SessionEnd.TheVariants.{Done, Left, InputEnded, Cut, NoFrame, Unread, Unwritten, Memory}
use Rattle.timefd_lint_lsp.specs.declared.server.Phase.{Phase}
use Rattle.timefd_lint_lsp.specs.declared.server.Phase.TheVariants.{New, Running, ShutDown}
use Rattle.timefd_lint_lsp.specs.declared.server.Server.{Server}
use Rattle.timefd_lint_lsp.specs.declared.server.EditorSettings.{EditorSettings}
use Rattle.timefd_lint_lsp.specs.declared.server.SessionStep.{SessionStep}
use Rattle.timefd_lint_lsp.specs.declared.server.SessionStep.TheVariants.{Silent, Say, Exit}

-- how a session ends at `exit`
abbrev pub exit : Phase → SessionEnd
exit New = Left
exit Running = Left
exit ShutDown = Done

-- the frames of some contents, one after another
abbrev pub frames : List (List ℕ) → List ℕ
frames [] = []
frames (content ∷ contents) = framed content ++ frames contents

-- The bytes that are written are whole frames.
pub record WritesFrames (old new : Option (List ℕ)) : Type 0 where
  pub written : List (List ℕ)
  pub appended : Appends old new (frames written)

-- The session writes whole frames, unless a write failed.
abbrev pub IsSession : Option (List ℕ) → Option (List ℕ) → SessionEnd → Type 0
IsSession old new Done = WritesFrames old new
IsSession old new Left = WritesFrames old new
IsSession old new InputEnded = WritesFrames old new
IsSession old new Cut = WritesFrames old new
IsSession old new NoFrame = WritesFrames old new
IsSession old new Unread = WritesFrames old new
IsSession old new Unwritten = Unit {0}
IsSession old new Memory = WritesFrames old new

abbrev pub IsTurn : Option (List ℕ) → Option (List ℕ) → Option SessionEnd → Type 0
IsTurn old new None = WritesFrames old new
IsTurn old new (Some end) = IsSession old new end

-- A content leads to the step of its message, and changes the server as the message says.
abbrev pub IsStepOn : EditorSettings → Server → Server → List ℕ → SessionStep → Type 0
IsStepOn settings before after content step = (message : Message) × IsMessageOf message content
    × IsStep settings before.phase before.documents message step
    × (after.phase ≡ phase_after before.phase message)
    × (after.root ≡ root_after before.phase message before.root)
    × AreAfter before.phase message before.documents after.documents

-- The text of a reply is written as one frame, or the write fails.
abbrev pub IsWritten : ServerMessage → Option (List ℕ) → Option (List ℕ) → Option SessionEnd → Type 0
IsWritten reply old new None = Appends old new (framed (compact_text (reply_data reply)))
IsWritten reply old new (Some Done) = ⊥
IsWritten reply old new (Some Left) = ⊥
IsWritten reply old new (Some InputEnded) = ⊥
IsWritten reply old new (Some Cut) = ⊥
IsWritten reply old new (Some NoFrame) = ⊥
IsWritten reply old new (Some Unread) = ⊥
IsWritten reply old new (Some Unwritten) = Unit {0}
IsWritten reply old new (Some Memory) = new ≡ old

-- Nothing is written, and the session goes on or ends as `wanted` says.
abbrev pub IsStill : Option (List ℕ) → Option (List ℕ) → Option SessionEnd → Option SessionEnd → Type 0
IsStill old new wanted end = (end ≡ wanted) × (new ≡ old)

-- What a step says is written, and `exit` ends the session.
abbrev pub IsDone : Phase → SessionStep → Option (List ℕ) → Option (List ℕ) → Option SessionEnd → Type 0
IsDone phase Silent old new end = IsStill old new None end
IsDone phase (Say reply) old new end = IsWritten reply old new end
IsDone phase Exit old new end = IsStill old new (Some (exit phase)) end

-- A content is answered, unless memory runs out.
abbrev pub IsAnswered : EditorSettings → Server → Server → List ℕ → Option (List ℕ) → Option (List ℕ) → Option SessionEnd → Type 0
IsAnswered settings before after content old new end =
    ((step : SessionStep) × IsStepOn settings before after content step × IsDone after.phase step old new end)
    ⊎ IsStill old new (Some Memory) end

-- A content that is too long is answered, too. The input's end and a broken frame end the session.
abbrev pub IsOnFrame : EditorSettings → Server → Server → MessageFrame → Option (List ℕ) → Option (List ℕ) → Option SessionEnd → Type 0
IsOnFrame settings before after (got.Content content) old new end =
    IsAnswered settings before after content.items old new end
IsOnFrame settings before after got.TooLong old new end =
    (after ≡ before) × IsDone after.phase (unanswered refusals.TooLong) old new end
IsOnFrame settings before after got.AtEnd old new end = IsStill old new (Some InputEnded) end
IsOnFrame settings before after got.Cut old new end = IsStill old new (Some Cut) end
IsOnFrame settings before after got.NoHead old new end = IsStill old new (Some NoFrame) end

-- how far a session is: what is left of the input, what is written, and what the server knows
pub record At : Type 0 where
  pub input : Option (List ℕ)
  pub output : Option (List ℕ)
  pub server : Server

abbrev pub at : Option (List ℕ) → Option (List ℕ) → Server → At
at left written known = record { input = left; output = written; server = known }

-- A frame is read and answered, unless the input can't be read or memory runs out.
abbrev pub IsStepped : EditorSettings → At → At → Option SessionEnd → Type 0
IsStepped settings a b end =
    ((frame : MessageFrame) × IsFrame a.input b.input frame
    × IsOnFrame settings a.server b.server frame a.output b.output end)
    ⊎ IsStill a.output b.output (Some Unread) end
    ⊎ IsStill a.output b.output (Some Memory) end

-- The frames are read and answered one after another, and none of them ends the session.
abbrev pub AreStepped : EditorSettings → At → List At → At → Type 0
AreStepped settings a [] b = b ≡ a
AreStepped settings a (m ∷ ms) b = IsStepped settings a m None × AreStepped settings m ms b

-- The session ends with the next frame; or 2^64 - 1 frames were read, which no session reaches.
abbrev pub IsEnd : EditorSettings → ℕ → At → Option (List ℕ) → Option (List ℕ) → SessionEnd → Type 0
IsEnd settings count a left written end =
    ((known : Server) × IsStepped settings a (at left written known) (Some end))
    ⊎ ((count ≡ 2 ^ 64 - 1) × (end ≡ InputEnded) × (left ≡ a.input) × (written ≡ a.output))

-- The next `count` frames of a session are read and answered, and none of them ends it.
pub record AreServed (settings : EditorSettings) (start : Server) (left written : Option (List ℕ)) (b : At) (count : ℕ)
    : Type 0 where
  pub turns : List At
  pub counted : length turns ≡ count
  pub each : AreStepped settings (at left written start) turns b

-- From a server on, the frames of the input are read and answered one after another, until one ends the session.
pub record IsServedFrom (settings : EditorSettings) (start : Server) (left written left_then written_then : Option (List ℕ))
    (end : SessionEnd) : Type 0 where
  pub count : ℕ
  pub last : At
  pub served : AreServed settings start left written last count
  pub ends : IsEnd settings count last left_then written_then end

-- The frames of the input are read and answered one after another, until one ends the session.
pub record IsServed (settings : EditorSettings) (left written left_then written_then : Option (List ℕ)) (end : SessionEnd)
    : Type 0 where
  pub start : Server
  pub fresh : start.phase ≡ first
  pub none_open : NoneOpen start.documents
  pub from : IsServedFrom settings start left written left_then written_then end

-- Some frames were read and answered, and the last of them was the first `initialize`.
pub record IsBegun (settings : EditorSettings) (a b : At) : Type 0 where
  pub turns : List At
  pub last : At
  pub each : AreStepped settings a turns last
  pub still : last.server.phase ≡ New
  pub one : IsStepped settings last b None
  pub begun : b.server.phase ≢ New

-- An editor is answered up to its first `initialize`, or the session ends before.
abbrev pub IsGreeted : EditorSettings → At → At → Option SessionEnd → Type 0
IsGreeted settings a b None = IsBegun settings a b
IsGreeted settings a b (Some end) = IsServedFrom settings a.server a.input a.output b.input b.output end
