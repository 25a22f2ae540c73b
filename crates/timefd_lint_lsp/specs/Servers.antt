-- The server, which takes one message after another.
use Rattle.std.specs.Prelude.{◌≡◌, ℕ, List, [], Option, Some, None, String, string_bytes, ⊤}
use Rattle.std.specs.BTreeMap.{BTreeMap, get_by_text}
use Rattle.std.specs.declared.alloc.Global.{Global}
use Rattle.std.specs.declared.vec.Vec.{Vec}
use Rattle.timefd_lint_lsp.specs.Changes.{after_all}
use Rattle.timefd_lint_lsp.specs.Kinds.{kind_of}
use Rattle.timefd_lint_lsp.specs.declared.changes.DocumentChange.{DocumentChange}
use Rattle.timefd_lint_lsp.specs.declared.documents.Document.{Document}
use Rattle.timefd_lint_lsp.specs.declared.documents.DocumentKind.{DocumentKind}
use Rattle.timefd_lint_lsp.specs.Replies.{refusal_of}
use Rattle.timefd_lint_lsp.specs.declared.envelope.Id.{Id}
use Rattle.timefd_lint_lsp.specs.declared.message.Message.{Message}
use Rattle.timefd_lint_lsp.specs.declared.message.Message.TheVariants as messages
use Rattle.timefd_lint_lsp.specs.declared.message.Notification.{Notification}
use Rattle.timefd_lint_lsp.specs.declared.message.Notification.TheVariants as reported
use Rattle.timefd_lint_lsp.specs.declared.message.EditorRequest.{EditorRequest}
use Rattle.timefd_lint_lsp.specs.declared.message.EditorRequest.TheVariants as asked
use Rattle.timefd_lint_lsp.specs.declared.reply.RequestAnswer.{RequestAnswer}
use Rattle.timefd_lint_lsp.specs.declared.reply.RequestAnswer.TheVariants as answers
use Rattle.timefd_lint_lsp.specs.declared.reply.RequestRefusal.{RequestRefusal}
use Rattle.timefd_lint_lsp.specs.declared.reply.RequestRefusal.TheVariants as refusals
use Rattle.timefd_lint_lsp.specs.declared.reply.ServerMessage.TheVariants as replies
use Rattle.timefd_lint_lsp.specs.declared.editor.action.Action.{Action}
use Rattle.timefd_lint_lsp.specs.declared.editor.action.WantedActions.{WantedActions}
use Rattle.timefd_lint_lsp.specs.declared.editor.completing.Completion.{Completion}
use Rattle.timefd_lint_lsp.specs.declared.editor.finding.Finding.{Finding}
use Rattle.timefd_lint_lsp.specs.declared.editor.fault_hover.Hover.{Hover}
use Rattle.timefd_lint_lsp.specs.declared.editor.position.DocumentPosition.{DocumentPosition}
use Rattle.timefd_lint_lsp.specs.declared.editor.position.DocumentRange.{DocumentRange}
use Rattle.timefd_lint_lsp.specs.Editor.Actions.{AreActionsOf}
use Rattle.timefd_lint_lsp.specs.Editor.Completions.{IsCompletedAt}
use Rattle.timefd_lint_lsp.specs.Editor.Findings.{AreFindingsOf}
use Rattle.timefd_lint_lsp.specs.Editor.Hovers.{IsShownAt}
use Rattle.timefd_lint_lsp.specs.Editor.Positions.{index_of}
use Rattle.timefd_lint_sources.specs.declared.reported.Finder.{Finder}
use Rattle.timefd_lint_sources.specs.declared.reported.Finder.TheVariants as finders
use Rattle.timefd_lint_sources.specs.declared.reported.SourceText.{SourceText}
use Rattle.timefd_lint_lsp.specs.declared.documents.DocumentKind.TheVariants as kinds
use Rattle.timefd_lint_lsp.specs.declared.server.EditorSettings.{EditorSettings}
use Rattle.timefd_lint_lsp.specs.declared.server.Phase.{Phase}
use Rattle.timefd_lint_lsp.specs.declared.server.Phase.TheVariants.{New, Running, ShutDown}
use Rattle.timefd_lint_lsp.specs.declared.server.SessionStep.{SessionStep}
use Rattle.timefd_lint_lsp.specs.declared.server.SessionStep.TheVariants.{Silent, Say, Exit}

abbrev pub first : Phase
first = New

-- At first only `initialize` is served.
abbrev pub first_refusal : EditorRequest → Option RequestRefusal
first_refusal (asked.Initialize root) = None
first_refusal (asked.Hover uri position) = Some refusals.NotInitialized
first_refusal (asked.Completion uri position) = Some refusals.NotInitialized
first_refusal (asked.Actions uri range wanted) = Some refusals.NotInitialized
first_refusal asked.Shutdown = Some refusals.NotInitialized
first_refusal asked.Unknown = Some refusals.NotInitialized
first_refusal asked.WrongParams = Some refusals.NotInitialized

-- After `initialize` a second one is refused.
abbrev pub running_refusal : EditorRequest → Option RequestRefusal
running_refusal (asked.Initialize root) = Some refusals.InvalidRequest
running_refusal (asked.Hover uri position) = None
running_refusal (asked.Completion uri position) = None
running_refusal (asked.Actions uri range wanted) = None
running_refusal asked.Shutdown = None
running_refusal asked.Unknown = Some refusals.UnknownMethod
running_refusal asked.WrongParams = Some refusals.WrongParams

-- why a request is refused, if it is
abbrev pub refusal : Phase → EditorRequest → Option RequestRefusal
refusal New request = first_refusal request
refusal Running request = running_refusal request
refusal ShutDown request = Some refusals.InvalidRequest

abbrev pub first_phase : Phase → EditorRequest → Phase
first_phase phase (asked.Initialize root) = Running
first_phase phase (asked.Hover uri position) = phase
first_phase phase (asked.Completion uri position) = phase
first_phase phase (asked.Actions uri range wanted) = phase
first_phase phase asked.Shutdown = phase
first_phase phase asked.Unknown = phase
first_phase phase asked.WrongParams = phase

abbrev pub running_phase : Phase → EditorRequest → Phase
running_phase phase (asked.Initialize root) = phase
running_phase phase (asked.Hover uri position) = phase
running_phase phase (asked.Completion uri position) = phase
running_phase phase (asked.Actions uri range wanted) = phase
running_phase phase asked.Shutdown = ShutDown
running_phase phase asked.Unknown = phase
running_phase phase asked.WrongParams = phase

abbrev pub phase_after_request : Phase → EditorRequest → Phase
phase_after_request New request = first_phase New request
phase_after_request Running request = running_phase Running request
phase_after_request ShutDown request = ShutDown

-- the folder that the editor has open, after a message
abbrev pub first_root : EditorRequest → Option (String Global) → Option (String Global)
first_root (asked.Initialize root) before = root
first_root (asked.Hover uri position) before = before
first_root (asked.Completion uri position) before = before
first_root (asked.Actions uri range wanted) before = before
first_root asked.Shutdown before = before
first_root asked.Unknown before = before
first_root asked.WrongParams before = before

abbrev pub root_after_request : Phase → EditorRequest → Option (String Global) → Option (String Global)
root_after_request New request before = first_root request before
root_after_request Running request before = before
root_after_request ShutDown request before = before

abbrev pub root_after : Phase → Message → Option (String Global) → Option (String Global)
root_after phase (messages.Request id request) before = root_after_request phase request before
root_after phase (messages.Notification notification) before = before
root_after phase messages.NotJson before = before
root_after phase messages.NotMessage before = before

-- how far the session is after a message
abbrev pub phase_after : Phase → Message → Phase
phase_after phase (messages.Request id request) = phase_after_request phase request
phase_after phase (messages.Notification notification) = phase
phase_after phase messages.NotJson = phase
phase_after phase messages.NotMessage = phase

-- the response to a content whose id isn't known
abbrev pub unanswered : RequestRefusal → SessionStep
unanswered why = Say (replies.Response None (answers.Refused why))

-- The step is one response, to the request of this id.
abbrev pub Responds : Id → Option RequestRefusal → SessionStep → Type 0
Responds id why (Say (replies.Response other answer)) = (other ≡ Some id) × (refusal_of answer ≡ why)
Responds id why (Say (replies.Findings uri findings)) = ⊥
Responds id why (Say (replies.Lost uri)) = ⊥
Responds id why Silent = ⊥
Responds id why Exit = ⊥

abbrev pub finder_of : EditorSettings → DocumentKind → Finder
finder_of settings kinds.Rust = finders.Rust settings.calls
finder_of settings (kinds.Keys format) = finders.Keys format settings.keys

-- All that is wrong in a document with this text, as `editor` defines it.
pub record AreWrongIn (settings : EditorSettings) (kind : DocumentKind) (text : List ℕ) (findings : List Finding) : Type 0 where
  pub source : SourceText
  pub finder : source.finder ≡ finder_of settings kind
  pub whole : source.text.now ≡ text
  pub all : AreFindingsOf settings.levels source findings

-- The source is the text of an open document.
pub record IsSourceOf (settings : EditorSettings) (document : Document) (source : SourceText) : Type 0 where
  pub finder : source.finder ≡ finder_of settings document.kind
  pub whole : source.text.now ≡ string_bytes document.text

abbrev pub hover_answer : Option Hover → RequestAnswer
hover_answer None = answers.Nothing
hover_answer (Some hover) = answers.Hover hover

-- the answer for a position of a document, if it is open
abbrev pub IsHoverAnswer : EditorSettings → Option Document → DocumentPosition → RequestAnswer → Type 0
IsHoverAnswer settings None position answer = answer ≡ answers.Nothing
IsHoverAnswer settings (Some document) position answer = (source : SourceText) × IsSourceOf settings document source
    × ((found : Option Hover) × IsShownAt source (index_of source.text.now position) found
    × (answer ≡ hover_answer found))

abbrev pub completion_answer : Option Completion → RequestAnswer
completion_answer None = answers.Nothing
completion_answer (Some completion) = answers.Completion completion

-- the words that may be written at a position of a document, if it is open
abbrev pub IsCompletionAnswer : EditorSettings → Option Document → DocumentPosition → RequestAnswer → Type 0
IsCompletionAnswer settings None position answer = answer ≡ answers.Nothing
IsCompletionAnswer settings (Some document) position answer = (source : SourceText)
    × IsSourceOf settings document source
    × ((found : Option Completion) × IsCompletedAt source (index_of source.text.now position) found
    × (answer ≡ completion_answer found))

-- the answer for a range of a document, if it is open
abbrev pub IsActionsAnswer : EditorSettings → Option Document → String Global → DocumentRange → WantedActions → RequestAnswer → Type 0
IsActionsAnswer settings None uri range wanted answer = answer ≡ answers.Nothing
IsActionsAnswer settings (Some document) uri range wanted answer = (source : SourceText)
    × IsSourceOf settings document source
    × ((actions : Vec Action Global)
    × AreActionsOf wanted (index_of source.text.now range.start) (index_of source.text.now range.end) source
    actions.items
    × (answer ≡ answers.Actions uri actions))

-- The answer to a first request that isn't refused.
abbrev pub IsFirstAnswer : EditorRequest → RequestAnswer → Type 0
IsFirstAnswer (asked.Initialize root) answer = answer ≡ answers.Capabilities
IsFirstAnswer (asked.Hover uri position) answer = ⊤
IsFirstAnswer (asked.Completion uri position) answer = ⊤
IsFirstAnswer (asked.Actions uri range wanted) answer = ⊤
IsFirstAnswer asked.Shutdown answer = ⊤
IsFirstAnswer asked.Unknown answer = ⊤
IsFirstAnswer asked.WrongParams answer = ⊤

abbrev pub IsRunningAnswer : EditorSettings → BTreeMap (String Global) Document → EditorRequest → RequestAnswer → Type 0
IsRunningAnswer settings documents (asked.Initialize root) answer = ⊤
IsRunningAnswer settings documents (asked.Hover uri position) answer =
    IsHoverAnswer settings (get_by_text documents (string_bytes uri)) position answer
IsRunningAnswer settings documents (asked.Completion uri position) answer =
    IsCompletionAnswer settings (get_by_text documents (string_bytes uri)) position answer
IsRunningAnswer settings documents (asked.Actions uri range wanted) answer =
    IsActionsAnswer settings (get_by_text documents (string_bytes uri)) uri range wanted answer
IsRunningAnswer settings documents asked.Shutdown answer = answer ≡ answers.Nothing
IsRunningAnswer settings documents asked.Unknown answer = ⊤
IsRunningAnswer settings documents asked.WrongParams answer = ⊤

abbrev pub IsAnswer : EditorSettings → Phase → BTreeMap (String Global) Document → EditorRequest → RequestAnswer → Type 0
IsAnswer settings New documents request answer = IsFirstAnswer request answer
IsAnswer settings Running documents request answer = IsRunningAnswer settings documents request answer
IsAnswer settings ShutDown documents request answer = ⊤

-- The step has that answer.
abbrev pub Answers : EditorSettings → Phase → BTreeMap (String Global) Document → EditorRequest → SessionStep → Type 0
Answers settings phase documents request (Say (replies.Response id answer)) =
    IsAnswer settings phase documents request answer
Answers settings phase documents request (Say (replies.Findings uri findings)) = ⊥
Answers settings phase documents request (Say (replies.Lost uri)) = ⊥
Answers settings phase documents request Silent = ⊥
Answers settings phase documents request Exit = ⊥

abbrev pub said : String Global → Vec Finding Global → SessionStep
said uri findings = Say (replies.Findings uri findings)

-- The step reports all that is wrong in the document with this name and text.
abbrev pub IsSaidOf : EditorSettings → DocumentKind → List ℕ → List ℕ → SessionStep → Type 0
IsSaidOf settings kind text name (Say (replies.Findings uri findings)) =
    (string_bytes uri ≡ name) × AreWrongIn settings kind text findings.items
IsSaidOf settings kind text name (Say (replies.Response other answer)) = ⊥
IsSaidOf settings kind text name (Say (replies.Lost uri)) = ⊥
IsSaidOf settings kind text name Silent = ⊥
IsSaidOf settings kind text name Exit = ⊥

abbrev pub IsSaidIf : EditorSettings → Option DocumentKind → List ℕ → List ℕ → SessionStep → Type 0
IsSaidIf settings (Some kind) text name step = IsSaidOf settings kind text name step
IsSaidIf settings None text name step = step ≡ Silent

-- If an opened document is one that is checked, what is wrong in it is reported.
abbrev pub IsOpened : EditorSettings → List ℕ → List ℕ → List ℕ → SessionStep → Type 0
IsOpened settings name language text step = IsSaidIf settings (kind_of language name) text name step

-- the step says that a document isn't checked any more
abbrev pub lost : String Global → SessionStep
lost uri = Say (replies.Lost uri)

abbrev pub IsLost : List ℕ → SessionStep → Type 0
IsLost name step = (uri : String Global) × (string_bytes uri ≡ name) × (step ≡ lost uri)

abbrev pub IsSaidAfter : EditorSettings → DocumentKind → Option (List ℕ) → List ℕ → SessionStep → Type 0
IsSaidAfter settings kind (Some text) name step = IsSaidOf settings kind text name step
IsSaidAfter settings kind None name step = IsLost name step

abbrev pub IsSaidOfOpen : EditorSettings → Option Document → List DocumentChange → List ℕ → SessionStep → Type 0
IsSaidOfOpen settings (Some document) changes name step =
    IsSaidAfter settings document.kind (after_all (string_bytes document.text) changes) name step
IsSaidOfOpen settings None changes name step = step ≡ Silent

-- If an open document changes, what is wrong in it is reported, or that a change can't be made.
abbrev pub IsChangedOf : EditorSettings → List ℕ → List DocumentChange → BTreeMap (String Global) Document → SessionStep → Type 0
IsChangedOf settings name changes documents step =
    IsSaidOfOpen settings (get_by_text documents name) changes name step

-- The step withdraws what was reported about the document with this name.
abbrev pub IsTakenBack : List ℕ → SessionStep → Type 0
IsTakenBack name (Say (replies.Findings uri findings)) = (string_bytes uri ≡ name) × (findings.items ≡ [])
IsTakenBack name (Say (replies.Response other answer)) = ⊥
IsTakenBack name (Say (replies.Lost uri)) = ⊥
IsTakenBack name Silent = ⊥
IsTakenBack name Exit = ⊥

abbrev pub IsTakenBackOf : Option Document → List ℕ → SessionStep → Type 0
IsTakenBackOf (Some document) name step = IsTakenBack name step
IsTakenBackOf None name step = step ≡ Silent

-- If an open document is closed, what was reported about it is withdrawn. For one that isn't open nothing is
-- said.
abbrev pub IsClosed : List ℕ → BTreeMap (String Global) Document → SessionStep → Type 0
IsClosed name documents step = IsTakenBackOf (get_by_text documents name) name step

-- A notification gets no response, only a report of what is wrong in its document.
abbrev pub IsHeard : EditorSettings → BTreeMap (String Global) Document → Notification → SessionStep → Type 0
IsHeard settings documents (reported.Opened uri language text) step =
    IsOpened settings (string_bytes uri) (string_bytes language) (string_bytes text) step
IsHeard settings documents (reported.Changed uri changes) step =
    IsChangedOf settings (string_bytes uri) changes.items documents step
IsHeard settings documents (reported.Closed uri) step = IsClosed (string_bytes uri) documents step
IsHeard settings documents reported.Exit step = step ≡ Exit
IsHeard settings documents reported.Other step = step ≡ Silent

abbrev pub unheard : Notification → SessionStep
unheard (reported.Opened uri language text) = Silent
unheard (reported.Changed uri changes) = Silent
unheard (reported.Closed uri) = Silent
unheard reported.Exit = Exit
unheard reported.Other = Silent

abbrev pub IsReported : EditorSettings → Phase → BTreeMap (String Global) Document → Notification → SessionStep → Type 0
IsReported settings New documents notification step = step ≡ unheard notification
IsReported settings Running documents notification step = IsHeard settings documents notification step
IsReported settings ShutDown documents notification step = step ≡ unheard notification

-- A request gets one response, which has its id. A notification gets none.
abbrev pub IsStep : EditorSettings → Phase → BTreeMap (String Global) Document → Message → SessionStep → Type 0
IsStep settings phase documents (messages.Request id request) step =
    Responds id (refusal phase request) step × Answers settings phase documents request step
IsStep settings phase documents (messages.Notification notification) step =
    IsReported settings phase documents notification step
IsStep settings phase documents messages.NotJson step = step ≡ unanswered refusals.NotJson
IsStep settings phase documents messages.NotMessage step = step ≡ unanswered refusals.InvalidRequest
