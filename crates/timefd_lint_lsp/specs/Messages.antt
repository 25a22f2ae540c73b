-- The message of an editor that a value of JSON is.
use Rattle.std.specs.Prelude.{◌≡◌, ℕ, List, Option, Some, None, codes, bytes_eq, map, String, string_bytes, if◌then◌else◌, IsUtf8, ◌⊎◌, ⊤}
use Rattle.std.specs.declared.alloc.Global.{Global}
use Rattle.serde_json.specs.Data.{Data}
use Rattle.serde_json.specs.Read.{read}
use Rattle.timefd_lint_lsp.specs.declared.editor.action.WantedActions.{WantedActions}
use Rattle.timefd_lint_lsp.specs.declared.editor.position.DocumentPosition.{DocumentPosition}
use Rattle.timefd_lint_lsp.specs.declared.editor.position.DocumentRange.{DocumentRange}
use Rattle.timefd_lint_lsp.specs.Changes.{Seen, changes_in, seen}
use Rattle.timefd_lint_lsp.specs.Envelopes.{seen_id, Shape, envelope_of}
use Rattle.timefd_lint_lsp.specs.Envelopes as shapes
use Rattle.timefd_lint_lsp.specs.Params.{position_in, range_of, root_of, text_by, uri_of}
use Rattle.timefd_lint_lsp.specs.WantedKinds.{wanted_in}
use Rattle.timefd_lint_lsp.specs.declared.message.Message.{Message}
use Rattle.timefd_lint_lsp.specs.declared.message.Message.TheVariants as messages
use Rattle.timefd_lint_lsp.specs.declared.message.Notification.{Notification}
use Rattle.timefd_lint_lsp.specs.declared.message.Notification.TheVariants as reported
use Rattle.timefd_lint_lsp.specs.declared.message.EditorRequest.{EditorRequest}
use Rattle.timefd_lint_lsp.specs.declared.message.EditorRequest.TheVariants as asked

-- what is asked for, without the addresses of its texts in memory
pub data Asked : Type 0 where
  initialize : Option (List ℕ) → Asked
  hover : List ℕ → DocumentPosition → Asked
  completion : List ℕ → DocumentPosition → Asked
  actions : List ℕ → DocumentRange → WantedActions → Asked
  shutdown : Asked
  unknown : Asked
  wrong_params : Asked

abbrev pub seen_root : Option (String Global) → Option (List ℕ)
seen_root None = None
seen_root (Some uri) = Some (string_bytes uri)

abbrev pub seen_request : EditorRequest → Asked
seen_request (asked.Initialize root) = initialize (seen_root root)
seen_request (asked.Hover uri position) = hover (string_bytes uri) position
seen_request (asked.Completion uri position) = completion (string_bytes uri) position
seen_request (asked.Actions uri range wanted) = actions (string_bytes uri) range wanted
seen_request asked.Shutdown = shutdown
seen_request asked.Unknown = unknown
seen_request asked.WrongParams = wrong_params

abbrev pub initialize_of : Data → Asked
initialize_of d = initialize (root_of d)

abbrev pub hover_from : Option (List ℕ) → Option DocumentPosition → Asked
hover_from (Some uri) (Some position) = hover uri position
hover_from (Some uri) None = wrong_params
hover_from None position = wrong_params

abbrev pub hover_of : Data → Asked
hover_of d = hover_from (uri_of d) (position_in d)

abbrev pub completion_from : Option (List ℕ) → Option DocumentPosition → Asked
completion_from (Some uri) (Some position) = completion uri position
completion_from (Some uri) None = wrong_params
completion_from None position = wrong_params

abbrev pub completion_of : Data → Asked
completion_of d = completion_from (uri_of d) (position_in d)

abbrev pub actions_from : Option (List ℕ) → Option DocumentRange → WantedActions → Asked
actions_from (Some uri) (Some range) wanted = actions uri range wanted
actions_from (Some uri) None wanted = wrong_params
actions_from None range wanted = wrong_params

abbrev pub actions_of : Data → Asked
actions_of d = actions_from (uri_of d) (range_of d) (wanted_in d)

abbrev pub request_of : List ℕ → Data → Asked
request_of method d =
    if bytes_eq method (codes "initialize") then initialize_of d
    else if bytes_eq method (codes "shutdown") then shutdown
    else if bytes_eq method (codes "textDocument/hover") then hover_of d
    else if bytes_eq method (codes "textDocument/codeAction") then actions_of d
    else if bytes_eq method (codes "textDocument/completion") then completion_of d
    else unknown

-- what is reported, without the addresses of its texts in memory
pub data Reported : Type 0 where
  opened : List ℕ → List ℕ → List ℕ → Reported
  changed : List ℕ → List Seen → Reported
  closed : List ℕ → Reported
  exit : Reported
  other : Reported

abbrev pub seen_notification : Notification → Reported
seen_notification (reported.Opened uri language text) =
    opened (string_bytes uri) (string_bytes language) (string_bytes text)
seen_notification (reported.Changed uri changes) = changed (string_bytes uri) (map seen changes.items)
seen_notification (reported.Closed uri) = closed (string_bytes uri)
seen_notification reported.Exit = exit
seen_notification reported.Other = other

abbrev pub opened_from : Option (List ℕ) → Option (List ℕ) → Option (List ℕ) → Reported
opened_from (Some uri) (Some language) (Some text) = opened uri language text
opened_from (Some uri) (Some language) None = other
opened_from (Some uri) None text = other
opened_from None language text = other

abbrev pub opened_of : Data → Reported
opened_of d = opened_from (uri_of d) (text_by (codes "/params/textDocument/languageId") d)
    (text_by (codes "/params/textDocument/text") d)

abbrev pub closed_from : Option (List ℕ) → Reported
closed_from (Some uri) = closed uri
closed_from None = other

abbrev pub closed_of : Data → Reported
closed_of d = closed_from (uri_of d)

abbrev pub changed_from : Option (List ℕ) → List Seen → Reported
changed_from (Some uri) changes = changed uri changes
changed_from None changes = other

abbrev pub changed_of : Data → Reported
changed_of d = changed_from (uri_of d) (changes_in d)

-- what a notification's method does
pub data Notice : Type 0 where
  exits : Notice
  opens : Notice
  changes : Notice
  closes : Notice
  others : Notice

abbrev pub notice_of : List ℕ → Notice
notice_of method =
    if bytes_eq method (codes "exit") then exits
    else if bytes_eq method (codes "textDocument/didOpen") then opens
    else if bytes_eq method (codes "textDocument/didChange") then changes
    else if bytes_eq method (codes "textDocument/didClose") then closes
    else others

abbrev pub IsNoticed : Notice → Notification → Data → Type 0
IsNoticed exits notification d = seen_notification notification ≡ exit
IsNoticed opens notification d = seen_notification notification ≡ opened_of d
IsNoticed changes notification d = seen_notification notification ≡ changed_of d
IsNoticed closes notification d = seen_notification notification ≡ closed_of d
IsNoticed others notification d = seen_notification notification ≡ other

-- what a notification of this method reports
abbrev pub IsNotification : List ℕ → Data → Notification → Type 0
IsNotification method d notification = IsNoticed (notice_of method) notification d

-- The message belongs to a value of this shape.
abbrev pub IsOfShape : Message → Shape → Data → Type 0
IsOfShape (messages.Request id request) (shapes.request value method) d =
    (seen_id id ≡ value) × (seen_request request ≡ request_of method d)
IsOfShape (messages.Notification notification) (shapes.notification method) d =
    IsNotification method d notification
IsOfShape (messages.Notification notification) shapes.response d = seen_notification notification ≡ other
IsOfShape messages.NotMessage shapes.invalid d = ⊤
IsOfShape (messages.Request id request) (shapes.notification method) d = ⊥
IsOfShape (messages.Request id request) shapes.response d = ⊥
IsOfShape (messages.Request id request) shapes.invalid d = ⊥
IsOfShape (messages.Notification notification) (shapes.request value method) d = ⊥
IsOfShape (messages.Notification notification) shapes.invalid d = ⊥
IsOfShape messages.NotMessage (shapes.request value method) d = ⊥
IsOfShape messages.NotMessage (shapes.notification method) d = ⊥
IsOfShape messages.NotMessage shapes.response d = ⊥
IsOfShape messages.NotJson shape d = ⊥

abbrev pub IsMessage : Message → Data → Type 0
IsMessage message d = IsOfShape message (envelope_of d) d

-- Bytes that aren't UTF-8 aren't JSON.
abbrev pub IsMessageOf : Message → List ℕ → Type 0
IsMessageOf message content =
    ((message ≡ messages.NotJson) × (IsUtf8 content → read content ≡ None))
    ⊎ ((d : Data) × (read content ≡ Some d) × IsMessage message d)
