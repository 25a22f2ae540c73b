-- Open documents.
use Rattle.std.specs.Prelude.{◌≡◌, ℕ, List, Option, Some, None, String, bytes_eq, string_bytes, if◌then◌else◌}
use Rattle.std.specs.BTreeMap.{BTreeMap, get_by_text}
use Rattle.std.specs.declared.alloc.Global.{Global}
use Rattle.timefd_lint_lsp.specs.Changes.{after_all}
use Rattle.timefd_lint_lsp.specs.Kinds.{kind_of}
use Rattle.timefd_lint_lsp.specs.declared.changes.DocumentChange.{DocumentChange}
use Rattle.timefd_lint_lsp.specs.declared.documents.Document.{Document}
use Rattle.timefd_lint_lsp.specs.declared.documents.DocumentKind.{DocumentKind}
use Rattle.timefd_lint_lsp.specs.declared.message.Message.{Message}
use Rattle.timefd_lint_lsp.specs.declared.message.Message.TheVariants as messages
use Rattle.timefd_lint_lsp.specs.declared.message.Notification.{Notification}
use Rattle.timefd_lint_lsp.specs.declared.message.Notification.TheVariants as reported
use Rattle.timefd_lint_lsp.specs.declared.server.Phase.{Phase}
use Rattle.timefd_lint_lsp.specs.declared.server.Phase.TheVariants.{New, Running, ShutDown}

-- the documents that are open, by their names
abbrev pub Open : Type 0
Open = BTreeMap (String Global) Document

-- the document with another text
abbrev pub with_text : String Global → Option Document → Option Document
with_text text (Some document) = Some (record { kind = document.kind; text = text })
with_text text None = None

-- No document is open.
abbrev pub NoneOpen : Open → Type 0
NoneOpen documents = (name : List ℕ) → get_by_text documents name ≡ None

-- The document with this name is this one, or there is none. All other documents are unchanged.
abbrev pub AreWith : List ℕ → Option Document → Open → Open → Type 0
AreWith uri document old new = (name : List ℕ) → get_by_text new name
    ≡ (if bytes_eq name uri then document else get_by_text old name)

-- The document with this name, if there is one, has this text.
abbrev pub AreWithText : List ℕ → String Global → Open → Open → Type 0
AreWithText uri text old new = (name : List ℕ) → get_by_text new name
    ≡ (if bytes_eq name uri then with_text text (get_by_text old name) else get_by_text old name)

-- The document has the text after its changes. If one of them can't be made, the document is closed.
abbrev pub AreWithResult : Option (List ℕ) → List ℕ → Open → Open → Type 0
AreWithResult (Some bytes) uri old new = (text : String Global) × (string_bytes text ≡ bytes)
    × AreWithText uri text old new
AreWithResult None uri old new = AreWith uri None old new

abbrev pub AreChangedFrom : Option Document → List ℕ → List DocumentChange → Open → Open → Type 0
AreChangedFrom (Some document) uri changes old new =
    AreWithResult (after_all (string_bytes document.text) changes) uri old new
AreChangedFrom None uri changes old new = new ≡ old

-- The changes are made if the document is open.
abbrev pub AreChanged : List ℕ → List DocumentChange → Open → Open → Type 0
AreChanged uri changes old new = AreChangedFrom (get_by_text old uri) uri changes old new

abbrev pub AreOpenedAs : Option DocumentKind → List ℕ → String Global → Open → Open → Type 0
AreOpenedAs (Some kind) uri text old new = AreWith uri (Some (record { kind = kind; text = text })) old new
AreOpenedAs None uri text old new = new ≡ old

-- A document that is checked is opened with its text.
abbrev pub AreOpened : List ℕ → List ℕ → String Global → Open → Open → Type 0
AreOpened uri language text old new = AreOpenedAs (kind_of language uri) uri text old new

-- which documents are open after a notification
abbrev pub AreHeard : Notification → Open → Open → Type 0
AreHeard (reported.Opened uri language text) old new =
    AreOpened (string_bytes uri) (string_bytes language) text old new
AreHeard (reported.Changed uri changes) old new = AreChanged (string_bytes uri) changes.items old new
AreHeard (reported.Closed uri) old new = AreWith (string_bytes uri) None old new
AreHeard reported.Exit old new = new ≡ old
AreHeard reported.Other old new = new ≡ old

-- Notifications only count between `initialize` and `shutdown`.
abbrev pub AreReported : Phase → Notification → Open → Open → Type 0
AreReported New notification old new = new ≡ old
AreReported Running notification old new = AreHeard notification old new
AreReported ShutDown notification old new = new ≡ old

-- which documents are open after a message
abbrev pub AreAfter : Phase → Message → Open → Open → Type 0
AreAfter phase (messages.Request id request) old new = new ≡ old
AreAfter phase (messages.Notification notification) old new = AreReported phase notification old new
AreAfter phase messages.NotJson old new = new ≡ old
AreAfter phase messages.NotMessage old new = new ≡ old
