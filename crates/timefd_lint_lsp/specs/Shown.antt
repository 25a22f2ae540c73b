-- What an editor shows, as values of JSON. An object has its members in the order of their names.
use Rattle.std.specs.Prelude.{ℕ, Bool, true, false, List, codes, map, string_bytes}
use Rattle.std.specs.Borrow.{Bor}
use Rattle.serde_json.specs.Data.{Data, boolean, number, unsigned, string, array, object, item, no_items, member, no_members}
use Rattle.serde_json.specs.View.{items_of}
use Rattle.timefd_lang_fault.specs.declared.rule.Slot.{Slot}
use Rattle.timefd_lang_fault.specs.declared.rule.Slot.TheVariants as slots
use Rattle.timefd_lint_lsp.specs.declared.editor.action.Action.{Action}
use Rattle.timefd_lint_lsp.specs.declared.editor.action.ActionKind.{ActionKind}
use Rattle.timefd_lint_lsp.specs.declared.editor.action.ActionKind.TheVariants.{QuickFix, Guess, Rewrite, FixAll}
use Rattle.timefd_lint_lsp.specs.declared.editor.action.Edit.{Edit}
use Rattle.timefd_lint_lsp.specs.declared.editor.completing.Completion.{Completion}
use Rattle.timefd_lint_lsp.specs.declared.editor.finding.Finding.{Finding}
use Rattle.timefd_lint_lsp.specs.declared.editor.finding.Severity.{Severity}
use Rattle.timefd_lint_lsp.specs.declared.editor.finding.Severity.TheVariants.{Error, Warning}
use Rattle.timefd_lint_lsp.specs.declared.editor.fault_hover.Hover.{Hover}
use Rattle.timefd_lint_lsp.specs.declared.editor.position.DocumentPosition.{DocumentPosition}
use Rattle.timefd_lint_lsp.specs.declared.editor.position.DocumentRange.{DocumentRange}

abbrev pub position_data : DocumentPosition → Data
position_data position = object (member (codes "character") (number (unsigned position.character))
    (member (codes "line") (number (unsigned position.line)) no_members))

abbrev pub range_data : DocumentRange → Data
range_data range = object (member (codes "end") (position_data range.end)
    (member (codes "start") (position_data range.start) no_members))

-- the number of a severity in the protocol
abbrev pub severity_number : Severity → ℕ
severity_number Error = 1
severity_number Warning = 2

abbrev pub finding_data : Finding → Data
finding_data finding = object (member (codes "code") (string finding.code.now)
    (member (codes "message") (string (string_bytes finding.message))
    (member (codes "range") (range_data finding.range)
    (member (codes "severity") (number (unsigned (severity_number finding.severity)))
    (member (codes "source") (string (codes "timefd_lint")) no_members)))))

abbrev pub findings_data : List Finding → Data
findings_data findings = array (items_of (map finding_data findings))

-- the start of a document
abbrev pub first : DocumentPosition
first = record { line = 0; character = 0 }

-- A warning at the start of a document says that it isn't checked any more.
abbrev pub loss : Data
loss = object (member (codes "message")
    (string (codes "a change of this document can't be made, so it isn't checked any more: close it and open it again"))
    (member (codes "range") (range_data (record { start = first; end = first }))
    (member (codes "severity") (number (unsigned (severity_number Warning)))
    (member (codes "source") (string (codes "timefd_lint")) no_members))))

abbrev pub loss_data : Data
loss_data = array (item loss no_items)

-- a text of Markdown
abbrev pub markdown : List ℕ → Data
markdown text = object (member (codes "kind") (string (codes "markdown"))
    (member (codes "value") (string text) no_members))

abbrev pub hover_data : Hover → Data
hover_data hover = object (member (codes "contents") (markdown (string_bytes hover.text))
    (member (codes "range") (range_data hover.range) no_members))

-- the number of a kind of words in the protocol: a field, a property or a value
abbrev pub kind_number : Slot → ℕ
kind_number slots.Name = 5
kind_number (slots.Key name) = 10
kind_number (slots.Value key) = 12

-- a word in place of a range
abbrev pub replacement : DocumentRange → List ℕ → Data
replacement range word = object (member (codes "newText") (string word)
    (member (codes "range") (range_data range) no_members))

abbrev pub word_data : DocumentRange → Slot → List ℕ → Data
word_data range slot word = object (member (codes "kind") (number (unsigned (kind_number slot)))
    (member (codes "label") (string word)
    (member (codes "textEdit") (replacement range word) no_members)))

abbrev pub words_data : DocumentRange → Slot → List (Bor (List ℕ)) → Data
words_data range slot words = array (items_of (map (λ w. word_data range slot w.now) words))

-- each word that may be written at a position
abbrev pub completion_data : Completion → Data
completion_data completion = words_data completion.range completion.slot completion.words.items

abbrev pub edit_data : Edit → Data
edit_data edit = object (member (codes "newText") (string (string_bytes edit.text))
    (member (codes "range") (range_data edit.range) no_members))

abbrev pub edit_list : List Edit → Data
edit_list edits = array (items_of (map edit_data edits))

-- the edits of one document
abbrev pub edits_data : List ℕ → List Edit → Data
edits_data uri edits = object (member uri (edit_list edits) no_members)

abbrev pub kind_name : ActionKind → List ℕ
kind_name QuickFix = codes "quickfix"
kind_name Guess = codes "quickfix"
kind_name Rewrite = codes "refactor.rewrite"
kind_name FixAll = codes "source.fixAll.timefd"

-- An editor may apply a sure fix without asking.
abbrev pub is_preferred : ActionKind → Bool
is_preferred QuickFix = true
is_preferred Guess = false
is_preferred Rewrite = false
is_preferred FixAll = false

abbrev pub changes_data : Data → Data
changes_data edits = object (member (codes "changes") edits no_members)

abbrev pub action_data : List ℕ → Action → Data
action_data uri action = object (member (codes "edit") (changes_data (edits_data uri action.edits.items))
    (member (codes "isPreferred") (boolean (is_preferred action.kind))
    (member (codes "kind") (string (kind_name action.kind))
    (member (codes "title") (string (string_bytes action.title)) no_members))))

abbrev pub actions_data : List ℕ → List Action → Data
actions_data uri actions = array (items_of (map (action_data uri) actions))
