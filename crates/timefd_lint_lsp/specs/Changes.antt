-- The changes of a document, and the text after them.
use Rattle.std.specs.Prelude.{ℕ, List, [], ◌∷◌, Bool, true, false, Option, Some, None, codes, is_some, option_and_then, string_bytes}
use Rattle.serde_json.specs.Data.{Data, Items, no_items, item}
use Rattle.serde_json.specs.Find.{as_str, get}
use Rattle.timefd_lint_lsp.specs.Editor.Replacing.{replaced}
use Rattle.timefd_lint_lsp.specs.declared.editor.position.DocumentRange.{DocumentRange}
use Rattle.timefd_lint_lsp.specs.Params.{changes_of, range_in}
use Rattle.timefd_lint_lsp.specs.declared.changes.DocumentChange.{DocumentChange}
use Rattle.timefd_lint_lsp.specs.declared.changes.DocumentChange.TheVariants.{Whole, Part, Unreadable}

-- a change, without the address of its text in memory
pub data Seen : Type 0 where
  whole : List ℕ → Seen
  part : DocumentRange → List ℕ → Seen
  unreadable : Seen

abbrev pub seen : DocumentChange → Seen
seen (Whole text) = whole (string_bytes text)
seen (Part range text) = part range (string_bytes text)
seen Unreadable = unreadable

abbrev pub of_range : Option DocumentRange → List ℕ → Seen
of_range (Some range) text = part range text
of_range None text = unreadable

abbrev pub of_range_if : Bool → Option DocumentRange → List ℕ → Seen
of_range_if true range text = of_range range text
of_range_if false range text = whole text

abbrev pub of_text : Option (List ℕ) → Data → Seen
of_text (Some text) d = of_range_if (is_some (get (codes "range") d)) (range_in d) text
of_text None d = unreadable

-- A change replaces the whole text if it has no range.
abbrev pub change_of : Data → Seen
change_of d = of_text (option_and_then as_str (get (codes "text") d)) d

abbrev pub all_changes : Items → List Seen
all_changes no_items = []
all_changes (item d rest) = change_of d ∷ all_changes rest

abbrev pub none_readable : List Seen
none_readable = unreadable ∷ []

abbrev pub changes_by : Option Items → List Seen
changes_by (Some changes) = all_changes changes
changes_by None = none_readable

-- the changes that a notification reports, in order
abbrev pub changes_in : Data → List Seen
changes_in d = changes_by (changes_of d)

-- the text after a change, if the change can be made
abbrev pub after : List ℕ → DocumentChange → Option (List ℕ)
after text (Whole new) = Some (string_bytes new)
after text (Part range new) = replaced text range (string_bytes new)
after text Unreadable = None

-- the text after some changes, if each of them can be made in the text that the one before made
abbrev pub after_all : List ℕ → List DocumentChange → Option (List ℕ)
after_all text [] = Some text
after_all text (change ∷ changes) = option_and_then (λ next. after_all next changes) (after text change)
