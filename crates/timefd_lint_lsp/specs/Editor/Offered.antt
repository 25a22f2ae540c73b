-- The words that may be written where a name, a key or a value is begun.
use Rattle.std.specs.Prelude.{Bool, true, not, ◌&&◌, ◌||◌, List}
use Rattle.std.specs.List.{filter}
use Rattle.timefd_parse.specs.Tree.{Text}
use Rattle.timefd_lang_fault.specs.declared.rule.Slot.{Slot}
use Rattle.timefd_lang_fault.specs.declared.rule.Slot.TheVariants as slots
use Rattle.timefd_language.specs.Slots.{words_at}
use Rattle.timefd_language.specs.Bytes.{is_version_three}
use Rattle.timefd_lint_lsp.specs.declared.editor.offered.Begun.{Begun}
use Rattle.timefd_lint_lsp.specs.Editor.Given.{begins, is_given_after, is_given_before}

-- a word that is begun, what it is, and the texts around it
pub record Around : Type 0 where
  pub strict : Bool
  pub slot : Slot
  pub before : Text
  pub word : Text
  pub after : Text

abbrev pub around : Begun → Around
around b = record {
  strict = is_version_three b.version;
  slot = b.slot;
  before = b.before.now;
  word = b.word.now;
  after = b.after.now;
}

-- whether the bracket already has a key
abbrev pub is_given : Around → Text → Bool
is_given a key = is_given_before a.strict key a.before || is_given_after a.strict key a.after

abbrev pub is_left_in : Slot → Around → Text → Bool
is_left_in slots.Name a word = true
is_left_in (slots.Key name) a word = not (is_given a word)
is_left_in (slots.Value key) a word = true

-- whether a word isn't a key that the bracket already has
abbrev pub is_left : Around → Text → Bool
is_left a word = is_left_in a.slot a word

-- A word is offered if it begins with the one that is begun, and isn't a key that the bracket already has.
abbrev pub is_offered : Around → Text → Bool
is_offered a word = begins a.strict a.word word && is_left a word

-- all of them, in the order of the table
abbrev pub offered : Around → List Text
offered a = filter (is_offered a) (words_at a.strict a.slot)
