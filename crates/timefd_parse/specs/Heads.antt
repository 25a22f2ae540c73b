-- How a head that the code reads relates to the rules.
use Rattle.std.specs.Prelude.{ℕ, ◌≡◌, ◌+◌, Bool, List, ◌∷◌, ◌++◌, length, Result, MatchResult}
use Rattle.std.specs.Borrow.{Bor}
use Rattle.std.specs.Str.{IsUtf8}
use Rattle.timefd_lang_component.specs.Tree.{Text}
use Rattle.timefd_language.specs.declared.description_version.DescriptionVersion.{DescriptionVersion}
use Rattle.timefd_lang_fault.specs.declared.read_error.Fault as code_fault
use Rattle.timefd_parse.specs.declared.head.Head as code_head
use Rattle.timefd_parse.specs.declared.head.modifiers.Modifiers as code_modifiers
use Rattle.timefd_language.specs.Bytes.{left, is_white, is_word_byte, ZeroOrMore, StopsBefore}
use Rattle.timefd_language.specs.Head.{Head, IsHead, head_text, name_index, placed}
use Rattle.timefd_language.specs.Lookup.{IsNameOf}
use Rattle.timefd_parse.specs.Checked.{Checks}
use Rattle.timefd_language.specs.Broken.{BeginsNoEscape}
use Rattle.timefd_language.specs.FaultMeaning.{IsFaultAt}

-- the head and its modifiers, as the code has them, of a text with this many bytes
pub record ShowsHead (strict : Bool) (total : ℕ) (head : code_head.Head)
    (modifiers : code_modifiers.Modifiers) (h : Head) : Type 0 where
  pub word : h.name ≡ head.word.now
  pub position : name_index h + head.remaining ≡ total
  pub name : IsNameOf strict head.word.now head.name
  pub checks : Checks strict head.name total modifiers (placed h)

-- the text begins with this head and white bytes
pub record BeginsWithHead (strict : Bool) (text : Text) (head : code_head.Head)
    (modifiers : code_modifiers.Modifiers) (rest : Text) (h : Head) : Type 0 where
  pub is : IsHead h
  pub shows : ShowsHead strict (length text) head modifiers h
  pub whole : text ≡ head_text h ++ head.white.now ++ rest
  pub all_white : ZeroOrMore is_white head.white.now
  pub stops_white : StopsBefore is_white rest
  pub stops_word : StopsBefore is_word_byte rest

-- a head, or the fault of a bracket without a head; if `[[` is an escape, the inside doesn't begin
-- with `[`
abbrev pub ReadsHead : Bool → Text → code_modifiers.Modifiers
    → Result (code_head.Head × Bor (List ℕ)) code_fault.Fault → Type 0
ReadsHead strict inside modifiers r =
    MatchResult r
    (λ x. ((h : Head) × BeginsWithHead strict (left ∷ inside) x.0 modifiers x.1.now h)
    × IsUtf8 x.1.now)
    (λ f. (v : DescriptionVersion) (limit n : ℕ) → BeginsNoEscape v inside
    → IsFaultAt v limit n (left ∷ inside) f)
