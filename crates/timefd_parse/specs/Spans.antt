-- How it is known of the readers' faults which bytes are at fault.
use Rattle.std.specs.Prelude.{ℕ, Bool, ◌≡◌, ◌<◌, List, ◌∷◌, ◌++◌, length, Some, ⊤}
use Rattle.timefd_lang_component.specs.Tree.{Text}
use Rattle.timefd_language.specs.Bytes.{colon, is_key_byte, OneOrMore}
use Rattle.timefd_language.specs.Head.{Placed}
use Rattle.timefd_language.specs.Spans.{SpansVersion}
use Rattle.timefd_parse.specs.Checked.{first_position}
use Rattle.timefd_parse.specs.declared.head.verdict.HeadVerdict.{HeadVerdict}
use Rattle.timefd_parse.specs.declared.head.verdict.HeadVerdict.TheVariants as verdicts
use Rattle.timefd_parse.specs.declared.bracket.verdict.Nested.{Nested}
use Rattle.timefd_parse.specs.declared.bracket.verdict.BracketExtent.{BracketExtent}

-- This many bytes before the end of the text a byte of ASCII stands.
pub record HasByteAt (text : Text) (remaining : ℕ) : Type 0 where
  pub before : Text
  pub byte : ℕ
  pub rest : Text
  pub whole : text ≡ before ++ byte ∷ rest
  pub ascii : byte < 128
  pub position : remaining ≡ length (byte ∷ rest)

-- A key and a colon stand at this index of the text.
pub record HasKeyAt (text : Text) (index : ℕ) (key : Text) : Type 0 where
  pub before : Text
  pub rest : Text
  pub is : OneOrMore is_key_byte key
  pub whole : text ≡ before ++ (key ++ colon ∷ rest)
  pub position : length before ≡ index

-- The first modifier with each key stands where the list says.
abbrev pub HaveKeys : Text → List Placed → Type 0
HaveKeys text ps = (key : Text) (index : ℕ) → first_position key ps ≡ Some index
    → HasKeyAt text index key

-- The bracket begins and ends where this says, and so does its first nested description.
pub record BracketStands (text : Text) (nested : Nested) (span : BracketExtent) : Type 0 where
  pub start : HasByteAt text span.start
  pub end : HasByteAt text span.end
  pub first : 0 < nested.count → HasByteAt text nested.remaining

-- If a head is refused, its fault says which bytes are at fault.
abbrev pub SpansRefusal : Bool → Text → HeadVerdict → Type 0
SpansRefusal strict text (verdicts.Component c) = ⊤
SpansRefusal strict text (verdicts.Optional formatted) = ⊤
SpansRefusal strict text verdicts.First = ⊤
SpansRefusal strict text (verdicts.Refused f) = SpansVersion strict text f
