-- Which bytes of a bracket are at fault, while its nested descriptions are read.
use Rattle.std.proofs.Common.{◌≡◌, ℕ, Bool, ◌+◌, ◌<◌, List, [], ◌∷◌, ◌++◌, length, lit<, refl, sym, ap, ◌∙◌, subst, arith, append_assoc}
use Rattle.timefd_lang_component.specs.Tree.{Text, Tree}
use Rattle.timefd_lang_fault.specs.ReadErrors.{MemoryOr}
use Rattle.timefd_lang_fault.specs.declared.read_error.ReadError.{ReadError}
use Rattle.timefd_language.specs.Bytes.{is_version_three, left, right}
use Rattle.timefd_language.specs.Grammar.{Nested, no_nested, nested, no_pieces, nested_text, parts_from, spelling}
use Rattle.timefd_language.specs.Head.{head_text}
use Rattle.timefd_language.specs.Spans.{SpansVersion, version_extent}
use Rattle.timefd_language.specs.declared.description_version.DescriptionVersion.{DescriptionVersion}
use Rattle.timefd_language.specs.Slots.{WantsIn}
use Rattle.timefd_language.proofs.SlotLemmas.{wants_after}
use Rattle.timefd_language.proofs.SpanLemmas.{spans_after}
use Rattle.timefd_parse.specs.declared.head.verdict.JudgedHead.{JudgedHead}
use Rattle.timefd_parse.specs.FirstPiece.{EndsWith}
use Rattle.timefd_parse.specs.Judged.{ShowsDescriptions}
use Rattle.timefd_parse.specs.Spans.{HasByteAt}
use Rattle.timefd_parse.proofs.NestedLemmas.{BracketBefore, IsFirst, whole}
use Rattle.timefd_parse.proofs.ReadLemmas.{Continues, memory_or}
use Rattle.timefd_parse.proofs.SpanLemmas.{byte_at}

-- a fault of a text's end is one of the text
pub error_after : (strict : Bool) (text front rest : Text) (e : ReadError) → text ≡ front ++ rest
    → MemoryOr (SpansVersion strict rest) e → MemoryOr (SpansVersion strict text) e
error_after strict text front rest e joined is =
    memory_or (SpansVersion strict rest) (SpansVersion strict text)
    (λ f s. spans_after version_extent (WantsIn strict) (wants_after strict) text front rest f joined s) e is

-- the fault of what follows some pieces
pub continues_spans : (v : DescriptionVersion) (limit n : ℕ) (text rest : Text) (done : List Tree)
    (e : ReadError) → Continues v limit n text done rest
    → MemoryOr (SpansVersion (is_version_three v) rest) e → MemoryOr (SpansVersion (is_version_three v) text) e
continues_spans v limit n text rest done e before is =
    let w = before no_pieces rest tt refl in
    error_after (is_version_three v) text (spelling w.0) rest e w.2 is

-- where a bracket begins
pub bracket_at : (inside : Text) (start : ℕ) → start ≡ length inside + 1
    → HasByteAt (left ∷ inside) start
bracket_at inside start e =
    byte_at (left ∷ inside) [] left inside start refl (lit< tt) (omega (arith, e))

-- where a nested description begins
pub nested_at : (whole text : Text) → EndsWith whole (left ∷ text)
    → HasByteAt whole (length text + 1)
nested_at whole text ends =
    byte_at whole ends.0 left text (length text + 1) ends.1 (lit< tt) (omega arith)

-- the fault of what a nested description has inside
pub inside_spans : (strict : Bool) (whole text : Text) (e : ReadError) → EndsWith whole (left ∷ text)
    → MemoryOr (SpansVersion strict text) e → MemoryOr (SpansVersion strict whole) e
inside_spans strict whole text e ends is =
    error_after strict whole (ends.0 ++ left ∷ []) text e
    (ends.1 ∙ sym (append_assoc ends.0 (left ∷ []) text)) is

module _ {v : DescriptionVersion} {limit n : ℕ} {inside : Text} {judged : JudgedHead}
    {remaining : ℕ} {read : List Tree} {rest : Text}
    (b : BracketBefore v limit n inside judged remaining read rest) where
  pub front : Text
  front = head_text b.h ++ nested_text b.before.list ++ b.before.white

  pub rest_at : (byte : ℕ) (more : Text) → rest ≡ byte ∷ more → byte < 128
      → HasByteAt (left ∷ inside) (length rest)
  unfolding front
  rest_at byte more e ascii =
      byte_at (left ∷ inside) front byte more (length rest) (whole b ∙ ap (λ t. front ++ t) e) ascii
      (ap length e)

  pub nested_within : (text : Text) → rest ≡ left ∷ text → EndsWith (left ∷ inside) (left ∷ text)
  unfolding front
  nested_within text e = (front, whole b ∙ ap (λ t. front ++ t) e)

  -- where the first nested description begins
  pub first_at : (text : Text) → (0 < length read → HasByteAt (left ∷ inside) remaining)
      → rest ≡ left ∷ text → HasByteAt (left ∷ inside) remaining
  first_at text before opening =
      by b.before.list b.before.first
      (b.before.shows 0 (length (b.begins.white ++ b.after)) (omega arith))
    where
      by : (l : Nested) → IsFirst judged.spaced remaining l b.before.white rest
          → ShowsDescriptions (length (b.begins.white ++ b.after)) judged.spaced remaining read
          (parts_from 0 l) → HasByteAt (left ∷ inside) remaining
      by no_nested first shows =
          subst (HasByteAt (left ∷ inside)) (sym first.1) (rest_at left text opening (lit< tt))
      by (nested w ps ns) first shows = before (omega (arith, ap length shows.2))
