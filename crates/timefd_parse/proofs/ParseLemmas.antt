-- What was read of a whole text.
use Rattle.std.proofs.Common.{◌≡◌, ℕ, ◌≤◌, List, [], ◌++◌, length, Ok, IsFalse, refl, sym, ap, ◌∙◌, subst, arith, append-nil, length-append}
use Rattle.std.specs.declared.vec.Vec.{Vec}
use Rattle.std.specs.declared.alloc.Global.{Global}
use Rattle.std.proofs.lemmas.Bool.{true≢false}
use Rattle.timefd_lang_fault.specs.Faults.{Fault}
use Rattle.timefd_lang_component.specs.Reserved.{reserve}
use Rattle.timefd_lang_component.specs.Tree.{Text, Tree, pack}
use Rattle.timefd_lang_node_list.specs.declared.item.borrowed_format_item.BorrowedFormatItem.{BorrowedFormatItem}
use Rattle.timefd_language.specs.declared.description_version.DescriptionVersion.{DescriptionVersion}
use Rattle.timefd_language.specs.declared.description_version.DescriptionVersion.TheVariants.{One, Two, Three}
use Rattle.timefd_lang_fault.specs.declared.read_error.Fault as code_fault
use Rattle.timefd_lang_fault.specs.declared.read_error.ReadError.{ReadError}
use Rattle.timefd_lang_fault.specs.declared.read_error.ReadError.TheVariants as errors
use Rattle.timefd_language.specs.declared.description_version.Language.TheVariants.{Version}
use Rattle.timefd_parse.specs.declared.parsing.BorrowedOutput.TheVariants.{Items}
use Rattle.timefd_lang_fault.specs.declared.borrowed_parse_error.ParseError.{ParseError}
use Rattle.timefd_lang_fault.specs.declared.borrowed_parse_error.ParseError.TheVariants as reported
use Rattle.timefd_lang_fault.specs.declared.borrowed_parse_error.BorrowedParseError.{BorrowedParseError}
use Rattle.timefd_lang_fault.specs.declared.borrowed_parse_error.BorrowedParseError.TheVariants as answers
use Rattle.timefd_lang_fault.specs.BorrowedFaults.{IsBorrowed, IsBorrowedOf, IsMemory, IsOwned, IsRefusal, Borrows, BorrowsSpan}
use Rattle.timefd_lang_fault.proofs.BorrowedLemmas as borrowed
use Rattle.timefd_lang_fault.proofs.BorrowedLemmas.{Assigned}
use Rattle.timefd_lang_fault.proofs.OwnedLemmas.{owned_of}
use Rattle.timefd_language.specs.Bytes.{is_version_three}
use Rattle.timefd_language.specs.Fault.{raised}
use Rattle.timefd_language.specs.Grammar.{Spells, no_pieces, spelling}
use Rattle.timefd_language.specs.Broken.{FaultOf, broken_text, broken_fault}
use Rattle.timefd_lang_fault.specs.ReadErrors.{MemoryOr}
use Rattle.timefd_lang_fault.specs.ReadErrors.{IsInvalid}
use Rattle.timefd_parse.specs.Read.{IsFaultIn, PiecesToEnd}
use Rattle.timefd_language.specs.Strings.{AreItems}
use Rattle.timefd_parse.specs.Answers.{IsOutput, IsAssigned}
use Rattle.timefd_parse.specs.Language.{IsAmount, amount}
use Rattle.timefd_language.specs.Laws.{HasOneAnswer}
use Rattle.timefd_language.specs.Slots.{WantsIn}
use Rattle.timefd_language.specs.Spans.{HasSpan, SpansVersion, version_extent}
use Rattle.timefd_language.proofs.SlotLemmas.{version_slot}
use Rattle.timefd_language.proofs.SpanLemmas.{spanned}
use Rattle.timefd_language.proofs.LawLemmas.{one_answer_law}
use Rattle.timefd_language.proofs.Reserved.{reserves_within_law}
use Rattle.timefd_parse.proofs.ReadLemmas.{end_outside}

pub one : (v : DescriptionVersion) (limit : ℕ) (text : Text) → HasOneAnswer v limit text
one v limit text = (one_answer_law v limit text).1

pub items_spelled : (v : DescriptionVersion) (limit : ℕ) (text : Text) (read : List Tree)
    (rest : Text) → PiecesToEnd v limit 0 text read rest → Spells v limit 0 text read
items_spelled v limit text read rest are = (
  are.0,
  are.1,
  are.2 ∙ ap (λ t. spelling are.0 ++ t) (end_outside rest are.4) ∙
      append-nil (spelling are.0),
  sym are.3,
)

pub same_list : (v : DescriptionVersion) (limit : ℕ) (text : Text) (read : List Tree) (rest : Text)
    (list : List Tree) → PiecesToEnd v limit 0 text read rest → Spells v limit 0 text list
    → read ≡ list
same_list v limit text read rest list are s =
    (one v limit text).one_list read list (items_spelled v limit text read rest are) s

-- the empty text was read as no trees
pub none_read : (v : DescriptionVersion) (limit : ℕ) (text : Text) (read : List Tree) (rest : Text)
    → PiecesToEnd v limit 0 text read rest → text ≡ [] → read ≡ []
none_read v limit text read rest are e =
    same_list v limit text read rest [] are (no_pieces, tt, e, refl)

pub no_fault_in : (v : DescriptionVersion) (limit : ℕ) (text : Text) (read : List Tree)
    (rest : Text) (f : Fault) → PiecesToEnd v limit 0 text read rest → FaultOf v limit text f → ⊥
no_fault_in v limit text read rest f are h =
    (one v limit text).not_both read f (items_spelled v limit text read rest are) h

-- how much a text holds that was read to its end
pub is_amount : (v : DescriptionVersion) (limit : ℕ) (text : Text) (read : List Tree) (rest : Text)
    (n : ℕ) → PiecesToEnd v limit 0 text read rest → n ≡ amount (Version v) read
    → IsAmount (Version v) limit text (Ok n)
is_amount v limit text read rest n are e = record {
  read = record {
    found = (read, items_spelled v limit text read rest are, e);
    fault = tt;
    spelled = λ list s. e ∙ ap (amount (Version v)) (same_list v limit text read rest list are s);
    refused = λ f h. no_fault_in v limit text read rest f are h;
    span = tt;
    empty = λ none. refl;
  };
  memory = λ lax. tt;
}

-- Faults.

whole_fault : (v : DescriptionVersion) (limit : ℕ) (text : Text) (f : code_fault.Fault)
    → IsFaultIn v limit 0 text f → Assigned (FaultOf v limit text) (length text) f
whole_fault v limit text f h = record {
  g = raised (broken_fault h.1) (length (spelling h.0));
  assigned = (h.0, h.1, h.2, h.3, h.4, refl);
  is = record {
    kind = h.5.kind;
    position =
        omega (arith, h.5.position, ap length h.4, length-append (spelling h.0) (broken_text h.1));
  };
}

whole : (v : DescriptionVersion) (limit : ℕ) (text : Text) (e : ReadError)
    → MemoryOr (IsFaultIn v limit 0 text) e
    → MemoryOr (Assigned (FaultOf v limit text) (length text)) e
whole v limit text (errors.Invalid f) h = whole_fault v limit text f h
whole v limit text errors.Memory h = tt

pub borrowed_assigned : (v : DescriptionVersion) (limit : ℕ) (text : Text) (e : ReadError)
    (r : BorrowedParseError) → MemoryOr (IsFaultIn v limit 0 text) e → Borrows (length text) e r
    → IsBorrowedOf (FaultOf v limit text) r
borrowed_assigned v limit text e r h =
    borrowed.borrowed_of (FaultOf v limit text) (length text) e r (whole v limit text e h)

pub borrowed_spelled : (v : DescriptionVersion) (limit : ℕ) (text : Text) (e : ReadError)
    (r : BorrowedParseError) (list : List Tree) → MemoryOr (IsFaultIn v limit 0 text) e
    → Borrows (length text) e r → Spells v limit 0 text list → IsMemory r
borrowed_spelled v limit text e r list h borrows s =
    borrowed.borrowed_none (FaultOf v limit text) (length text)
    (λ g is. (one v limit text).not_both list g s is) e r (whole v limit text e h) borrows

-- if memory did not run out, the fault is borrowed

pub borrowed_refused : (v : DescriptionVersion) (limit : ℕ) (text : Text) (e : ReadError)
    (r : BorrowedParseError) (f : Fault) → MemoryOr (IsFaultIn v limit 0 text) e → IsInvalid e
    → Borrows (length text) e r → FaultOf v limit text f → IsBorrowed f r
borrowed_refused v limit text e r f h is borrows has =
    borrowed.borrowed_one (FaultOf v limit text) (length text) f
    (λ g other. (one v limit text).one_fault g f other has) e r (whole v limit text e h) is borrows

pub borrowed_refusal : (v : DescriptionVersion) (limit : ℕ) (text : Text) (e : ReadError)
    (r : BorrowedParseError) → MemoryOr (IsFaultIn v limit 0 text) e → IsInvalid e
    → Borrows (length text) e r → IsRefusal r
borrowed_refusal v limit text e r h =
    borrowed.borrowed_refusal (FaultOf v limit text) (length text) e r (whole v limit text e h)

-- the borrowed fault ends after what is at fault
pub spanned_version : (v : DescriptionVersion) (text : Text) (e : ReadError) (r : BorrowedParseError)
    → MemoryOr (SpansVersion (is_version_three v) text) e → BorrowsSpan (length text) e r → HasSpan (Version v) text r
spanned_version v text e (answers.Memory m) h borrows = tt
spanned_version v text errors.Memory (answers.Invalid g) h borrows = absurd borrows
spanned_version v text (errors.Invalid f) (answers.Invalid g) h borrows =
    spanned version_extent (WantsIn (is_version_three v)) (Version v) text f g (λ k. refl)
    (λ before rest e wanted. version_slot v text f.rule before rest e wanted) h borrows

-- Faults that the caller owns.

pub owned_assigned : (v : DescriptionVersion) (limit : ℕ) (text : Text) (e : BorrowedParseError)
    (r : ParseError) → IsBorrowedOf (FaultOf v limit text) e → IsOwned e r → IsAssigned v limit text r
owned_assigned v limit text e (reported.Memory m) is owned = tt
owned_assigned v limit text e (reported.Invalid x) is owned =
    owned_of (FaultOf v limit text) e x is owned

-- Outputs.

pub items_output : (v : DescriptionVersion) (items : Vec BorrowedFormatItem Global)
    (list : List Tree) → IsFalse (is_version_three v) → AreItems items.items list
    → IsOutput v list (Items items)
items_output One items list lax are = are.0
items_output Two items list lax are = are.0
items_output Three items list lax are = absurd (true≢false lax)

pub reserves_at_most : (limit : ℕ) (text : Text) (read : List Tree) (rest : Text) (tree : Tree)
    → PiecesToEnd Three limit 0 text read rest → tree ≡ pack read → reserve tree ≤ length text
reserves_at_most limit text read rest tree are e =
    subst (λ t. reserve t ≤ length text) (sym e)
    (reserves_within_law limit 0 text read (items_spelled Three limit text read rest are)).0
