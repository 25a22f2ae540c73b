-- The index of a fault is in its text, between two characters, and so are the bytes at fault.
use Rattle.std.proofs.Common.{ℕ, ◌≤◌, IsUtf8, length, subst}
use Rattle.timefd_lang_component.specs.Tree.{Text}
use Rattle.timefd_lang_fault.specs.Faults.{Fault}
use Rattle.timefd_language.specs.declared.description_version.DescriptionVersion.{DescriptionVersion}
use Rattle.timefd_lang_fault.specs.declared.borrowed_parse_error.ParseError.{ParseError}
use Rattle.timefd_lang_fault.specs.declared.borrowed_parse_error.ParseError.TheVariants as reported
use Rattle.timefd_language.specs.Broken.{FaultOf}
use Rattle.timefd_language.specs.Spans.{HasSpan, HasSpanWithin, SpansWithin}
use Rattle.timefd_language.specs.declared.description_version.Language.{Language}
use Rattle.timefd_language.specs.Strftime.{StrftimeFaultOf}
use Rattle.timefd_language.proofs.PositionsBetween.{placed_between_law, strftime_placed_between_law}
use Rattle.timefd_lang_fault.specs.declared.borrowed_parse_error.BorrowedParseError.{BorrowedParseError}
use Rattle.timefd_lang_fault.specs.declared.borrowed_parse_error.BorrowedParseError.TheVariants.{Invalid, Memory}
use Rattle.timefd_lang_fault.specs.BorrowedFaults.{to_borrowed_fault, IsBorrowedOf, IsOwned}
use Rattle.timefd_lang_fault.specs.Placed.{IsPlaced, HasPlacedFault}
use Rattle.timefd_lang_fault.proofs.OwnedLemmas.{owned_of}

pub is_placed : (v : DescriptionVersion) (limit : ℕ) (text : Text) → IsUtf8 text → (f : Fault)
    → FaultOf v limit text f → IsPlaced text f
is_placed v limit text utf8 f is = placed_between_law v limit text f utf8 is

pub is_strftime_placed : (text : Text) → IsUtf8 text → (f : Fault) → StrftimeFaultOf text f
    → IsPlaced text f
is_strftime_placed text utf8 f is = strftime_placed_between_law text f utf8 is

-- what holds of each fault with a property holds of a borrowed fault with it
pub borrowed_more : (P Q : Fault → Type 0) → ((f : Fault) → P f → Q f) → (e : BorrowedParseError)
    → IsBorrowedOf P e → IsBorrowedOf Q e
borrowed_more P Q more (Invalid f) is = more (to_borrowed_fault f) is
borrowed_more P Q more (Memory m) is = tt

-- a copy of the fault has the same index
pub owned_placed : (text : Text) (e : BorrowedParseError) (r : ParseError)
    → IsBorrowedOf (IsPlaced text) e → IsOwned e r → HasPlacedFault text r
owned_placed text e (reported.Memory m) is owned = tt
owned_placed text e (reported.Invalid x) is owned = owned_of (IsPlaced text) e x is owned

-- and the same bytes at fault

spans_within : (language : Language) (text : Text) (e : BorrowedParseError) → HasSpan language text e
    → IsBorrowedOf (SpansWithin language text) e
spans_within language text (Invalid f) is =
    (subst (λ n. f.start ≤ n) is.end is.order, subst (λ n. n ≤ length text) is.end is.within)
spans_within language text (Memory m) is = tt

pub owned_spanned : (language : Language) (text : Text) (e : BorrowedParseError) (r : ParseError)
    → HasSpan language text e → IsOwned e r → HasSpanWithin language text r
owned_spanned language text e (reported.Memory m) is owned = tt
owned_spanned language text e (reported.Invalid x) is owned =
    owned_of (SpansWithin language text) e x (spans_within language text e is) owned
