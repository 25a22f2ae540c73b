-- What the outputs of the readers count, and what their errors say, in terms of the language.
use Rattle.std.proofs.Common.{◌≡◌, ℕ, Result, Ok, Err, IfErr, IsFalse, IsUtf8, List, length, refl}
use Rattle.std.proofs.lemmas.Bool.{true≢false}
use Rattle.timefd_language.specs.Bytes.{is_version_three}
use Rattle.timefd_lang_component.specs.Tree.{Text, Tree}
use Rattle.timefd_language.specs.declared.description_version.DescriptionVersion.{DescriptionVersion}
use Rattle.timefd_language.specs.declared.description_version.DescriptionVersion.TheVariants.{One, Two, Three}
use Rattle.timefd_language.specs.declared.description_version.Language.TheVariants.{Version, Strftime}
use Rattle.timefd_lang_fault.specs.declared.borrowed_parse_error.ParseError.{ParseError}
use Rattle.timefd_lang_fault.specs.declared.borrowed_parse_error.ParseError.TheVariants as reported
use Rattle.timefd_language.specs.Broken.{FaultOf}
use Rattle.timefd_language.specs.Strftime.{StrftimeFaultOf}
use Rattle.timefd_lang_fault.specs.declared.borrowed_parse_error.BorrowedParseError.{BorrowedParseError}
use Rattle.timefd_lang_fault.specs.declared.borrowed_parse_error.BorrowedParseError.TheVariants.{Invalid, Memory}
use Rattle.timefd_lang_fault.specs.BorrowedFaults.{HasShortWords, IsBorrowedOf, IsOwned}
use Rattle.timefd_lang_fault.specs.Placed.{IsPlaced}
use Rattle.timefd_language.proofs.PlacedLemmas.{is_placed, is_strftime_placed}
use Rattle.timefd_language.proofs.ShortWords.{short_fault, short_strftime_fault}
use Rattle.timefd_lang_fault.specs.Faults.{Fault}
use Rattle.timefd_lang_fault.proofs.OwnedLemmas.{owned_of}
use Rattle.timefd_language.specs.declared.description_version.Language.{Language}
use Rattle.timefd_parse.specs.Language.{amount, FaultIn, IsAssignedIn}

pub borrowed-in-version : (v : DescriptionVersion) (limit : ℕ) (text : Text) (e : BorrowedParseError)
    → IsBorrowedOf (FaultOf v limit text) e → IsBorrowedOf (FaultIn (Version v) limit text) e
borrowed-in-version v limit text (Invalid f) is = is
borrowed-in-version v limit text (Memory m) is = tt

pub owned-assigned-in : (language : Language) (limit : ℕ) (text : Text) (e : BorrowedParseError)
    (r : ParseError) → IsBorrowedOf (FaultIn language limit text) e → IsOwned e r
    → IsAssignedIn language limit text r
owned-assigned-in language limit text e (reported.Memory m) is owned = tt
owned-assigned-in language limit text e (reported.Invalid x) is owned =
    owned_of (FaultIn language limit text) e x is owned

pub short_in : (language : Language) (limit : ℕ) (text : Text) (f : Fault)
    → FaultIn language limit text f → HasShortWords f.kind
short_in (Version v) limit text f is = short_fault v limit text f is
short_in Strftime limit text f is = short_strftime_fault text f is

pub placed_in : (language : Language) (limit : ℕ) (text : Text) → IsUtf8 text → (f : Fault)
    → FaultIn language limit text f → IsPlaced text f
placed_in (Version v) limit text utf8 f is = is_placed v limit text utf8 f is
placed_in Strftime limit text utf8 f is = is_strftime_placed text utf8 f is

pub if_err_more : {T E : Type 0} (P Q : E → Type 0) → ((e : E) → P e → Q e) → (r : Result T E)
    → IfErr r P → IfErr r Q
if_err_more P Q more (Ok x) is = tt
if_err_more P Q more (Err e) is = more e is

-- versions 1 and 2 hold as much as they have items
pub lax-amount : (v : DescriptionVersion) (list : List Tree) → IsFalse (is_version_three v)
    → length list ≡ amount (Version v) list
lax-amount One list lax = refl
lax-amount Two list lax = refl
lax-amount Three list lax = absurd (true≢false lax)
