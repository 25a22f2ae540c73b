-- The answers for a text.
use Rattle.std.proofs.Common.{ℕ, ◌≡◌, ◌<◌, Ok, Err, List, [], length, refl, ap, subst, arith}
use Rattle.timefd_lang_fault.specs.declared.borrowed_parse_error.BorrowedParseError.{BorrowedParseError}
use Rattle.timefd_lang_fault.specs.declared.borrowed_parse_error.BorrowedParseError.TheVariants.{Memory}
use Rattle.std.specs.declared.alloc.AllocError.{AllocError}
use Rattle.timefd_lang_fault.specs.BorrowedFaults.{IsBorrowed, IsBorrowedOf, IsMemory}
use Rattle.timefd_parse.specs.Tree.{Text, Tree}
use Rattle.timefd_lang_fault.specs.Faults.{Fault}
use Rattle.timefd_items.specs.declared.format_description_v3.FormatDescriptionV3.{FormatDescriptionV3}
use Rattle.timefd_language.specs.Strftime.{SpellsStrftime, no_directives}
use Rattle.timefd_parse.proofs.ParseLemmas.{one}
use Rattle.timefd_parse.specs.Language.{FaultIn, SpellsIn}
use Rattle.timefd_language.specs.declared.description_version.Language.{Language}
use Rattle.timefd_language.specs.declared.description_version.Language.TheVariants.{Version, Strftime}
use Rattle.timefd_language.proofs.DirectiveLemmas.DirectiveLemmas.{one as strftime_one}
use Rattle.timefd_description.specs.Parsed.{AreNodes, IsParsed}

pub accepted : (language : Language) (limit : ℕ) (text : Text) (list : List Tree) (d : FormatDescriptionV3)
    → SpellsIn language limit text list → AreNodes list d → IsParsed language limit text (Ok d)
accepted (Version v) limit text list d spells is = record {
  found = (list, spells, is);
  fault = tt;
  spelled = λ other s. subst (λ l. AreNodes l d) ((one v limit text).one_list list other spells s) is;
  refused = λ f h. (one v limit text).not_both list f spells h;
  empty = λ e. refl;
}
accepted Strftime limit text list d spells is = record {
  found = (list, spells, is);
  fault = tt;
  spelled = λ other s. subst (λ l. AreNodes l d) ((strftime_one text).one_list list other spells s) is;
  refused = λ f h. (strftime_one text).not_both list f spells h;
  empty = λ e. refl;
}

pub not_read : (language : Language) (limit : ℕ) (text : Text) (e : BorrowedParseError)
    → IsBorrowedOf (FaultIn language limit text) e
    → ((list : List Tree) → SpellsIn language limit text list → IsMemory e)
    → ((f : Fault) → FaultIn language limit text f → IsBorrowed f e) → 0 < length text
    → IsParsed language limit text (Err e)
not_read language limit text e fault spelled refused some = record {
  found = tt;
  fault = fault;
  spelled = spelled;
  refused = refused;
  empty = λ none. absurd (omega (arith, some, ap length none));
}

-- The answer that memory ran out is right for a text without a fault.
pub no_memory : (language : Language) (limit : ℕ) (text : Text) (list : List Tree) (e : AllocError)
    → SpellsIn language limit text list → (text ≡ [] → ⊥)
    → IsParsed language limit text (Err (Memory e))
no_memory (Version v) limit text list e spells some = record {
  found = tt;
  fault = tt;
  spelled = λ other s. tt;
  refused = λ f h. absurd ((one v limit text).not_both list f spells h);
  empty = λ none. absurd (some none);
}
no_memory Strftime limit text list e spells some = record {
  found = tt;
  fault = tt;
  spelled = λ other s. tt;
  refused = λ f h. absurd ((strftime_one text).not_both list f spells h);
  empty = λ none. absurd (some none);
}

-- the empty text of strftime has no items
pub no_items : (text : Text) (list : List Tree) → SpellsStrftime text list → text ≡ [] → list ≡ []
no_items text list spells none =
    (strftime_one text).one_list list [] spells (no_directives, tt, none, refl)
