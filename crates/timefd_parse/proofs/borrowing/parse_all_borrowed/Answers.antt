use Rattle.std.proofs.Common.{List, refl, sym, subst}
use Rattle.timefd_lang_fault.specs.Faults.{Fault}
use Rattle.timefd_lang_component.specs.Tree.{Tree}
use Rattle.timefd_lang_fault.specs.BorrowedFaults.{IsBorrowed, IsMemory}
use Rattle.timefd_lang_fault.specs.Placed.{IsPlaced}
use Rattle.timefd_language.proofs.PlacedLemmas.{is_placed, borrowed_more}
use Rattle.timefd_language.proofs.ShortWords.{short_fault, short_borrowed}
use Rattle.timefd_language.specs.declared.description_version.DescriptionVersion.TheVariants.{Three}
use Rattle.timefd_language.specs.Broken.{FaultOf}
use Rattle.timefd_language.specs.Grammar.{Spells}
use Rattle.timefd_parse.proofs.ParseLemmas.{items_output}
use Rattle.timefd_parse.proofs.ReadLemmas.{not_three}
use Rattle.timefd_language.specs.declared.description_version.Language.TheVariants.{Version}
use Rattle.timefd_language.specs.Spans.{HasSpan}
use Rattle.timefd_parse.proofs.borrowing.parse_all_borrowed.Goals as goal

pub returns-in-Ok-clause-refused : goal.returns-in-Ok-clause-refused
returns-in-Ok-clause-refused c = subst (λ v. (f : Fault) → FaultOf v c.args.limit c.args.s.now f
    → ⊥) (sym c.in-Three.is) c.in-Ok.ensures.read.refused

pub returns-in-Err-clause-spelled : goal.returns-in-Err-clause-spelled
returns-in-Err-clause-spelled c = subst (λ v. (list : List Tree)
    → Spells v c.args.limit 0 c.args.s.now list → IsMemory c.in-Err.error) (sym c.in-Three.is)
    c.in-Err.ensures.read.spelled

pub returns-in-Err-clause-refused : goal.returns-in-Err-clause-refused
returns-in-Err-clause-refused c = subst (λ v. (f : Fault) → FaultOf v c.args.limit c.args.s.now f
    → IsBorrowed f c.in-Err.error) (sym c.in-Three.is) c.in-Err.ensures.read.refused

pub returns-in-Err-clause-words : goal.returns-in-Err-clause-words
returns-in-Err-clause-words c =
    short_borrowed (FaultOf Three c.args.limit c.args.s.now)
    (short_fault Three c.args.limit c.args.s.now)
    c.in-Err.error c.in-Err.ensures.read.fault

pub returns-in-Err-parse_items-clause-words : goal.returns-in-Err-parse_items-clause-words
returns-in-Err-parse_items-clause-words c =
    short_borrowed (FaultOf c.args.version c.args.limit c.args.s.now)
    (short_fault c.args.version c.args.limit c.args.s.now) _ c.in-Err-parse_items.ensures.fault

pub returns-in-Err-clause-position : goal.returns-in-Err-clause-position
returns-in-Err-clause-position c =
    borrowed_more (FaultOf Three c.args.limit c.args.s.now) (IsPlaced c.args.s.now)
    (is_placed Three c.args.limit c.args.s.now c.utf8.s)
    c.in-Err.error c.in-Err.ensures.read.fault

pub returns-in-Err-parse_items-clause-position : goal.returns-in-Err-parse_items-clause-position
returns-in-Err-parse_items-clause-position c =
    borrowed_more (FaultOf c.args.version c.args.limit c.args.s.now) (IsPlaced c.args.s.now)
    (is_placed c.args.version c.args.limit c.args.s.now c.utf8.s) _
    c.in-Err-parse_items.ensures.fault

pub returns-in-Ok-parse_items : goal.returns-in-Ok-parse_items
returns-in-Ok-parse_items c =
    let lax = not_three _ c.in_default.not-Three in
    let found = c.in-Ok-parse_items.ensures.found in
    record {
      found = (found.0, found.1, items_output _ _ _ lax found.2);
      fault = tt;
      spelled = λ list s. items_output _ _ list lax (c.in-Ok-parse_items.ensures.spelled list s);
      refused = c.in-Ok-parse_items.ensures.refused;
      position = tt;
      words = tt;
      span = tt;
      strings = found.2.1;
      reserved = tt;
      empty = λ e. refl;
    }

pub returns-in-Err-clause-span : goal.returns-in-Err-clause-span
returns-in-Err-clause-span c =
    subst (λ v. HasSpan (Version v) c.args.s.now c.in-Err.error) (sym c.in-Three.is)
    c.in-Err.ensures.read.span
