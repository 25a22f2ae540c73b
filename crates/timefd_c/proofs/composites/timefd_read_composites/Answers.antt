use Rattle.std.proofs.Common.{◌≡◌, IsUtf8, false, true, subst, sym}
use Rattle.timefd_parse.specs.BorrowedFaults.{to_borrowed_fault, IsBorrowed, IsBorrowedOf, IsMemory, IsRefusal}
use Rattle.timefd_language.specs.Grammar.{nesting_limit}
use Rattle.timefd_language.specs.declared.description_version.Language.TheVariants.{Strftime}
use Rattle.timefd_parse.specs.Language.{FaultIn}
use Rattle.timefd_c.specs.Composites.{ReadsComposites}
use Rattle.timefd_c.proofs.CompositeLemmas.{composites_faulted, composites_reported}
use Rattle.timefd_c.proofs.ReadingLemmas.{reported}
use Rattle.timefd_c.proofs.composites.timefd_read_composites.Goals as goal

pub returns-in-Ok-read_composites : goal.returns-in-Ok-read_composites
returns-in-Ok-read_composites c =
    let text = c.in-Ok.ensures.cases in
    let r = c.in-Ok-read_composites.ensures in
    let report = c.in-Ok-read_composites.report in
    let ns = c.args.nodes.now in
    let a = c.args.literals.now in
    let ms = c.read_composites.new.nodes in
    let b = c.read_composites.new.literals in
    record {
      reads = subst (λ bytes. ReadsComposites bytes ns ms a b (reported report)) text.0
          (composites_reported c.in-Ok.text.now ns ms a b report (subst IsUtf8 (sym text.0) text.1)
          r.found r.spelled r.refused);
    }

pub returns-in-Err-Invalid : goal.returns-in-Err-Invalid
returns-in-Err-Invalid c =
    let text = c.in-Ok.ensures.cases in
    let r = c.in-Err-Invalid.ensures in
    let is = c.in-Err-Invalid.field-0-is in
    let bytes = c.in-Ok.text.now in
    let ns = c.args.nodes.now in
    let a = c.args.literals.now in
    let ms = c.read_composites.new.nodes in
    let b = c.read_composites.new.literals in
    record {
      reads = subst (λ t. ReadsComposites t ns ms a b c.plain-in-Err-Invalid.result) text.0
          (subst (ReadsComposites bytes ns ms a b) (sym c.plain-in-Err-Invalid.ensures)
          (composites_faulted bytes ns ms a b (to_borrowed_fault c.in-Err-Invalid.fault)
          (subst IsUtf8 (sym text.0) text.1)
          (subst (IsBorrowedOf (FaultIn Strftime nesting_limit bytes)) is r.fault)
          (λ list s. subst IsMemory is (r.spelled list s))
          (λ g h. subst (IsBorrowed g) is (r.refused g h))
          (λ nil. let no : false ≡ true = r.empty nil in absurd cc)));
    }

-- Reading takes no memory.
pub unreachable-requires : goal.unreachable-requires
unreachable-requires c = subst IsRefusal c.in-Err-Memory.field-0-is c.in-Err-Memory.ensures.memory
