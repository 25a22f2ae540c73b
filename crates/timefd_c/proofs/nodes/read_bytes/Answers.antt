use Rattle.std.proofs.Common.{◌≡◌, ◌∙◌, Some, IsUtf8, false, true, subst, sym}
use Rattle.timefd_c.specs.Reading.{Reads}
use Rattle.timefd_c.proofs.ReadingLemmas.{nodes_reported, faulted, reported}
use Rattle.timefd_parse.specs.BorrowedFaults.{to_borrowed_fault, IsBorrowed, IsBorrowedOf, IsMemory}
use Rattle.timefd_parse.specs.Language.{FaultIn}
use Rattle.timefd_c.proofs.nodes.read_bytes.Goals as goal

pub returns-in-Ok-read_within : goal.returns-in-Ok-read_within
returns-in-Ok-read_within c =
    let text = c.in-Ok.ensures.cases in
    let r = c.in-Ok-read_within.ensures in
    let limit = c.args.limit in
    let answer = reported c.in-Ok-read_within.report in
    let ns = c.args.nodes.now in
    let a = c.args.literals.now in
    let ms = c.read_within.new.nodes in
    let b = c.read_within.new.literals in
    subst (λ l. Reads l limit c.args.text.now ns ms a b answer)
    (sym c.in-Some.is ∙ c.from_number.ensures)
    (subst (λ bytes. Reads (Some c.in-Some.language) limit bytes ns ms a b answer) text.0
    (nodes_reported c.in-Some.language limit c.in-Ok.text.now ns ms a b c.in-Ok-read_within.report
    (subst IsUtf8 (sym text.0) text.1) r.found r.spelled r.refused))

pub returns-in-Err-Invalid : goal.returns-in-Err-Invalid
returns-in-Err-Invalid c =
    let text = c.in-Ok.ensures.cases in
    let r = c.in-Err-Invalid.ensures in
    let is = c.in-Err-Invalid.field-0-is in
    let language = c.in-Some.language in
    let limit = c.args.limit in
    let bytes = c.in-Ok.text.now in
    let ns = c.args.nodes.now in
    let a = c.args.literals.now in
    let ms = c.read_within.new.nodes in
    let b = c.read_within.new.literals in
    subst (λ l. Reads l limit c.args.text.now ns ms a b c.plain-in-Err-Invalid.result)
    (sym c.in-Some.is ∙ c.from_number.ensures)
    (subst (λ t. Reads (Some language) limit t ns ms a b c.plain-in-Err-Invalid.result) text.0
    (subst (Reads (Some language) limit bytes ns ms a b) (sym c.plain-in-Err-Invalid.ensures)
    (faulted language limit bytes ns ms a b (to_borrowed_fault c.in-Err-Invalid.fault)
    (subst IsUtf8 (sym text.0) text.1)
    (subst (IsBorrowedOf (FaultIn language limit bytes)) is r.fault)
    (λ list s. subst IsMemory is (r.spelled list s))
    (λ g h. subst (IsBorrowed g) is (r.refused g h))
    (λ nil. let no : false ≡ true = r.empty nil in absurd cc))))
