use Rattle.std.proofs.Common.{Some, ap, refl, sym, true≢false, ◌∙◌}
use Rattle.timefd_parse.specs.BorrowedFaults.{to_borrowed_fault}
use Rattle.timefd_parse.specs.Codes.{code_of}
use Rattle.timefd_parse.specs.Faults.{Fault}
use Rattle.timefd_language.specs.Grammar.{nesting_limit}
use Rattle.timefd_parse.specs.Language.{FaultIn}
use Rattle.timefd_language.specs.declared.description_version.Language.TheVariants.{Version}
use Rattle.timefd_lint_sources.specs.Items.{is_of_item}
use Rattle.timefd_lint_sources.proofs.OpeningLemmas.{borrowed_is, borrowed_of}
use Rattle.timefd_lint_sources.proofs.opening.item_index.Goals as goal

pub returns-in-Ok-clause-all : goal.returns-in-Ok-clause-all
returns-in-Ok-clause-all c = λ f faulty. absurd (c.in-Ok.ensures.refused f faulty.faulty)

pub returns-then-is_of_item-clause-found : goal.returns-then-is_of_item-clause-found
returns-then-is_of_item-clause-found c = (
  to_borrowed_fault c.in-Err-Invalid.fault,
  record {
    faulty = borrowed_of (FaultIn (Version c.args.version) nesting_limit c.args.text.now) c.in-Err-Invalid.field-0
        c.in-Err-Invalid.fault c.in-Err-Invalid.field-0-is c.in-Err-Invalid.ensures.fault;
    of_item = ap is_of_item (sym c.of.ensures) ∙ sym c.is_of_item.ensures ∙ c.if-is_of_item.true;
  },
  refl,
)

pub returns-then-is_of_item-clause-all : goal.returns-then-is_of_item-clause-all
returns-then-is_of_item-clause-all c = λ f faulty.
    ap (λ (g : Fault). Some g.index) (borrowed_is c.in-Err-Invalid.field-0 c.in-Err-Invalid.fault f c.in-Err-Invalid.field-0-is
    (c.in-Err-Invalid.ensures.refused f faulty.faulty))

pub returns-else-is_of_item-clause-all : goal.returns-else-is_of_item-clause-all
returns-else-is_of_item-clause-all c = λ f faulty.
    absurd (true≢false (sym faulty.of_item
    ∙ ap (λ (x : Fault). is_of_item (code_of x.kind)) (sym (borrowed_is c.in-Err-Invalid.field-0 c.in-Err-Invalid.fault f c.in-Err-Invalid.field-0-is
    (c.in-Err-Invalid.ensures.refused f faulty.faulty)))
    ∙ ap is_of_item (sym c.of.ensures) ∙ sym c.is_of_item.ensures ∙ c.if-is_of_item.false))
