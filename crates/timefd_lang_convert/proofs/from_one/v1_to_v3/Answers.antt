use Rattle.std.proofs.Common.{refl, sym, subst, ◌∙◌, string_bytes}
use Rattle.timefd_lang_fault.specs.BorrowedFaults.{IsMemory}
use Rattle.timefd_language.specs.Grammar.{items}
use Rattle.timefd_lift.specs.Answers.{HasItemsOf, IsRewritten}
use Rattle.timefd_lift.specs.Modernized.{IsWrittenOf}
use Rattle.timefd_lang_convert.proofs.from_one.v1_to_v3.Goals as goal

pub returns-in-Ok-v2_to_v3-clause-rewritten :
    goal.returns-in-Ok-v2_to_v3-clause-rewritten
returns-in-Ok-v2_to_v3-clause-rewritten c = (
  c.deref.result.now,
  subst (IsRewritten c.args.s.now) (sym c.deref.ensures) c.in-Ok.ensures.rewritten,
  c.in-Ok-v2_to_v3.ensures.rewritten,
)

pub returns-in-Ok-v2_to_v3-clause-same_items :
    goal.returns-in-Ok-v2_to_v3-clause-same_items
returns-in-Ok-v2_to_v3-clause-same_items c = λ list spelled.
    let two = subst (HasItemsOf c.args.s.now) (sym c.deref.ensures) c.in-Ok.ensures.same_items list
    spelled in
    (two.0, c.in-Ok-v2_to_v3.ensures.same_items two.0 two.1, two.2)

pub returns-in-Ok-v2_to_v3-clause-spelled :
    goal.returns-in-Ok-v2_to_v3-clause-spelled
returns-in-Ok-v2_to_v3-clause-spelled c = λ ps spelled.
    subst (λ text. IsWrittenOf text (string_bytes c.in-Ok-v2_to_v3.answer))
    (c.deref.ensures ∙ c.in-Ok.ensures.spelled ps spelled)
    c.in-Ok-v2_to_v3.ensures.rewritten

pub unreachable-requires : goal.unreachable-requires
unreachable-requires c =
    let is = c.in-Ok.ensures.rewritten in
    let two = subst (HasItemsOf c.args.s.now) (sym c.deref.ensures) c.in-Ok.ensures.same_items
    (items is.0) (is.0, is.1.0, is.1.1, refl) in
    subst IsMemory c.in-Err-Invalid.field-0-is (c.in-Err-Invalid.ensures.spelled two.0 two.1)
