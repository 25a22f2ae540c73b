use Rattle.std.proofs.Common.{◌∙◌, [], ◌∷◌, IsTrue, ap, subst, sym}
use Rattle.timefd_lang_component.specs.Tree.{compound}
use Rattle.timefd_lang_node_list.specs.Item.Meaning.{item_trees}
use Rattle.timefd_language.specs.Strings.{are_of_strings}
use Rattle.timefd_parse.specs.Reported.{MemoryAlone}
use Rattle.timefd_lint_explain.proofs.members.push_members.Goals as goal

pub push_composite-requires : goal.push_composite-requires
push_composite-requires c =
    subst (λ items. IsTrue (are_of_strings items)) (sym c.deref.ensures.value)
    c.in-Ok.ensures.strings

pub returns-in-Ok-clause-parts : goal.returns-in-Ok-clause-parts
returns-in-Ok-clause-parts c = λ d ts is s.
    c.push_composite.ensures.parts d ts is
    (ap item_trees c.deref.ensures.value ∙ c.in-Ok.ensures.spelled (compound ts ∷ []) s)

-- A text that is spelled has no fault.
pub returns-in-Err-Invalid-clause-parts : goal.returns-in-Err-Invalid-clause-parts
returns-in-Err-Invalid-clause-parts c = λ d ts is s.
    absurd (subst MemoryAlone c.in-Err-Invalid.field-0-is
    (c.in-Err-Invalid.ensures.spelled (compound ts ∷ []) s))

pub returns-in-Ok-clause-positions : goal.returns-in-Ok-clause-positions
returns-in-Ok-clause-positions c = λ ts s.
    c.push_composite.ensures.positions ts
    (ap item_trees c.deref.ensures.value ∙ c.in-Ok.ensures.spelled (compound ts ∷ []) s)

pub returns-in-Err-Invalid-clause-positions : goal.returns-in-Err-Invalid-clause-positions
returns-in-Err-Invalid-clause-positions c = λ ts s.
    absurd (subst MemoryAlone c.in-Err-Invalid.field-0-is
    (c.in-Err-Invalid.ensures.spelled (compound ts ∷ []) s))
